-- Whose expectations age out, by the maps that hold them.
use Rattle.std.proofs.Common.{◌≡◌, refl, sym, ap, subst, ◌∙◌, ℕ, List, [], ◌∷◌, ◌++◌, ◌||◌, true, false, cond, map, Some, string_bytes, String, Global, append_assoc}
use mathlib.Core.List.{map-append}
use Rattle.std.specs.BTreeMap.{BTreeMap}
use Rattle.std.specs.List.{list_any, filter}
use Rattle.std.specs.List.Sorted.{IsStrictlySortedBy}
use Rattle.std.specs.Map.{keys_of, values_of}
use Rattle.std.specs.FinMap as map_of
use Rattle.spec_client_go.specs.WorkQueues as spec
use Rattle.spec_client_go.proofs.WorkKeyOrder.{name_total, name_tells}
use Rattle.spec_api.specs.Keys.{Key as Name, key_cmp as name_cmp}
use Rattle.object_keys.proofs.KeyOrder.{key_cmp-name_cmp}
use Rattle.object_keys.specs.Keys.{key_of}
use Rattle.object_keys.specs.declared.key.Key.{Key}
use Rattle.expectations.specs.declared.expectation.Expectation.{Expectation}
use Rattle.expectations.specs.Aged.{AreAgedOut, replica_set, ages_out, any_ages_out, aged_among}
use Rattle.expectations.specs.Seen.{uid_cmp, expectation_of, Owners, owners_of, nested_of, flat}
use Rattle.expectations.proofs.Aging.{aged_are}
use Rattle.expectations.proofs.Ordered.{entries-seen}
use Rattle.expectations.proofs.SeenTexts.{uid_total, uid_tells, text_cmp}
use Rattle.expectations.proofs.Steps.{Texts, Keyed, key_cmp}
use Rattle.object_keys.specs.Seen.{seen_entries}
use Rattle.object_keys.specs.WorkKeys.{work_key_of}
use Rattle.object_keys.specs.declared.work_key.WorkKey.{WorkKey}

module _ (before now : ℕ) where
  any_shown : (es : Texts) → list_any (λ v. ages_out before now (Some (expectation_of v))) (values_of es) ≡ list_any (λ e. ages_out before now (Some e.1)) (seen_entries string_bytes expectation_of es)
  any_shown [] = refl
  any_shown (e ∷ es) = ap (λ b. ages_out before now (Some (expectation_of e.1)) || b) (any_shown es)

  pub any-seen : (es : Texts) → IsStrictlySortedBy text_cmp (keys_of es) → list_any (λ v. ages_out before now (Some (expectation_of v))) (values_of es) ≡ any_ages_out before now (map_of.from_entries (seen_entries string_bytes expectation_of es))
  any-seen es s = any_shown es ∙ ap (λ fs. list_any (λ e. ages_out before now (Some e.1)) fs) (sym (entries-seen uid_cmp uid_total uid_tells string_bytes text_cmp (λ a b. refl) expectation_of es s))

  -- the keys of the entries that a walk comes to
  abbrev pub walked : Keyed → List spec.WorkKey
  walked es = aged_among before now (seen_entries key_of owners_of es)

  pub walked_are : (es : Keyed) → IsStrictlySortedBy key_cmp (keys_of es) → (ks : List spec.WorkKey) → ks ≡ walked es → AreAgedOut before now (flat (nested_of es)) ks
  walked_are es s ks is =
      let all : map_of.entries (nested_of es) ≡ seen_entries key_of owners_of es = entries-seen name_cmp name_total name_tells key_of key_cmp key_cmp-name_cmp owners_of es s in
      subst (λ ks. AreAgedOut before now (flat (nested_of es)) ks) (sym is)
      (subst (λ fs. AreAgedOut before now (flat (nested_of es)) (aged_among before now fs)) all (aged_are before now (nested_of es)))

  pub walked_here : (e : Key × BTreeMap (String Global) Expectation) (es : Keyed) → any_ages_out before now (owners_of e.1) ≡ true → walked (e ∷ es) ≡ replica_set (key_of e.0) ∷ walked es
  walked_here e es t = ap (λ b. map (λ (f : Name × Owners). replica_set f.0) (cond b ((key_of e.0, owners_of e.1) ∷ filter (λ f. any_ages_out before now f.1) (seen_entries key_of owners_of es)) (filter (λ f. any_ages_out before now f.1) (seen_entries key_of owners_of es)))) t

  pub walked_past : (e : Key × BTreeMap (String Global) Expectation) (es : Keyed) → any_ages_out before now (owners_of e.1) ≡ false → walked (e ∷ es) ≡ walked es
  walked_past e es t = ap (λ b. map (λ (f : Name × Owners). replica_set f.0) (cond b ((key_of e.0, owners_of e.1) ∷ filter (λ f. any_ages_out before now f.1) (seen_entries key_of owners_of es)) (filter (λ f. any_ages_out before now f.1) (seen_entries key_of owners_of es)))) t

-- a key that is pushed comes before those that are left
pub pushed : (ks : List WorkKey) (k : WorkKey) (ts : List spec.WorkKey) → map work_key_of (ks ++ k ∷ []) ++ ts ≡ map work_key_of ks ++ work_key_of k ∷ ts
pushed ks k ts = ap (λ us. us ++ ts) (map-append work_key_of ks (k ∷ [])) ∙ append_assoc (map work_key_of ks) (work_key_of k ∷ []) ts
