-- What the collector plans to delete.
use Rattle.std.proofs.Common.{◌≡◌, inl, inr, ℕ, List, [], ◌∷◌, ◌++◌, Bool, true, false, true≢false, cond, not, ◌&&◌, Option, Some, None, map, refl, sym, ap, subst, ◌∙◌}
use Rattle.std.specs.List.{list_all, list_any}
use Rattle.spec_api.proofs.Truths.{left_true, both_false}
use Rattle.serde_json.specs.Data.{Data}
use Rattle.spec_api.specs.declared.policies.Policy.TheVariants.{Foreground}
use Rattle.spec_api.specs.Checks.{finalizers, has_text}
use Rattle.spec_api.specs.Deletion.{orphan, foreground}
use Rattle.spec_api.specs.History.{Entries}
use Rattle.spec_api.specs.Keys.{Key}
use Rattle.spec_api.specs.Metadata.{Owner, owners, uid, is_being_deleted}
use Rattle.spec_laws.specs.IdentityLaws.{Each}
use Rattle.spec_client_go.specs.Commands.{Command, update, delete, answered}
use Rattle.spec_client_go.specs.Hands.{Hand, Read, live}
use Rattle.spec_client_go.specs.OwnerReferences.{owner_key, namespace_of}
use Rattle.spec_reconcile.specs.declared.standing.Standing.TheVariants.{Solid, Waiting, Dangling}
use Rattle.spec_reconcile.specs.GarbageCollection.{plan_for, finish, collect, orphaned, is_blocked, remove, remove_after, own_policy, is_between}
use Rattle.spec_reconcile.specs.MetadataEdits.{without_finalizer, keeping_owners, blocking_nobody}
use Rattle.spec_reconcile.specs.Standings.{is_to, standing, standing_of, standing_at, standings, is_solid, waits_for_dependents, dependents}
use Rattle.spec_laws.specs.CollectorLaws.{IsGone, WasGone, IsOfGarbage, PlansDeleteGarbage}

-- ---- owners of which none is solid

waits : (a b : Bool) → is_solid (cond a (cond b Waiting Solid) Dangling) ≡ false → a ≡ true → b ≡ true
waits true true none one = refl
waits true false none one = absurd (true≢false none)
waits false b none one = cc

found_gone : (o : Owner) (found : Option Data) → is_solid (standing_of o found) ≡ false → IsGone o found
found_gone o None none = tt
found_gone o (Some d) none = λ one. left_true (is_being_deleted d) (has_text (finalizers d) foreground) (waits (is_to d o) (waits_for_dependents d) none one)

key_gone : (reads : List Read) (ns : List ℕ) (o : Owner) (key : Option Key) → owner_key ns o ≡ key → is_solid (standing_at reads o key) ≡ false → WasGone reads ns o
key_gone reads ns o None is none = absurd (true≢false none)
key_gone reads ns o (Some k) is none = (k, is, found_gone o (live reads k) none)

all_gone : (reads : List Read) (ns : List ℕ) (os : List Owner) → list_any is_solid (map (standing reads ns) os) ≡ false → Each (WasGone reads ns) os
all_gone reads ns [] none = tt
all_gone reads ns (o ∷ os) none =
    let both = both_false (is_solid (standing reads ns o)) (list_any is_solid (map (standing reads ns) os)) none in
    (key_gone reads ns o (owner_key ns o) refl both.0, all_gone reads ns os both.1)

-- ---- each command

module _ (h : Hand) (d : Data) where
  abbrev G : List Command → Type 0
  G cs = Each (IsOfGarbage h d) cs

  updates_alone : (ms : Entries) (k : Key) (e : Data) → G (orphaned d ms ++ update k e ∷ [])
  updates_alone [] k e = (tt, tt)
  updates_alone (m ∷ ms) k e = (tt, updates_alone ms k e)

  once_free : (b : Bool) (e : Data) → G (cond b (update h.key e ∷ []) [])
  once_free true e = (tt, tt)
  once_free false e = tt

  finished : (b : Bool) (ms : Entries) (c : Bool) → G (cond b (orphaned d ms ++ update h.key (without_finalizer orphan d) ∷ []) (cond c (update h.key (without_finalizer foreground d) ∷ []) []))
  finished true ms c = updates_alone ms h.key (without_finalizer orphan d)
  finished false ms c = once_free c (without_finalizer foreground d)

  abbrev Gone : Type 0
  Gone = Each (WasGone h.reads (namespace_of d)) (owners d)

  -- all of no owners stand
  some_owner : list_all is_solid (standings h.reads d) ≡ false → owners d ≡ [] → ⊥
  some_owner not none = true≢false (sym (ap (λ os. list_all is_solid (map (standing h.reads (namespace_of d)) os)) none) ∙ not)

  removed_after : (b : Bool) → (owners d ≡ [] → ⊥) → Gone → G (cond b (update h.key (blocking_nobody d) ∷ delete h.key (uid d) (Some answered) (Some Foreground) ∷ []) (remove h.key d Foreground))
  removed_after true some none = (tt, ((refl, refl, inr refl, some, none), tt))
  removed_after false some none = ((refl, refl, inl refl, some, none), tt)

  collected : (a b c : Bool) (ms : Entries) → list_all is_solid (standings h.reads d) ≡ a → list_any is_solid (standings h.reads d) ≡ b
      → G (cond a [] (cond b (update h.key (keeping_owners (λ o. is_solid (standing h.reads (namespace_of d) o)) d) ∷ []) (cond c (remove_after h.key d ms) (remove h.key d (own_policy d)))))
  collected true b c ms all any = tt
  collected false true c ms all any = (tt, tt)
  collected false false true ms all any = removed_after (list_any (λ m. waits_for_dependents m.1) ms) (some_owner all) (all_gone h.reads (namespace_of d) (owners d) any)
  collected false false false ms all any = ((refl, refl, inl refl, some_owner all, all_gone h.reads (namespace_of d) (owners d) any), tt)

  planned : (b : Bool) (ms : Entries) → G (cond b (finish h.key d ms) (collect h.reads h.key d ms))
  planned true ms = finished (has_text (finalizers d) orphan) ms (has_text (finalizers d) foreground && not (is_blocked d ms))
  planned false ms = collected (list_all is_solid (standings h.reads d)) (list_any is_solid (standings h.reads d)) (is_between (standings h.reads d) ms) ms refl refl

pub garbage : PlansDeleteGarbage
garbage h d at = subst (λ o. Each (IsOfGarbage h d) (plan_for h o)) (sym at) (planned h d (is_being_deleted d) (dependents h.looks d))
