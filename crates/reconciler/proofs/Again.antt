-- The keys that unchanged objects owe.
use Rattle.std.proofs.Common.{◌≡◌, ◌++◌, List, [], ◌∷◌, map, Option, Some, None, refl, sym, ap, ◌∙◌, subst, append_assoc}
use Rattle.std.proofs.lemmas.Simd.{map-map}
use Rattle.serde_json.specs.Data.{Data}
use Rattle.spec_api.specs.History.{Entries}
use Rattle.spec_api.specs.Keys.{Key}
use Rattle.spec_client_go.specs.Shifts.{Shift, shift_at, removal}
use Rattle.object_keys.specs.Keys.{key_of}
use Rattle.reconcile_types.specs.Entries.{entry_of}
use Rattle.reconcile_types.specs.declared.entries.Entry.{Entry}
use Rattle.reconciler.specs.Owing.{AreOwed}
use Rattle.reconciler.specs.Unchanged.{removed_in, unchanged}

pub removed_is : (k : Key) (o : Option Data) → removed_in (removal k o) ≡ o
removed_is k None = refl
removed_is k (Some d) = refl

-- the entries of a map are all that it has
pub listed_unchanged : (ms : Entries) (es : List Entry) → map entry_of es ≡ ms → map (λ e. shift_at ms ms (key_of e.key.now)) es ≡ unchanged ms
listed_unchanged ms es is = sym (map-map (λ m. shift_at ms ms m.0) entry_of es) ∙ ap (map (λ m. shift_at ms ms m.0)) is

module _ {K : Type 0} (owes : Shift → List K → Type 0) where
  pub both_owed : (ss more : List Shift) (ks js : List K) → AreOwed owes ss ks → AreOwed owes more js → AreOwed owes (ss ++ more) (ks ++ js)
  both_owed [] more ks js none so = subst (λ l. AreOwed owes more (l ++ js)) (sym none) so
  both_owed (s ∷ ss) more ks js (first, rest, is, now, later) so =
      (first, rest ++ js, ap (λ l. l ++ js) is ∙ append_assoc first rest js, now, both_owed ss more rest js later so)

  -- those of the four kinds
  pub all_owed_by : (one_of two_of three_of four_of : List Shift) (a b c d : List K) → AreOwed owes one_of a → AreOwed owes two_of b → AreOwed owes three_of c → AreOwed owes four_of d
      → AreOwed owes (one_of ++ (two_of ++ (three_of ++ four_of))) (a ++ (b ++ (c ++ d)))
  all_owed_by one_of two_of three_of four_of a b c d one two three four =
      both_owed one_of (two_of ++ (three_of ++ four_of)) a (b ++ (c ++ d)) one (both_owed two_of (three_of ++ four_of) b (c ++ d) two (both_owed three_of four_of c d three four))
