-- The keys that changes owe, one change after another.
use Rattle.std.proofs.Common.{◌≡◌, ◌<◌, ◌≤◌, ℕ, ◌+◌, ◌++◌, List, [], ◌∷◌, map, drop, length, slice_index_or, refl, sym, ap, ◌∙◌, subst, append_assoc, append-nil}
use Rattle.std.proofs.lemmas.List.{at_drop_more, drop_all}
use Rattle.spec_client_go.specs.Shifts.{Shift}
use Rattle.reconciler.specs.Owing.{AreOwed}

module _ {K : Type 0} (owes : Shift → List K → Type 0) where
  -- with whatever those owe that are left, these keys are owed by all
  abbrev pub AreOwedSoFar : List Shift → List Shift → List K → Type 0
  AreOwedSoFar all left keys = (rest : List K) → AreOwed owes left rest → AreOwed owes all (keys ++ rest)

  goes_on : (all left : List Shift) (s : Shift) (keys more : List K) → AreOwedSoFar all (s ∷ left) keys → owes s more → AreOwedSoFar all left (keys ++ more)
  goes_on all left s keys more so that rest h = subst (AreOwed owes all) (sym (append_assoc keys more rest)) (so (more ++ rest) (more, rest, refl, that, h))

  pub none_owed : (all : List Shift) → AreOwedSoFar all all []
  none_owed all rest h = h

  pub more_owed : {X : Type 0} → (shift : X → Shift) (xs : List X) (i : ℕ) (x : X) (keys more now : List K) → i < length xs → x ≡ slice_index_or xs i x
      → AreOwedSoFar (map shift xs) (map shift (drop i xs)) keys → owes (shift x) more → now ≡ keys ++ more → AreOwedSoFar (map shift xs) (map shift (drop (i + 1) xs)) now
  more_owed shift xs i x keys more now here is so that then =
      let left = map shift (drop (i + 1) xs) in
      let next = at_drop_more (map shift) xs i x here ∙ ap (λ y. shift y ∷ left) (sym is) in
      subst (AreOwedSoFar (map shift xs) left) (sym then) (goes_on (map shift xs) left (shift x) keys more (subst (λ l. AreOwedSoFar (map shift xs) l keys) next so) that)

  pub all_owed : {X : Type 0} → (shift : X → Shift) (xs : List X) (i : ℕ) (keys : List K) → length xs ≤ i → AreOwedSoFar (map shift xs) (map shift (drop i xs)) keys → AreOwed owes (map shift xs) keys
  all_owed shift xs i keys end so =
      subst (AreOwed owes (map shift xs)) (append-nil keys) (subst (λ l. AreOwedSoFar (map shift xs) (map shift l) keys) (drop_all i xs end) so [] refl)
