-- Uids that are not put in place have not moved.
use Rattle.std.proofs.Common.{◌≡◌, ℕ, List, [], ◌∷◌, Bool, true, false, cond, ◌||◌, ◌&&◌, Option, Some, None, IfSome, bytes_eq, refl, sym, ap, ◌∙◌}
use Rattle.std.specs.List.{list_any}
use Rattle.std.specs.Cmp.Lexicographic.{slice_cmp, nat_list_eq_equiv}
use Rattle.std.specs.Ordering.{nat_cmp}
use Rattle.std.specs.BTreeSet.{BTreeSet, UpdatesBy}
use Rattle.std.proofs.lemmas.Map.Text.{is_eq-slice_cmp}
use denote.Ref.{Bor}
use Rattle.spec_client_go.specs.Shifts.{Shift}
use Rattle.spec_api.specs.Keys.{Key}
use Rattle.list_and_watch.specs.Placed.{AreAllPlaced, is_placed, may_be_placed, places}
use Rattle.list_and_watch.specs.Recognized.{is_elsewhere}

-- a set after one more uid
pub added : (k : Bor (List ℕ)) (us vs : BTreeSet (Bor (List ℕ))) → UpdatesBy (λ x y. slice_cmp nat_cmp x.now y.now) (λ y. slice_cmp nat_cmp k.now y.now) us vs true
    → (u : List ℕ) → is_placed vs u ≡ (bytes_eq u k.now || is_placed us u)
added k us vs h u =
    h.0 (record { ref_ptr = (0, 0); now = u }) ∙ ap (λ b. cond b true (is_placed us u)) (is_eq-slice_cmp k.now u ∙ nat_list_eq_equiv.symm k.now u) ∙ either (bytes_eq u k.now) (is_placed us u) where
      either : (a b : Bool) → cond a true b ≡ (a || b)
      either true b = refl
      either false b = refl

-- ---- a uid that no change puts in place is at no other name

nowhere_else : (u : List ℕ) (k : Key) (ts : List Shift) → list_any (places u) ts ≡ false → list_any (is_elsewhere u k) ts ≡ false
nowhere_else u k [] h = refl
nowhere_else u k (t ∷ ts) h = at (places u t) _ _ h (nowhere_else u k ts) where
  at : (b c d : Bool) → (b || list_any (places u) ts) ≡ false → (list_any (places u) ts ≡ false → d ≡ false) → ((b && c) || d) ≡ false
  at true c d h g = cc
  at false c d h g = g h

pub not_moved : (known : Option (BTreeSet (Bor (List ℕ)))) (u : List ℕ) (k : Key) (ts : List Shift) → IfSome known (λ us. AreAllPlaced us ts) → may_be_placed known u ≡ false
    → list_any (is_elsewhere u k) ts ≡ false
not_moved None u k ts all none = cc
not_moved (Some us) u k ts all none = nowhere_else u k ts (sym (all u) ∙ none)
