-- What is done to the chunk that may have a key is done to all entries.
use Rattle.std.proofs.Common.{map, slice_set, slice_index_or, ◌≡◌, ◌++◌, ◌+◌, ◌<◌, ℕ, List, ◌∷◌, Bool, true, false, Ordering, Less, Greater, sym, ap, ◌∙◌, length, take, drop, subst}
use Rattle.std.specs.Cmp.{IsTotalOrder}
use Rattle.std.specs.Map.{lookup, remove_entry}
use Rattle.std.specs.BTreeMap.{is_at}
use Rattle.std.proofs.lemmas.List.{length-append, take-append-drop}
use Rattle.shared_map.proofs.Places.{map_at, map_set}
use Rattle.shared_map.specs.Entries.{put_entry}
use Rattle.shared_map.specs.Parts.{AllAre, BeginsAt, starts_after, joined, AreFilled}
use Rattle.shared_map.proofs.Between.{put_between, remove_between, remove_place, found_between}
use Rattle.shared_map.proofs.Orders.{InOrder, all_above, all_under, sorted_back, sorted_front}
use Rattle.shared_map.proofs.Joined.{around}

-- the entries of each chunk are in order
pub sorted_at : {K X : Type 0} {R : K → K → Ordering} (o : IsTotalOrder R) (ps : List (List (K × X))) (i : ℕ) (C : List (K × X)) → InOrder o (joined ps) → drop i ps ≡ C ∷ drop (i + 1) ps → InOrder o C
sorted_at o ps i C sorted here =
    sorted_front o C (joined (drop (i + 1) ps)) (sorted_back o (joined (take i ps)) (C ++ joined (drop (i + 1) ps)) (subst (InOrder o) (around ps i C here) sorted))

module _ {K X : Type 0} {R : K → K → Ordering} (o : IsTotalOrder R) (k : K) (ps : List (List (K × X))) (i : ℕ) (C : List (K × X)) (sorted : InOrder o (joined ps)) (filled : AreFilled ps)
    (first : 0 < i → starts_after R k (drop i ps) ≡ false) (next : starts_after R k (drop (i + 1) ps) ≡ true) (here : drop i ps ≡ C ∷ drop (i + 1) ps) where
  pub put_at : (e : K × X) → e.0 ≡ k → put_entry R (joined ps) e ≡ joined (take i ps) ++ (put_entry R C e ++ joined (drop (i + 1) ps))
  put_at e is =
      ap (λ l. put_entry R l e) (around ps i C here)
      ∙ put_between R (joined (take i ps)) C (joined (drop (i + 1) ps)) e (subst (λ k. AllAre R Greater k (joined (take i ps))) (sym is) (all_above o k ps i sorted filled first))
      (subst (λ k. AllAre R Less k (joined (drop (i + 1) ps))) (sym is) (all_under o k ps (i + 1) sorted next))

  pub remove_at : remove_entry (is_at (R k)) (joined ps) ≡ joined (take i ps) ++ (remove_entry (is_at (R k)) C ++ joined (drop (i + 1) ps))
  remove_at =
      ap (remove_entry (is_at (R k))) (around ps i C here)
      ∙ remove_between R k (joined (take i ps)) C (joined (drop (i + 1) ps)) (all_above o k ps i sorted filled first) (all_under o k ps (i + 1) sorted next)

  -- where the chunk is left without the entry at a place, which has the key
  pub removed_at : (at : ℕ) (found : Bool) (made : List (K × X)) (qs : List (List (K × X))) → found ≡ true → AllAre R Greater k (take at C) → BeginsAt R k found (drop at C)
      → made ≡ take at C ++ drop (at + 1) C → joined qs ≡ joined (take i ps) ++ (made ++ joined (drop (i + 1) ps)) → joined qs ≡ remove_entry (is_at (R k)) (joined ps)
  removed_at at found made qs has before ahead is put =
      put
      ∙ ap (λ l. joined (take i ps) ++ (l ++ joined (drop (i + 1) ps))) (is ∙ sym (remove_place R k C at before (subst (λ b. BeginsAt R k b (drop at C)) has ahead)))
      ∙ sym remove_at

  pub found_at : lookup (is_at (R k)) (joined ps) ≡ lookup (is_at (R k)) C
  found_at =
      ap (lookup (is_at (R k))) (around ps i C here)
      ∙ found_between R k (joined (take i ps)) C (joined (drop (i + 1) ps)) (all_above o k ps i sorted filled first) (all_under o k ps (i + 1) sorted next)

  pub length_at : length (joined ps) ≡ length (joined (take i ps)) + (length C + length (joined (drop (i + 1) ps)))
  length_at = ap length (around ps i C here) ∙ length-append (joined (take i ps)) (C ++ joined (drop (i + 1) ps)) ∙ ap (λ n. length (joined (take i ps)) + n) (length-append C (joined (drop (i + 1) ps)))

-- ---- the chunk at a place, put in the place of itself

pub set_same : {X Y : Type 0} (f : X → List Y) (xs : List X) (i : ℕ) (x y : X) → i < length xs → x ≡ slice_index_or xs i x → f y ≡ f x → map f (slice_set xs i y) ≡ map f xs
set_same f xs i x y within is same =
    map_set f xs i y within ∙ ap (λ e. take i (map f xs) ++ (e ∷ drop (i + 1) (map f xs))) same ∙ ap (λ l. take i (map f xs) ++ l) (sym (map_at f xs i x within is)) ∙ take-append-drop i (map f xs)
