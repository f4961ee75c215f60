-- Maps in the order of their keys, by their entries.
use Rattle.std.proofs.Common.{◌≡◌, refl, sym, ◌∙◌, List, [], ◌∷◌, ◌&&◌, Bool, true, false, T, Ordering, Less, Equal, Greater}
use Rattle.std.specs.Cmp.{IsTotalOrder}
use Rattle.std.specs.List.{AllByRecursion}
use Rattle.std.specs.List.Sorted.{IsStrictlySortedBy}
use Rattle.std.specs.Map.{keys_of}
use Rattle.std.specs.Ordering.{is_lt}
use Rattle.std.specs.FinMap as map_of
use Rattle.std.specs.FinMap.{IsAntisymmetric, is_sorted, entries_sorted, get-entries, get-from_entries}
use Rattle.std.specs.FinMap.Entries.{below_all, same_entries}
use Rattle.object_keys.specs.Seen.{seen_entries, seen_map}

both : (a b : Bool) → T a → T b → T (a && b)
both true b x y = y
both false b x y = absurd x

pub is_less : (o : Ordering) → T (is_lt o) → o ≡ Less
is_less Less h = refl
is_less Equal h = absurd h
is_less Greater h = absurd h

module _ {K N X Y : Type 0} (R : N → N → Ordering) (o : IsTotalOrder R) (tells : IsAntisymmetric R) (say : K → N) (cmp : K → K → Ordering) (alike : (a b : K) → cmp a b ≡ R (say a) (say b)) (h : X → Y) where
  below_seen : (k : K) (es : List (K × X)) → AllByRecursion (λ y. cmp k y ≡ Less) (keys_of es) → T (below_all R (say k) (seen_entries say h es))
  below_seen k [] s = tt
  below_seen k (e ∷ es) s = both (is_lt (R (say k) (say e.0))) (below_all R (say k) (seen_entries say h es)) (let less : Less ≡ R (say k) (say e.0) = sym s.0 ∙ alike k e.0 in rw (sym less) tt) (below_seen k es s.1)

  sorted_seen : (es : List (K × X)) → IsStrictlySortedBy cmp (keys_of es) → T (is_sorted R (seen_entries say h es))
  unfolding IsStrictlySortedBy
  sorted_seen [] s = tt
  sorted_seen (e ∷ es) s = both (below_all R (say e.0) (seen_entries say h es)) (is_sorted R (seen_entries say h es)) (below_seen e.0 es s.0) (sorted_seen es s.1)

  -- the entries of a map as contracts see it are those of the map, each seen
  pub entries-seen : (es : List (K × X)) → IsStrictlySortedBy cmp (keys_of es) → map_of.entries (seen_map R say h es) ≡ seen_entries say h es
  entries-seen es s =
      same_entries R o tells (map_of.entries (seen_map R say h es)) (seen_entries say h es) (entries_sorted (seen_map R say h es)) (sorted_seen es s)
      (λ q. sym (get-entries (seen_map R say h es) q) ∙ get-from_entries o (seen_entries say h es) q)
