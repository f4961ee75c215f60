-- What a look-up, an insert and a removal do to numbers by key.
use Rattle.std.proofs.Common.{◌≡◌, refl, sym, ap, ◌∙◌, ℕ, List, Option, Some, None, option_map, Ordering}
use Rattle.std.specs.Cmp.{IsTotalOrder}
use Rattle.std.specs.Ordering.{eq_by_cmp}
use Rattle.std.specs.BTreeMap.{is_at, insert_entry}
use Rattle.std.specs.Map.{lookup, KeepsOthers}
use Rattle.std.specs.FinMap as map_of
use Rattle.std.specs.FinMap.{IsAntisymmetric, get-insert, same_map}
use Rattle.object_keys.proofs.SeenMaps as maps
use Rattle.keyed_queues.specs.Numbers.{said}

as_it_is : (o : Option ℕ) → option_map (λ n. n) o ≡ o
as_it_is None = refl
as_it_is (Some x) = refl

module _ {K N : Type 0} (R : N → N → Ordering) (total : IsTotalOrder R) (tells : IsAntisymmetric R) (say : K → N) (cmp : K → K → Ordering) (alike : (a b : K) → cmp a b ≡ R (say a) (say b)) where
  pub found : (es : List (K × ℕ)) (k : K) → map_of.get (said R say es) (say k) ≡ lookup (is_at (cmp k)) es
  found es k = maps.get-seen R total tells say cmp alike (λ n. n) es k ∙ as_it_is _

  pub inserted : (es new : List (K × ℕ)) (k : K) (n : ℕ) → new ≡ insert_entry cmp es k n → said R say new ≡ map_of.insert (said R say es) (say k) n
  inserted es new k n is = ap (said R say) is ∙ maps.insert-seen R total tells say cmp alike (λ n. n) es k n

  pub removed : (es new : List (K × ℕ)) (k : K) → lookup (is_at (cmp k)) new ≡ None → KeepsOthers (eq_by_cmp cmp) (is_at (cmp k)) es new → said R say new ≡ map_of.remove (said R say es) (say k)
  removed = maps.remove-seen R total tells say cmp alike (λ n. n)

  -- a number that stands at a key, the others as they were
  pub changed : (es new : List (K × ℕ)) (k : K) (n : ℕ) → lookup (is_at (cmp k)) new ≡ Some n → KeepsOthers (eq_by_cmp cmp) (is_at (cmp k)) es new → said R say new ≡ map_of.insert (said R say es) (say k) n
  changed es new k n is keeps =
      same_map total tells _ _
      (λ q. maps.update-by R total tells say cmp alike (λ n. n) (cmp k) (say k) (λ a. alike k a) es new (Some n) is keeps q ∙ sym (get-insert total (said R say es) (say k) n q))
