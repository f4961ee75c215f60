-- How often a key failed, by what is found of it.
use Rattle.std.proofs.Common.{◌≡◌, ap, sym, ◌∙◌, ℕ, List, Option, unwrap_or, Ordering}
use Rattle.std.specs.Cmp.{IsTotalOrder}
use Rattle.std.specs.BTreeMap.{is_at}
use Rattle.std.specs.Map.{lookup}
use Rattle.std.specs.FinMap.{IsAntisymmetric}
use Rattle.keyed_queues.specs.Numbers.{said}
use Rattle.keyed_queues.proofs.Numbers.{found}
use Rattle.keyed_queues.specs.Failures.{failures}

pub counted : {K N : Type 0} (R : N → N → Ordering) (total : IsTotalOrder R) (tells : IsAntisymmetric R) (say : K → N) (cmp : K → K → Ordering) (alike : (a b : K) → cmp a b ≡ R (say a) (say b)) (es : List (K × ℕ)) (k : K) (o : Option ℕ)
    → o ≡ lookup (is_at (cmp k)) es → unwrap_or o 0 ≡ failures (say k) (said R say es)
counted R total tells say cmp alike es k o is = ap (λ o. unwrap_or o 0) (is ∙ sym (found R total tells say cmp alike es k))
