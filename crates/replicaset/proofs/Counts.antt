-- A map of counts by node, as it grows.
use Rattle.std.proofs.Common.{◌≡◌, ℕ, ◌+◌, List, Bool, true, false, cond, bytes_eq, BTreeMap, Bor, Some, unwrap_or, refl, ap, ◌∙◌, if◌then◌else◌}
use Rattle.std.proofs.lemmas.Slice.Eq.{bytes_eq-Decides}
use Rattle.std.specs.BTreeMap.{get_by}
use Rattle.std.specs.Cmp.Lexicographic.{slice_cmp}
use Rattle.std.specs.Ordering.{nat_cmp}
use Rattle.replicaset.specs.Nodes.{count_at}

pub one_more : (m : BTreeMap (Bor (List ℕ)) ℕ) (node n : List ℕ) (before : ℕ) (b : Bool) → bytes_eq node n ≡ b → before ≡ count_at node m
    → unwrap_or (cond b (Some (before + 1)) (get_by (λ k. slice_cmp nat_cmp n k.now) m)) 0 ≡ (if b then count_at n m + 1 else count_at n m)
one_more m node n before true e is = ap (λ x. x + 1) (is ∙ ap (λ t. count_at t m) ((bytes_eq-Decides node n).0 e))
one_more m node n before false e is = refl
