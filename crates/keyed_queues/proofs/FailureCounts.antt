-- A failure that is counted, and one that is taken back.
use Rattle.std.proofs.Common.{◌≡◌, refl, sym, ap, ◌∙◌, ℕ, ◌+◌, ◌*◌, ◌^◌, min, arith, pow-add, Bool, true, false, cond, is_some, Option, Some, None, Ordering}
use Rattle.std.specs.Cmp.{Equal-is, IsTotalOrder, tied_itself}
use Rattle.std.specs.Ordering.{eq_by_cmp, is_eq}
use Rattle.std.specs.FinMap as map
use Rattle.std.specs.FinMap.{IsAntisymmetric, get-insert, get-remove, same_map}
use Rattle.keyed_queues.specs.Failures.{KeyFailures, failures, restored}
use Rattle.keyed_queues.specs.FailureLaws.{FailedHaveFailures, FailuresAreTakenBack, DelaysDouble}

module _ {N : Type 0} (R : N → N → Ordering) (total : IsTotalOrder R) (tells : IsAntisymmetric R) where
  abbrev same : N → N → Bool
  same = eq_by_cmp R

  same_key : (q k : N) → same q k ≡ true → q ≡ k
  same_key q k e = tells q k ((Equal-is (R q k)).0 e)

  pub has_failed : FailedHaveFailures R
  has_failed k m =
      let n = min (failures k m + 1) 32 in
      ap is_some (get-insert total m k n k ∙ ap (λ b. cond b (Some n) (map.get m k)) (ap is_eq (tied_itself total k)))

  put_back : (k : N) (m : KeyFailures R) (v : ℕ) (o : Option ℕ) → o ≡ map.get m k → restored k o (map.insert m k v) ≡ m
  put_back k m v None e =
      same_map total tells _ _
      (λ q. get-remove total (map.insert m k v) k q ∙ ap (cond (same q k) None) (get-insert total m k v q) ∙ by q (same q k) refl)
    where
      by : (q : N) (b : Bool) → same q k ≡ b → cond b None (cond b (Some v) (map.get m q)) ≡ map.get m q
      by q true t = e ∙ ap (map.get m) (sym (same_key q k t))
      by q false t = refl
  put_back k m v (Some f) e =
      same_map total tells _ _
      (λ q. get-insert total (map.insert m k v) k f q ∙ ap (cond (same q k) (Some f)) (get-insert total m k v q) ∙ by q (same q k) refl)
    where
      by : (q : N) (b : Bool) → same q k ≡ b → cond b (Some f) (cond b (Some v) (map.get m q)) ≡ map.get m q
      by q true t = e ∙ ap (map.get m) (sym (same_key q k t))
      by q false t = refl

  pub taken_back : FailuresAreTakenBack R
  taken_back k m = put_back k m (min (failures k m + 1) 32) (map.get m k) refl

capped : (p : ℕ) → min (5 * (p * 2)) 1000000 ≡ min (2 * min (5 * p) 1000000) 1000000
capped p = grind arith

pub doubled : DelaysDouble
doubled f = ap (λ p. min (5 * p) 1000000) (pow-add 2 f 1) ∙ capped (2 ^ f)
