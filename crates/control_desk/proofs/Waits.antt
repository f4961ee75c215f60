-- A key that is given back waits.
use Rattle.std.proofs.Common.{◌≡◌, ◌∙◌, ◌+◌, ◌<◌, ◌≤◌, ℕ, Option, Some, None, cond, refl, sym, ap, arith}
use Rattle.std.specs.Prelude.{max, min, unwrap_or}
use Rattle.std.specs.FinMap as map
use Rattle.std.specs.FinMap.{get-insert}
use Rattle.spec_client_go.specs.Delays.{Delays, delay_after, delayed, earlier, failures}
use Rattle.spec_client_go.specs.WorkQueues.{WorkKey, work_key_cmp}
use Rattle.spec_client_go.proofs.KeysInHands.{same_itself}
use Rattle.spec_client_go.proofs.WorkKeyOrder.{work_key_total, work_key_tells}
use Rattle.spec_laws.specs.DueLaws.{IsDue}
use Rattle.spec_laws.proofs.DueKeys.{have_come}
use Rattle.control_desk.specs.Waits.{KeysWait}

some_same : (x y : ℕ) → Some x ≡ Some y → x ≡ y
some_same x y is = ap (λ o. unwrap_or o y) is

put : (k : WorkKey) (at : ℕ) (m : Delays) → map.get (map.insert m k at) k ≡ Some at
put k at m = get-insert work_key_total m k at k ∙ ap (λ b. cond b (Some at) (map.get m k)) (same_itself work_key_cmp work_key_total work_key_tells k)

waits : (k : WorkKey) (m : Delays) (until now : ℕ) → now < until → IsDue now (delayed k until m) k → IsDue now m k
waits k m until now before (at, is, come) = by (map.get m k) refl
  where
    by : (o : Option ℕ) → map.get m k ≡ o → IsDue now m k
    by None none =
        let e : until ≡ at = some_same until at (ap (λ o. Some (earlier o until)) (sym none) ∙ sym (put k (earlier (map.get m k) until) m) ∙ is) in
        absurd (omega (arith, e, before, come))
    by (Some first) some =
        let e : min first until ≡ at = some_same (min first until) at (ap (λ o. Some (earlier o until)) (sym some) ∙ sym (put k (earlier (map.get m k) until) m) ∙ is) in
        (first, some, omega (arith, e, before, come))

pub keys_wait : KeysWait
keys_wait k ss least b now before due =
    let until : ℕ = b.time + max (delay_after (failures k b.failures)) least in
    (have_come now b.delays k).1 (waits k b.delays until now before ((have_come now (delayed k until b.delays) k).0 due))
