-- A server that asks to be left alone is.
use Rattle.std.proofs.Common.{◌≡◌, ℕ, ◌+◌, ◌<◌, ◌≤◌, min, max, cond, Some, None, sym, ap, ◌∙◌, arith}
use Rattle.std.specs.Prelude.{unwrap_or}
use Rattle.std.specs.Cmp.{IsTotalOrder, tied_itself}
use Rattle.std.specs.FinMap as map
use Rattle.std.specs.FinMap.{IsAntisymmetric, get-insert}
use Rattle.std.specs.Ordering.{is_eq}
use Rattle.std.specs.declared.cmp.Ordering.{Ordering}
use Rattle.spec_client_go.specs.Delays.{delay_after, earlier}
use Rattle.spec_client_go.proofs.DueKeys.{have_come}
use Rattle.keyed_queues.specs.Delays.{delayed}
use Rattle.keyed_queues.specs.Failures.{failures}
use Rattle.keyed_board.specs.Boards.{finished, moment_in}
use Rattle.keyed_board.specs.Patience.{milliseconds_asked}
use Rattle.keyed_board.specs.PatienceLaws.{LeavesAlone}
use Rattle.keyed_board.specs.declared.outcome.Outcome.TheVariants.{Failed}

-- a moment that is no later than one that is at least as late as another is before that no longer
too_late : (time delay asked now at : ℕ) → min (time + max delay asked) 18446744073709551615 ≡ at → at ≤ now → now < min (time + asked) 18446744073709551615 → ⊥
too_late time delay asked now at is come before = grind (arith, is, come, before)

module _ {N : Type 0} (R : N → N → Ordering) (total : IsTotalOrder R) (tells : IsAntisymmetric R) where
  -- a key that was not delayed is delayed to this moment
  delayed_to : (k : N) (at : ℕ) (m : map.FinMap R ℕ) → map.get m k ≡ None → map.get (delayed k at m) k ≡ Some at
  delayed_to k at m none = get-insert total m k (earlier (map.get m k) at) k ∙ ap (λ b. cond b (Some (earlier (map.get m k) at)) (map.get m k)) (ap is_eq (tied_itself total k)) ∙ ap (λ o. Some (earlier o at)) none

  pub left_alone : LeavesAlone R
  left_alone k failure b none now before due =
      let delay = delay_after (failures k b.failures) in
      let asked = milliseconds_asked failure in
      let (at, is, come) = (have_come R total tells now (finished k (Failed failure) b).delays k).0 due in
      let then = ap (λ o. unwrap_or o at) (sym (delayed_to k (min (b.time + max delay asked) 18446744073709551615) b.delays none) ∙ is) in
      too_late b.time delay asked now at then come before
