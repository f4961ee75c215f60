use Rattle.std.proofs.Common.{arith}
use Rattle.control_desk.specs.Desks.{known}
use Rattle.control_desk.specs.Steps.{tick}
use Rattle.manager.proofs.Passing.{passed_by}
use Rattle.manager.proofs.ticking.Ticker.tick.Goals as goal

-- what passes at the board is counted
pub invariant_of-self-2-clause-counted : goal.invariant_of-self-2-clause-counted
invariant_of-self-2-clause-counted g c =
    let before = c.args.self.now in
    let more = passed_by (tick c.saturating_sub-milliseconds.result) (known before.pass) (known c.tick.new.pass) c.in_ok-tick.ensures.step in
    omega (arith, before.counted)
