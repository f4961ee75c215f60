use Rattle.std.proofs.Common.{arith, map}
use Rattle.control_desk.specs.Desks.{known}
use Rattle.control_desk.specs.Steps.{add}
use Rattle.object_keys.specs.WorkKeys.{work_key_of}
use Rattle.manager.proofs.Calls.{waited, waited_on}
use Rattle.manager.proofs.None.{on_err}
use Rattle.manager.proofs.Passing.{passed_by, passed_by_none}
use Rattle.manager.proofs.ticking.Ticker.wake.Goals as goal

-- who looks and then cannot add has waited
pub returns-in_err-add-clause-err : goal.returns-in_err-add-clause-err
returns-in_err-add-clause-err g c =
    let before = known c.args.self.now.pass in
    let between = known c.aged_out.new.pass in
    let after = known c.add.new.pass in
    on_err c.from_residual-in_err-add.result _ (waited_on before between after (waited before between c.in_ok-aged.ensures.step) (waited between after c.in_err-add.ensures.step))

-- and no time passes
pub invariant_of-self-2-clause-counted : goal.invariant_of-self-2-clause-counted
invariant_of-self-2-clause-counted g c =
    let before = c.args.self.now in
    let between = known c.aged_out.new.pass in
    let looked = passed_by_none (known before.pass) between (waited (known before.pass) between c.in_ok-aged.ensures.step) in
    let added = passed_by (add (map work_key_of c.as_slice.result.now)) between (known c.add.new.pass) c.in_ok-add.ensures.step in
    omega (arith, before.counted, looked, added)
