use Rattle.std.proofs.Common.{rules, ◌≡◌, ◌∙◌, map}
use Rattle.indexer.specs.Shifted.{shift_of}
use Rattle.shared_keyed_board.specs.Passes.{sight}
use Rattle.controller_runtime.proofs.Added.{more_added}
use Rattle.controller_runtime.proofs.handling.ChangeHandlerSink.changed.Goals as goal

pub returns-clause-stays : goal.returns-clause-stays
returns-clause-stays g c first so =
    let says = g.K.Named.says in
    let given : c.as_slice.result.now ≡ c.in_ok-keys.keys.items = search rules in (
      so.0,
      c.add_all.ensures.key ∙ so.1,
      more_added g.C.Reconciler.owes says g.K.Named.order c.add_all.result c.args.cause c.given.new.listers.listers (map shift_of c.args.shifts.now) c.in_ok-keys.keys.items c.as_slice.result.now
          (sight says first.pass) (sight says c.args.self.now.pass) (sight says c.add_all.new.pass) c.in_ok-keys.ensures given c.add_all.ensures.step so.2,
    )
