use Rattle.std.proofs.Common.{rules, ◌∙◌}
use Rattle.shared_keyed_board.specs.Passes.{sight}
use Rattle.controller_runtime.proofs.Made.{ticks_on}
use Rattle.controller_runtime.proofs.ticking.Ticker.run.Goals as goal

pub loop-preserved : goal.loop-preserved
loop-preserved g c =
    let says = g.K.Named.says in
    let inv = c.loop.invariant in
    record {
      pass = c.tick.ensures.pass;
      key = c.tick.ensures.key ∙ inv.key;
      ticks = ticks_on (sight says c.args.self.now.pass) (sight says c.loop.self.pass) (sight says c.tick.new.self.pass) inv.ticks c.tick.ensures.ticks;
      next = search rules;
      ends = search rules;
    }

pub returns-then-tick-clause-ticks : goal.returns-then-tick-clause-ticks
returns-then-tick-clause-ticks g c =
    let says = g.K.Named.says in
    ticks_on (sight says c.args.self.now.pass) (sight says c.loop.self.pass) (sight says c.tick.new.self.pass) c.loop.invariant.ticks c.tick.ensures.ticks
