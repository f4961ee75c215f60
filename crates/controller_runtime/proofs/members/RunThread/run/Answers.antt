use Rattle.std.proofs.Common.{◌∙◌, subst}
use Rattle.shared_keyed_board.specs.Passes.{sight, IsPassAt}
use Rattle.controller_runtime.specs.Threads.{IsReady}
use Rattle.controller_runtime.proofs.Runs.{adding, passing, shutting, goes_on, comes_back}
use Rattle.controller_runtime.proofs.members.RunThread.run.Goals as goal

pub returns-in-Follows : goal.returns-in-Follows
returns-in-Follows g c =
    let says = g.K.Named.says in
    let R = g.K.Named.order in
    let owes = g.C.Reconciler.owes in
    let ends = g.C.Reconciler.ends in
    let d = c.args.board.now in
    let ready = subst (λ t. IsReady owes ends says d t) c.in-Follows.is c.requires in
    let before = c.in-Follows.follower.handler in
    let after = c.run.new.self.handler in
    let at = subst (λ b. IsPassAt b after.pass) (c.run.ensures.board ∙ ready.0) after.sits in
    comes_back R owes ends says d after.pass (goes_on R owes ends says d before.pass after.pass ready.1 at c.run.ensures.key (adding R owes ends says (sight says before.pass) (sight says after.pass) c.run.ensures.adds))

pub returns-in-Ticks : goal.returns-in-Ticks
returns-in-Ticks g c =
    let says = g.K.Named.says in
    let R = g.K.Named.order in
    let owes = g.C.Reconciler.owes in
    let ends = g.C.Reconciler.ends in
    let d = c.args.board.now in
    let ready = subst (λ t. IsReady owes ends says d t) c.in-Ticks.is c.requires in
    let before = c.in-Ticks.ticker.pass in
    let after = c.run-in-Ticks.new.self.pass in
    let made = c.run-in-Ticks.ensures in
    comes_back R owes ends says d after (goes_on R owes ends says d before after ready.1 made.pass made.key (passing R owes ends says (sight says before) (sight says after) made.ticks))

pub returns-in-Stops : goal.returns-in-Stops
returns-in-Stops g c =
    let says = g.K.Named.says in
    let R = g.K.Named.order in
    let owes = g.C.Reconciler.owes in
    let ends = g.C.Reconciler.ends in
    let d = c.args.board.now in
    let ready = subst (λ t. IsReady owes ends says d t) c.in-Stops.is c.requires in
    let before = c.in-Stops.stopper.pass in
    let after = c.run-in-Stops.new.self.pass in
    let made = c.run-in-Stops.ensures in
    comes_back R owes ends says d after (goes_on R owes ends says d before after ready.1 made.pass made.key (shutting R owes ends says (sight says before) (sight says after) made.shuts))
