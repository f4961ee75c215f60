use Rattle.std.proofs.Common.{rules, All, subst}
use Rattle.std.proofs.lemmas.List.{take_all}
use Rattle.controller_watches.specs.Watched.{IsScoped}
use Rattle.controller_watches.proofs.Scopes.{scoped_more}
use Rattle.controller_watches.proofs.watches.check_watches.Goals as goal

pub loop-watch-preserved : goal.loop-watch-preserved
loop-watch-preserved c = scoped_more c.args.watches.now c.loop-watch.watch-index c.in_ok-new.field-0 c.loop-watch-test.true c.in_ok-new.ensures.scope c.loop-watch.invariant

pub returns-clause-scoped : goal.returns-clause-scoped
returns-clause-scoped c = subst (All IsScoped) (take_all c.loop-watch.watch-index c.args.watches.now (search rules)) c.loop-watch.invariant
