use Rattle.std.proofs.Common.{rules, subst}
use Rattle.std.proofs.lemmas.List.{take_all}
use Rattle.controller_runtime.specs.Watched.{AreFollowed}
use Rattle.controller_runtime.proofs.Watched.{followed_more}
use Rattle.controller_runtime.proofs.programs.Server.all_followed.Goals as goal

pub loop-watch-preserved : goal.loop-watch-preserved
loop-watch-preserved g c = (
  followed_more c.args.watches.now c.loop-watch.watch-index c.loop-watch.made.items c.push_reserved.new.self.items c.in_ok-followed.field-0 c.loop-watch-test.true c.in_ok-followed.ensures.kind c.in_ok-followed.ensures.scope c.push_reserved.ensures.items c.loop-watch.invariant.0,
  search rules,
  search rules,
)

pub returns-clause-each : goal.returns-clause-each
returns-clause-each g c = subst (λ ws. AreFollowed ws c.loop-watch.made.items) (take_all c.loop-watch.watch-index c.args.watches.now (search rules)) c.loop-watch.invariant.0
