use Rattle.std.proofs.Common.{◌∙◌, sym}
use Rattle.list_and_watch.proofs.Steps.{nothing_published}
use Rattle.list_and_watch.proofs.follower.Follower.publish.Goals as goal

pub returns-then-waiting-eq0-clause-ok : goal.returns-then-waiting-eq0-clause-ok
returns-then-waiting-eq0-clause-ok g c = nothing_published c.args.self.now c.self.inside.reflector (g.I.Publishing.informer_of c.self.inside.informer) c.self.view_is (sym c.waiting.ensures ∙ c.if-waiting-eq0.true)
