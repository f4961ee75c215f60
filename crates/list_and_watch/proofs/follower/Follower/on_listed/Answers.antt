use Rattle.list_and_watch.proofs.Steps.{listed_step, is_listed_as}
use Rattle.reflector.specs.Deltas.{delta_of}
use Rattle.list_and_watch.proofs.follower.Follower.on_listed.Goals as goal

pub returns-in-Ok-append-clause-ok : goal.returns-in-Ok-append-clause-ok
returns-in-Ok-append-clause-ok g c =
    listed_step c.args.body.now c.args.self.now c.self.inside.reflector c.in-Ok.reflector c.on_list.new.self (g.I.Publishing.informer_of c.self.inside.informer) (g.I.Publishing.informer_of c.append.new.self) (delta_of c.in_ok-delta.delta) c.self.view_is c.in-Ok.ensures c.in_ok-delta.ensures.delta c.in_ok-delta.ensures.after c.in-Ok-append.ensures.ok

pub returns-in-Ok-append-clause-listed : goal.returns-in-Ok-append-clause-listed
returns-in-Ok-append-clause-listed g c =
    is_listed_as c.args.body.now c.args.self.now c.self.inside.reflector c.in-Ok.reflector (g.I.Publishing.informer_of c.self.inside.informer) (delta_of c.in_ok-delta.delta) c.self.view_is c.in-Ok.ensures c.in_ok-delta.ensures.delta
