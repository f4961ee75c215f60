use Rattle.std.proofs.Common.{◌∙◌, ap, arith, drop}
use Rattle.revisions.specs.Events.{event_seen}
use Rattle.sim_followers.proofs.InitialLines.{few_passed}
use Rattle.sim_followers.proofs.openings.InitialBacklog.pass.Goals as goal

pub returns : goal.returns
returns c =
    let o = c.self.inside in
    few_passed event_seen o.is_closed o.written c.args.most o.events.items o.revision c.if-self.false (omega (arith, c.if-len-self.false, c.len.ensures, c.self.invariant))
    ∙ ap (drop c.args.most) c.self.view_is
