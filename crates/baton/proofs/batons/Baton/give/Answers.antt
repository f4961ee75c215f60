use Rattle.crossbeam_queue.specs.Passes.{view}
use Rattle.baton.proofs.Keeps.{gives_back, finds_none}
use Rattle.baton.proofs.batons.Baton.give.Goals as goal

pub push_as-requires-clause-rule : goal.push_as-requires-clause-rule
push_as-requires-clause-rule g c =
    let O = g.L.Law.opens in let G = g.L.Law.gives in let F = g.L.Law.follows in let v = view c.args.pass.now in (
      rw c.into_state.ensures (gives_back O G F _ c.args.pass.now.id v c.args.held g.M.EntryMade.entry c.requires.pass.1 c.requires.holds c.requires.follows c.requires.state),
      finds_none O G F _ v c.requires.holds,
    )
