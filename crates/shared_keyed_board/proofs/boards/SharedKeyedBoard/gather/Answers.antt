use Rattle.std.proofs.Common.{rules, [], map, ◌∙◌, ap}
use Rattle.std.proofs.lemmas.List.{reverse-reverse}
use Rattle.std.specs.Prelude.{reverse}
use Rattle.keyed_board.specs.Steps.{add}
use Rattle.shared_keyed_board.specs.Passes.{sight}
use Rattle.shared_keyed_board.proofs.Gathered.{gathered}
use Rattle.shared_keyed_board.proofs.boards.SharedKeyedBoard.gather.Goals as goal

pub meet_each-requires-2-clause-room : goal.meet_each-requires-2-clause-room
meet_each-requires-2-clause-room g c = let size = c.args.others.now.ok in search rules

pub returns-clause-same : goal.returns-clause-same
returns-clause-same g c = c.meet_each-2.ensures.moved ∙ ap reverse c.meet_each.ensures.moved ∙ reverse-reverse _

pub returns-clause-seen : goal.returns-clause-seen
returns-clause-seen g c =
    let says = g.K.Named.says in
    let all = map (sight says) in
    gathered g.K.Named.order c.add_all-marked.result (add []) (sight says c.args.one.now) (sight says c.meet_each.new.one) (sight says c.add_all-marked.new.pass) (sight says c.meet_each-2.new.one)
    (all c.meet_each.new.to.items) (all c.meet_each-2.new.to.items) c.meet_each.ensures.sight c.meet_each-2.ensures.sight c.add_all-marked.ensures.step c.meet_each-2.ensures.moved c.meet_each.ensures.met c.meet_each-2.ensures.met
