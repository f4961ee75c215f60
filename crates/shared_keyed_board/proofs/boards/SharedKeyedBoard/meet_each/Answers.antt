use Rattle.std.proofs.Common.{rules, ◌≡◌, ◌++◌, ◌∙◌, sym, subst, All, map}
use Rattle.std.specs.Prelude.{Some, reverse}
use Rattle.std.proofs.lemmas.List.Elements.{All-pop, All-push}
use Rattle.shared_keyed_board.specs.Calls.{HaveMet}
use Rattle.shared_keyed_board.specs.Passes.{sight, IsPassAt}
use Rattle.shared_keyed_board.proofs.Gathered.{moved_one, all_moved}
use Rattle.shared_keyed_board.proofs.boards.SharedKeyedBoard.meet_each.Goals as goal

pub loop-other-preserved : goal.loop-other-preserved
loop-other-preserved g c =
    let says = g.K.Named.says in
    let R = g.K.Named.order in
    let d = c.args.self.now in
    let inv = c.loop-other.invariant in
    let to = c.loop-other.to.items in
    let from = c.loop-other.from.items in
    let back = c.pop.new.self.items in
    let popped = c.in-Some.other in
    let other = c.meet.new.other in
    let first = sight says c.args.one.now in
    let now = c.push_reserved.ensures.items in
    record {
      one = c.meet.ensures.passes.0;
      same = c.meet.ensures.one ∙ inv.same;
      left = (All-pop (IsPassAt d) from back (Some popped) c.in-Some.ensures.items inv.left).0;
      over = subst (All (IsPassAt d)) (sym now) (All-push (IsPassAt d) to other inv.over c.meet.ensures.passes.1);
      moved = subst (λ l. map (sight says) l ++ reverse (map (sight says) back) ≡ reverse (map (sight says) c.args.from.now.items)) (sym now)
          (moved_one (sight says) to from back popped other (reverse (map (sight says) c.args.from.now.items)) c.in-Some.ensures.items c.meet.ensures.other inv.moved);
      met = subst (λ l. All (HaveMet R first) (map (sight says) l)) (sym now)
          (all_moved (sight says) (HaveMet R first) to other inv.met (subst (λ s. HaveMet R s (sight says other)) (c.meet.ensures.one ∙ inv.same) c.meet.ensures.met));
      count = search rules;
      room = search rules;
      capacity = search rules;
    }
