use Rattle.std.proofs.Common.{rules, ◌≡◌, sym, subst}
use Rattle.crossbeam_queue.specs.Passes.{view}
use Rattle.baton.specs.Batons.{IsNew, IsFirst, IsNewOf, AreNumbered}
use Rattle.baton.proofs.Numbers.{all_more, numbered_more}
use Rattle.baton.proofs.batons.Baton.crew.Goals as goal

pub loop-passes-preserved : goal.loop-passes-preserved
loop-passes-preserved g c =
    let inv = c.loop-passes.invariant in let opening = (view c.args.first).own.opening in let self = c.args.self.now in
    let same : (view c.loop-passes.next).own.opening ≡ opening = inv.0.0.1 in
    let new : IsNew self opening c.hand_out.result = subst (λ o. IsNew self o c.hand_out.result) same c.hand_out.ensures.pass in
    let next : IsFirst self opening c.hand_out.new.next = subst (λ o. IsFirst self o c.hand_out.new.next) same c.hand_out.ensures.next in (
      next,
      all_more (IsNewOf c.args.count self opening) c.loop-passes.passes.items c.push_reserved.new.self.items c.hand_out.result c.push_reserved.ensures.items inv.1 (new, search rules),
      search rules,
      search rules,
      subst AreNumbered (sym c.push_reserved.ensures.items) (numbered_more c.loop-passes.passes.items c.hand_out.result inv.4 (search rules)),
      search rules,
    )

pub returns-clause-passes : goal.returns-clause-passes
returns-clause-passes g c =
    let inv = c.loop-passes.invariant in
    all_more (IsNewOf c.args.count c.args.self.now (view c.args.first).own.opening) c.loop-passes.passes.items c.push_reserved-2.new.self.items c.loop-passes.next c.push_reserved-2.ensures.items inv.1 (inv.0.0, λ e. inv.0.1)
