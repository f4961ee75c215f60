use Rattle.std.proofs.Common.{ap, ◌∙◌, arith}
use Rattle.http_event_loop.specs.Counted.{taken_over}
use Rattle.http_event_loop.proofs.Counts.{one_more}
use Rattle.http_event_loop.proofs.counting.count_taken.Goals as goal

pub loop-next-init : goal.loop-next-init
loop-next-init g c =
    let last = ap taken_over c.in-Some.ensures.items ∙ one_more c.pop.new.self.items c.in-Some.last in
    let same = ap (λ t. t.count) c.into_taken-taken.ensures in
    omega (arith, last, same)

pub loop-next-preserved : goal.loop-next-preserved
loop-next-preserved g c =
    let next = ap taken_over c.in-Some-pop.ensures.items ∙ one_more c.pop-in-loop-next.new.self.items c.in-Some-pop.next in
    let same = ap (λ t. t.count) c.into_taken.ensures in
    let sum = c.add.ensures.sum (c.add.ensures.counts c.requires) in
    let before = c.loop-next.invariant in
    omega (arith, next, same, sum, before)
