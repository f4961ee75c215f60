use Rattle.std.proofs.Common.{◌∙◌, ap}
use Rattle.std.specs.FinMap as map
use Rattle.keyed_queues.specs.Failures.{failed, restored}
use Rattle.keyed_queues.specs.Lists as queues
use Rattle.keyed_queues.specs.Numbers as numbers
use Rattle.keyed_queues.proofs.FailureCounts.{has_failed, taken_back}
use Rattle.boards.specs.Said.{said}
use Rattle.boards.proofs.board.Board.fail.Goals as goal

pub restore-requires : goal.restore-requires
restore-requires g c =
    let m = g.met.K.Named in
    let R = g.K.Named.order in
    let say = g.K.Named.says in
    let k = say c.args.key.now in
    ap (λ z. map.contains_key z k) c.in_ok-delay.ensures.ok ∙ has_failed R m.ordered m.apart k (numbers.said R say c.self.inside.backoff)

pub returns-in-Err-clause-err : goal.returns-in-Err-clause-err
returns-in-Err-clause-err g c =
    let m = g.met.K.Named in
    let R = g.K.Named.order in
    let say = g.K.Named.says in
    let k = say c.args.key.now in
    let old = numbers.said R say c.self.inside.backoff in
    let later = c.in-Err.ensures.err in
    let back =
    c.restore.ensures ∙ ap (restored k c.failures-before.result) c.in_ok-delay.ensures.ok ∙ ap (λ o. restored k o (failed k old)) c.failures-before.ensures ∙ taken_back R m.ordered m.apart k old in
    (λ i. record { work = queues.said R say c.self.inside.queue; delays = later i; failures = back i; side = c.self.inside.side; time = c.self.inside.time }) ∙ ap (said R say) c.self.view_is
