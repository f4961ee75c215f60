use Rattle.std.proofs.Common.{◌∙◌, ap, sym}
use Rattle.controller_runtime.specs.Kinds.{with_named}
use Rattle.controller_runtime.proofs.Named.{last_named}
use Rattle.controller_runtime.proofs.followed.apis_of.Goals as goal

pub loop-last-init : goal.loop-last-init
loop-last-init g c = ap (λ l. with_named l c.args.followed.items) c.none_followed-apis.ensures

pub loop-last-preserved : goal.loop-last-preserved
loop-last-preserved g c =
    let left = c.pop.new.self.items in
    let last = c.in-Some.last in
    ap (λ l. with_named l left) c.put.ensures ∙ sym (last_named c.loop-last.apis left last) ∙ ap (with_named c.loop-last.apis) (sym c.in-Some.ensures.items) ∙ c.loop-last.invariant
