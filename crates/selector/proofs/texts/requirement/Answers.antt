use Rattle.std.proofs.Common.{◌≡◌, Option, subst, ap, ◌∙◌, arith}
use Rattle.spec_api.specs.SelectorTexts.{trimmed, unblanked_requirement}
use Rattle.spec_api.specs.Selectors.{Requirement}
use Rattle.selector.specs.Seen.{Reads, requirement_of}
use Rattle.selector.proofs.Marks.{not-marked}
use Rattle.selector.proofs.texts.requirement.Goals as goal

pub returns-else-first-eq33 : goal.returns-else-first-eq33
returns-else-first-eq33 c =
    let t = c.trim-text.result.now in
    let e : t ≡ trimmed c.args.part.now = c.trim-text.ensures in
    let P : Option Requirement → Type 0 = λ o. Reads requirement_of c.plain.result o in
    subst P (not-marked t (omega (arith, c.in-len1-up.len_at_least)) c.if-first-eq33.false ∙ ap unblanked_requirement e) c.plain.ensures
