use Rattle.std.proofs.Common.{codes}
use Rattle.meta.proofs.WholeTexts.{member_first}
use Rattle.meta.proofs.whole_texts.after_member.Goals as goal

pub returns : goal.returns
returns c =
    member_first c.args.opening.now c.args.value.now (codes "\",") c.in_ok-rest-3.rest.now c.args.text.now c.in_ok-rest.rest.now c.in_ok-rest-2.rest.now
    c.in_ok-rest.ensures c.in_ok-rest-2.ensures c.in_ok-rest-3.ensures
