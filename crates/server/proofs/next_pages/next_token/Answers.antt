use Rattle.std.proofs.Common.{◌∙◌, Some, sym, ap}
use Rattle.std.proofs.lemmas.Bool.{ne_eqb}
use Rattle.server.proofs.LastMembers.{last_member}
use Rattle.server.proofs.next_pages.next_token.Goals as goal

pub returns-in_ok-after-in-Some-clause-place : goal.returns-in_ok-after-in-Some-clause-place
returns-in_ok-after-in-Some-clause-place c =
    let last = last_member c.args.items.now c.in-Some.member.now (sym c.in-Some.ensures.value) in
    rw (ne_eqb c.args.remaining 0 c.if-remaining-eq0.false) (ap Some c.in_ok-after-in-Some.ensures.place ∙ sym last)
