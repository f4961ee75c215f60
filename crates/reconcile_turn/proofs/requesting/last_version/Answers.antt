use Rattle.std.proofs.Common.{sym}
use Rattle.reconcile_turn.specs.declared.answers.CommandAnswer.TheVariants.{Accepted, Refused, Lost}
use Rattle.reconcile_turn.proofs.Issues.{last_is}
use Rattle.reconcile_turn.proofs.requesting.last_version.Goals as goal

pub returns-in-Accepted : goal.returns-in-Accepted
returns-in-Accepted c =
    rw (last_is c.args.answers.now c.in-Some.last.now (Accepted c.in-Accepted.code c.in-Accepted.text) c.deref.result.now c.in-Some.ensures.value c.deref.ensures c.in-Accepted.is)
    (rw c.as_str.ensures.value at c.version_in_text.ensures)

pub returns-in-Refused : goal.returns-in-Refused
returns-in-Refused c =
    sym (last_is c.args.answers.now c.in-Some.last.now (Refused c.in-Refused.code) c.deref.result.now c.in-Some.ensures.value c.deref.ensures c.in-Refused.is)

pub returns-in-Lost : goal.returns-in-Lost
returns-in-Lost c = sym (last_is c.args.answers.now c.in-Some.last.now Lost c.deref.result.now c.in-Some.ensures.value c.deref.ensures c.in-Lost.is)
