use Rattle.std.specs.FinSet as set
use Rattle.std.proofs.Common.{ap, ◌∙◌}
use Rattle.expectations.specs.Seen.{owners_of}
use Rattle.expectations.proofs.Steps.{is_there, changed_text, unchanged_text}
use Rattle.expectations.proofs.owners.see_deleted.Goals as goal

pub returns-in-Some : goal.returns-in-Some
returns-in-Some c =
    let there = (c.get_mut.follows.holds c.see_deleted.new.self).3 (is_there _ _ c.in-Some.ensures.value) in
    changed_text (λ e. record e { deletions = set.remove e.deletions c.args.pod.now }) c.args.uid.now c.args.owners.now.entries (c.get_mut.follows.lender c.see_deleted.new.self).entries c.in-Some.expectation.now c.see_deleted.new.self c.in-Some.ensures.value there.1 there.3 c.see_deleted.ensures

pub returns-in_default : goal.returns-in_default
returns-in_default c = ap owners_of c.get_mut.follows.holds-at-none ∙ unchanged_text (λ e. record e { deletions = set.remove e.deletions c.args.pod.now }) c.args.uid.now c.args.owners.now.entries c.in_default.ensures.value
