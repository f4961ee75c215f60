use Rattle.std.proofs.Common.{rules, ◌==◌, arith}
use Rattle.metadata_values.proofs.Splits.{cut, uncut}
use Rattle.metadata_values.proofs.subdomains.+are_labels.Goals as goal

pub returns-then-is_label : goal.returns-then-is_label
returns-then-is_label t c =
    let e = cut (λ b. b == 46) c.args.text.now c.in-Some.first.now c.in-Some.rest.now (c.in-Some.ensures.byte (omega arith) (λ w o f. f)) in
    rw e (search rules)

pub returns-else-is_label : goal.returns-else-is_label
returns-else-is_label t c =
    let e = cut (λ b. b == 46) c.args.text.now c.in-Some.first.now c.in-Some.rest.now (c.in-Some.ensures.byte (omega arith) (λ w o f. f)) in
    rw e (search rules)

pub returns-in-None : goal.returns-in-None
returns-in-None t c =
    let e = uncut (λ b. b == 46) c.args.text.now (c.in-None.ensures.byte (omega arith) (λ w o f. f)) in
    rw e (search rules)
