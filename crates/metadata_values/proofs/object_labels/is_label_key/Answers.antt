use Rattle.std.proofs.Common.{◌≡◌, true, false, rules, arith}
use Rattle.std.specs.List.{list_any}
use Rattle.spec_api.specs.Labels.{is_slash}
use Rattle.metadata_values.proofs.Splits.{found, not-found}
use Rattle.metadata_values.proofs.object_labels.is_label_key.Goals as goal

pub returns-then-is_subdomain : goal.returns-then-is_subdomain
returns-then-is_subdomain c =
    let s = c.in-Some.ensures.byte (omega arith) (λ w o f. f) in
    let e : list_any is_slash c.args.text.now ≡ true = found is_slash c.args.text.now s.2 in
    rw e (search rules)

pub returns-else-is_subdomain : goal.returns-else-is_subdomain
returns-else-is_subdomain c =
    let s = c.in-Some.ensures.byte (omega arith) (λ w o f. f) in
    let e : list_any is_slash c.args.text.now ≡ true = found is_slash c.args.text.now s.2 in
    rw e (search rules)

pub returns-in-None : goal.returns-in-None
returns-in-None c =
    let e : list_any is_slash c.args.text.now ≡ false = not-found is_slash c.args.text.now (c.in-None.ensures.byte (omega arith) (λ w o f. f)) in
    rw e (search rules)
