use Rattle.std.proofs.Common.{◌≡◌, false, rules, arith}
use Rattle.std.specs.List.{list_any}
use Rattle.spec_api.specs.Checks.{is_percent_sign}
use Rattle.metadata_values.proofs.Splits.{not-found}
use Rattle.object_fields.proofs.values.percentage.Goals as goal

pub returns-in-None : goal.returns-in-None
returns-in-None c =
    let e : list_any is_percent_sign c.args.text.now ≡ false = not-found is_percent_sign c.args.text.now (c.in-None.ensures.byte (omega arith) (λ w o f. f)) in
    rw e (search rules)
