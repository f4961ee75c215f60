use Rattle.selector.proofs.Ascii.{no-value}
use Rattle.selector.proofs.owned.own_value.Goals as goal

pub returns-in-Err : goal.returns-in-Err
returns-in-Err c = no-value c.args.bytes.now c.in-Err.ensures.cases.0
