use Rattle.selector.proofs.Ascii.{no-key}
use Rattle.selector.proofs.owned.own_key.Goals as goal

pub returns-in-Err : goal.returns-in-Err
returns-in-Err c = no-key c.args.bytes.now c.in-Err.ensures.cases.0
