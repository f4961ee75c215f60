use Rattle.std.proofs.Common.{sym, ap}
use Rattle.spec_line_protocol.specs.Lines.{compact_at}
use Rattle.request_parts.proofs.Texts.{revision_of-other}
use Rattle.request_parts.proofs.line.compact.Goals as goal

pub returns-in-Err : goal.returns-in-Err
returns-in-Err c = sym (ap compact_at (revision_of-other c.args.rest.now c.in-Err.ensures.cases.0))
