use Rattle.std.proofs.Common.{sym, ◌∙◌}
use Rattle.request_parts.proofs.Texts.{decoded-text, decoded-other}
use Rattle.request_parts.proofs.check.decode.Goals as goal

pub returns-in-Ok-clause-text : goal.returns-in-Ok-clause-text
returns-in-Ok-clause-text c = c.in-Ok.ensures.cases.0 ∙ sym (decoded-text c.args.target.now c.in-Ok.ensures.cases.1)

pub returns-in_ok-from_utf8_lossy-in-Err-clause-text : goal.returns-in_ok-from_utf8_lossy-in-Err-clause-text
returns-in_ok-from_utf8_lossy-in-Err-clause-text c =
    c.in_ok-from_utf8_lossy-in-Err.ensures.lossy ∙ sym (decoded-other c.args.target.now c.in-Err.ensures.cases.0)
