use Rattle.framing.proofs.OneLine.{line_read_is, line_read_none}
use Rattle.framing.proofs.scan.read_line.Goals as goal

pub returns-in-Some : goal.returns-in-Some
returns-in-Some c = line_read_is c.args.line.now _ _ c.if-line-ge-LONGEST_FRAME.false c.in-Ok.ensures.ok.0 c.in-Ok.ensures.ok.1 c.in-Some.ensures

pub returns-in_default : goal.returns-in_default
returns-in_default c = line_read_none c.args.line.now c.if-line-ge-LONGEST_FRAME.false (c.in-Err.ensures.err (λ m. c.in_default.not-Memory (c.classify.ensures.memory.1 m)))
