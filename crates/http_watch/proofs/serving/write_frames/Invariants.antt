use Rattle.http_watch.proofs.Pieces.{IsPartWritten}
use Rattle.http_watch.proofs.serving.write_frames.Given as goal

-- some of the frames were written, and the rest is left
abbrev pub invariant-loop : goal.invariant-loop
invariant-loop g l = IsPartWritten g.W.Write.contents l.fn.writer l.writer l.fn.frames l.frames
