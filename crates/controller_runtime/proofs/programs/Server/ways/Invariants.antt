use Rattle.std.proofs.Common.{◌≡◌}
use Rattle.std.specs.Vec.{vec_len}
use Rattle.controller_runtime.proofs.programs.Server.ways.Given as goal

-- a way for each worker so far
abbrev pub invariant-loop-notes : goal.invariant-loop-notes
invariant-loop-notes g l = vec_len l.made ≡ l.notes-index
