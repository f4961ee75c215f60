-- What a line is told for which there was no memory.
use Rattle.std.specs.Prelude.{ℕ, List, ◌==◌, length, Option, Some, None, if◌then◌else◌}
use Rattle.line_service.specs.Shown.{no_memory_line}
use Rattle.spec_line_protocol.specs.Lines.{Line, ask, at, compact, unreadable, line_of}

-- that there was none, in the place of its reply; a line that sets the moment prints nothing, and so none is printed after it that lacks what it says
abbrev pub refusal_to : Line → Option (List ℕ)
refusal_to (ask method target body) = Some no_memory_line
refusal_to (at moment) = None
refusal_to (compact r) = Some no_memory_line
refusal_to unreadable = Some no_memory_line

-- nor does an empty line
abbrev pub refusal : List ℕ → Option (List ℕ)
refusal t = if length t == 0 then None else refusal_to (line_of t)
