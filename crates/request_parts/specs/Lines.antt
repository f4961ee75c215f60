-- What a line that was read says.
use Rattle.std.specs.Prelude.{ℕ, List}
use Rattle.std.specs.Borrow.{Bor}
use Rattle.spec_line_protocol.specs.Lines as said
use Rattle.request_parts.specs.declared.line.Line.{Line}
use Rattle.request_parts.specs.declared.line.Line.TheVariants.{Ask, At, Compact, Unreadable}

abbrev pub both_now : Bor (List ℕ) × Bor (List ℕ) → List ℕ × List ℕ
both_now (a, b) = (a.now, b.now)

-- the line as the definitions say it
abbrev pub line_seen : Line → said.Line
line_seen (Ask method target body) = said.ask method target.now body.now
line_seen (At moment) = said.at moment
line_seen (Compact revision) = said.compact revision
line_seen Unreadable = said.unreadable
