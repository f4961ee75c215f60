use Rattle.std.proofs.Common.{◌≡◌, ℕ, List, ◌++◌, false}
use Rattle.std.specs.Io.KnownBytes.{Appends}
use Rattle.chunked.proofs.watched.Watched.write_text.Given as goal

-- what was written so far, and what is left of the text
abbrev pub invariant-loop : goal.invariant-loop
invariant-loop g l =
    (written : List ℕ) × Appends (g.W.Write.contents l.fn.self.device) (g.W.Write.contents l.self.device) written × (written ++ l.rest ≡ l.fn.text) × (l.self.failed ≡ false)
