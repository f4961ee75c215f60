use Rattle.std.proofs.Common.{◌≡◌, ◌++◌, drop}
use Rattle.shared_map.specs.Parts.{seen}
use Rattle.shared_map.proofs.entries.append_shared.Given as goal

-- what was appended and what is still to be appended is all
abbrev pub invariant-loop-entry : goal.invariant-loop-entry
invariant-loop-entry g l = seen l.made.items ++ seen (drop l.entry-index l.entries) ≡ seen l.initial.made.items ++ seen l.entries
