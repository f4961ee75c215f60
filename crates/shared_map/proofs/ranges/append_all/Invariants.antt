use Rattle.std.proofs.Common.{◌≡◌, ◌++◌, drop, map}
use Rattle.shared_map.specs.Parts.{seen}
use Rattle.shared_map.proofs.ranges.append_all.Given as goal

-- what was appended and what is still to be appended is all
abbrev pub invariant-loop-entry : goal.invariant-loop-entry
invariant-loop-entry g l = map (λ e. e.now) l.found.items ++ seen (drop l.entry-index l.entries) ≡ map (λ e. e.now) l.initial.found.items ++ seen l.entries
