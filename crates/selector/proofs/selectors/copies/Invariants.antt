use Rattle.std.proofs.Common.{◌≡◌, ◌++◌, drop}
use Rattle.selector.specs.Seen.{requirements_of}
use Rattle.selector.proofs.selectors.copies.Given as goal

-- the copies so far, and those of what is left, are all
abbrev pub invariant-loop-requirement : goal.invariant-loop-requirement
invariant-loop-requirement l = requirements_of l.copies.items ++ requirements_of (drop l.requirement-index l.requirements) ≡ requirements_of l.requirements
