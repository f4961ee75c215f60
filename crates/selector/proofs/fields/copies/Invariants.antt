use Rattle.std.proofs.Common.{◌≡◌, ◌++◌, drop}
use Rattle.selector.specs.Seen.{field_requirements_of}
use Rattle.selector.proofs.fields.copies.Given as goal

-- the copies so far, and those of what is left, are all
abbrev pub invariant-loop-requirement : goal.invariant-loop-requirement
invariant-loop-requirement l = field_requirements_of l.copies.items ++ field_requirements_of (drop l.requirement-index l.requirements) ≡ field_requirements_of l.requirements
