use Rattle.std.proofs.Common.{◌≡◌, ◌++◌, drop}
use Rattle.selector.specs.Seen.{texts_of}
use Rattle.selector.proofs.labels.copies.Given as goal

-- the copies so far, and those of what is left, are all
abbrev pub invariant-loop-text : goal.invariant-loop-text
invariant-loop-text l = texts_of l.copies.items ++ texts_of (drop l.text-index l.texts) ≡ texts_of l.texts
