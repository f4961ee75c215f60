use Rattle.std.proofs.Common.{◌≡◌, ◌++◌, map}
use Rattle.std.specs.List.Sorted.{IsStrictlySortedBy}
use Rattle.std.specs.Map.{keys_of}
use Rattle.object_keys.specs.WorkKeys.{work_key_of}
use Rattle.expectations.proofs.AgedTexts.{walked}
use Rattle.expectations.proofs.Steps.{Keyed, key_cmp, table_of}
use Rattle.expectations.proofs.table.Table.aged_out.Given as goal

-- with those that the walk has still to come to, they are all
abbrev pub invariant-loop-key : goal.invariant-loop-key
invariant-loop-key l =
    (es : Keyed) × (table_of es ≡ l.fn.self) × IsStrictlySortedBy key_cmp (keys_of es)
    × (map work_key_of l.keys.items ++ walked l.fn.before l.fn.now l.key-iterator ≡ walked l.fn.before l.fn.now es)
