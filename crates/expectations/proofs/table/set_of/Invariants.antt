use Rattle.std.proofs.Common.{◌≡◌, ◌++◌, map, string_bytes}
use Rattle.std.specs.FinSet as set
use Rattle.object_keys.specs.Seen.{seen_set}
use Rattle.expectations.specs.Seen.{uid_cmp}
use Rattle.expectations.proofs.table.set_of.Given as goal

abbrev pub invariant-loop-text : goal.invariant-loop-text
invariant-loop-text l = record { made : seen_set uid_cmp string_bytes l.set.keys ≡ set.from_list (map string_bytes l.yielded); left : l.yielded ++ l.text-iterator.rest.items ≡ l.fn.texts.items }
