use Rattle.std.proofs.Common.{◌≡◌, ◌++◌}
use Rattle.event_handlers.proofs.key_lists.in_order.Given as goal

abbrev pub invariant-loop-key : goal.invariant-loop-key
invariant-loop-key l = l.keys.items ++ l.key-iterator ≡ l.fn.owed.keys
