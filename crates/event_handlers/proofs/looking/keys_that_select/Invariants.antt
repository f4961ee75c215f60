use Rattle.std.proofs.Common.{◌≡◌, ◌++◌, map, filter}
use Rattle.serde_json.specs.Data.{Data}
use Rattle.spec_api.specs.Keys.{Key as Name}
use Rattle.object_keys.specs.Keys.{key_of}
use Rattle.reconcile_types.specs.Entries.{entry_of}
use Rattle.spec_client_go.specs.OwedKeys.{selects}
use Rattle.event_handlers.proofs.looking.keys_that_select.Given as goal

-- those found and those still to be found are all
abbrev pub invariant-loop-entry : goal.invariant-loop-entry
invariant-loop-entry l =
    map key_of l.keys.items ++ map (λ (m : Name × Data). m.0) (filter (selects l.object.value) (map entry_of l.entry-iterator.rest.items))
    ≡ map (λ (m : Name × Data). m.0) (filter (selects l.object.value) (map entry_of l.fn.entries.items))
