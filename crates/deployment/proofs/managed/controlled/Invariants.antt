use Rattle.std.proofs.Common.{◌≡◌, ◌++◌, ◌&&◌, ℕ, List, Bool, map, drop, bytes_eq}
use Rattle.std.specs.Prelude.{filter}
use Rattle.serde_json.specs.Data.{Data}
use Rattle.spec_api.specs.Keys.{Key}
use Rattle.spec_client_go.specs.OwnerReferences.{is_controlled_by}
use Rattle.reconcile_types.specs.Entries.{entry_of}
use Rattle.deployment.proofs.managed.controlled.Given as goal

abbrev here : List ℕ → List ℕ → Key × Data → Bool
here ns u m = bytes_eq m.0.namespace ns && is_controlled_by u m.1

abbrev pub invariant-loop-object : goal.invariant-loop-object
invariant-loop-object l =
    map entry_of l.found.items ++ filter (here l.namespace l.uid) (map entry_of (drop l.object-index l.objects)) ≡ filter (here l.namespace l.uid) (map entry_of l.objects)
