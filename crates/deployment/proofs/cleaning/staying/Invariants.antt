use Rattle.std.proofs.Common.{◌≡◌, ◌++◌, map, drop, not}
use Rattle.std.specs.Prelude.{filter}
use Rattle.serde_json.specs.Data.{Data}
use Rattle.spec_api.specs.Keys.{Key}
use Rattle.spec_api.specs.Metadata.{is_being_deleted}
use Rattle.reconcile_types.specs.Entries.{entry_of}
use Rattle.deployment.proofs.cleaning.staying.Given as goal

abbrev pub invariant-loop-set : goal.invariant-loop-set
invariant-loop-set l =
    map entry_of l.staying.items ++ filter (λ (s : Key × Data). not (is_being_deleted s.1)) (map entry_of (drop l.set-index l.sets))
    ≡ filter (λ (s : Key × Data). not (is_being_deleted s.1)) (map entry_of l.sets)
