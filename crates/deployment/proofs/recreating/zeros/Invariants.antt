use Rattle.std.proofs.Common.{◌≡◌, ◌++◌, map, drop}
use Rattle.serde_json.specs.Data.{Data}
use Rattle.spec_api.specs.Keys.{Key}
use Rattle.reconcile_types.specs.Entries.{entry_of}
use Rattle.deployment.proofs.recreating.zeros.Given as goal

abbrev pub invariant-loop-set : goal.invariant-loop-set
invariant-loop-set l = l.zeros.items ++ map (λ (s : Key × Data). 0) (map entry_of (drop l._set-index l.sets)) ≡ map (λ (s : Key × Data). 0) (map entry_of l.sets)
