use Rattle.std.proofs.Common.{◌≡◌, ◌++◌, drop, map, not}
use Rattle.std.specs.List.{filter}
use Rattle.serde_json.specs.View.{view}
use Rattle.spec_api.specs.Metadata.{owner}
use Rattle.spec_reconcile.specs.Standings.{is_to}
use Rattle.collector.proofs.edits.others.Given as goal

-- those picked and those still to be picked are all that pass
abbrev pub invariant-loop-reference : goal.invariant-loop-reference
invariant-loop-reference l = map view l.picked.items ++ filter (λ d. not (is_to l.object.value (owner d))) (map view (drop l.reference-index l.references)) ≡ filter (λ d. not (is_to l.object.value (owner d))) (map view l.references)
