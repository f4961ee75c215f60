use Rattle.std.proofs.Common.{◌≡◌, ◌++◌, drop, map}
use Rattle.std.specs.List.{filter}
use Rattle.serde_json.specs.View.{view}
use Rattle.spec_api.specs.Metadata.{owner}
use Rattle.reconcile_types.specs.Hands.{reads_of}
use Rattle.spec_reconcile.specs.Standings.{standing, is_solid}
use Rattle.collector.proofs.edits.solid_ones.Given as goal

-- those picked and those still to be picked are all that pass
abbrev pub invariant-loop-reference : goal.invariant-loop-reference
invariant-loop-reference l = map view l.picked.items ++ filter (λ d. is_solid (standing (reads_of l.reads) l.namespace (owner d))) (map view (drop l.reference-index l.references)) ≡ filter (λ d. is_solid (standing (reads_of l.reads) l.namespace (owner d))) (map view l.references)
