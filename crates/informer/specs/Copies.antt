-- The two copies of a map.
use Rattle.std.specs.Prelude.{◌≡◌, List, []}
use Rattle.spec_server.specs.Snapshots.{Snapshot}
use Rattle.left_right.specs.Sides.{view}
use Rattle.spec_client_go.specs.Informers.{all_applied}
use Rattle.reflector.specs.Deltas.{deltas_of}
use Rattle.reflector.specs.declared.deltas.Delta.{Delta}
use Rattle.informer.specs.Knowing.{latest}
use Rattle.informer.specs.Published.{with_batch}
use Rattle.informer.specs.SharedDeltas.{all_in}
use Rattle.informer.specs.declared.copies.Copies.{Copies}

-- the map that readers see
abbrev pub shown : Copies → Snapshot
shown c = c.writer.desk.shown.value.indexed

-- the batches of deltas that made it, each published at once
abbrev pub batches_shown : Copies → List (List Delta)
batches_shown c = latest (view c.writer.desk.place)

-- the deltas that wait
abbrev pub deltas_waiting : Copies → List Delta
deltas_waiting c = all_in c.waiting.items

-- nothing that readers see or that waits has changed
abbrev pub IsSame : Copies → Copies → Type 0
IsSame c d = (shown d ≡ shown c) × (batches_shown d ≡ batches_shown c) × (deltas_waiting d ≡ deltas_waiting c)

-- the deltas that waited are applied, at once, and none waits
abbrev pub IsPublished : Copies → Copies → Type 0
IsPublished c d = (shown d ≡ all_applied (shown c) (deltas_of (deltas_waiting c))) × (batches_shown d ≡ with_batch (batches_shown c) (deltas_waiting c)) × (deltas_waiting d ≡ [])
