-- What listers know, and what looks show.
use Rattle.std.specs.Prelude.{List}
use Rattle.left_right.specs.Sides.{view}
use Rattle.spec_server.specs.Snapshots.{Snapshot}
use Rattle.reflector.specs.declared.deltas.Delta.{Delta}
use Rattle.informer.specs.Knowing.{latest}
use Rattle.informer.specs.declared.listers.Lister.{Lister}
use Rattle.informer.specs.declared.listers.Look.{Look}
use Rattle.informer.specs.declared.views.MapView.{MapView}

-- what a lister has seen or was told of: lists of batches, the deltas of each of which were published at once
abbrev pub known : Lister → MapView
known l = view l.reader.place

-- and the one that it was told of or saw last
abbrev pub known_last : Lister → List (List Delta)
known_last l = latest (known l)

-- what a lister knows while it looks, and once it has looked
abbrev pub known_then : Look → MapView
known_then l = view l.reading.place

-- the batches of deltas that made the map which is seen
abbrev pub seen : Look → List (List Delta)
seen l = latest (known_then l)

-- the map with its revision
abbrev pub shown : Look → Snapshot
shown l = l.reading.part.value.indexed
