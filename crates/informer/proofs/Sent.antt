-- Listers, informers and reflectors may be sent to threads.
use denote.RattleType.{RattleType}
use denote.Hole.{as_row}
use denote.Ref.{NamedLft, ShrRef}
use denote.Struct.Field.{Field, row_field, usize-field}
use denote.Struct.Tuple.{Tuple, tuple_type}
use mathlib.Core.List.{[], ◌∷◌}
use denote.Param.Send.{IsSend, IsSync, sendable, view_send, view_sync}
use denote.Param.SendFields.{declared_send, declared_sync, as_row_send, as_row_sync}
use Rattle.core.specs.declared.cmp.Ord as ord
use Rattle.core.specs.declared.cmp.PartialEq as eq
use Rattle.core.specs.declared.cmp.PartialOrd as partial
use Rattle.std.specs.contracts.alloc.Global as Global
use Rattle.std.specs.contracts.impls.GlobalAllocator.TheImpl.{ghosts}
use Rattle.std.specs.contracts.sync.Arc as Arc
use Rattle.std.specs.contracts.vec.Vec as Vec
use Rattle.std.proofs.Crossing as heap
use Rattle.std.proofs.MapsCrossing as maps
use Rattle.meta.proofs.Kind.TheSendSync as kind
use Rattle.meta.below.serde_json.proofs.value.Value.TheLaws.TheKnot as tree
use Rattle.meta.specs.contracts.objects.Object as Object
use Rattle.meta.specs.contracts.objects.Object.TheInside as ObjectInside
use Rattle.reflector.specs.contracts.shared_objects.SharedObject as SharedObject
use Rattle.reflector.specs.contracts.shared_objects.SharedObject.TheInside as SharedInside
use Rattle.object_keys.proofs.key.Key.TheSendSync as key
use Rattle.object_keys.specs.contracts.key.Key as Key
use Rattle.indexer.below.shared_map.specs.contracts.map.SharedMap as SharedMap
use Rattle.indexer.below.shared_map.specs.contracts.map.SharedMap.TheInside as MapInside
use Rattle.indexer.specs.contracts.links.OwnerLink as Link
use Rattle.indexer.specs.contracts.objects.ObjectMap as ObjectMap
use Rattle.indexer.specs.contracts.objects.ObjectMap.TheInside as ObjectsInside
use Rattle.indexer.specs.contracts.indexed.Indexed as Indexed
use Rattle.indexer.specs.contracts.indexed.Indexed.TheInside as IndexedInside
use Rattle.reflector.specs.contracts.deltas.Delta as Delta
use Rattle.reflector.specs.contracts.initials.Initial as Initial
use Rattle.reflector.specs.contracts.initials.Initial.TheInside as InitialInside
use Rattle.reflector.specs.contracts.reflectors.Reflector as Reflector
use Rattle.reflector.specs.contracts.reflectors.Reflector.TheInside as ReflectorInside
use Rattle.informer.specs.contracts.published.Published as Published
use Rattle.informer.specs.contracts.views.MapView as View
use Rattle.informer.specs.contracts.published.PublishedAbsorbSharedDelta.TheImpl as absorbs
use Rattle.informer.specs.contracts.copies.Copies as Copies
use Rattle.informer.specs.contracts.listers.Lister as Lister
use Rattle.informer.specs.contracts.listers.Look as Look
use Rattle.informer.specs.contracts.informers.Informer as Informer
use Rattle.informer.specs.contracts.shared.SharedInformer as SharedInformer
use Rattle.informer.specs.contracts.rules.BatchRule as Rule
use Rattle.informer.specs.contracts.rules.BatchRuleProtocolPublishedMapView.TheImpl as rule
use Rattle.left_right.proofs.reader.Reader.TheSendSync as reader_of
use Rattle.left_right.proofs.reader.Reading.TheSendSync as reading_of
use Rattle.left_right.proofs.writer.Writer.TheSendSync as writer_of

key_send : IsSend Key.the_row
key_send = search (key.the_send, heap.crosses, maps.crosses, sendable) depth 30

key_sync : IsSync Key.the_row
key_sync = search (key.the_sync, heap.crosses, maps.crosses, sendable) depth 30

object_inside_send : IsSend ObjectInside.the_row
object_inside_send = search (kind.the_field_send, heap.crosses, maps.crosses, tree.crosses, tree.crosses_both, sendable) depth 60 fits 20000

object_inside_sync : IsSync ObjectInside.the_row
object_inside_sync = search (kind.the_field_sync, heap.crosses, maps.crosses, tree.crosses, tree.crosses_both, sendable) depth 60 fits 20000

object_send : IsSend Object.the_row
object_send = search (object_inside_send, view_send)

object_sync : IsSync Object.the_row
object_sync = search (object_inside_sync, view_sync)

shared_inside_send : IsSend SharedInside.the_row
shared_inside_send = search (object_send, object_sync, heap.Arc-send, sendable) depth 40

shared_inside_sync : IsSync SharedInside.the_row
shared_inside_sync = search (object_send, object_sync, heap.Arc-sync, sendable) depth 40

shared_send : IsSend SharedObject.the_row
shared_send = search (shared_inside_send, view_send)

shared_sync : IsSync SharedObject.the_row
shared_sync = search (shared_inside_sync, view_sync)

size_send : IsSend (as_row usize-field)
size_send = search sendable

size_sync : IsSync (as_row usize-field)
size_sync = search sendable

alloc_send : IsSend (as_row Global.the_field)
alloc_send = search (heap.send, sendable) depth 20

alloc_sync : IsSync (as_row Global.the_field)
alloc_sync = search (heap.sync, sendable) depth 20

module _ (K V : RattleType) (o : ord.Ghosts K.Denot) (e : eq.Ghosts K.Denot) (p : partial.Ghosts K.Denot) (ks : IsSend K) (ky : IsSync K) (vs : IsSend V) (vy : IsSync V) where
  abbrev Pair : RattleType
  Pair = Tuple (K ∷ V ∷ [])

  pair_send : IsSend Pair
  pair_send = declared_send (tuple_type (K ∷ V ∷ [])) (as_row_send (row_field K) ks, (as_row_send (row_field V) vs, tt))

  pair_sync : IsSync Pair
  pair_sync = declared_sync (tuple_type (K ∷ V ∷ [])) (as_row_sync (row_field K) ky, (as_row_sync (row_field V) vy, tt))

  abbrev Chunk : RattleType
  Chunk = Vec.the_row (Arc.the_row Pair Global.the_row ghosts) Global.the_row ghosts

  chunk_send : IsSend Chunk
  chunk_send = heap.Vec-send (Arc.the_row Pair Global.the_row ghosts) (heap.Arc-send Pair pair_send pair_sync)

  chunk_sync : IsSync Chunk
  chunk_sync = heap.Vec-sync (Arc.the_row Pair Global.the_row ghosts) (heap.Arc-sync Pair pair_send pair_sync)

  abbrev Chunks : Field
  Chunks = Vec.the_field (Arc.the_row Chunk Global.the_row ghosts) Global.the_row ghosts

  map_inside_send : IsSend (MapInside.the_row K V o e p)
  map_inside_send = declared_send (MapInside.the_type K V o e p) (as_row_send Chunks (heap.Vec-send (Arc.the_row Chunk Global.the_row ghosts) (heap.Arc-send Chunk chunk_send chunk_sync)), (size_send, (alloc_send, tt)))

  map_inside_sync : IsSync (MapInside.the_row K V o e p)
  map_inside_sync = declared_sync (MapInside.the_type K V o e p) (as_row_sync Chunks (heap.Vec-sync (Arc.the_row Chunk Global.the_row ghosts) (heap.Arc-sync Chunk chunk_send chunk_sync)), (size_sync, (alloc_sync, tt)))

  map_send : IsSend (SharedMap.the_row K V o e p)
  map_send = search (map_inside_send, view_send)

  map_sync : IsSync (SharedMap.the_row K V o e p)
  map_sync = search (map_inside_sync, view_sync)

link_send : IsSend Link.the_row
link_send = search (key.the_field_send, heap.crosses, maps.crosses, sendable) depth 30

link_sync : IsSync Link.the_row
link_sync = search (key.the_field_sync, heap.crosses, maps.crosses, sendable) depth 30

objects_inside_send : IsSend ObjectsInside.the_row
objects_inside_send = search (map_send, key_send, key_sync, shared_send, shared_sync, link_send, link_sync, sendable) depth 40

objects_inside_sync : IsSync ObjectsInside.the_row
objects_inside_sync = search (map_sync, key_send, key_sync, shared_send, shared_sync, link_send, link_sync, sendable) depth 40

objects_send : IsSend ObjectMap.the_row
objects_send = search (objects_inside_send, view_send)

objects_sync : IsSync ObjectMap.the_row
objects_sync = search (objects_inside_sync, view_sync)

indexed_inside_send : IsSend IndexedInside.the_row
indexed_inside_send = search (objects_send, heap.send, sendable, declared_send) depth 40

indexed_inside_sync : IsSync IndexedInside.the_row
indexed_inside_sync = search (objects_sync, heap.sync, sendable, declared_sync) depth 40

pub indexed_send : IsSend Indexed.the_row
indexed_send = search (indexed_inside_send, view_send)

indexed_sync : IsSync Indexed.the_row
indexed_sync = search (indexed_inside_sync, view_sync)

initial_inside_send : IsSend InitialInside.the_row
initial_inside_send = search (map_send, key_send, key_sync, shared_send, shared_sync, heap.send, sendable) depth 40

initial_send : IsSend Initial.the_row
initial_send = search (initial_inside_send, view_send)

reflector_inside_send : IsSend ReflectorInside.the_row
reflector_inside_send = search (initial_send, kind.the_field_send, heap.crosses, sendable) depth 40

pub reflector_send : IsSend Reflector.the_row
reflector_send = search (reflector_inside_send, view_send)

published_send : IsSend Published.the_row
published_send = search (indexed_send, sendable) depth 30

published_sync : IsSync Published.the_row
published_sync = search (indexed_sync, sendable) depth 30

delta_send : IsSend Delta.the_row
delta_send = search (shared_send, key.the_field_send, heap.Vec-send, sendable) depth 40

delta_sync : IsSync Delta.the_row
delta_sync = search (shared_sync, key.the_field_sync, heap.Vec-sync, sendable) depth 40

shared_delta : IsSend (Arc.the_row Delta.the_row Global.the_row ghosts)
shared_delta = heap.Arc-send Delta.the_row delta_send delta_sync

abbrev Waiting : Field
Waiting = Vec.the_field (Arc.the_row Delta.the_row Global.the_row ghosts) Global.the_row ghosts

waiting : IsSend (as_row Waiting)
waiting = as_row_send Waiting (heap.Vec-send (Arc.the_row Delta.the_row Global.the_row ghosts) shared_delta)

pub lister : IsSend Lister.the_row
lister = declared_send Lister.the_type (reader_of.the_send Published.the_row View.the_row Rule.the_row Global.the_row rule.ghosts ghosts heap.send published_sync heap.sync heap.frees, tt)

pub look : IsSend Look.the_row
look = declared_send Look.the_type (reading_of.the_send Published.the_row View.the_row Rule.the_row Global.the_row rule.ghosts ghosts heap.send published_sync heap.sync heap.frees, tt)

copies : IsSend Copies.the_row
copies =
    let writer = writer_of.the_send Published.the_row (Arc.the_row Delta.the_row Global.the_row ghosts) View.the_row Rule.the_row Global.the_row Published.the_row absorbs.ghosts rule.ghosts ghosts published_send shared_delta heap.send published_sync heap.sync heap.frees in
    declared_send Copies.the_type (writer, (waiting, (size_send, (alloc_send, tt))))

pub informer : IsSend Informer.the_row
informer = declared_send Informer.the_type (copies, tt)

-- an informer with a runtime that is lent
module _ (a : NamedLft) (R : RattleType) (r : IsSync R) where
  runtime : IsSend (as_row (row_field (ShrRef a.mir a.lft R)))
  runtime = search (r, sendable)

  pub shared_informer : IsSend (SharedInformer.the_row a R)
  shared_informer = declared_send (SharedInformer.the_type a R) (runtime, (informer, tt))
