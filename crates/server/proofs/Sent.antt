-- A server may cross threads.
use denote.Struct.Field.{u64-field}
use denote.Hole.{as_row}
use denote.Param.Send.{IsSend, sendable, view_send}
use denote.Param.SendFields.{declared_send, as_row_send}
use Rattle.std.proofs.Crossing as heap
use Rattle.std.proofs.MapsCrossing as maps
use Rattle.std.specs.contracts.alloc.Global as Heap
use Rattle.std.specs.contracts.impls.GlobalAllocator.TheImpl.{ghosts}
use Rattle.circular_buffer.proofs.heap.HeapCircularBuffer.TheSendSync as ring_of
use Rattle.circular_buffer.specs.contracts.heap.HeapCircularBuffer as Ring
use Rattle.object_keys.proofs.key.Key.TheSendSync as key
use Rattle.meta.proofs.Kind.TheSendSync as kind
use Rattle.meta.proofs.labels.Label.TheSendSync as label
use Rattle.meta.proofs.whole_texts.WholeText.TheSendSync as whole_text
use Rattle.meta.below.serde_json.proofs.value.Value.TheLaws.TheKnot as tree
use Rattle.watch_cache.specs.contracts.changes.Change as Change
use Rattle.watch_cache.specs.contracts.cache.Cache as Cache
use Rattle.watch_cache.specs.contracts.cache.Cache.TheInside as Inside
use Rattle.spec_api.specs.contracts.kinds.Kind as Kind
use Rattle.watch_cache.specs.contracts.caches.Caches as Caches
use Rattle.watch_cache.specs.contracts.caches.Caches.TheInside as CachesInside
use Rattle.store.specs.contracts.stores.Store as Store
use Rattle.server.specs.contracts.servers.Server as Server
use Rattle.server.specs.contracts.servers.Server.TheInside as ServerInside

number : IsSend (as_row u64-field)
number = search sendable

change : IsSend Change.the_row
change = search (kind.the_field_send, kind.the_field_sync, key.the_field_send, key.the_send, label.the_send, label.the_sync, whole_text.the_field_send, whole_text.the_field_sync, maps.crosses, heap.crosses, tree.crosses, tree.crosses_both, sendable) depth 60 fits 20000

ring : IsSend (as_row (Ring.the_field Change.the_row Heap.the_row ghosts))
ring = as_row_send (Ring.the_field Change.the_row Heap.the_row ghosts) (ring_of.the_send Change.the_row Heap.the_row ghosts change heap.send heap.frees)

known_kind : IsSend (as_row Kind.the_field)
known_kind = search (kind.the_send, sendable)

inside : IsSend Inside.the_row
inside = declared_send Inside.the_type (known_kind, (ring, (number, tt)))

cache : IsSend Cache.the_row
cache = search (inside, view_send)

caches_inside : IsSend CachesInside.the_row
caches_inside = search (cache, heap.Vec-send, sendable, declared_send) depth 40

caches : IsSend Caches.the_row
caches = search (caches_inside, view_send)

store : IsSend Store.the_row
store = search (kind.the_field_send, kind.the_field_sync, key.the_field_send, key.the_send, label.the_send, label.the_sync, whole_text.the_field_send, whole_text.the_field_sync, maps.crosses, heap.crosses, tree.crosses, tree.crosses_both, sendable) depth 60 fits 20000

server_inside : IsSend ServerInside.the_row
server_inside = declared_send ServerInside.the_type (as_row_send Store.the_field store, (as_row_send Caches.the_field caches, tt))

pub server : IsSend Server.the_row
server = search (server_inside, view_send)
