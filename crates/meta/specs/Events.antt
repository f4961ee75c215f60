-- An event, by its key and its object's data.
use Rattle.spec_api.specs.Events.{Event as Change}
use Rattle.object_keys.specs.Keys.{key_of}
use Rattle.meta.specs.declared.event.Event.{Event}

abbrev pub event_seen : Event → Change
event_seen e = record { kind = e.kind; revision = e.revision; key = key_of e.key; object = e.object.value }
