-- Finalizers, one list after another.
use Rattle.serde_json.specs.Data.{Items, no_items, item}

-- items, and then the last ones
abbrev pub followed : Items → Items → Items
followed no_items last = last
followed (item d ds) last = item d (followed ds last)
