-- A view, by the bytes of its namespace and what its selectors say.
use Rattle.std.specs.Prelude.{option_map, string_bytes}
use Rattle.spec_api.specs.History as history
use Rattle.selector.specs.declared.views.View.{View}

abbrev pub view_of : View → history.View
view_of v = record { kind = v.kind; namespace = option_map string_bytes v.namespace; labels = v.labels; fields = v.fields }
