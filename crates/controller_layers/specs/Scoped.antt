-- A controller that is told of what it watches alone.
use Rattle.std.specs.Prelude.{List, map}
use Rattle.spec_api.specs.History as history
use Rattle.selector.specs.Views.{view_of}
use Rattle.controller_layers.specs.declared.scoped.Scoped.{Scoped}

-- what the watches ask for whose kind others name too
abbrev pub views_in : {C : Type 0} → Scoped C → List history.View
views_in s = map view_of s.views.items
