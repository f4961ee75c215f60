use Rattle.std.proofs.Common.{◌≡◌, ◌++◌, drop, map}
use Rattle.std.specs.List.{filter}
use Rattle.selector.specs.Views.{view_of}
use Rattle.controller_watches.specs.Watched.{view_asked}
use Rattle.controller_layers.specs.Within.{shares_kind}
use Rattle.controller_layers.proofs.scoped.shared_views.Given as goal

-- what is made so far and what is to be made of the watches that are left is all
abbrev pub invariant-loop-watch : goal.invariant-loop-watch
invariant-loop-watch l =
    map view_of l.made.items ++ map view_asked (filter (shares_kind l.watches) (drop l.watch-index l.watches)) ≡ map view_asked (filter (shares_kind l.watches) l.watches)
