use Rattle.std.proofs.Common.{◌≡◌, drop}
use Rattle.std.specs.List.{list_any}
use Rattle.indexer.specs.Shifted.{shift_of}
use Rattle.selector.specs.Views.{view_of}
use Rattle.controller_layers.specs.Within.{touches}
use Rattle.controller_layers.proofs.scoped.any_is_touched.Given as goal

-- one is just where one of those is that are left
abbrev pub invariant-loop-view : goal.invariant-loop-view
invariant-loop-view l = list_any (λ v. touches (shift_of l.change) (view_of v)) (drop l.view-index l.views) ≡ list_any (λ v. touches (shift_of l.change) (view_of v)) l.views
