use Rattle.std.proofs.Common.{◌≡◌, ◌==◌, drop}
use Rattle.std.specs.List.{list_any}
use Rattle.spec_api.specs.Kinds.{rank}
use Rattle.controller_layers.proofs.scoped.any_is_of.Given as goal

-- one is just where one of those is that are left
abbrev pub invariant-loop-view : goal.invariant-loop-view
invariant-loop-view l = list_any (λ v. rank v.kind == rank l.kind) (drop l.view-index l.views) ≡ list_any (λ v. rank v.kind == rank l.kind) l.views
