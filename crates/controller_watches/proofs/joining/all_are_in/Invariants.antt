use Rattle.std.proofs.Common.{◌≡◌, ◌||◌, not, option_map, drop}
use Rattle.std.specs.List.{list_all}
use Rattle.controller_watches.specs.Watched.{scope_asked}
use Rattle.controller_watches.specs.Joint.{is_of, same_text}
use Rattle.controller_watches.proofs.joining.all_are_in.Given as goal

-- all agree just where those do that are left
abbrev pub invariant-loop-watch : goal.invariant-loop-watch
invariant-loop-watch l =
    list_all (λ w. not (is_of l.kind w) || same_text (scope_asked w).namespace (option_map (λ t. t.now) l.namespace)) (drop l.watch-index l.watches)
    ≡ list_all (λ w. not (is_of l.kind w) || same_text (scope_asked w).namespace (option_map (λ t. t.now) l.namespace)) l.watches
