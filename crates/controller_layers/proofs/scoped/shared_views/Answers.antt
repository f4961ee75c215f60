use Rattle.std.proofs.Common.{◌∙◌, ◌++◌, ap, sym, map, append-nil}
use Rattle.std.proofs.lemmas.List.{drop_all}
use Rattle.std.specs.List.{filter}
use Rattle.selector.specs.Views.{view_of}
use Rattle.controller_watches.specs.Watched.{view_asked}
use Rattle.controller_layers.specs.Within.{shares_kind}
use Rattle.controller_layers.proofs.scoped.shared_views.Goals as goal

pub returns-clause-views : goal.returns-clause-views
returns-clause-views c =
    let ws = c.args.watches.now in
    let made = map view_of c.loop-watch.made.items in
    sym (append-nil made) ∙ ap (λ us. made ++ map view_asked (filter (shares_kind ws) us)) (sym (drop_all c.loop-watch.watch-index ws c.loop-watch-test.false)) ∙ c.loop-watch.invariant
