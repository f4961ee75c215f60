use Rattle.std.proofs.Common.{rules, ◌≡◌, ◌∙◌, sym, ap, subst}
use Rattle.spec_api.specs.History.{viewed}
use Rattle.selector.specs.Views.{view_of}
use Rattle.store.specs.Chunks.{after_key}
use Rattle.store.specs.Seen.{members_seen}
use Rattle.store.proofs.AskedKeys.{asked-found, asked-all}
use Rattle.store.proofs.ranges.asked.Goals as goal

pub returns-clause-found : goal.returns-clause-found
returns-clause-found c =
    let v = view_of c.args.view.now in
    ap (λ es. viewed v (members_seen es)) c.range.ensures.span
    ∙ asked-found v (after_key c.args.after) c.in_ok-start.start c.as_ref.result c.in_ok-start.ensures (search rules) c.args.objects.now

pub returns-clause-all : goal.returns-clause-all
returns-clause-all c =
    λ plain.
    let v = view_of c.args.view.now in
    subst (λ es. viewed v (members_seen es) ≡ members_seen es) (sym c.range.ensures.span)
    (asked-all v (after_key c.args.after) c.in_ok-start.start c.as_ref.result c.in_ok-start.ensures (search rules) c.args.objects.now plain)
