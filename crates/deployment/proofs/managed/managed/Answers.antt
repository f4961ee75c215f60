use Rattle.std.proofs.Common.{◌≡◌, ◌∙◌, IfOk, map, ap, subst, rules}
use Rattle.std.specs.Prelude.{filter}
use Rattle.spec_api.specs.History.{Entries}
use Rattle.reconcile_types.specs.Entries.{entry_of}
use Rattle.reconcile_types.specs.Hands.{members_of}
use Rattle.deployment.proofs.Found.{here, managed_here}
use Rattle.deployment.proofs.managed.managed.Goals as goal

pub returns : goal.returns
returns g c =
    let ns = c.args.namespace.now in
    let uid = c.in-Some.uid.now in
    let owner = c.args.owner.now.value in
    let members = members_of g.S.Seen.snapshot c.args.look.now in
    let shown : map entry_of c.as_slice.result.now ≡ map entry_of c.in_ok-owned.owned.items = ap (map entry_of) c.as_slice.ensures.value in
    let is = ap (filter (here ns uid)) (shown ∙ search rules) ∙ managed_here ns uid owner members (search rules) in
    subst (λ (ms : Entries). IfOk c.controlled.result (λ v. map entry_of v.items ≡ ms)) is c.controlled.ensures
