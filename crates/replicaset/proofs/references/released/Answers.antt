use Rattle.std.proofs.Common.{◌≡◌, IfOk, Bool, not, codes, ap, ◌∙◌, subst}
use Rattle.serde_json.specs.Data.{Data, Items}
use Rattle.serde_json.specs.View.{items_view}
use Rattle.serde_json.specs.Written.{items_have_float}
use Rattle.spec_api.specs.Metadata.{owner}
use Rattle.spec_reconcile.specs.MetadataEdits.{only, with_list}
use Rattle.spec_reconcile.specs.PodClaims.{is_to_controller}
use Rattle.owner_references.proofs.KeptItems.{kept_are, only-no_float}
use Rattle.replicaset.proofs.references.released.Goals as goal

abbrev stays : Data → Data → Bool
stays set r = not (is_to_controller set (owner r))

pub with_list-requires : goal.with_list-requires
with_list-requires c =
    let set = c.args.set.now.value in
    let none =
    ap items_have_float (kept_are (stays set) c.references.result.now c.in_ok-others.others.items c.in_ok-others.ensures)
    ∙ only-no_float (stays set) (items_view c.references.result.now) c.references.ensures.no_float in
    record { no_float = none }

pub returns : goal.returns
returns c =
    let set = c.args.set.now.value in
    let pod = c.args.pod.now.value in
    let is = kept_are (stays set) c.references.result.now c.in_ok-others.others.items c.in_ok-others.ensures ∙ ap (only (stays set)) c.references.ensures.items in
    subst (λ (ds : Items). IfOk c.with_list.result (λ o. o.value ≡ with_list (codes "ownerReferences") ds pod)) is c.with_list.ensures
