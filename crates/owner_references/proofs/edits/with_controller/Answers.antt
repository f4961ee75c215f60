use Rattle.std.proofs.Common.{◌≡◌, IfOk, codes, ap, ◌∙◌, subst}
use Rattle.serde_json.specs.Data.{Data, Items}
use Rattle.serde_json.specs.View.{view, items_view}
use Rattle.serde_json.specs.Written.{items_have_float}
use Rattle.spec_reconcile.specs.MetadataEdits.{references, with_last, with_list}
use Rattle.owner_references.proofs.KeptItems.{grown_are, with_last-no_float}
use Rattle.owner_references.proofs.edits.with_controller.Goals as goal

pub with_list-requires : goal.with_list-requires
with_list-requires c =
    let v = c.in_ok-controller_reference.field-0 in
    let none =
    ap items_have_float (grown_are c.references.result.now c.in_ok-references.references.items c.push.new.self.items v c.in_ok-push.ensures.items c.in_ok-references.ensures)
    ∙ with_last-no_float (view v) (items_view c.references.result.now) c.in_ok-controller_reference.ensures.no_float c.references.ensures.no_float in
    record { no_float = none }

pub returns : goal.returns
returns c =
    let v = c.in_ok-controller_reference.field-0 in
    let object = c.args.object.now.value in
    let is =
    grown_are c.references.result.now c.in_ok-references.references.items c.push.new.self.items v c.in_ok-push.ensures.items c.in_ok-references.ensures
    ∙ ap (with_last (view v)) c.references.ensures.items ∙ ap (λ (e : Data). with_last e (references object)) c.in_ok-controller_reference.ensures.value in
    subst (λ (ds : Items). IfOk c.with_list.result (λ o. o.value ≡ with_list (codes "ownerReferences") ds object)) is c.with_list.ensures
