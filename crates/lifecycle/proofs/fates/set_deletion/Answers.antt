use Rattle.std.proofs.Common.{◌≡◌, OnOk, codes, false, subst, sym, ap, ◌∙◌}
use Rattle.serde_json.specs.Data.{Members, string, put}
use Rattle.spec_api.specs.Deletion.{with_deletion}
use Rattle.spec_api.specs.Metadata.{is_being_deleted}
use Rattle.lifecycle.proofs.Marks.{deletion_told}
use Rattle.lifecycle.proofs.fates.set_deletion.Goals as goal

pub returns-clause-metadata : goal.returns-clause-metadata
returns-clause-metadata c =
    let existing = c.args.existing.now.value in
    let raised = c.raise_generation.new.draft.metadata in
    let not_yet : is_being_deleted existing ≡ false = sym c.is_being_deleted.ensures ∙ c.if-is_being_deleted.false in
    let told = deletion_told c.args.kind c.args.moment existing c.args.draft.now.metadata raised not_yet c.requires c.in_ok-raise_generation.ensures.metadata in
    let set : put (codes "deletionTimestamp") (string c.as_str.result.now) raised ≡ with_deletion c.args.kind c.args.moment existing
    = ap (λ t. put (codes "deletionTimestamp") (string t) raised) c.as_str.ensures.text ∙ told in
    subst (λ (m : Members). OnOk c.set_text.result (c.set_text.new.self.metadata ≡ m)) set c.set_text.ensures.metadata
