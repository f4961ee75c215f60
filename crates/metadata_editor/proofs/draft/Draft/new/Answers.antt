use Rattle.std.proofs.Common.{◌≡◌, false, codes, refl, ap, ◌∙◌}
use Rattle.serde_json.specs.Data.{null, object, put}
use Rattle.serde_json.specs.View.{view, members_view}
use Rattle.serde_json.specs.Written.{members_have_float}
use Rattle.spec_api.specs.Metadata.{with_metadata}
use Rattle.serde_json.specs.Find.{get_member}
use Rattle.spec_api.specs.Values.{members_of}
use Rattle.spec_api.proofs.NoFloatsRead.{members_have_float-put}
use Rattle.json_values.proofs.NoFloats.{members_of-no_float, inner_of-no_float, found_no_float}
use Rattle.json_values.proofs.PutAndTaken.{put-put, object-members_of, members_of-found_or_null}
use Rattle.metadata_editor.proofs.draft.Draft.new.Goals as goal

pub invariant_of-result : goal.invariant_of-result
invariant_of-result c =
    let ms = members_view c.into_members-rest.result.entries in
    let whole : members_have_float ms ≡ false = ap members_have_float c.into_members-rest.ensures ∙ members_of-no_float (view c.into_value.result) c.into_value.ensures.no_float in (
      ap members_have_float c.in_ok-take.ensures.left ∙ members_have_float-put (codes "metadata") null ms refl whole,
      ap members_have_float (c.into_members-metadata.ensures ∙ ap members_of c.in_ok-take.ensures.taken ∙ members_of-found_or_null (codes "metadata") ms) ∙ inner_of-no_float (get_member (codes "metadata") ms) (found_no_float (codes "metadata") ms whole),
    )

pub returns-clause-rest : goal.returns-clause-rest
returns-clause-rest c =
    λ m. let ms = members_view c.into_members-rest.result.entries in
    let existing = view c.into_value.result in
    ap (λ ns. object (put (codes "metadata") (object m) ns)) c.in_ok-take.ensures.left ∙ ap object (put-put (codes "metadata") (object m) null ms)
    ∙ ap (λ ns. object (put (codes "metadata") (object m) ns)) c.into_members-rest.ensures ∙ ap (with_metadata m) (object-members_of existing c.into_value.ensures.object) ∙ ap (with_metadata m) c.into_value.ensures.value
