use Rattle.std.proofs.Common.{◌≡◌, true, false, ap, ◌∙◌, rules}
use Rattle.serde_json.specs.View.{view}
use Rattle.serde_json.specs.Written.{has_float}
use Rattle.spec_api.specs.declared.schemas.Shape.TheVariants.{Object}
use Rattle.spec_api.specs.declared.schemas.Schema.TheVariants.{Root}
use Rattle.spec_api.specs.Reading.{is_body, filled, tidied}
use Rattle.spec_api.proofs.NoFloatsRead.{has_float-tidied, has_float-filled, has_float-is_body}
use Rattle.meta.proofs.Tidied.{is_object, is_object-read}
use Rattle.meta.proofs.reading.read.Goals as goal

pub returns-clause-whole : goal.returns-clause-whole
returns-clause-whole c =
    let body : is_body (view c.args.value) ≡ true = search rules in
    let tidy_whole : has_float (view c.in_ok-tidy_value.tidy_value) ≡ false =
    ap has_float c.in_ok-tidy_value.ensures ∙ has_float-tidied _ (view c.args.value) (has_float-is_body (view c.args.value) body) in
    ap has_float c.in_ok-fill.ensures ∙ has_float-filled c.args.kind (view c.in_ok-tidy_value.tidy_value) tidy_whole

pub returns-clause-object : goal.returns-clause-object
returns-clause-object c =
    let body : is_body (view c.args.value) ≡ true = search rules in
    let same : view c.in_ok-fill.field-0 ≡ filled c.args.kind (tidied (Object (Root c.args.kind)) (view c.args.value)) = c.in_ok-fill.ensures ∙ ap (filled c.args.kind) c.in_ok-tidy_value.ensures in
    ap is_object same ∙ is_object-read c.args.kind (Object (Root c.args.kind)) (view c.args.value) body
