use Rattle.std.proofs.Common.{is_some, ap, ◌∙◌}
use Rattle.serde_json.specs.Find.{as_object}
use Rattle.serde_json.specs.View.{view}
use Rattle.serde_json.specs.Written.{has_float}
use Rattle.defaults.proofs.NoFloats.{no_float-defaulted, object-defaulted}
use Rattle.defaults.proofs.spec_defaults.defaults.Goals as goal

pub from_whole-requires-clause-no_float : goal.from_whole-requires-clause-no_float
from_whole-requires-clause-no_float c = ap has_float c.in_ok-value.ensures ∙ no_float-defaulted c.kind-kind.result (view c.into_value.result) c.into_value.ensures.no_float

pub from_whole-requires-clause-object : goal.from_whole-requires-clause-object
from_whole-requires-clause-object c = ap (λ d. is_some (as_object d)) c.in_ok-value.ensures ∙ object-defaulted c.kind-kind.result (view c.into_value.result) c.into_value.ensures.object
