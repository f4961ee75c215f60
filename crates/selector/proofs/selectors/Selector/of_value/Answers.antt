use Rattle.std.proofs.Common.{◌≡◌, ◌&&◌, ◌||◌, not, Bool, true, false, cond, List, Option, Some, Ok, Err, ok_or, sym, ap, ◌∙◌}
use Rattle.serde_json.specs.View.{view}
use Rattle.serde_json.specs.Written.{has_float}
use Rattle.spec_api.specs.Reading.{fits, tidied}
use Rattle.spec_api.specs.SelectorValues.{mistyped, unfit, requirements_in, selector_shape}
use Rattle.spec_api.specs.Selectors.{Requirement}
use Rattle.selector.specs.Seen.{requirements_of}
use Rattle.selector.proofs.selectors.Selector.of_value.Goals as goal

said : (fractions shaped : Bool) (found : Option (List Requirement)) (rs : List Requirement) → (not fractions && shaped) ≡ true → found ≡ Some rs
    → cond (fractions || not shaped) (Err mistyped) (ok_or found unfit) ≡ Ok rs
said true shaped found rs whole is = cc
said false true found rs whole is = ap (λ f. ok_or f unfit) is
said false false found rs whole is = cc

pub returns-in-Ok-clause-read : goal.returns-in-Ok-clause-read
returns-in-Ok-clause-read c =
    let d = view c.args.value.now in
    said (has_float d) (fits selector_shape d) (requirements_in (tidied selector_shape d)) (requirements_of c.in-Ok.requirements.items) (sym c.is_whole.ensures ∙ c.if-not-is_whole.false) c.in-Ok.ensures
