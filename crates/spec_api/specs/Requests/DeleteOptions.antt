-- What a delete asks for beside its object (Kubernetes API reference, DeleteOptions).
use Rattle.std.specs.Prelude.{ℕ, List, [], ◌∷◌, ◌==◌, length, not, Option, Some, None, Result, Ok, Err, option_and_then, codes, if◌then◌else◌}
use Rattle.std.specs.Map.{lookup}
use Rattle.std.specs.Option.{option_map_or}
use Rattle.std.specs.Str.{bytes_eq}
use Rattle.serde_json.specs.Data.{Data}
use Rattle.serde_json.specs.Find.{get}
use Rattle.spec_api.specs.declared.policies.Policy.{Policy}
use Rattle.spec_api.specs.declared.policies.Policy.TheVariants.{Orphan, Foreground, Background}
use Rattle.spec_api.specs.declared.policies.StatedPolicy.{StatedPolicy}
use Rattle.spec_api.specs.declared.policies.StatedPolicy.TheVariants.{Nothing, Named, Unknown}
use Rattle.spec_api.specs.declared.refusals.Part.{Part}
use Rattle.spec_api.specs.declared.refusals.Part.TheVariants as part
use Rattle.spec_api.specs.declared.schemas.Shape.TheVariants.{Object}
use Rattle.spec_api.specs.declared.schemas.Schema.TheVariants as schema
use Rattle.spec_api.specs.Objects.Metadata.{text_at}
use Rattle.spec_api.specs.Objects.Reading.{is_body, fits}

-- the uid and the version that the object has to have, where they are named, and what becomes of its dependents
pub record Options : Type 0 where
  pub uid : Option (List ℕ)
  pub version : Option (List ℕ)
  pub policy : Option Policy

-- the policy with this name
abbrev pub policy_named : List ℕ → Option Policy
policy_named name =
    lookup (bytes_eq name) ((codes "Orphan", Orphan) ∷ (codes "Foreground", Foreground) ∷ (codes "Background", Background) ∷ [])

-- the policy that a text names, where there is one
abbrev pub stated_policy : Option (List ℕ) → StatedPolicy
stated_policy None = Nothing
stated_policy (Some name) = option_map_or Named (policy_named name) Unknown

-- the options with the policy that is named, or, where that is unknown, the part of the request that names it
abbrev pub options_with : Part → Option (List ℕ) → Option (List ℕ) → StatedPolicy → Result Options Part
options_with p uid version Nothing = Ok (record { uid = uid; version = version; policy = None })
options_with p uid version (Named policy) = Ok (record { uid = uid; version = version; policy = Some policy })
options_with p uid version Unknown = Err p

-- a text that the object has to have; an empty one names nothing
abbrev pub precondition : List ℕ → Data → Option (List ℕ)
precondition k d =
    option_and_then (λ t. if length t == 0 then None else Some t) (option_and_then (text_at k) (get (codes "preconditions") d))

-- a value read as options, or the part of the request that is at fault
abbrev pub options_of : Data → Result Options Part
options_of d =
    if not (is_body d) then Err part.Body
    else (if not (fits (Object schema.DeleteOptions) d) then Err part.Options
    else options_with part.Options (precondition (codes "uid") d) (precondition (codes "resourceVersion") d) (stated_policy (text_at (codes "propagationPolicy") d)))
