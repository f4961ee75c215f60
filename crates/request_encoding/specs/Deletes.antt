-- The body of a delete.
use Rattle.std.specs.Prelude.{ℕ, List, Option, Some, None, codes}
use Rattle.serde_json.specs.Data.{Data, string, object, Members, no_members, member}
use Rattle.spec_api.specs.declared.policies.Policy.{Policy}
use Rattle.spec_api.specs.declared.policies.Policy.TheVariants.{Orphan, Foreground, Background}
use Rattle.spec_api.specs.DeleteOptions.{Options}

abbrev pub policy_text : Policy → List ℕ
policy_text Orphan = codes "Orphan"
policy_text Foreground = codes "Foreground"
policy_text Background = codes "Background"

-- a text at a name, before other members, where there is one
abbrev pub text_before : List ℕ → Option (List ℕ) → Members → Members
text_before k None ms = ms
text_before k (Some t) ms = member k (string t) ms

abbrev pub preconditions : Options → Members
preconditions o = text_before (codes "resourceVersion") o.version (text_before (codes "uid") o.uid no_members)

abbrev pub policy_members : Option Policy → Members
policy_members None = no_members
policy_members (Some p) = member (codes "propagationPolicy") (string (policy_text p)) no_members

-- {"preconditions":{"resourceVersion":..,"uid":..},"propagationPolicy":..} (Kubernetes API reference, DeleteOptions)
abbrev pub options_data : Options → Data
options_data o = object (member (codes "preconditions") (object (preconditions o)) (policy_members o.policy))
