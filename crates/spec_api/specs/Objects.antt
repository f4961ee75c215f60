-- Objects and their keys, as JSON data.
pub mod Metadata
pub mod Schemas
pub mod Reading
pub mod SelectorValues
pub mod Defaults
pub mod Checks
pub mod NewObjects
pub mod Replacements
pub mod Refusals
use Rattle.serde_json.specs.Data.{Data}
use Rattle.spec_api.specs.declared.kinds.Kind.{Kind}

-- an object: its kind, and all that it says (Kubernetes, Objects In Kubernetes)
pub record Object : Type 0 where
  pub kind : Kind
  pub value : Data
