-- Which objects of a kind a client lists and watches.
use Rattle.std.specs.Prelude.{ℕ, List, [], Bool, true, ◌&&◌, Option, Some, None, is_some, unwrap_or, IsUtf8, ⊤}
use Rattle.std.specs.Option.{option_map_or}
use Rattle.spec_api.specs.declared.kinds.Kind.{Kind}
use Rattle.spec_api.specs.History.{View}
use Rattle.spec_api.specs.Keys.{is_namespace}
use Rattle.spec_api.specs.Queries.{or_empty}
use Rattle.spec_api.specs.Selectors.{Requirement}
use Rattle.spec_api.specs.SelectorTexts.{selector_of_text}

-- those of one namespace or of all, and of these all or those that a selector's text selects (Kubernetes, Labels and Selectors)
pub record Scope : Type 0 where
  pub namespace : Option (List ℕ)
  pub selector : Option (List ℕ)

-- all objects
abbrev pub everything : Scope
everything = record { namespace = None; selector = None }

-- what the selector requires, if it is understood
abbrev pub required : Scope → Option (List Requirement)
required s = selector_of_text (or_empty s.selector)

-- a namespace can be called so, and the selector is understood
abbrev pub names_namespace : Scope → Bool
names_namespace s = option_map_or is_namespace s.namespace true

abbrev pub is_scope : Scope → Bool
is_scope s = names_namespace s && is_some (required s)

-- the view of a kind that is listed and watched
abbrev pub view_in : Scope → Kind → View
view_in s k = record { kind = k; namespace = s.namespace; labels = unwrap_or (required s) []; fields = [] }

-- a selector, where there is one, is a text
abbrev pub IsText : Option (List ℕ) → Type 0
IsText None = ⊤
IsText (Some t) = IsUtf8 t
