-- A scope as it is given, and why there is none.
use Rattle.std.specs.Prelude.{◌≡◌, false, ℕ, List, Option, None}
use Rattle.spec_api.specs.Selectors.{Requirement}
use Rattle.request_encoding.specs.Scopes.{Scope, names_namespace, required}
use Rattle.request_encoding.specs.declared.faults.ScopeFault.{ScopeFault}
use Rattle.request_encoding.specs.declared.faults.ScopeFault.TheVariants.{Namespace, Selector, NoMemory}

abbrev pub scope_with : Option (List ℕ) → Option (List ℕ) → Scope
scope_with namespace selector = record { namespace = namespace; selector = selector }

-- a selector is refused as it is not understood, or for running out of memory
abbrev pub RefusesSelector : Option (List Requirement) → ScopeFault → Type 0
RefusesSelector required Namespace = ⊥
RefusesSelector required Selector = required ≡ None
RefusesSelector required NoMemory = Unit {0}

-- a scope is refused by its namespace, or by its selector
abbrev pub Refuses : Scope → ScopeFault → Type 0
Refuses s Namespace = names_namespace s ≡ false
Refuses s Selector = RefusesSelector (required s) Selector
Refuses s NoMemory = RefusesSelector (required s) NoMemory
