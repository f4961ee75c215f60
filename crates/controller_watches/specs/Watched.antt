-- What a controller watches, and why it cannot.
use Rattle.std.specs.Prelude.{◌≡◌, List, Bool, true, false, Contains, option_map}
use Rattle.spec_api.specs.History.{View}
use Rattle.spec_api.specs.declared.kinds.Kind.{Kind}
use Rattle.request_encoding.specs.Given.{Refuses, scope_with}
use Rattle.request_encoding.specs.Scopes.{Scope, is_scope, view_in}
use Rattle.request_encoding.specs.declared.faults.ScopeFault.{ScopeFault}
use Rattle.request_encoding.specs.declared.faults.ScopeFault.TheVariants.{Namespace, Selector, NoMemory}
use Rattle.controller_watches.specs.declared.start_fault.StartFault.{StartFault}
use Rattle.controller_watches.specs.declared.start_fault.StartFault.TheVariants as faults
use Rattle.controller_watches.specs.declared.watches.Watch.{Watch}

-- the scope that a watch asks for
abbrev pub scope_asked : Watch → Scope
scope_asked w = scope_with (option_map (λ t. t.now) w.namespace) (option_map (λ t. t.now) w.selector)

-- what a watch asks for: a kind, in a scope
abbrev pub asked_by : Watch → Kind × Scope
asked_by w = (w.kind, scope_asked w)

-- the objects that a watch asks for
abbrev pub view_asked : Watch → View
view_asked w = view_in (scope_asked w) w.kind

-- there is such a scope
abbrev pub IsScoped : Watch → Type 0
IsScoped w = is_scope (scope_asked w) ≡ true

-- one of the watches asks for what is no scope
abbrev pub RefusesOne : List Watch → ScopeFault → Type 0
RefusesOne ws fault = (w : Watch) × Contains ws w × Refuses (scope_asked w) fault

-- why there are no scopes as watches ask for: there is none for one of them, or there was no memory
abbrev pub RefusesScopes : List Watch → ScopeFault → Type 0
RefusesScopes ws Namespace = RefusesOne ws Namespace
RefusesScopes ws Selector = RefusesOne ws Selector
RefusesScopes ws NoMemory = Unit {0}

-- why watches are refused: there are no such scopes
abbrev pub RefusesWatches : List Watch → StartFault → Type 0
RefusesWatches ws (faults.Scope fault) = RefusesScopes ws fault

-- it is memory that was wanted
abbrev pub wants_memory : StartFault → Bool
wants_memory (faults.Scope NoMemory) = true
wants_memory (faults.Scope Namespace) = false
wants_memory (faults.Scope Selector) = false
