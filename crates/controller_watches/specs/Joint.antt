-- What is followed of a kind that several watches name: the smallest single scope that holds all of them.
use Rattle.std.specs.Prelude.{◌≡◌, ◌==◌, ◌||◌, ℕ, List, [], ◌∷◌, Bool, true, false, not, Contains, Option, Some, None, option_map, if◌then◌else◌}
use Rattle.std.specs.List.{find, list_all}
use Rattle.std.specs.Str.{bytes_eq}
use Rattle.serde_json.specs.Data.{Data}
use Rattle.spec_api.specs.History.{in_view}
use Rattle.spec_api.specs.Keys.{Key}
use Rattle.spec_api.specs.Kinds.{kinds, rank}
use Rattle.spec_api.specs.declared.kinds.Kind.{Kind}
use Rattle.request_encoding.specs.Scopes.{Scope, view_in}
use Rattle.controller_watches.specs.Watched.{scope_asked, view_asked}
use Rattle.controller_watches.specs.declared.watches.Watch.{Watch}

-- whether there is the same text, or none, in both
abbrev pub same_text : Option (List ℕ) → Option (List ℕ) → Bool
same_text None None = true
same_text None (Some t) = false
same_text (Some s) None = false
same_text (Some s) (Some t) = bytes_eq s t

abbrev pub is_of : Kind → Watch → Bool
is_of k w = rank w.kind == rank k

-- what a part of their scopes says where all watches of a kind agree in it, by the first of them; where they do not, nothing
abbrev pub agreed : (Scope → Option (List ℕ)) → Kind → List Watch → Watch → Option (List ℕ)
agreed part k ws first =
    if list_all (λ w. not (is_of k w) || same_text (part (scope_asked w)) (part (scope_asked first))) ws then part (scope_asked first) else None

-- the scope of a kind: one namespace where its watches agree in it, else all; and one selector where they agree in it, else none
abbrev pub joint : Kind → List Watch → Option Scope
joint k ws = option_map (λ first. record { namespace = agreed (λ s. s.namespace) k ws first; selector = agreed (λ s. s.selector) k ws first }) (find (is_of k) ws)

abbrev pub followed_first : Kind → Option Scope → List (Kind × Scope) → List (Kind × Scope)
followed_first k None rest = rest
followed_first k (Some s) rest = (k, s) ∷ rest

abbrev pub joint_of : List Kind → List Watch → List (Kind × Scope)
joint_of [] ws = []
joint_of (k ∷ ks) ws = followed_first k (joint k ws) (joint_of ks ws)

-- a watch, if there is one
abbrev pub those : Option Watch → List Watch
those None = []
those (Some w) = w ∷ []

-- what is followed of all kinds: each that is named is followed once
abbrev pub all_joint : List Watch → List (Kind × Scope)
all_joint ws = joint_of kinds ws

-- ---- what follows

-- what one of the watches asks for, is in the scope that is followed of its kind
abbrev pub NothingIsMissed : Type 0
NothingIsMissed = (ws : List Watch) (w : Watch) (s : Scope) (k : Key) (d : Data) → Contains ws w → joint w.kind ws ≡ Some s → in_view (view_asked w) k d ≡ true → in_view (view_in s w.kind) k d ≡ true

-- a kind that one watch names is followed as that says
abbrev pub OneIsAsItWas : Type 0
OneIsAsItWas = (w : Watch) → joint w.kind (w ∷ []) ≡ Some (scope_asked w)
