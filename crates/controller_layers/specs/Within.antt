-- Which changes are handed to a controller, where several watches name a kind.
use Rattle.std.specs.Prelude.{◌≡◌, ◌==◌, ◌||◌, ℕ, List, [], map, length, filter, Bool, true, false, not, nat_lt, Option, Some, None}
use Rattle.std.specs.List.{list_any}
use Rattle.serde_json.specs.Data.{Data}
use Rattle.spec_api.specs.History.{View, in_view}
use Rattle.spec_api.specs.Keys.{Key}
use Rattle.spec_api.specs.Kinds.{rank}
use Rattle.spec_client_go.specs.Shifts.{Shift}
use Rattle.controller_watches.specs.Watched.{view_asked}
use Rattle.controller_watches.specs.Joint.{is_of}
use Rattle.controller_watches.specs.declared.watches.Watch.{Watch}

-- whether several watches name the kind of this one
abbrev pub shares_kind : List Watch → Watch → Bool
shares_kind ws w = nat_lt 1 (length (filter (is_of w.kind) ws))

-- what those watches ask for
abbrev pub shared_views : List Watch → List View
shared_views ws = map view_asked (filter (shares_kind ws) ws)

abbrev pub has_object : View → Key → Option Data → Bool
has_object v k None = false
has_object v k (Some d) = in_view v k d

-- what was there before a change, or is there after it, is in a view
abbrev pub touches : Shift → View → Bool
touches s v = has_object v s.key s.old || has_object v s.key s.new

-- a change is handed on where it touches one of the views, and where none of these is of its kind
abbrev pub is_within : List View → Shift → Bool
is_within vs s = not (list_any (λ v. rank v.kind == rank s.key.kind) vs) || list_any (touches s) vs

abbrev pub OwesIf : {K : Type 0} → Bool → (Shift → List K → Type 0) → Shift → List K → Type 0
OwesIf true owes s keys = owes s keys
OwesIf false owes s keys = keys ≡ []

-- the keys that a change owes: none where it is not handed on, else those that the controller says
abbrev pub OwesWithin : {K : Type 0} → List View → (Shift → List K → Type 0) → Shift → List K → Type 0
OwesWithin vs owes s keys = OwesIf (is_within vs s) owes s keys
