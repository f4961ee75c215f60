-- A desk and its passes.
use Rattle.std.specs.Prelude.{◌≡◌, ℕ, [], true, Some}
use Rattle.crossbeam_queue.specs.Passes.{Pass, view}
use Rattle.baton.specs.Batons.{IsOf, IsFree}
use Rattle.baton.specs.Marks.{entries}
use Rattle.baton.specs.declared.views.Known.{Known}
use Rattle.baton.specs.declared.views.PassView.{PassView}
use Rattle.spec_api.specs.History.{Entry}
use Rattle.spec_server.specs.Servers.{Server, opened_server, after_entries}
use Rattle.desk.specs.declared.desks.Desk.{Desk}

-- what a pass knows
abbrev pub known : Pass Server (PassView Server Entry) → Known Server Entry
known p = (view p).own

module _ {A : Type 0} where
  -- how many changes of each kind the desk's server records
  abbrev pub window_size : Desk A → ℕ
  window_size d = d.window

  -- a pass of this desk, which opened with windows of its size
  abbrev pub IsPassAt : Desk A → Pass Server (PassView Server Entry) → Type 0
  IsPassAt d p = IsFree d.baton p × ((known p).opening ≡ Some (opened_server (window_size d)))

  -- which has seen nothing and made nothing
  abbrev pub IsNewAt : Desk A → Pass Server (PassView Server Entry) → Type 0
  IsNewAt d p = IsPassAt d p × ((known p).seen ≡ []) × ((known p).made ≡ [])

  -- which holds the server that its history gives
  abbrev pub IsHolding : Desk A → Pass Server (PassView Server Entry) → Server → Type 0
  IsHolding d p s = IsOf d.baton p × ((known p).opening ≡ Some (opened_server (window_size d))) × ((known p).holds ≡ true) × (s ≡ after_entries (opened_server (window_size d)) (entries (known p).seen))
