-- No look of a turn is older than what was handled before its key was taken.
use Rattle.std.proofs.Common.{◌≡◌, ◌≤◌, ℕ, Option, ap, arith}
use Rattle.object_keys.specs.PerKind.{of_kind}
use Rattle.spec_api.specs.declared.kinds.Kind.{Kind}
use Rattle.spec_server.specs.Snapshots.{Snapshot}
use Rattle.control_desk.proofs.Highest.{highest}
use Rattle.control_desk.specs.Hands.{handled}
use Rattle.manager_worker.specs.Older.{LooksAreNotOlder}

module _ {L : Type 0} (shows : L → Kind → Option Snapshot → L → Type 0) where
  pub not_older : LooksAreNotOlder shows
  not_older h taken k r t u before after next has looks =
      let all : r ≤ of_kind k (handled h) = (highest h k).each r has in
      let same : of_kind k taken.handled ≡ of_kind k (handled h) = ap (of_kind k) next.1 in
      let shown = looks.2 in
      (looks.0, looks.1, omega (arith, all, same, shown), looks.3)
