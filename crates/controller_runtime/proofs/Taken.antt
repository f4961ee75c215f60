-- What a publish adds to the board.
use Rattle.std.proofs.Common.{◌≡◌, ℕ, List, Some, map, true, false, refl, subst}
use Rattle.std.specs.declared.cmp.Ordering.{Ordering}
use Rattle.spec_client_go.specs.Shifts.{Shift}
use Rattle.spec_server.specs.Snapshots.{Snapshot}
use Rattle.informer.specs.declared.listers.Lister.{Lister}
use Rattle.list_and_watch.specs.declared.causes.Cause.{Cause}
use Rattle.object_keys.specs.declared.per_kind.PerKind.{PerKind}
use Rattle.keyed_board.specs.Steps.{add}
use Rattle.shared_keyed_board.specs.Calls.{Sight, IsCall, Nothing}
use Rattle.controller_runtime.specs.Handled.{is_other, AreGiven, AddsGiven, Takes}

module _ {K N : Type 0} (R : N → N → Ordering) (says : K → N) (owes : PerKind Snapshot → Shift → List K → Type 0) where
  adds : (cause : Cause) (ls : PerKind Lister) (ss : List Shift) (keys given : List K) (v w : Sight N) → AreGiven owes cause ls ss keys → given ≡ keys → IsCall R v (λ b. Some (add (map says given))) Nothing w
      → AddsGiven R says owes cause ls ss v w
  adds cause ls ss keys given v w are is c = (keys, are, subst (λ ks. IsCall R v (λ b. Some (add (map says ks))) Nothing w) is c)

  pub taken : (cause : Cause) (revision : ℕ) (ss : List Shift) (objects : Snapshot) (ls : PerKind Lister) (keys given : List K) (v w : Sight N) → is_other revision objects ss ≡ false
      → AreGiven owes cause ls ss keys → given ≡ keys → IsCall R v (λ b. Some (add (map says given))) Nothing w → Takes R says owes cause revision ss objects ls v w objects.revision
  taken cause revision ss objects ls keys given v w its are is c = record { other = λ no. absurd (cc); same = λ _. (adds cause ls ss keys given v w are is c, refl) }

  pub left : (cause : Cause) (revision : ℕ) (ss : List Shift) (objects : Snapshot) (ls : PerKind Lister) (v : Sight N) → is_other revision objects ss ≡ true → Takes R says owes cause revision ss objects ls v v revision
  left cause revision ss objects ls v others = record { other = λ _. (refl, refl); same = λ no. absurd (cc) }
