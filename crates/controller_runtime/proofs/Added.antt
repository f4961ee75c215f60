-- Keys that are added, publish after publish.
use Rattle.std.proofs.Common.{◌≡◌, List, [], ◌∷◌, ◌++◌, map, sym, ap, ◌∙◌, append_assoc, append-nil}
use Rattle.std.proofs.lemmas.List.{map-append}
use Rattle.std.proofs.lemmas.List.Elements.{All-nil, All-push}
use Rattle.std.specs.Prelude.{Some, Result, Ok, Err}
use Rattle.std.specs.declared.cmp.Ordering.{Ordering}
use Rattle.spec_client_go.specs.Shifts.{Shift}
use Rattle.object_keys.specs.declared.per_kind.PerKind.{PerKind}
use Rattle.spec_server.specs.Snapshots.{Snapshot}
use Rattle.keyed_board.specs.Steps.{Step, add}
use Rattle.shared_keyed_board.specs.Calls.{Sight, IsCall, Nothing, once_ok}
use Rattle.informer.specs.declared.listers.Lister.{Lister}
use Rattle.list_and_watch.specs.declared.causes.Cause.{Cause}
use Rattle.controller_runtime.specs.Handled.{all_given, AreGiven}
use Rattle.controller_runtime.specs.Runs.{AddsOwedKeys, OnlyAddsOwed}

module _ {K N : Type 0} (owes : PerKind Snapshot → Shift → List K → Type 0) (says : K → N) where
  pub none_added : (v : Sight N) → OnlyAddsOwed owes says v v
  none_added v = ([], sym (append-nil v.made), All-nil (AddsOwedKeys owes says))

  pub more_added : (R : N → N → Ordering) {X Y : Type 0} (r : Result X Y) (cause : Cause) (ls : PerKind Lister) (ss : List Shift) (keys given : List K) (u v w : Sight N)
      → AreGiven owes cause ls ss keys → given ≡ keys → IsCall R v (λ b. once_ok r (Some (add (map says given)))) Nothing w → OnlyAddsOwed owes says u v → OnlyAddsOwed owes says u w
  more_added R (Ok x) cause ls ss keys given u v w (maps, known, owed) is c a =
      let ns : List N = map says given in
      let step : List (Step N) = map add (ns ∷ []) in (
        a.0 ++ ns ∷ [],
        ap (λ (s : Sight N). s.made) c.knows ∙ ap (λ (l : List (Step N)). l ++ step) a.1 ∙ append_assoc u.made (map add a.0) step ∙ ap (λ (l : List (Step N)). u.made ++ l) (sym (map-append add a.0 (ns ∷ []))),
        All-push (AddsOwedKeys owes says) a.0 ns a.2 (ls, maps, all_given cause maps ss, keys, known, owed, ap (map says) is),
      )
  more_added R (Err e) cause ls ss keys given u v w are is c a = (a.0, ap (λ (s : Sight N). s.made) c.knows ∙ append-nil v.made ∙ a.1, a.2)
