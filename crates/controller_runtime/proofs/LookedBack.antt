-- Passes of a run, gathered.
use Rattle.std.proofs.Common.{◌≡◌, List, [], ◌∷◌, map, All, slice_index_or, sym, ap, ◌∙◌, subst}
use Rattle.std.specs.Prelude.{None, Result, Ok, Err, OnOk}
use Rattle.std.proofs.lemmas.List.Elements.{All-nil, All-cons, All-head, All-tail, All-map}
use Rattle.std.specs.declared.cmp.Ordering.{Ordering}
use Rattle.spec_client_go.specs.Shifts.{Shift}
use Rattle.spec_server.specs.Snapshots.{Snapshot}
use Rattle.object_keys.specs.declared.per_kind.PerKind.{PerKind}
use Rattle.keyed_board.specs.declared.outcome.Outcome.{Outcome}
use Rattle.shared_keyed_board.specs.Calls.{Sight, HasSeenAll}
use Rattle.shared_keyed_board.specs.Histories.{in_hand}
use Rattle.shared_keyed_board.specs.Passes.{AnyPass, IsPassAt, known, sight}
use Rattle.shared_keyed_board.specs.declared.boards.SharedKeyedBoard.{SharedKeyedBoard}
use Rattle.controller_runtime.specs.Runs.{AreRunSteps, IsBack, IsOfRun}

each : {X Y : Type 0} (P : Y → Type 0) (f : X → Y) (xs : List X) → All P (map f xs) → All (λ x. P (f x)) xs
each P f [] all = All-nil (λ x. P (f x))
each P f (x ∷ xs) all = All-cons (λ x. P (f x)) x xs (All-head P (f x) (map f xs) all) (each P f xs (All-tail P (f x) (map f xs) all))

module _ {K N : Type 0} (R : N → N → Ordering) (owes : PerKind Snapshot → Shift → List K → Type 0) (ends : K → PerKind Snapshot → Outcome → Type 0) (says : K → N) where
  -- a pass with no key in its hand, whose steps are those of a run
  abbrev HasRun : Sight N → Type 0
  HasRun v = (in_hand v.made ≡ None) × AreRunSteps owes ends says v.made

  pub still_back : (d : SharedKeyedBoard K) (ps qs : List (AnyPass K)) → map (sight says) qs ≡ map (sight says) ps → All (IsPassAt d) qs → All (IsBack owes ends says d) ps → All (IsBack owes ends says d) qs
  still_back d ps qs same at back =
      let was : All HasRun (map (sight says) ps) = All-map HasRun (sight says) ps (λ k e lt. ((back k e lt).1, (back k e lt).2)) in
      let now : All (λ (q : AnyPass K). HasRun (sight says q)) qs = each HasRun (sight says) qs (subst (All HasRun) (sym same) was) in
      λ k e lt. (at k e lt, (now k e lt).0, (now k e lt).1)

  of_run : (d : SharedKeyedBoard K) (v : Sight N) (q : AnyPass K) → HasSeenAll R v (sight says q) → IsBack owes ends says d q → IsOfRun owes ends says R v.seen (known q).name
  of_run d v q s back = record { happened = s.happened; steps = subst (AreRunSteps owes ends says) (sym s.theirs) back.2; free = ap in_hand s.theirs ∙ back.1 }

  all_of_run : (d : SharedKeyedBoard K) (v : Sight N) (qs : List (AnyPass K)) → All (HasSeenAll R v) (map (sight says) qs) → All (IsBack owes ends says d) qs → All (λ q. IsOfRun owes ends says R v.seen (known q).name) qs
  all_of_run d v qs seen back =
      let those : All (λ (q : AnyPass K). HasSeenAll R v (sight says q)) qs = each (HasSeenAll R v) (sight says) qs seen in
      λ k e lt. of_run d v (slice_index_or qs k e) (those k e lt) (back k e lt)

  pub all_of_run_if : {X Y : Type 0} (r : Result X Y) (d : SharedKeyedBoard K) (v : Sight N) (qs : List (AnyPass K)) → OnOk r (All (HasSeenAll R v) (map (sight says) qs)) → All (IsBack owes ends says d) qs
      → OnOk r (All (λ q. IsOfRun owes ends says R v.seen (known q).name) qs)
  all_of_run_if (Ok x) d v qs seen back = all_of_run d v qs seen back
  all_of_run_if (Err e) d v qs seen back = tt
