-- The steps that threads of a run make, one call after another.
use Rattle.std.proofs.Common.{◌≡◌, ℕ, List, [], ◌∷◌, ◌++◌, map, All, refl, sym, ap, ◌∙◌, subst, append_assoc, append-nil}
use Rattle.std.specs.Prelude.{Option, Some, None, IfSome, option_map, Result, Ok, Err, OnErr}
use Rattle.std.proofs.lemmas.List.Elements.{All-nil, All-append, All-push, All-map}
use Rattle.std.specs.declared.cmp.Ordering.{Ordering}
use Rattle.spec_client_go.specs.Shifts.{Shift}
use Rattle.spec_server.specs.Snapshots.{Snapshot}
use Rattle.object_keys.specs.declared.per_kind.PerKind.{PerKind}
use Rattle.informer.specs.declared.listers.Lister.{Lister}
use Rattle.baton.specs.Marks.{entries, marked}
use Rattle.keyed_queues.specs.Queues.{handed}
use Rattle.keyed_board.specs.Boards.{KeyBoard}
use Rattle.keyed_board.specs.Steps.{Step, take, finish, tick, add, shut_down}
use Rattle.keyed_board.specs.declared.outcome.Outcome.{Outcome}
use Rattle.keyed_board.specs.declared.outcome.Outcome.TheVariants.{Done}
use Rattle.shared_keyed_board.specs.Calls.{Sight, IsCall, once_ok, taking}
use Rattle.shared_keyed_board.specs.Entries.{steps_told}
use Rattle.shared_keyed_board.specs.Histories.{board, in_hand}
use Rattle.shared_keyed_board.specs.Passes.{AnyPass, IsPassAt, IsNewAt, key_in_hand, sight}
use Rattle.shared_keyed_board.specs.declared.boards.SharedKeyedBoard.{SharedKeyedBoard}
use Rattle.shared_keyed_board.specs.declared.entries.BoardEntry.{BoardEntry}
use Rattle.controller_runtime.specs.Reconciled.{OnlyTicks, Makes, Reconciles}
use Rattle.controller_runtime.specs.Runs.{IsRunStep, AreRunSteps, IsAtWork, IsBack, OnlyAddsOwed}
use Rattle.controller_runtime.specs.Runs.AreRunSteps.{all_so, let_go}

-- what is so is so of an error
pub on_err : {X Y : Type 0} (r : Result X Y) (P : Type 0) → P → OnErr r P
on_err (Ok x) P so = tt
on_err (Err e) P so = so

-- ---- what is so of each step

module _ {N : Type 0} (P : Step N → Type 0) where
  -- one step more, if there is one
  made_more : (es : List (Step N)) (name : ℕ) (o : Option (Step N)) → All P es → IfSome o P → All P (es ++ entries (marked name o))
  made_more es name None all one = subst (All P) (sym (append-nil es)) all
  made_more es name (Some e) all one = All-push P es e all one

  -- a call
  called : (R : N → N → Ordering) (v w : Sight N) (change : KeyBoard R → Option (Step N)) (Says : KeyBoard R → Type 0)
      → ((b : KeyBoard R) → Says b → IfSome (change b) P) → IsCall R v change Says w → All P v.made → All P w.made
  called R v w change Says good c all = subst (λ (s : Sight N). All P s.made) (sym c.knows) (made_more v.made v.name (change (board R c.history)) all (good (board R c.history) c.says))

  -- time that passes
  ticking : (moments : List ℕ) → ((now : ℕ) → P (tick now)) → All P (map tick moments)
  ticking moments ticks = All-map P tick moments (λ k d lt. ticks _)

module _ {K N : Type 0} (R : N → N → Ordering) (owes : PerKind Snapshot → Shift → List K → Type 0) (ends : K → PerKind Snapshot → Outcome → Type 0) (says : K → N) where
  -- a new pass
  pub begins : (d : SharedKeyedBoard K) (p : AnyPass K) → IsNewAt d p → IsAtWork owes ends says d p
  begins d p new = (
    new.0,
    ap (λ (es : List (BoardEntry K)). in_hand (steps_told says es)) new.2,
    subst (λ (es : List (BoardEntry K)). All (IsRunStep owes ends says) (steps_told says es)) (sym new.2) (All-nil (IsRunStep owes ends says)),
  )

  -- a take
  takes : (o : Option N) → IfSome (option_map take o) (IsRunStep owes ends says)
  takes None = tt
  takes (Some k) = tt

  takes_if : {X Y : Type 0} (r : Result X Y) (b : KeyBoard R) → IfSome (once_ok r (taking b)) (IsRunStep owes ends says)
  takes_if (Ok x) b = takes (handed b.work)
  takes_if (Err e) b = tt

  pub taken : {X Y : Type 0} {Says : KeyBoard R → Type 0} (r : Result X Y) (v w : Sight N) → IsCall R v (λ b. once_ok r (taking b)) Says w → All (IsRunStep owes ends says) v.made → All (IsRunStep owes ends says) w.made
  taken {Says = Says} r v w = called (IsRunStep owes ends says) R v w (λ b. once_ok r (taking b)) Says (λ b so. takes_if r b)

  -- time passes, and then a step is made
  making : (e : Step N) (v w : Sight N) → IsRunStep owes ends says e → Makes e v w → All (IsRunStep owes ends says) v.made → All (IsRunStep owes ends says) w.made
  making e v w one m all =
      let P : Step N → Type 0 = IsRunStep owes ends says in
      subst (All P) (sym m.1) (All-append P v.made (map tick m.0 ++ e ∷ []) all (All-push P (map tick m.0) e (ticking P m.0 (λ now. tt)) one))

  pub reconciling : (key : K) (ls : PerKind Lister) (v w : Sight N) → Reconciles ends says key ls v w → All (IsRunStep owes ends says) v.made → All (IsRunStep owes ends says) w.made
  reconciling key ls v w r = making (finish (says key) r.0) v w (key, ls, refl, r.1) r.2

  -- and the last key is given back as done
  pub letting_go : (n : N) (v w : Sight N) → Makes (finish n Done) v w → All (IsRunStep owes ends says) v.made → AreRunSteps owes ends says w.made
  letting_go n v w m all =
      let P : Step N → Type 0 = IsRunStep owes ends says in
      let_go (v.made ++ map tick m.0) n (All-append P v.made (map tick m.0) all (ticking P m.0 (λ now. tt))) (m.1 ∙ sym (append_assoc v.made (map tick m.0) (finish n Done ∷ [])))

  pub passing : (v w : Sight N) → OnlyTicks v w → All (IsRunStep owes ends says) v.made → All (IsRunStep owes ends says) w.made
  passing v w t all =
      let P : Step N → Type 0 = IsRunStep owes ends says in
      subst (All P) (sym t.1) (All-append P v.made (map tick t.0) all (ticking P t.0 (λ now. tt)))

  pub shutting : (v w : Sight N) → w.made ≡ v.made ++ shut_down ∷ [] → All (IsRunStep owes ends says) v.made → All (IsRunStep owes ends says) w.made
  shutting v w is all = let P : Step N → Type 0 = IsRunStep owes ends says in subst (All P) (sym is) (All-push P v.made shut_down all tt)

  pub adding : (v w : Sight N) → OnlyAddsOwed owes says v w → All (IsRunStep owes ends says) v.made → All (IsRunStep owes ends says) w.made
  adding v w a all =
      let P : Step N → Type 0 = IsRunStep owes ends says in
      subst (All P) (sym a.1) (All-append P v.made (map add a.0) all (All-map P add a.0 a.2))

  -- ---- passes

  -- one at work may come back
  pub comes_back : (d : SharedKeyedBoard K) (p : AnyPass K) → IsAtWork owes ends says d p → IsBack owes ends says d p
  comes_back d p w = (w.0, w.1, all_so w.2)

  -- one that is as free as before, after such steps
  pub goes_on : (d : SharedKeyedBoard K) (p q : AnyPass K) → IsAtWork owes ends says d p → IsPassAt d q → key_in_hand says q ≡ key_in_hand says p
      → (All (IsRunStep owes ends says) (sight says p).made → All (IsRunStep owes ends says) (sight says q).made) → IsAtWork owes ends says d q
  goes_on d p q w at same on = (at, same ∙ w.1, on w.2)
