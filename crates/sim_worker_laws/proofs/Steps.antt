-- What the steps of a control plane do.
use Rattle.std.proofs.Common.{◌≡◌, ◌<◌, inl, inr, ◌+◌, ℕ, zero, suc, List, [], ◌∷◌, length, map, Bool, true, false, cond, Option, Some, None, slice_get, slice_index_or, refl, sym, ap, ◌∙◌, arith}
use mathlib.Core.Bool.{true≢false}
use Rattle.std.specs.FinSet as set
use Rattle.spec_api.specs.declared.kinds.Kind.{Kind}
use Rattle.spec_api.specs.declared.kinds.Kind.TheVariants.{ConfigMap, Pod, ReplicaSet, Deployment}
use Rattle.spec_client_go.specs.Delays.{due}
use Rattle.spec_client_go.specs.WorkQueues.{WorkKey, handed}
use Rattle.spec_client_go.specs.Boards.{may_tick, passed, all_lowered}
use Rattle.spec_laws.specs.DueLaws.{IsDue}
use Rattle.spec_laws.proofs.DueKeys.{have_come}
use Rattle.spec_sim.specs.Clusters.{Cluster, history, follower, with_follower, request, compact, moves, restart}
use Rattle.spec_sim.specs.Followers as followers
use Rattle.spec_sim.specs.Followers.{Follower, Notification}
use Rattle.spec_sim.specs.Moves as moving
use Rattle.spec_sim.specs.Moves.{Moved, answers_after, move_by}
use Rattle.spec_sim.specs.ControlPlanes.{ControlPlane, Step, Stepped, in_cluster, handle, works, tick, opened, client, handle_in, after_action, closed, step_in, step, run}
use Rattle.spec_sim.specs.Managers as managers
use Rattle.spec_sim.specs.Managers.{Manager, Acted, Delivery, act, take_key, carry_out}
use Rattle.spec_sim.specs.NextSteps.{first, NextStep, next, look, ask_satisfied, read, expect, issue, finish}
use Rattle.spec_sim.specs.Outcomes as outcomes
use Rattle.spec_sim.specs.Outcomes.{Outcome, of_cluster, was_open}
use Rattle.spec_sim.specs.PodObservations.{observations_by}
use Rattle.spec_sim.specs.Turns.{Turn}
use Rattle.sim_worker_laws.specs.OwedLaws.{IsAmong, unhandled, is_dirty}
use Rattle.sim_worker_laws.specs.StepLaws.{ClosedStepsChangeNothing, OpenStepsAreCounted, RestartsBeginAnew, FirstListsShowNothing, TicksAddWhatIsDue}
use Rattle.sim_worker_laws.proofs.Acting.{by_act}
use Rattle.sim_worker_laws.proofs.Counting.{by_counted}
use Rattle.sim_worker_laws.proofs.Dirty.{all-dirty}
use Rattle.sim_worker_laws.proofs.Moved.{by_moved}
use Rattle.sim_worker_laws.proofs.Owed.{open_run}

-- ---- steps that are not open

abbrev IsStill : ControlPlane → Stepped → Type 0
IsStill p s = was_open s.outcome ≡ false → s.plane ≡ p

-- a step that was open is not one that was not
was : {A : Type 0} → true ≡ false → A
was e = absurd (true≢false e)

same_follower : (k : Kind) (c : Cluster) → with_follower k (follower k c) c ≡ c
same_follower ConfigMap c = refl
same_follower Pod c = refl
same_follower ReplicaSet c = refl
same_follower Deployment c = refl

still_move : (p : ControlPlane) (k : Kind) (m : Moved) → (was_open (of_cluster m.outcome) ≡ false → m.follower ≡ follower k p.cluster) → was_open (of_cluster m.outcome) ≡ false
    → record p { cluster = with_follower k m.follower p.cluster } ≡ p
still_move p k m is e = ap (λ f. record p { cluster = with_follower k f p.cluster }) (is e) ∙ ap (λ c. record p { cluster = c }) (same_follower k p.cluster)

move_still : (k : Kind) (c : Cluster) (m : moving.Move) → (let x = move_by k (answers_after k c.session.window (history c)) (follower k c) m in was_open (of_cluster x.outcome) ≡ false → x.follower ≡ follower k c)
move_still k c m =
    by_moved (λ (x : Moved). was_open (of_cluster x.outcome) ≡ false → x.follower ≡ follower k c) k (answers_after k c.session.window (history c)) (follower k c) (λ e. refl) (λ l e. was e) (λ e. was e)
    (λ l r e. was e) (λ e. was e) (λ l n e. was e) (λ r l e. was e) (λ e. was e) (λ e. was e) m

still_act : (p : ControlPlane) (w : ℕ) (a : managers.Action) → IsStill p (after_action (act (client p.cluster) w a p.manager) p)
still_act p w a =
    by_act (λ (x : Acted). IsStill p (after_action x p)) (client p.cluster) w a p.manager (λ e. refl) (λ here synced. takes (handed p.manager.board.work)) (λ t d here. goes_on t d (next t))
  where
    takes : (o : Option WorkKey) → IsStill p (after_action (take_key w o p.manager) p)
    takes None e = was e
    takes (Some k) e = was e

    goes_on : (t : Turn) (d : Delivery) (n : NextStep) → IsStill p (after_action (carry_out (client p.cluster) w t d n p.manager) p)
    goes_on t d (look k) e = was e
    goes_on t d ask_satisfied e = was e
    goes_on t d (read k) e = was e
    goes_on t d (expect x) e = was e
    goes_on t d (issue x) e = was e
    goes_on t d finish e = was e

still_handle : (k : Kind) (ns : List Notification) (p : ControlPlane) → IsStill p (handle_in k ns p)
still_handle k [] p e = refl
still_handle k (n ∷ ns) p e = was e

still_tick : (x : Bool) (n : ℕ) (p : ControlPlane)
    → IsStill p
    (cond x (record { plane = record p { manager = record p.manager { board = cond x (passed (p.manager.board.time + n) p.manager.board) p.manager.board } }; outcome = outcomes.time (p.manager.board.time + n) })
    (closed p))
still_tick true n p e = was e
still_tick false n p e = refl

still_in : (p : ControlPlane) (s : Step) → IsStill p (step_in p s)
still_in p (in_cluster (request t)) e = was e
still_in p (in_cluster (compact r)) e = was e
still_in p (in_cluster (moves k m)) e =
    still_move p k (move_by k (answers_after k p.cluster.session.window (history p.cluster)) (follower k p.cluster) m) (move_still k p.cluster m) e
still_in p (in_cluster restart) e = was e
still_in p (handle k) e = still_handle k (unhandled k p) p e
still_in p (works w a) e = still_act p w a e
still_in p (tick n) e = still_tick (may_tick n p.manager.board) n p e

pub closed_still : ClosedStepsChangeNothing
closed_still p s e = by (was_open (step_in p s).outcome) refl e
  where
    by : (b : Bool) → was_open (step_in p s).outcome ≡ b
        → was_open (cond b (record (step_in p s) { plane = record (step_in p s).plane { taken = (step_in p s).plane.taken + 1 } }) (step_in p s)).outcome ≡ false
        → (cond b (record (step_in p s) { plane = record (step_in p s).plane { taken = (step_in p s).plane.taken + 1 } }) (step_in p s)).plane ≡ p
    by true is e = was (sym is ∙ e)
    by false is e = still_in p s e

-- ---- steps that are open

taken_handle : (k : Kind) (ns : List Notification) (p : ControlPlane) → (handle_in k ns p).plane.taken ≡ p.taken
taken_handle k [] p = refl
taken_handle k (n ∷ ns) p = refl

taken_tick : (x : Bool) (n : ℕ) (p : ControlPlane)
    → (cond x (record { plane = record p { manager = record p.manager { board = cond x (passed (p.manager.board.time + n) p.manager.board) p.manager.board } }; outcome = outcomes.time (p.manager.board.time + n) })
    (closed p)).plane.taken
    ≡ p.taken
taken_tick true n p = refl
taken_tick false n p = refl

taken_in : (p : ControlPlane) (s : Step) → (step_in p s).plane.taken ≡ p.taken
taken_in p (in_cluster s) = refl
taken_in p (handle k) = taken_handle k (unhandled k p) p
taken_in p (works w a) = refl
taken_in p (tick n) = taken_tick (may_tick n p.manager.board) n p

pub open_counted : OpenStepsAreCounted
open_counted p s e = by (was_open (step_in p s).outcome) refl e
  where
    by : (b : Bool) → was_open (step_in p s).outcome ≡ b
        → was_open (cond b (record (step_in p s) { plane = record (step_in p s).plane { taken = (step_in p s).plane.taken + 1 } }) (step_in p s)).outcome ≡ true
        → (cond b (record (step_in p s) { plane = record (step_in p s).plane { taken = (step_in p s).plane.taken + 1 } }) (step_in p s)).plane.taken ≡ p.taken + 1
    by true is e = ap (λ n. n + 1) (taken_in p s)
    by false is e = was (sym e ∙ is)

-- ---- restarts

none_left : (os : List (Option Turn)) (n : ℕ) (t : Turn) → slice_get (map (λ t. None) os) n ≡ Some (Some t) → ⊥
none_left [] n t e = cc
none_left (o ∷ os) zero t e = cc
none_left (o ∷ os) (suc n) t e = none_left os n t e

as_many : (os : List (Option Turn)) → (let freed : List (Option Turn) = map (λ t. None) os in length freed ≡ length os)
as_many [] = refl
as_many (o ∷ os) = ap suc (as_many os)

pub restarts_anew : RestartsBeginAnew
restarts_anew p = (refl, refl, refl, as_many p.manager.turns, refl, none_left p.manager.turns, begins)
  where
    begins : (k : Kind) → follower k (step p (in_cluster restart)).plane.cluster ≡ followers.begun p.cluster.initial k
    begins ConfigMap = refl
    begins Pod = refl
    begins ReplicaSet = refl
    begins Deployment = refl

-- ---- changes of the first list

shows_nothing : (k : Kind) (n : Notification) (p : ControlPlane) (ns : List Notification) → first ns ≡ Some n → n.is_in_initial_list ≡ true
    → (handle_in k ns p).plane.manager.board.expected ≡ p.manager.board.expected
shows_nothing k n p [] e initial = cc
shows_nothing k n p (m ∷ ns) e initial =
    let is : n ≡ m = cc in
    ap (λ b. all_lowered (cond b [] (observations_by m.shift.key.kind m.shift)) p.manager.board.expected) (ap (λ (x : Notification). x.is_in_initial_list) (sym is) ∙ initial)

pub first_shows_nothing : FirstListsShowNothing
first_shows_nothing p k n e initial =
    by_counted (λ c m o. m.board.expected ≡ p.manager.board.expected) (step_in p (handle k)) (shows_nothing k n p (unhandled k p) e initial)

-- ---- time

is_among : {A : Type 0} (xs : List A) (x : A) (n : ℕ) → n < length xs → slice_index_or xs n x ≡ x → IsAmong x xs
is_among [] x n low e = absurd (omega arith)
is_among (y ∷ xs) x zero low e = inl e
is_among (y ∷ xs) x (suc n) low e = inr (is_among xs x n (omega arith) e)

ticks : (x : Bool) (n : ℕ) (p : ControlPlane) → x ≡ true → p.manager.board.work.is_shut ≡ false
    → (let s = cond x (record { plane = record p { manager = record p.manager { board = cond x (passed (p.manager.board.time + n) p.manager.board) p.manager.board } }; outcome = outcomes.time (p.manager.board.time + n) }) (closed p) in
    let b = p.manager.board in
    (s.plane.manager.board.time ≡ b.time + n) × ((k : WorkKey) → IsDue (b.time + n) b.delays k → is_dirty k s.plane ≡ true))
ticks false n p e unshut = cc
ticks true n p e unshut =
    let b = p.manager.board in
    (refl, λ k is. let at = (have_come (b.time + n) b.delays k).1 is in all-dirty (due (b.time + n) b.delays) b.work k unshut (is_among (due (b.time + n) b.delays) k at.0 at.1 at.2))

pub ticks_add : TicksAddWhatIsDue
ticks_add window workers initial steps n may =
    let p = run (opened window workers initial) steps in
    by_counted (λ c m o. (m.board.time ≡ p.manager.board.time + n) × ((k : WorkKey) → IsDue (p.manager.board.time + n) p.manager.board.delays k → set.contains m.board.work.dirty k ≡ true))
    (step_in p (tick n)) (ticks (may_tick n p.manager.board) n p may (open_run (opened window workers initial) steps refl))
