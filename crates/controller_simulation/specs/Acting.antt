-- What a worker's turn becomes by a step.
use Rattle.std.specs.Prelude.{◌≡◌, ◌++◌, ◌∷◌, [], ℕ, List, Option, Some, false, true, string_bytes, slice_set}
use Rattle.std.specs.declared.cmp.Ordering.{Ordering}
use Rattle.object_keys.specs.PerKind.{each_kind}
use Rattle.keyed_board.specs.Boards.{KeyBoard}
use Rattle.keyed_queues.specs.Queues.{handed}
use Rattle.sim_cluster.specs.ClusterStates.{ClusterState}
use Rattle.controller_simulation.specs.Answers.{came_of}
use Rattle.controller_simulation.specs.Requests.{Comes, after_request}
use Rattle.controller_simulation.specs.Turns.{is_idle, turn_of}
use Rattle.controller_simulation.specs.declared.fates.Fate.{Fate}
use Rattle.controller_simulation.specs.declared.past.PastRequest.{PastRequest}
use Rattle.controller_simulation.specs.declared.turns.ControllerTurn.{ControllerTurn}

-- ---- one turn

-- a turn begins with the key that waits longest: nothing was looked at, and nothing asked
pub record Begins {K N : Type 0} {R : N → N → Ordering} (says : K → N) (b : KeyBoard R) (t : ControllerTurn K) : Type 0 where
  pub key : handed b.work ≡ Some (says t.key)
  pub looked : t.looked ≡ each_kind (λ k. false)
  pub past : t.past.items ≡ []

-- a turn goes on in which one more line was asked of a cluster, with this fate: it is noted, with what came of it
pub record HasAsked {K : Type 0} (f : Fate) (line : List ℕ) (w v : ClusterState) (t u : ControllerTurn K) : Type 0 where
  pub note : PastRequest
  pub past : u.past.items ≡ t.past.items ++ note ∷ []
  pub same : (u.key ≡ t.key) × (u.shown ≡ t.shown) × (u.looked ≡ t.looked)
  pub asked : string_bytes note.line ≡ line
  pub came : Comes f line w (came_of note.answer)
  pub after : v ≡ after_request f line w

-- ---- all turns

module _ {K : Type 0} where
  -- a worker that was in none is in such a turn, and all others are in what they were in
  abbrev pub Starts : (ControllerTurn K → Type 0) → ℕ → List (Option (ControllerTurn K)) → List (Option (ControllerTurn K)) → Type 0
  Starts Is worker before after = (t : ControllerTurn K) × Is t × (is_idle worker before ≡ true) × (after ≡ slice_set before worker (Some t))

  -- a worker's turn becomes such a one, and all others are in what they were in
  abbrev pub GoesOn : (ControllerTurn K → ControllerTurn K → Type 0) → ℕ → List (Option (ControllerTurn K)) → List (Option (ControllerTurn K)) → Type 0
  GoesOn Becomes worker before after =
      (t : ControllerTurn K) × (u : ControllerTurn K) × (turn_of worker before ≡ Some t) × Becomes t u × (after ≡ slice_set before worker (Some u))
