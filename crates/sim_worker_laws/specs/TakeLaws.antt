-- How a worker's turn begins.
use Rattle.std.specs.Prelude.{◌≡◌, ◌⊎◌, ℕ, List, ◌∷◌, true, Some, None, slice_get, slice_set}
use Rattle.std.specs.FinSet as set
use Rattle.spec_client_go.specs.WorkQueues.{WorkKey}
use Rattle.spec_sim.specs.ControlPlanes.{ControlPlane, Step, works, have_all_listed, step}
use Rattle.spec_sim.specs.Managers.{Manager, take}
use Rattle.spec_sim.specs.Outcomes.{took}
use Rattle.spec_sim.specs.Turns.{Turn, begun}

-- a worker has a turn in its hands, or none
abbrev pub HasInHand : ℕ → Turn → ControlPlane → Type 0
HasInHand w t p = slice_get p.manager.turns w ≡ Some (Some t)

abbrev pub HasNothing : ℕ → ControlPlane → Type 0
HasNothing w p = slice_get p.manager.turns w ≡ Some None

-- the key at the head of the queue leaves the queue, and the worker begins a turn of it: the key is being processed, and no longer to be processed
pub record TakesTheHead (w : ℕ) (k : WorkKey) (rest : List WorkKey) (before after : Manager) : Type 0 where
  pub head : before.board.work.queue ≡ k ∷ rest
  pub queue : after.board.work.queue ≡ rest
  pub processing : after.board.work.processing ≡ set.insert before.board.work.processing k
  pub dirty : after.board.work.dirty ≡ set.remove before.board.work.dirty k
  pub turns : after.turns ≡ slice_set before.turns w (Some (begun k))

-- where a worker that has nothing in hand takes a key, each kind has been published, and a key is queued, it takes the head of the queue, and that
-- is told
abbrev pub TakesGiveTheHead : Type 0
TakesGiveTheHead =
    (p : ControlPlane) (w : ℕ) (k : WorkKey) (rest : List WorkKey) → HasNothing w p → have_all_listed p.cluster ≡ true → p.manager.board.work.queue ≡ k ∷ rest
    → TakesTheHead w k rest p.manager (step p (works w take)).plane.manager × ((step p (works w take)).outcome ≡ took w (Some k))

-- nothing else gives a turn: a worker that has one after a step had one of that key before it, or had none, and took the head of the queue in it
abbrev pub OnlyTakesGive : Type 0
OnlyTakesGive =
    (p : ControlPlane) (s : Step) (w : ℕ) (t : Turn) → HasInHand w t (step p s).plane
    → ((u : Turn) × HasInHand w u p × (u.work_key ≡ t.work_key))
    ⊎ (HasNothing w p × (s ≡ works w take) × ((rest : List WorkKey) × TakesTheHead w t.work_key rest p.manager (step p s).plane.manager) × (t ≡ begun t.work_key))
