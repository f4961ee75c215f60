-- A world stands for the control plane that was opened, after the steps that were taken.
use Rattle.std.proofs.Common.{◌≡◌, sym, ap, subst, ◌∙◌, ℕ, List, [], ◌∷◌, Result, Ok, Err, IfOk, OnOk, append-nil, append_assoc}
use Rattle.spec_sim.specs.declared.initial_syncs.InitialSync.{InitialSync}
use Rattle.spec_sim.specs.ControlPlanes as planes
use Rattle.spec_sim.specs.ControlPlanes.{ControlPlane, Step}
use Rattle.spec_sim.specs.Outcomes.{Outcome}
use Rattle.sim_worker_laws.proofs.IssuedRuns.{run_one}
use Rattle.world.specs.Taken.{Taken, begun, opening, plane, followed, followed_by_all}
use Rattle.world.proofs.StoredStood as stored
use Rattle.world.specs.Standing.{StandsFor, Stands}
use Rattle.world.specs.StoredStates as states
use Rattle.world.specs.StoredStates.{StoredState}
use Rattle.world.specs.WorldStates.{WorldState, Stepped, opened, step, run}

-- the world stands for the control plane, and the same is told of both
abbrev Goes : Stepped → planes.Stepped → Type 0
Goes v q = StandsFor v.world q.plane × (v.outcome ≡ q.outcome)

pub stands_for_begun : (window workers : ℕ) (initial : InitialSync) → StandsFor (opened window workers initial) (planes.opened window workers initial)
stands_for_begun window workers initial = stored.stands_for_begun window workers initial

pub step_follows : (w : WorldState) (p : ControlPlane) (s : Step) → StandsFor w p → Goes (step w s) (planes.step p s)
step_follows w p s is = stored.step_follows w.stored p s is

-- ---- what it stands for

pub stands_opened : (window workers : ℕ) (initial : InitialSync) → Stands (opened window workers initial)
unfolding Stands
stands_opened window workers initial = stands_for_begun window workers initial

pub stood : (w : WorldState) (s : Step) → Stands w → Stands (step w s).world
unfolding Stands
stood w s is = subst (StandsFor (step w s).world) (sym (run_one (opening w.trace) w.trace.steps s)) (step_follows w (plane w.trace) s is).0

-- what is stored, and what was noted
pub stands_made : (window workers : ℕ) (initial : InitialSync) (v : StoredState) (t : Taken) → v ≡ states.opened window workers initial → t ≡ begun window workers initial → Stands (record { stored = v; trace = t })
stands_made window workers initial v t made noted = subst Stands (λ i. record { stored = sym made i; trace = sym noted i }) (stands_opened window workers initial)

pub stands_taken : (w : WorldState) (s : Step) (v : StoredState) (t : Taken) → v ≡ (states.step w.stored s).world → t ≡ followed w.trace s → Stands w → Stands (record { stored = v; trace = t })
stands_taken w s v t made noted is = subst Stands (λ i. record { stored = sym made i; trace = sym noted i }) (stood w s is)

pub run_stood : (w : WorldState) (ss : List Step) → Stands w → Stands (run w ss)
run_stood w [] is = is
run_stood w (s ∷ ss) is = run_stood (step w s).world ss (stood w s is)

-- ---- the steps that were taken

pub run_traced : (w : WorldState) (ss : List Step) → (run w ss).trace ≡ followed_by_all w.trace ss
run_traced w [] = ap (λ (ts : List Step). record w.trace { steps = ts }) (sym (append-nil w.trace.steps))
run_traced w (s ∷ ss) = run_traced (step w s).world ss ∙ ap (λ (ts : List Step). record w.trace { steps = ts }) (append_assoc w.trace.steps (s ∷ []) ss)

pub traced_after : {X E : Type 0} (w v : WorldState) (s : Step) (r : Result X E) → OnOk r (v ≡ (step w s).world) → OnOk r (v.trace ≡ followed w.trace s)
traced_after w v s (Ok x) moved = ap (λ (u : WorldState). u.trace) moved
traced_after w v s (Err e) moved = tt

-- ---- what is told

pub told_of_plane : {X E : Type 0} (came : X → Outcome) (w : WorldState) (s : Step) (r : Result X E) → Stands w → IfOk r (λ x. came x ≡ (step w s).outcome)
    → IfOk r (λ x. came x ≡ (planes.step (plane w.trace) s).outcome)
unfolding Stands
told_of_plane came w s (Ok x) is told = told ∙ (step_follows w (plane w.trace) s is).1
told_of_plane came w s (Err e) is told = tt
