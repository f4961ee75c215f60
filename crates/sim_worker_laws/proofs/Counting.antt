-- A step that is counted changes nothing else, and a tick changes the board alone.
use Rattle.std.proofs.Common.{ℕ, ◌+◌, Bool, true, false, cond}
use Rattle.spec_client_go.specs.Boards.{may_tick, passed}
use Rattle.spec_sim.specs.Clusters.{Cluster}
use Rattle.spec_sim.specs.ControlPlanes.{ControlPlane, Stepped, tick_in, closed, counted}
use Rattle.spec_sim.specs.Managers.{Manager}
use Rattle.spec_sim.specs.Outcomes as outcomes
use Rattle.spec_sim.specs.Outcomes.{Outcome, no_step, was_open}

pub by_counted : (P : Cluster → Manager → Outcome → Type 0) (s : Stepped) → P s.plane.cluster s.plane.manager s.outcome → P (counted s).plane.cluster (counted s).plane.manager (counted s).outcome
by_counted P s p = by (was_open s.outcome)
  where
    by : (b : Bool)
        → P (cond b (record s { plane = record s.plane { taken = s.plane.taken + 1 } }) s).plane.cluster (cond b (record s { plane = record s.plane { taken = s.plane.taken + 1 } }) s).plane.manager
        (cond b (record s { plane = record s.plane { taken = s.plane.taken + 1 } }) s).outcome
    by true = p
    by false = p

pub by_tick : (P : Cluster → Manager → Outcome → Type 0) (n : ℕ) (p : ControlPlane)
    → P p.cluster p.manager no_step
    → P p.cluster (record p.manager { board = passed (p.manager.board.time + n) p.manager.board }) (outcomes.time (p.manager.board.time + n))
    → P (tick_in n p).plane.cluster (tick_in n p).plane.manager (tick_in n p).outcome
by_tick P n p still passing = by (may_tick n p.manager.board)
  where
    by : (x : Bool)
        → (let s = cond x (record { plane = record p { manager = record p.manager { board = cond x (passed (p.manager.board.time + n) p.manager.board) p.manager.board } }; outcome = outcomes.time (p.manager.board.time + n) }) (closed p) in
        P s.plane.cluster s.plane.manager s.outcome)
    by true = passing
    by false = still
