-- What is told once time has passed.
use Rattle.std.specs.Prelude.{ℕ, ◌+◌, if◌then◌else◌}
use Rattle.spec_client_go.specs.Boards.{Board, may_tick}
use Rattle.spec_sim.specs.Outcomes.{Outcome, no_step, time}

abbrev pub told_of_tick : ℕ → Board → Outcome
told_of_tick n b = if may_tick n b then time (b.time + n) else no_step
