-- What comes of what workers do, as the definitions have it.
use Rattle.std.specs.Prelude.{ℕ, option_map, string_bytes}
use Rattle.std.specs.Arc.{arc_value}
use Rattle.object_keys.specs.Keys.{key_of}
use Rattle.spec_sim.specs.Managers as managers
use Rattle.spec_sim.specs.Outcomes as outcomes
use Rattle.object_keys.specs.WorkKeys.{work_key_of}
use Rattle.sim_worker_slots.specs.Seen.{issued_of}
use Rattle.sim_manager.specs.declared.outcomes.WorkOutcome.{WorkOutcome}
use Rattle.sim_manager.specs.declared.outcomes.WorkOutcome.TheVariants as code

-- a command with its answer
abbrev pub of_issued : ℕ → managers.Issued → outcomes.Outcome
of_issued w i = outcomes.issued w i.command i.answer

abbrev pub outcome_of : WorkOutcome → outcomes.Outcome
outcome_of code.NoStep = outcomes.no_step
outcome_of (code.Took w k) = outcomes.took w (option_map work_key_of k)
outcome_of (code.Looked w k r) = outcomes.looked w k r
outcome_of (code.Satisfied w b) = outcomes.satisfied w b
outcome_of (code.Read w k v) = outcomes.read w (key_of k) (option_map string_bytes v)
outcome_of (code.Expected w c d) = outcomes.expected w c d
outcome_of (code.Issued w i) = of_issued w (issued_of (arc_value i))
outcome_of (code.Finished w b) = outcomes.finished w b
outcome_of (code.Handled k n) = outcomes.handled k n
outcome_of (code.Time n) = outcomes.time n
