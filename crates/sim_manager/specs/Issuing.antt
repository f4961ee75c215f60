-- What comes of the command that a turn issues next.
use Rattle.std.specs.Prelude.{ℕ, Option, option_map}
use Rattle.std.specs.Arc.{arc_value}
use Rattle.spec_api.specs.History.{Write}
use Rattle.spec_client_go.specs.Commands.{Command}
use Rattle.meta.specs.Writes.{write_of}
use Rattle.spec_sim.specs.Managers.{Delivery, Issued, learnt, reaching, requested}
use Rattle.spec_sim.specs.Outcomes as outcomes
use Rattle.spec_sim.specs.Turns.{Turn, with_issue}
use Rattle.line_session.specs.SessionStates.{SessionState, accepted}
use Rattle.sim_manager.specs.Outcomes.{outcome_of}
use Rattle.sim_manager.specs.Reached.{write_reaching}
use Rattle.sim_worker_slots.specs.Seen.{issued_of}
use Rattle.sim_manager.specs.declared.issuing.Issuing.{Issuing}

-- the turn after it, what is recorded of it, what the server writes, if it writes anything, and what is told of it
pub record Coming : Type 0 where
  pub turn : Turn
  pub issued : Issued
  pub write : Option Write
  pub outcome : outcomes.Outcome

abbrev pub coming : SessionState → ℕ → Turn → Delivery → Command → Coming
coming s w t d x =
    let q = requested t x in
    let a = learnt d (accepted s q) in
    record {
      turn = with_issue (record { command = x; answer = a }) t;
      issued = record { turn = t; command = x; answer = a };
      write = write_reaching s (reaching d q);
      outcome = outcomes.issued w x a;
    }

-- as code has it
abbrev pub coming_of : Issuing → Coming
coming_of i = record { turn = i.turn; issued = issued_of (arc_value i.issued); write = option_map write_of i.write; outcome = outcome_of i.told.outcome }
