-- Issued commands, as the definitions have them.
use Rattle.spec_sim.specs.Managers as managers
use Rattle.reconcile_types.specs.Commands.{command_of}
use Rattle.reconcile_turn.specs.Seen.{answer_of}
use Rattle.sim_worker_slots.specs.declared.issued.Issued.{Issued}

abbrev pub issued_of : Issued → managers.Issued
issued_of i = record { turn = i.turn; command = command_of i.command; answer = answer_of i.answer }
