-- A code by which a model may store turns in slots.
use Rattle.std.specs.Coded.{Coded, coded_list, coded_option}
use Rattle.spec_sim.specs.ControlPlaneCodes.{coded_turn}
use Rattle.sim_worker_slots.specs.Slots.{Slots}

abbrev pub coded_slots : Coded Slots
coded_slots = coded_list (coded_option coded_turn)
