-- A code by which a model may store a manager.
use Rattle.std.specs.Prelude.{List, refl}
use Rattle.std.specs.Coded.{Coded, code_by, coded×, coded_list}
use Rattle.spec_client_go.specs.Boards.{Board}
use Rattle.work_board.specs.Seen.{board_code}
use Rattle.spec_sim.specs.ControlPlaneCodes.{coded_issued}
use Rattle.spec_sim.specs.Managers.{Issued, Manager}
use Rattle.sim_worker_slots.specs.Codes.{coded_slots}
use Rattle.sim_worker_slots.specs.Slots.{Slots}

abbrev pub coded_manager : Coded Manager
coded_manager =
    code_by (Board × (Slots × List Issued)) (coded× board_code (coded× coded_slots (coded_list coded_issued))) (λ m. (m.board, (m.turns, m.issued)))
    (λ p. record { board = p.0; turns = p.1.0; issued = p.1.1 }) (λ _. refl)
