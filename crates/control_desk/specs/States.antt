-- The code by which a board, with what is handled, may be stored.
use Rattle.std.specs.Prelude.{ℕ, refl}
use Rattle.std.specs.Coded.{Coded, code_by, coded×, coded_ℕ}
use Rattle.spec_client_go.specs.Boards.{Board}
use Rattle.work_board.specs.Seen.{board_code}
use Rattle.object_keys.specs.declared.per_kind.PerKind.{PerKind}
use Rattle.control_desk.specs.declared.states.WorkState.{WorkState}

abbrev handled_code : Coded (PerKind ℕ)
handled_code =
    code_by ((ℕ × ℕ) × (ℕ × ℕ)) (coded× (coded× coded_ℕ coded_ℕ) (coded× coded_ℕ coded_ℕ)) (λ n. ((n.config_maps, n.pods), (n.replica_sets, n.deployments)))
    (λ p. record { config_maps = p.0.0; pods = p.0.1; replica_sets = p.1.0; deployments = p.1.1 }) (λ _. refl)

abbrev pub state_code : Coded WorkState
state_code = code_by (Board × PerKind ℕ) (coded× board_code handled_code) (λ s. (s.board, s.handled)) (λ p. record { board = p.0; handled = p.1 }) (λ _. refl)
