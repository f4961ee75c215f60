use Rattle.std.specs.Prelude.{map}
use Rattle.work_board.specs.Seen.{observation_of}
use Rattle.object_keys.specs.WorkKeys.{work_key_of}
use Rattle.control_desk.specs.Desks.{known}
use Rattle.control_desk.specs.Hands.{state}
use Rattle.control_desk.specs.Steps.{changing, observe}
use Rattle.control_desk.proofs.desks.ControlDesk.observe.Given as goal

abbrev pub ghosts-observe_held : goal.ghosts-observe_held
ghosts-observe_held g a = record { entry = changing (observe a.kind a.revision (map observation_of a.observations.now) (map work_key_of a.keys.now)) (state (known a.pass.now).seen) }
