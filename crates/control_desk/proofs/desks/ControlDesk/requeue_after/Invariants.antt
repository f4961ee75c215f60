use Rattle.std.specs.Prelude.{map}
use Rattle.work_board.specs.Seen.{observation_of}
use Rattle.object_keys.specs.WorkKeys.{work_key_of}
use Rattle.control_desk.specs.Desks.{known}
use Rattle.control_desk.specs.Hands.{state}
use Rattle.control_desk.specs.Steps.{changing, requeue}
use Rattle.control_desk.proofs.desks.ControlDesk.requeue_after.Given as goal

abbrev pub ghosts-requeue_held : goal.ghosts-requeue_held
ghosts-requeue_held g a = record { entry = changing (requeue (work_key_of a.key.now) (map observation_of a.undone.now) a.least) (state (known a.pass.now).seen) }
