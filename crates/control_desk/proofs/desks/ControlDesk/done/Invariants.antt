use Rattle.object_keys.specs.WorkKeys.{work_key_of}
use Rattle.control_desk.specs.Desks.{known}
use Rattle.control_desk.specs.Hands.{state}
use Rattle.control_desk.specs.Steps.{changing, finish}
use Rattle.control_desk.proofs.desks.ControlDesk.done.Given as goal

abbrev pub ghosts-done_held : goal.ghosts-done_held
ghosts-done_held g a = record { entry = changing (finish (work_key_of a.key.now)) (state (known a.pass.now).seen) }
