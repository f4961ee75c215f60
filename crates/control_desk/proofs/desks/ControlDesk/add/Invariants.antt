use Rattle.std.specs.Prelude.{map}
use Rattle.object_keys.specs.WorkKeys.{work_key_of}
use Rattle.control_desk.specs.Desks.{known}
use Rattle.control_desk.specs.Hands.{state}
use Rattle.control_desk.specs.Steps.{changing, add}
use Rattle.control_desk.proofs.desks.ControlDesk.add.Given as goal

abbrev pub ghosts-add_held : goal.ghosts-add_held
ghosts-add_held g a = record { entry = changing (add (map work_key_of a.keys.now)) (state (known a.pass.now).seen) }
