use Rattle.object_keys.specs.Keys.{key_of}
use Rattle.control_desk.specs.Desks.{known}
use Rattle.control_desk.specs.Hands.{state}
use Rattle.control_desk.specs.Steps.{changing, forget}
use Rattle.control_desk.proofs.desks.ControlDesk.forget.Given as goal

abbrev pub ghosts-forget_held : goal.ghosts-forget_held
ghosts-forget_held g a = record { entry = changing (forget (key_of a.key.now)) (state (known a.pass.now).seen) }
