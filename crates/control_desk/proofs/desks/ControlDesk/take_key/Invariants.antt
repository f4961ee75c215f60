use Rattle.control_desk.specs.Desks.{known}
use Rattle.control_desk.specs.Hands.{state}
use Rattle.control_desk.specs.Steps.{taking}
use Rattle.control_desk.proofs.desks.ControlDesk.take_key.Given as goal

abbrev pub ghosts-take_key_held : goal.ghosts-take_key_held
ghosts-take_key_held g a = record { entry = taking (state (known a.pass.now).seen) }
