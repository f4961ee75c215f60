use Rattle.control_desk.specs.Desks.{known}
use Rattle.control_desk.specs.Hands.{state}
use Rattle.control_desk.specs.Steps.{changing, tick}
use Rattle.control_desk.proofs.desks.ControlDesk.tick.Given as goal

abbrev pub ghosts-tick_held : goal.ghosts-tick_held
ghosts-tick_held g a = record { entry = changing (tick a.milliseconds) (state (known a.pass.now).seen) }
