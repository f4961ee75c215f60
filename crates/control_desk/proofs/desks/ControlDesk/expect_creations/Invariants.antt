use Rattle.work_board.specs.Seen.{owner_of}
use Rattle.control_desk.specs.Desks.{known}
use Rattle.control_desk.specs.Hands.{state}
use Rattle.control_desk.specs.Steps.{changing, expect_creations}
use Rattle.control_desk.proofs.desks.ControlDesk.expect_creations.Given as goal

abbrev pub ghosts-expect_creations_held : goal.ghosts-expect_creations_held
ghosts-expect_creations_held g a = record { entry = changing (expect_creations (owner_of a.owner.now) a.creations) (state (known a.pass.now).seen) }
