use Rattle.std.specs.Prelude.{map, string_bytes}
use Rattle.work_board.specs.Seen.{owner_of}
use Rattle.control_desk.specs.Desks.{known}
use Rattle.control_desk.specs.Hands.{state}
use Rattle.control_desk.specs.Steps.{changing, expect_deletions}
use Rattle.control_desk.proofs.desks.ControlDesk.expect_deletions.Given as goal

abbrev pub ghosts-expect_deletions_held : goal.ghosts-expect_deletions_held
ghosts-expect_deletions_held g a = record { entry = changing (expect_deletions (owner_of a.owner.now) (map string_bytes a.pods.items)) (state (known a.pass.now).seen) }
