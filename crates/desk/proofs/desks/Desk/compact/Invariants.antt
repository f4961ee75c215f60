use Rattle.std.specs.Prelude.{Some}
use Rattle.spec_api.specs.History.{compaction}
use Rattle.desk.proofs.desks.Desk.compact.Given as goal

abbrev pub ghosts-compact_held : goal.ghosts-compact_held
ghosts-compact_held g a = record { entry = Some (compaction a.revision) }
