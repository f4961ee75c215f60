-- What a worker tells the board of its turn.
use Rattle.std.specs.Prelude.{◌==◌, if◌then◌else◌}
use Rattle.spec_sim.specs.Turns.{Expected}
use Rattle.control_desk.specs.Steps.{Step, expect_creations, expect_deletions}

-- what is expected of pods: no plan both creates some and deletes some
abbrev pub expecting : Expected → Step
expecting e = if e.creations == 0 then expect_deletions e.owner e.deletions else expect_creations e.owner e.creations
