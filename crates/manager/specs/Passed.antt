-- How much time the steps of a board let pass.
use Rattle.std.specs.Prelude.{ℕ, ◌+◌, List, [], ◌∷◌}
use Rattle.control_desk.specs.Steps.{Step, take, finish, requeue, observe, add, expect_creations, expect_deletions, forget, tick}

abbrev pub milliseconds_of : Step → ℕ
milliseconds_of (take k) = 0
milliseconds_of (finish k) = 0
milliseconds_of (requeue k ss least) = 0
milliseconds_of (observe k r ss ks) = 0
milliseconds_of (add ks) = 0
milliseconds_of (expect_creations o n) = 0
milliseconds_of (expect_deletions o pods) = 0
milliseconds_of (forget k) = 0
milliseconds_of (tick n) = n

-- so many milliseconds in all
abbrev pub passed_in : List Step → ℕ
passed_in [] = 0
passed_in (e ∷ es) = milliseconds_of e + passed_in es
