-- Answers that are shared, as the definitions have them.
use Rattle.std.specs.Prelude.{ℕ, List, [], ◌∷◌, map, Bool, true, Option, Some, None, if◌then◌else◌}
use Rattle.std.specs.Arc.{arc_value}
use Rattle.std.specs.declared.sync.Arc.{Arc}
use Rattle.std.specs.Global.{Global}
use Rattle.spec_client_go.specs.Commands.{Command}
use Rattle.spec_sim.specs.Turns as turns
use Rattle.spec_sim.specs.Turns.{is_refused, version_in}
use Rattle.reconcile_turn.specs.Seen.{answer_of}
use Rattle.reconcile_turn.specs.declared.answers.CommandAnswer.{CommandAnswer}

abbrev pub answers_of : List (Arc CommandAnswer Global) → List turns.Answer
answers_of as' = map (λ a. answer_of (arc_value a)) as'

-- the version of the last answer
abbrev pub last_version : List turns.Answer → Option (List ℕ)
last_version [] = None
last_version (a ∷ []) = version_in a
last_version (a ∷ b ∷ as') = last_version (b ∷ as')

-- whether a command with this answer, or none, is not done
abbrev pub is_undone : Option turns.Answer → Bool
is_undone None = true
is_undone (Some a) = is_refused a

-- the commands that were refused, and those that have no answer
abbrev pub undone_of : List Command → List turns.Answer → List Command
undone_of cs [] = cs
undone_of [] (a ∷ as') = []
undone_of (c ∷ cs) (a ∷ as') = if is_refused a then c ∷ undone_of cs as' else undone_of cs as'
