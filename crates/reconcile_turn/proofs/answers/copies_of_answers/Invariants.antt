use Rattle.std.proofs.Common.{◌≡◌, ◌++◌, drop}
use Rattle.reconcile_turn.specs.Answers.{answers_of}
use Rattle.reconcile_turn.proofs.answers.copies_of_answers.Given as goal

-- those so far and those still to come are all
abbrev pub invariant-loop-answer : goal.invariant-loop-answer
invariant-loop-answer l = answers_of l.made.items ++ answers_of (drop l.answer-index l.answers) ≡ answers_of l.answers
