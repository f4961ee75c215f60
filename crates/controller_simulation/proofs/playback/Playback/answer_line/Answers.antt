use Rattle.std.proofs.Common.{refl, inl, inr, rules}
use Rattle.controller_simulation.proofs.playback.Playback.answer_line.Goals as goal

pub returns-in-Some-clause-ok : goal.returns-in-Some-clause-ok
returns-in-Some-clause-ok c = λ going. inr (refl, refl, (c.args.line, c.in-Some.note.now, search rules, search rules, search rules))

pub returns-clause-ok : goal.returns-clause-ok
returns-clause-ok c =
    λ going. inl (record { note = c.in-Some-2.note.now; next = search rules; asked = search rules; came_again = search rules; played = refl; goes_on = going })
