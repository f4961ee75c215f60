use Rattle.std.proofs.Common.{◌∙◌, ap, sym, subst}
use Rattle.std.specs.Prelude.{Some, option_map}
use Rattle.keyed_board.specs.Steps.{take}
use Rattle.shared_keyed_board.specs.Attempts.{Attempts, key_taken}
use Rattle.shared_keyed_board.specs.Calls.{having_seen}
use Rattle.shared_keyed_board.specs.Histories.{board}
use Rattle.shared_keyed_board.specs.Passes.{sight}
use Rattle.shared_keyed_board.proofs.Attempting.{none_attempts, none_key}
use Rattle.shared_keyed_board.proofs.Passing.{taken_none}
use Rattle.shared_keyed_board.proofs.boards.SharedKeyedBoard.note_taken.Goals as goal

pub note_key-requires-clause-may : goal.note_key-requires-clause-may
note_key-requires-clause-may g c = (c.requires.free, sym c.requires.key ∙ ap (option_map g.K.Named.says) c.in-Some.is)

pub note-requires-clause-board : goal.note-requires-clause-board
note-requires-clause-board g c =
    let R = g.K.Named.order in
    let say = g.K.Named.says in
    c.requires.board ∙ taken_none R (board R (sight say c.args.pass.now).seen) (sym c.requires.key ∙ ap (option_map say) c.in-None.is)

pub returns-in-Some-clause-attempt : goal.returns-in-Some-clause-attempt
returns-in-Some-clause-attempt g c =
    let say = g.K.Named.says in
    sym c.requires.key ∙ ap (option_map say) c.in-Some.is ∙ ap (λ k. Some (say k)) (sym c.new.ensures)

pub returns-in-Some-clause-sight : goal.returns-in-Some-clause-sight
returns-in-Some-clause-sight g c =
    let say = g.K.Named.says in
    let w = sight say c.args.pass.now in
    c.note_key.ensures.sight ∙ ap (λ k. having_seen w w.seen (Some (take (say k)))) (sym c.new.ensures)

pub returns-in-None-clause-attempt : goal.returns-in-None-clause-attempt
returns-in-None-clause-attempt g c =
    let R = g.K.Named.order in
    let say = g.K.Named.says in
    let b = board R (sight say c.args.pass.now).seen in
    subst (Attempts say b) (sym c.none.ensures) (none_attempts R say b c.args.is_shut c.requires.shut (sym c.requires.key ∙ ap (option_map say) c.in-None.is))

pub returns-in-None-clause-sight : goal.returns-in-None-clause-sight
returns-in-None-clause-sight g c =
    let say = g.K.Named.says in
    let w = sight say c.args.pass.now in
    c.note.ensures.sight ∙ ap (λ k. having_seen w w.seen (option_map take (option_map say k))) (sym (ap key_taken c.none.ensures ∙ none_key c.args.is_shut))
