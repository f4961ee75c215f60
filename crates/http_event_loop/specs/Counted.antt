-- How many connections some loops took.
use Rattle.std.specs.Prelude.{ℕ, ◌+◌, List, [], ◌∷◌}
use Rattle.http_event_loop.specs.declared.event_loop.EventLoop.{EventLoop}

abbrev pub taken_over : {S L : Type 0} → List (EventLoop S L) → ℕ
taken_over [] = 0
taken_over (e ∷ es) = e.asker.taken.count + taken_over es
