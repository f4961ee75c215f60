-- How many connections loops took, one loop after another.
use Rattle.std.proofs.Common.{◌≡◌, ◌+◌, List, [], ◌∷◌, ◌++◌, arith}
use Rattle.http_event_loop.specs.Counted.{taken_over}
use Rattle.http_event_loop.specs.declared.event_loop.EventLoop.{EventLoop}

-- one more loop, at the end
pub one_more : {S L : Type 0} → (es : List (EventLoop S L)) → (e : EventLoop S L) → taken_over (es ++ e ∷ []) ≡ taken_over es + e.asker.taken.count
one_more [] e = omega arith
one_more (x ∷ es) e = let rest = one_more es e in omega (arith, rest)
