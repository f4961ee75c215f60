-- The steps of a board of keys, and what each makes of it.
use Rattle.std.specs.Prelude.{ℕ, List, [], ◌∷◌}
use Rattle.std.specs.declared.cmp.Ordering.{Ordering}
use Rattle.keyed_board.specs.Boards.{KeyBoard, with_keys, postponed, taken, finished, ticked, shut_off}
use Rattle.keyed_board.specs.declared.outcome.Outcome.{Outcome}

-- keys are added, or one after a delay; one is taken, and given back; it is a later moment; the board is shut down
pub data Step (N : Type 0) : Type 0 where
  add : List N → Step N
  add_after : N → ℕ → Step N
  take : N → Step N
  finish : N → Outcome → Step N
  tick : ℕ → Step N
  shut_down : Step N

abbrev pub after : {N : Type 0} {R : N → N → Ordering} → KeyBoard R → Step N → KeyBoard R
after b (add ks) = with_keys ks b
after b (add_after k milliseconds) = postponed k milliseconds b
after b (take k) = taken b
after b (finish k outcome) = finished k outcome b
after b (tick now) = ticked now b
after b shut_down = shut_off b

abbrev pub after_all : {N : Type 0} {R : N → N → Ordering} → KeyBoard R → List (Step N) → KeyBoard R
after_all b [] = b
after_all b (e ∷ es) = after_all (after b e) es
