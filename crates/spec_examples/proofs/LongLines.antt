-- Lines that are as long as a frame may be, and longer.
use Rattle.std.proofs.Common.{◌≡◌, ◌==◌, ℕ, List, [], ◌∷◌, ◌++◌, length, true, false, refl, arith}
use Rattle.std.proofs.lemmas.Bool.{lt-ltb, le-ltb}
use Rattle.std.proofs.lemmas.List.Splits.{slice_split_none, slice_split_at}
use Rattle.spec_examples.specs.CutExamples.{has_no_newline, LongLinesEnd}
use Rattle.spec_client_go.specs.ReadFrames.{cut_at_newlines, has_room, longest_frame}

alone : (line : List ℕ) → has_no_newline line → cut_at_newlines line ≡ line ∷ []
alone line none = slice_split_none (λ b. b == 10) line none

ended : (line : List ℕ) → has_no_newline line → cut_at_newlines (line ++ 10 ∷ []) ≡ line ∷ [] ∷ []
ended line none = slice_split_at (λ b. b == 10) line 10 [] none refl

fits : (line : List ℕ) → length line ≡ 2097151 → has_room line ≡ true
fits line long = lt-ltb (length line) longest_frame (omega (arith, long))

is_over : (line : List ℕ) → length line ≡ 2097152 → has_room line ≡ false
is_over line long = le-ltb (length line) longest_frame (omega (arith, long))

pub long_lines : LongLinesEnd
long_lines = record {
  longest_is_held = λ line none long. rw (alone line none, fits line long) refl;
  too_long = λ line none long. rw (alone line none, is_over line long) refl;
  too_long_and_whole = λ line none long. rw (ended line none, is_over line long) refl;
}
