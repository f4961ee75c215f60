-- What is told of a key that fails again and again.
use Rattle.std.proofs.Common.{◌≡◌, ℕ, zero, suc, List, [], ◌∷◌, Bool, true, false, nat_eq, refl, sym, ap, ◌∙◌, arith}
use Rattle.std.specs.Prelude.{Option, Some, None, replicate, if◌then◌else◌}
use Rattle.std.proofs.lemmas.Bool.Decides.{nat_tests}
use Rattle.std.proofs.lemmas.Slice.Eq.{bytes_eq-Decides}
use Rattle.keyed_board.specs.declared.failure.Failure.{Failure}
use Rattle.keyed_board.specs.declared.failure.Failure.TheVariants.{Refused, NoReply, NoMemory, NoVersion, Other}
use Rattle.keyed_board.specs.declared.outcome.Outcome.{Outcome}
use Rattle.keyed_board.specs.declared.outcome.Outcome.TheVariants.{Failed}
use Rattle.controller_layers.specs.KeyNotes.{add_note, is_conflict, note_of, notes_of, same_cause, told_after, ToldOnce, ConflictsAreNotTold}
use Rattle.controller_layers.specs.declared.key_notes.KeyNote.{KeyNote}
use Rattle.controller_layers.specs.declared.key_notes.KeyNote.TheVariants.{Nothing, Fails}

number_is_itself : (n : ℕ) → nat_eq n n ≡ true
number_is_itself n = grind (arith, nat_tests)

same_itself : (f : Failure) → same_cause f f ≡ true
same_itself (Refused code seconds) = number_is_itself code
same_itself NoReply = refl
same_itself NoMemory = refl
same_itself NoVersion = refl
same_itself (Other words) = (bytes_eq-Decides words.now words.now).1 refl

either_way : (b : Bool) → (if b then Nothing else Nothing) ≡ Nothing
either_way true = refl
either_way false = refl

-- a failure that was told is not told again
told_already : (f : Failure) → note_of (Some f) (Failed f) ≡ Nothing
told_already f = ap (λ b. if is_conflict f then Nothing else (if b then Nothing else Fails f)) (same_itself f) ∙ either_way (is_conflict f)

again : (f : Failure) (n : ℕ) → notes_of (Some f) (replicate n (Failed f)) ≡ []
again f zero = refl
again f (suc n) = ap (λ note. add_note note (notes_of (told_after (Some f) note) (replicate n (Failed f)))) (told_already f) ∙ again f n

pub noted_once : ToldOnce
noted_once f n is =
    ap (λ b. add_note (if b then Nothing else Fails f) (notes_of (told_after None (if b then Nothing else Fails f)) (replicate n (Failed f)))) is ∙ ap (λ l. Fails f ∷ l) (again f n)

pub conflicts_untold : ConflictsAreNotTold
conflicts_untold f zero is = refl
conflicts_untold f (suc n) is =
    ap (λ b. add_note (if b then Nothing else Fails f) (notes_of (told_after None (if b then Nothing else Fails f)) (replicate n (Failed f)))) is ∙ conflicts_untold f n is
