-- What is told of a key whose reconciles fail: once, and not for every retry, until it is fine again or fails for another cause.
use Rattle.std.specs.Prelude.{◌≡◌, ◌==◌, ◌+◌, ◌∷◌, ℕ, List, [], replicate, Bool, true, false, not, nat_eq, Option, Some, None, if◌then◌else◌}
use Rattle.std.specs.Str.{bytes_eq}
use Rattle.keyed_board.specs.declared.failure.Failure.{Failure}
use Rattle.keyed_board.specs.declared.failure.Failure.TheVariants.{Refused, NoReply, NoMemory, NoVersion, Other}
use Rattle.keyed_board.specs.declared.outcome.Outcome.{Outcome}
use Rattle.keyed_board.specs.declared.outcome.Outcome.TheVariants.{Done, LookAgain, Failed}
use Rattle.controller_layers.specs.declared.key_notes.KeyNote.{KeyNote}
use Rattle.controller_layers.specs.declared.key_notes.KeyNote.TheVariants.{Nothing, Fails, IsFine}

-- a conflict is in the nature of working by a copy (Kubernetes API Concepts, Resource versions)
abbrev pub is_conflict : Failure → Bool
is_conflict (Refused code seconds) = nat_eq code 409
is_conflict NoReply = false
is_conflict NoMemory = false
is_conflict NoVersion = false
is_conflict (Other words) = false

-- the same cause; for how long a server asks to be left alone makes no other
abbrev pub same_cause : Failure → Failure → Bool
same_cause (Refused c s) (Refused d t) = nat_eq c d
same_cause NoReply NoReply = true
same_cause NoMemory NoMemory = true
same_cause NoVersion NoVersion = true
same_cause (Other v) (Other w) = bytes_eq v.now w.now
same_cause f g = false

abbrev pub is_told : Failure → Option Failure → Bool
is_told f None = false
is_told f (Some told) = same_cause f told

abbrev pub fine_again : Option Failure → KeyNote
fine_again None = Nothing
fine_again (Some told) = IsFine

-- what is told after a reconcile, by what was told last and is not over
abbrev pub note_of : Option Failure → Outcome → KeyNote
note_of told Done = fine_again told
note_of told (LookAgain milliseconds) = fine_again told
note_of told (Failed f) = if is_conflict f then Nothing else (if is_told f told then Nothing else Fails f)

-- what is then told and not over
abbrev pub told_after : Option Failure → KeyNote → Option Failure
told_after told Nothing = told
told_after told (Fails f) = Some f
told_after told IsFine = None

abbrev pub add_note : KeyNote → List KeyNote → List KeyNote
add_note Nothing ns = ns
add_note (Fails f) ns = Fails f ∷ ns
add_note IsFine ns = IsFine ∷ ns

-- what is told of a key after one reconcile and the next
abbrev pub notes_of : Option Failure → List Outcome → List KeyNote
notes_of told [] = []
notes_of told (o ∷ os) = add_note (note_of told o) (notes_of (told_after told (note_of told o)) os)

-- a cause is told once, however often it comes again, and once more that it is over
abbrev pub ToldOnce : Type 0
ToldOnce = (f : Failure) (retries : ℕ) → is_conflict f ≡ false → notes_of None (Failed f ∷ (replicate retries (Failed f))) ≡ Fails f ∷ []

-- of conflicts nothing is
abbrev pub ConflictsAreNotTold : Type 0
ConflictsAreNotTold = (f : Failure) (retries : ℕ) → is_conflict f ≡ true → notes_of None (replicate retries (Failed f)) ≡ []
