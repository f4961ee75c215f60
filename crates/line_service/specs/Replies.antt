-- What is written for what is read: the reply to each line in turn, or that there was no memory for it.
use Rattle.std.specs.Prelude.{◌≡◌, ◌≢◌, ℕ, ◌==◌, List, [], ◌∷◌, ◌++◌, Bool, true, false, Option, is_some, unwrap_or, map, if◌then◌else◌}
use Rattle.std.specs.Io.KnownBytes.{Appends}
use Rattle.std.specs.List.{onto_first, AllByRecursion}
use Rattle.chunked.specs.Devices.{AppendsBeginning}
use Rattle.line_service.specs.declared.fault.RunFault.{RunFault}
use Rattle.line_service.specs.declared.fault.RunFault.TheVariants as fault

-- the lines of the bytes, without their newlines; what follows the last newline is a line if it is not empty
abbrev pub lines_of : List ℕ → List (List ℕ)
lines_of [] = []
lines_of (x ∷ xs) = if x == 10 then [] ∷ lines_of xs else onto_first x (lines_of xs)

-- ---- one line after another, whatever a line is

-- all that is written for these lines, from a state on
abbrev pub replies : {S L : Type 0} → (S → L → List ℕ) → (S → L → S) → S → List L → List ℕ
replies reply next s [] = []
replies reply next s (line ∷ lines) = reply s line ++ replies reply next (next s line) lines

-- the state after these lines
abbrev pub after : {S L : Type 0} → (S → L → S) → S → List L → S
after next s [] = s
after next s (line ∷ lines) = after next (next s line) lines

-- the replies to all but the last of these lines were written whole, and a beginning of the last one's
abbrev pub IsCutAtLast : {S L : Type 0} → (S → L → List ℕ) → (S → L → S) → S → Option (List ℕ) → Option (List ℕ) → List L → Type 0
IsCutAtLast {L = L} reply next first old new answered =
    (before : List L) × (line : L) × (written : List ℕ) × (left : List ℕ) × (answered ≡ before ++ (line ∷ [])) × Appends old new (replies reply next first before ++ written)
    × (written ++ left ≡ reply (after next first before) line)

-- some of the lines, from the first on, were answered and no others, and a beginning of their replies was appended: all of them, unless writing failed;
-- then all but the last one's were written whole
abbrev pub EndsEarly : {S L : Type 0} → (S → L → List ℕ) → (S → L → S) → RunFault → S → S → Option (List ℕ) → Option (List ℕ) → List L → Type 0
EndsEarly {L = L} reply next why first last old new lines =
    (answered : List L) × (left : List L) × (answered ++ left ≡ lines) × (last ≡ after next first answered) × AppendsBeginning old new (replies reply next first answered)
    × (why ≢ fault.Write → Appends old new (replies reply next first answered)) × (why ≡ fault.Write → IsCutAtLast reply next first old new answered)

-- ---- lines for which there was no memory

-- a line that was read, and whether it was refused since there was no memory for it
abbrev pub Read : Type 0
Read = List ℕ × Bool

-- these lines, of which none was refused
abbrev pub none_refused : List (List ℕ) → List Read
none_refused lines = map (λ line. (line, false)) lines

-- a line may be refused where there is a text by which it is told so
abbrev pub MayBe : (List ℕ → Option (List ℕ)) → Read → Type 0
MayBe refusal r = r.1 ≡ true → is_some (refusal r.0) ≡ true

-- a line that is refused is told so, and any other gets its reply
abbrev pub reply_or_refusal : {S : Type 0} → (S → List ℕ → List ℕ) → (List ℕ → Option (List ℕ)) → S → Read → List ℕ
reply_or_refusal reply refusal s r = if r.1 then unwrap_or (refusal r.0) [] else reply s r.0

-- a line that is refused changes nothing
abbrev pub next_or_same : {S : Type 0} → (S → List ℕ → S) → S → Read → S
next_or_same next s r = if r.1 then s else next s r.0

-- these are the lines of the bytes, and none of them was refused but such as may be
pub record AreRead (refusal : List ℕ → Option (List ℕ)) (input : List ℕ) (rs : List Read) : Type 0 where
  pub lines : map (λ (r : Read). r.0) rs ≡ lines_of input
  pub refused : AllByRecursion (MayBe refusal) rs

module _ {S : Type 0} (reply : S → List ℕ → List ℕ) (next : S → List ℕ → S) (refusal : List ℕ → Option (List ℕ)) where
  -- the replies to all lines were appended, or for some of them that they were refused
  abbrev pub AnswersAll : S → S → Option (List ℕ) → Option (List ℕ) → List ℕ → Type 0
  AnswersAll first last old new input =
      (rs : List Read) × AreRead refusal input rs × Appends old new (replies (reply_or_refusal reply refusal) (next_or_same next) first rs) × (last ≡ after (next_or_same next) first rs)

  -- so it was of some of them, from the first on, and a beginning of that was appended
  abbrev pub AnswersSome : RunFault → S → S → Option (List ℕ) → Option (List ℕ) → List ℕ → Type 0
  AnswersSome why first last old new input = (rs : List Read) × AreRead refusal input rs × EndsEarly (reply_or_refusal reply refusal) (next_or_same next) why first last old new rs
