-- What has been written, and what is still to come.
use Rattle.std.proofs.Common.{◌≡◌, ◌≢◌, ℕ, ◌<◌, List, [], ◌∷◌, ◌++◌, length, map, Bool, true, false, Option, Some, None, IfSome, refl, sym, ap, subst, ◌∙◌, append_assoc}
use Rattle.std.proofs.lemmas.List.{append-nil}
use Rattle.std.specs.List.{AllByRecursion}
use Rattle.std.specs.Option.{IsSomeAnd}
use Rattle.std.specs.Io.KnownBytes.{Appends, Keeps}
use Rattle.std.specs.Io.BufRead.{take_through, drop_through, strip_last, DropsThrough}
use Rattle.chunked.specs.Devices.{AppendsBeginning}
use Rattle.line_service.specs.Replies.{lines_of, replies, after, Read, none_refused, MayBe, AreRead, reply_or_refusal, next_or_same, AnswersAll, AnswersSome}
use Rattle.line_service.specs.declared.fault.RunFault.{RunFault}
use Rattle.line_service.specs.declared.fault.RunFault.TheVariants as fault
use Rattle.line_service.proofs.Cutting.{first_read}

-- running out of memory and a failing reader are no failing writer
pub want-other : fault.Want ≢ fault.Write
want-other e = cc

pub read-other : fault.Read ≢ fault.Write
read-other e = cc

-- one text after another
pub Appends-more : (old mid new : Option (List ℕ)) (xs ys : List ℕ) → Appends old mid xs → Appends mid new ys → Appends old new (xs ++ ys)
Appends-more None mid new xs ys h k = tt
Appends-more (Some o) None new xs ys h k = absurd h
Appends-more (Some o) (Some m) None xs ys h k = absurd k
Appends-more (Some o) (Some m) (Some n) xs ys h k = k ∙ ap (λ z. z ++ ys) h ∙ append_assoc o xs ys

-- what a read of one line leaves
pub first_line_read : (left left' : Option (List ℕ)) (buffer line : List ℕ)
    → IfSome left (λ rest. buffer ≡ take_through 10 rest) → DropsThrough left left' 10
    → 0 < length buffer → line ≡ strip_last 10 buffer
    → IfSome left (λ rest. (lines_of rest ≡ line ∷ lines_of (drop_through 10 rest)) × (left' ≡ Some (drop_through 10 rest)))
first_line_read None left' buffer line b d some l = tt
first_line_read (Some rest) left' buffer line b d some l = (first_read rest buffer line b some l, d)

-- what is left is what was appended before
pub Appends-kept : (old mid new : Option (List ℕ)) (xs : List ℕ) → Appends old mid xs → Keeps mid new → Appends old new xs
Appends-kept None mid new xs h k = tt
Appends-kept (Some o) None new xs h k = absurd h
Appends-kept (Some o) (Some m) None xs h k = absurd k
Appends-kept (Some o) (Some m) (Some n) xs h k = k ∙ h

module _ {S L : Type 0} (reply : S → L → List ℕ) (next : S → L → S) where
  -- the replies to some lines and to others after them
  pub replies-append : (s : S) (xs ys : List L) → replies reply next s (xs ++ ys) ≡ replies reply next s xs ++ replies reply next (after next s xs) ys
  replies-append s [] ys = refl
  replies-append s (x ∷ xs) ys = ap (λ z. reply s x ++ z) (replies-append (next s x) xs ys) ∙ sym (append_assoc (reply s x) (replies reply next (next s x) xs) (replies reply next (after next (next s x) xs) ys))

  pub after-append : (s : S) (xs ys : List L) → after next s (xs ++ ys) ≡ after next (after next s xs) ys
  after-append s [] ys = refl
  after-append s (x ∷ xs) ys = after-append (next s x) xs ys

-- ---- lines that were read

as_they_are : (lines : List (List ℕ)) → map (λ (r : Read). r.0) (none_refused lines) ≡ lines
as_they_are [] = refl
as_they_are (line ∷ lines) = ap (λ ls. line ∷ ls) (as_they_are lines)

lines-append : (xs ys : List Read) → map (λ (r : Read). r.0) (xs ++ ys) ≡ map (λ (r : Read). r.0) xs ++ map (λ (r : Read). r.0) ys
lines-append [] ys = refl
lines-append (x ∷ xs) ys = ap (λ ls. x.0 ∷ ls) (lines-append xs ys)

module _ (refusal : List ℕ → Option (List ℕ)) where
  may_append : (xs ys : List Read) → AllByRecursion (MayBe refusal) xs → AllByRecursion (MayBe refusal) ys → AllByRecursion (MayBe refusal) (xs ++ ys)
  may_append [] ys a b = b
  may_append (x ∷ xs) ys a b = (a.0, may_append xs ys a.1 b)

  none_is : {P : Type 0} → false ≡ true → P
  none_is e = absurd (no e)
    where
      no : false ≡ true → ⊥
      no e = cc

  may_be_read : (lines : List (List ℕ)) → AllByRecursion (MayBe refusal) (none_refused lines)
  may_be_read [] = tt
  may_be_read (line ∷ lines) = (λ e. none_is e, may_be_read lines)

  -- some lines, as they were taken, and then those that are left
  pub are_read : (input : List ℕ) (answered : List Read) (lines : List (List ℕ)) → AllByRecursion (MayBe refusal) answered → map (λ (r : Read). r.0) answered ++ lines ≡ lines_of input
      → AreRead refusal input (answered ++ none_refused lines)
  are_read input answered lines may is =
      record {
        lines = lines-append answered (none_refused lines) ∙ ap (λ ls. map (λ (r : Read). r.0) answered ++ ls) (as_they_are lines) ∙ is;
        refused = may_append answered (none_refused lines) may (may_be_read lines);
      }

  -- all of them, none of which was taken
  pub all_left : (input : List ℕ) → AreRead refusal input (none_refused (lines_of input))
  all_left input = record { lines = as_they_are (lines_of input); refused = may_be_read (lines_of input) }

module _ {S : Type 0} (reply : S → List ℕ → List ℕ) (next : S → List ℕ → S) (refusal : List ℕ → Option (List ℕ)) where
  abbrev told : S → Read → List ℕ
  told = reply_or_refusal reply refusal

  abbrev gone : S → Read → S
  gone = next_or_same next

  -- the lines before those that are left were answered, or refused as they may be: the bytes written are what they were told, and the state is
  -- the one after them
  abbrev pub IsUnderWay : S → Option (List ℕ) → Option (List ℕ) → Option (List ℕ) → Option (List ℕ) → S → Type 0
  IsUnderWay first read left old new s =
      IfSome read (λ input. IsSomeAnd left (λ rest. (answered : List Read) × AllByRecursion (MayBe refusal) answered
      × (map (λ (r : Read). r.0) answered ++ lines_of rest ≡ lines_of input) × (s ≡ after (next_or_same next) first answered)
      × Appends old new (replies (reply_or_refusal reply refusal) (next_or_same next) first answered)))

  -- one line more, the lines of the rest beginning with it
  one_more : (input rest : List ℕ) (answered : List Read) (r : Read) → lines_of rest ≡ r.0 ∷ lines_of (drop_through 10 rest) → map (λ (r : Read). r.0) answered ++ lines_of rest ≡ lines_of input
      → map (λ (r : Read). r.0) (answered ++ (r ∷ [])) ++ lines_of (drop_through 10 rest) ≡ lines_of input
  one_more input rest answered r at is =
      let after = lines_of (drop_through 10 rest) in
      let ls = map (λ (r : Read). r.0) answered in
      ap (λ z. z ++ after) (lines-append answered (r ∷ [])) ∙ append_assoc ls (r.0 ∷ []) after ∙ ap (λ z. ls ++ z) (sym at) ∙ is

  told_more : (first : S) (answered : List Read) (r : Read) → replies told gone first (answered ++ (r ∷ [])) ≡ replies told gone first answered ++ told (after gone first answered) r
  told_more first answered r = replies-append told gone first answered (r ∷ []) ∙ ap (λ z. replies told gone first answered ++ z) (append-nil (told (after gone first answered) r))

  pub IsUnderWay-step : (first : S) (read left left' old mid new : Option (List ℕ)) (s s' : S) (line text : List ℕ) (refused : Bool)
      → IsUnderWay first read left old mid s
      → IfSome left (λ rest. (lines_of rest ≡ line ∷ lines_of (drop_through 10 rest)) × (left' ≡ Some (drop_through 10 rest)))
      → MayBe refusal (line, refused) → Appends mid new text → text ≡ reply_or_refusal reply refusal s (line, refused) → s' ≡ next_or_same next s (line, refused)
      → IsUnderWay first read left' old new s'
  IsUnderWay-step first None left left' old mid new s s' line text refused h at may w t n = tt
  IsUnderWay-step first (Some input) None left' old mid new s s' line text refused h at may w t n = absurd h
  IsUnderWay-step first (Some input) (Some rest) left' old mid new s s' line text refused h at may w t n =
      let r : Read = (line, refused) in
      rw at.1 (
        h.0 ++ (r ∷ []),
        may_append refusal h.0 (r ∷ []) h.1 (may, tt),
        one_more input rest h.0 r at.0 h.2,
        n ∙ ap (λ z. gone z r) h.3 ∙ sym (after-append told gone first h.0 (r ∷ [])),
        subst (Appends old new) (ap (λ z. replies told gone first h.0 ++ z) (t ∙ ap (λ z. told z r) h.3) ∙ sym (told_more first h.0 r))
            (Appends-more old mid new (replies told gone first h.0) text h.4 w),
      )

  -- a run that ends where its input does
  pub IsUnderWay-ended : (first : S) (read left old new : Option (List ℕ)) (s : S) → IfSome left (λ rest. rest ≡ []) → IsUnderWay first read left old new s
      → IfSome read (AnswersAll reply next refusal first s old new)
  IsUnderWay-ended first None left old new s none h = tt
  IsUnderWay-ended first (Some input) None old new s none h = absurd h
  IsUnderWay-ended first (Some input) (Some rest) old new s none h =
      let all : map (λ (r : Read). r.0) h.0 ≡ lines_of input = sym (append-nil (map (λ (r : Read). r.0) h.0)) ∙ ap (λ z. map (λ (r : Read). r.0) h.0 ++ lines_of z) (sym none) ∙ h.2 in
      (h.0, record { lines = all; refused = h.1 }, h.4, h.3)

  -- a run that ends before its input does
  pub IsUnderWay-stopped : (first : S) (read left old new : Option (List ℕ)) (s : S) (why : RunFault) → why ≢ fault.Write → IsUnderWay first read left old new s
      → IfSome read (AnswersSome reply next refusal why first s old new)
  IsUnderWay-stopped first None left old new s why other h = tt
  IsUnderWay-stopped first (Some input) None old new s why other h = absurd h
  IsUnderWay-stopped first (Some input) (Some rest) old new s why other h = (
    h.0 ++ none_refused (lines_of rest),
    are_read refusal input h.0 (lines_of rest) h.1 h.2,
    (h.0, none_refused (lines_of rest), refl, h.3, (replies told gone first h.0, [], h.4, append-nil (replies told gone first h.0)), λ _. h.4, λ e. absurd (other e)),
  )

  -- a run in which a reply was not written whole
  pub IsUnderWay-cut : (first : S) (read left left' old mid new : Option (List ℕ)) (s s' : S) (line text : List ℕ) (refused : Bool)
      → IsUnderWay first read left old mid s
      → IfSome left (λ rest. (lines_of rest ≡ line ∷ lines_of (drop_through 10 rest)) × (left' ≡ Some (drop_through 10 rest)))
      → MayBe refusal (line, refused) → AppendsBeginning mid new text → text ≡ reply_or_refusal reply refusal s (line, refused) → s' ≡ next_or_same next s (line, refused)
      → IfSome read (AnswersSome reply next refusal fault.Write first s' old new)
  IsUnderWay-cut first None left left' old mid new s s' line text refused h at may w t n = tt
  IsUnderWay-cut first (Some input) None left' old mid new s s' line text refused h at may w t n = absurd h
  IsUnderWay-cut first (Some input) (Some rest) left' old mid new s s' line text refused h at may w t n =
      let r : Read = (line, refused) in
      let after' = lines_of (drop_through 10 rest) in
      let before = replies told gone first h.0 in (
        (h.0 ++ (r ∷ [])) ++ none_refused after',
        are_read refusal input (h.0 ++ (r ∷ [])) after' (may_append refusal h.0 (r ∷ []) h.1 (may, tt)) (one_more input rest h.0 r at.0 h.2),
        (
          h.0 ++ (r ∷ []),
          none_refused after',
          refl,
          n ∙ ap (λ z. gone z r) h.3 ∙ sym (after-append told gone first h.0 (r ∷ [])),
          (
            before ++ w.0,
            w.1,
            Appends-more old mid new before w.0 h.4 w.2,
            append_assoc before w.0 w.1 ∙ ap (λ z. before ++ z) (w.3 ∙ t ∙ ap (λ z. told z r) h.3) ∙ sym (told_more first h.0 r),
          ),
          λ other. absurd (other refl),
          λ _. (h.0, r, w.0, w.1, refl, Appends-more old mid new before w.0 h.4 w.2, w.3 ∙ t ∙ ap (λ z. told z r) h.3),
        ),
      )
