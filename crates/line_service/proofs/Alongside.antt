-- Two services of which one goes along with the other: what is true of a run of the first is true of a run of the second.
use Rattle.std.proofs.Common.{◌≡◌, ℕ, List, [], ◌∷◌, ◌++◌, Bool, true, false, Option, Some, None, IfSome, Result, Ok, Err, OnOk, IfErr, refl, sym, ap₂, subst, ◌∙◌}
use Rattle.std.specs.Io.KnownBytes.{Appends}
use Rattle.chunked.specs.Devices.{AppendsBeginning}
use Rattle.line_service.specs.Replies.{replies, after, IsCutAtLast, EndsEarly, Read, reply_or_refusal, next_or_same, AnswersAll, AnswersSome}
use Rattle.line_service.specs.declared.fault.RunFault.{RunFault}

module _ {S T L : Type 0} (reply : S → L → List ℕ) (next : S → L → S) (reply' : T → L → List ℕ) (next' : T → L → T) (R : S → T → Type 0)
    (step : (s : S) (t : T) (line : L) → R s t → (reply s line ≡ reply' t line) × R (next s line) (next' t line)) where
  -- line by line the replies are the same
  pub same-replies : (s : S) (t : T) → R s t → (lines : List L) → replies reply next s lines ≡ replies reply' next' t lines
  same-replies s t r [] = refl
  same-replies s t r (line ∷ lines) =
      let one = step s t line r in
      ap₂ (λ x y. x ++ y) one.0 (same-replies (next s line) (next' t line) one.1 lines)

  -- and so it goes on
  pub goes-on : (s : S) (t : T) → R s t → (lines : List L) → R (after next s lines) (after next' t lines)
  goes-on s t r [] = r
  goes-on s t r (line ∷ lines) = goes-on (next s line) (next' t line) (step s t line r).1 lines

  same-cut : (s : S) (t : T) → R s t → (old new : Option (List ℕ)) (answered : List L) → IsCutAtLast reply next s old new answered → IsCutAtLast reply' next' t old new answered
  same-cut s t r old new answered cut =
      let before = cut.0 in
      let line = cut.1 in
      let written = cut.2 in (
        before,
        line,
        written,
        cut.3,
        cut.4,
        subst (λ z. Appends old new (z ++ written)) (same-replies s t r before) cut.5,
        cut.6 ∙ (step (after next s before) (after next' t before) line (goes-on s t r before)).0,
      )

  -- what ends the one early ends the other so
  pub same-end : (s last : S) (t : T) → R s t → (why : RunFault) (old new : Option (List ℕ)) (lines : List L)
      → EndsEarly reply next why s last old new lines → (end : T) × EndsEarly reply' next' why t end old new lines
  same-end s last t r why old new lines e =
      let answered = e.0 in
      let same = same-replies s t r answered in (
        after next' t answered,
        (answered, e.1, e.2, refl, subst (AppendsBeginning old new) same e.4, λ n. subst (Appends old new) same (e.5 n), λ w. same-cut s t r old new answered (e.6 w)),
      )

-- ---- where lines may be refused

module _ {S T : Type 0} (reply : S → List ℕ → List ℕ) (next : S → List ℕ → S) (reply' : T → List ℕ → List ℕ) (next' : T → List ℕ → T) (refusal : List ℕ → Option (List ℕ)) (R : S → T → Type 0)
    (step : (s : S) (t : T) (line : List ℕ) → R s t → (reply s line ≡ reply' t line) × R (next s line) (next' t line)) where
  refused-or : (s : S) (t : T) (line : List ℕ) (refused : Bool) → R s t
      → (reply_or_refusal reply refusal s (line, refused) ≡ reply_or_refusal reply' refusal t (line, refused)) × R (next_or_same next s (line, refused)) (next_or_same next' t (line, refused))
  refused-or s t line true r = (refl, r)
  refused-or s t line false r = step s t line r

  step-read : (s : S) (t : T) (r : Read) → R s t
      → (reply_or_refusal reply refusal s r ≡ reply_or_refusal reply' refusal t r) × R (next_or_same next s r) (next_or_same next' t r)
  step-read s t r is = refused-or s t r.0 r.1 is

  pub all-along : (s last : S) (t : T) → R s t → (old new : Option (List ℕ)) (input : List ℕ) → AnswersAll reply next refusal s last old new input → (end : T) × AnswersAll reply' next' refusal t end old new input
  all-along s last t is old new input a =
      let told = reply_or_refusal reply refusal in
      let gone = next_or_same next in
      let told' = reply_or_refusal reply' refusal in
      let gone' = next_or_same next' in
      (after gone' t a.0, (a.0, a.1, subst (Appends old new) (same-replies told gone told' gone' R step-read s t is a.0) a.2, refl))

  pub some-along : (why : RunFault) (s last : S) (t : T) → R s t → (old new : Option (List ℕ)) (input : List ℕ)
      → AnswersSome reply next refusal why s last old new input → (end : T) × AnswersSome reply' next' refusal why t end old new input
  some-along why s last t is old new input a =
      let e = same-end (reply_or_refusal reply refusal) (next_or_same next) (reply_or_refusal reply' refusal) (next_or_same next') R step-read s last t is why old new a.0 a.2 in
      (e.0, (a.0, a.1, e.1))

  -- of a run from a state that is this one
  pub all-run : {X E : Type 0} (r : Result X E) (s first last : S) (t : T) → s ≡ first → R first t → (input old new : Option (List ℕ))
      → OnOk r (IfSome input (AnswersAll reply next refusal s last old new)) → OnOk r (IfSome input (λ i. (end : T) × AnswersAll reply' next' refusal t end old new i))
  all-run (Ok x) s first last t at is None old new h = tt
  all-run (Ok x) s first last t at is (Some input) old new h = all-along s last t (subst (λ z. R z t) (sym at) is) old new input h
  all-run (Err e) s first last t at is input old new h = tt

  pub some-run : {X : Type 0} (r : Result X RunFault) (s first last : S) (t : T) → s ≡ first → R first t → (input old new : Option (List ℕ))
      → IfErr r (λ why. IfSome input (AnswersSome reply next refusal why s last old new)) → IfErr r (λ why. IfSome input (λ i. (end : T) × AnswersSome reply' next' refusal why t end old new i))
  some-run (Ok x) s first last t at is input old new h = tt
  some-run (Err why) s first last t at is None old new h = tt
  some-run (Err why) s first last t at is (Some input) old new h = some-along why s last t (subst (λ z. R z t) (sym at) is) old new input h
