-- What is asked by bytes that have come so far.
use Rattle.std.proofs.Common.{◌≡◌, ◌≤◌, ◌<◌, ◌+◌, ℕ, List, [], ◌∷◌, ◌++◌, take, drop, length, Some, None, Result, Ok, Err, IfOk, inl, inr, refl, sym, ap, ◌∙◌, subst, arith, append_assoc, length-append, length-drop, take_all, length-take-le}
use Rattle.std.proofs.lemmas.List.{take-append-drop, drop-append-le}
use Rattle.std.proofs.lemmas.Bool.{cases_lt}
use Rattle.httparse.specs.declared.spans.HeaderSpan.{HeaderSpan}
use Rattle.httparse.specs.declared.spans.RequestSpans.{RequestSpans}
use Rattle.httparse.specs.Spans.{IsRequestAt}
use Rattle.httparse.specs.Grammar.{RequestHead}
use Rattle.spec_api.specs.declared.refusals.Part.TheVariants as part
use Rattle.spec_api.specs.Refusals.{bad_request, too_large}
use Rattle.spec_http.specs.Heads.{head_of}
use Rattle.spec_http.specs.Checks.{checked}
use Rattle.spec_http.specs.Connections.{longest_head, asked_after, Asks}
use Rattle.http_request_head.proofs.Wholes.{found_asks}
use Rattle.http_request_head.specs.Reading.{IsFound}
use Rattle.http_request_head.specs.declared.fault.ReadFault.{ReadFault}
use Rattle.http_request_head.specs.declared.found.FoundHead.TheVariants as found
use Rattle.http_request_reader.specs.Receiving.{said}
use Rattle.http_request_reader.specs.Arriving.{WaitsFor, AsksSoFar, ArrivesAfter}
use Rattle.http_request_reader.specs.declared.arrived.Arrived.{Arrived}
use Rattle.http_request_reader.specs.declared.arrived.Arrived.TheVariants as arrived
use Rattle.http_request_reader.proofs.Told.{short_body}

module _ (bytes front : List ℕ) (is : front ≡ take longest_head bytes) where
  -- the bytes are their front and the rest
  abbrev rest : List ℕ
  rest = drop longest_head bytes

  cut : bytes ≡ front ++ rest
  cut = sym (ap (λ f. f ++ rest) is ∙ take-append-drop longest_head bytes)

  pub place_fits : (n : ℕ) → n ≤ length front → n ≤ length bytes
  place_fits n fits = omega (arith, fits, ap length cut, length-append front rest)

  pub front_fits : length front ≤ longest_head
  front_fits =
      elim (cases_lt (length bytes) longest_head) [
        | inl less ↦ omega (arith, less, ap length (is ∙ take_all longest_head bytes (omega (arith, less))))
        | inr more ↦ omega (arith, ap length is, length-take-le longest_head bytes more)
      ]

  -- what is asked by a head in the front, with what follows it
  pub by_head : (fields : List HeaderSpan) (spans : RequestSpans) (result : Result Arrived ReadFault) → IsFound front fields (found.Whole spans)
      → ((h : RequestHead) → IsRequestAt front fields spans h → ArrivesAfter (checked (head_of h)) spans.len bytes result) → IfOk result (λ a. AsksSoFar bytes a)
  by_head fields spans (Err f) stands after = tt
  by_head fields spans (Ok (arrived.Whole r)) stands after =
      let h = stands.0.0 in
      let at = stands.0.1 in
      let told = after h at in
      let follows : drop spans.len bytes ≡ drop spans.len front ++ rest = ap (drop spans.len) cut ∙ drop-append-le spans.len front rest stands.1.section.len_fits in
      let says : asked_after (checked (head_of h)) (drop spans.len front ++ rest) ≡ said r = ap (asked_after (checked (head_of h))) (sym follows) ∙ told.0 in
      (subst (λ b. Asks b (said r)) (sym cut) (subst (Asks (front ++ rest)) says (found_asks front fields (found.Whole spans) rest stands h at)), told.1)
  by_head fields spans (Ok (arrived.Part n)) stands after =
      let h = stands.0.0 in
      let at = stands.0.1 in
      let told = after h at in (
        told.3,
        λ more short.
            let all : bytes ++ more ≡ front ++ (rest ++ more) = ap (λ b. b ++ more) cut ∙ append_assoc front rest more in
            let follows = drop spans.len front ++ (rest ++ more) in
            let size : length (bytes ++ more) ≡ spans.len + length follows =
            omega (arith, ap length all, length-append front (rest ++ more), length-append (drop spans.len front) (rest ++ more), length-drop spans.len front, stands.1.section.len_fits) in
            let none : asked_after (checked (head_of h)) follows ≡ None = ap (λ c. asked_after c follows) told.1 ∙ short_body told.0 follows (omega (arith, size, short, told.2)) in
            subst (λ b. Asks b None) (sym all) (subst (Asks (front ++ (rest ++ more))) none (found_asks front fields (found.Whole spans) (rest ++ more) stands h at)),
      )

  -- where the front is no head, or one that is too large, so are the bytes
  pub ill_formed : (fields : List HeaderSpan) → IsFound front fields found.IllFormed → Asks bytes (Some (Err (bad_request part.Head)))
  ill_formed fields stands = subst (λ b. Asks b (Some (Err (bad_request part.Head)))) (sym cut) (found_asks front fields found.IllFormed rest stands)

  pub too_large_head : (fields : List HeaderSpan) → IsFound front fields found.TooLarge → Asks bytes (Some (Err too_large))
  too_large_head fields stands = subst (λ b. Asks b (Some (Err too_large))) (sym cut) (found_asks front fields found.TooLarge rest stands)

  -- a part of a head that is shorter than one may be is all there is
  all_there : length front < longest_head → front ≡ bytes
  all_there short =
      elim (cases_lt (length bytes) longest_head) [
        | inl less ↦ is ∙ take_all longest_head bytes (omega (arith, less))
        | inr more ↦ absurd (omega (arith, short, ap length is, length-take-le longest_head bytes more))
      ]

  nothing_more : (n : ℕ) (more : List ℕ) → length (bytes ++ more) < n + 1 → length bytes ≡ n → more ≡ []
  nothing_more n [] short same = refl
  nothing_more n (b ∷ more) short same = absurd (omega (arith, short, same, length-append bytes (b ∷ more)))

  pub half_a_head : (fields : List HeaderSpan) (n : ℕ) → n ≡ length front → IsFound front fields found.Cut → WaitsFor bytes (n + 1)
  half_a_head fields n size stands =
      let same = all_there stands.0 in
      let long : length bytes ≡ n = sym (size ∙ ap length same) in (
        omega (arith, long),
        λ more short.
            let none = nothing_more n more short long in
            subst (λ b. Asks (b ++ more) None) same (found_asks front fields found.Cut more stands none),
      )
