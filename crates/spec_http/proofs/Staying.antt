-- What bytes ask stays asked, whatever follows them.
use Rattle.std.proofs.Common.{◌≡◌, ◌≤◌, ℕ, List, [], ◌++◌, take, length, Bool, true, false, cond, nat_lt, Option, Some, None, Result, Ok, Err, inl, inr, refl, sym, ap, ◌∙◌, subst, arith, append_assoc, length-append}
use Rattle.std.proofs.lemmas.Bool.{le-ltb, ltb-false}
use Rattle.std.proofs.lemmas.List.{take-append-le}
use Rattle.httparse.specs.Grammar.{RequestHead, ReadsRequest, NeverHasRequest, HasNoRequest}
use Rattle.httparse.proofs.GrammarLemmas.{ReadsRequest-append}
use Rattle.spec_api.specs.Refusals.{Refusal}
use Rattle.spec_api.specs.Targets.{Asked, asked}
use Rattle.spec_http.specs.Heads.{head_of}
use Rattle.spec_http.specs.Checks.{Opening, checked}
use Rattle.spec_http.specs.Connections.{longest_head, IsHeadTooLarge, asked_with_body, asked_after, Asks}
use Rattle.spec_http.specs.Laws.{AskedStaysAsked}

-- ---- of a head

pub never_after : (bytes more : List ℕ) → NeverHasRequest bytes → NeverHasRequest (bytes ++ more)
never_after bytes more never rest h left reads = never (more ++ rest) h left (subst (λ b. ReadsRequest b h left) (append_assoc bytes more rest) reads)

pub too_large_after : (bytes more : List ℕ) → IsHeadTooLarge bytes → IsHeadTooLarge (bytes ++ more)
too_large_after bytes more (inl (long, none)) =
    inl (omega (arith, long, length-append bytes more), subst HasNoRequest (sym (take-append-le longest_head bytes more long)) none)
too_large_after bytes more (inr (front, rest, e, h, reads, many)) = inr (front, rest ++ more, ap (λ b. b ++ more) e ∙ append_assoc front rest more, h, reads, many)

-- ---- of a body

body_stays : (o : Opening) (rest more : List ℕ) (a : Result Asked Refusal) (short : Bool) → nat_lt (length rest) o.body_length ≡ short
    → cond short None (Some (asked o.method o.route o.query (take o.body_length rest))) ≡ Some a → asked_with_body o (rest ++ more) ≡ Some a
body_stays o rest more a true is e = absurd (cc)
body_stays o rest more a false is e =
    let least : o.body_length ≤ length rest = ltb-false (length rest) o.body_length is in
    let long : nat_lt (length (rest ++ more)) o.body_length ≡ false = le-ltb (length (rest ++ more)) o.body_length (omega (arith, least, length-append rest more)) in
    rw (long, take-append-le o.body_length rest more least) e

-- what follows a whole request does not count
pub whole_stays : (c : Result Opening Refusal) (rest more : List ℕ) (a : Result Asked Refusal) → asked_after c rest ≡ Some a → asked_after c (rest ++ more) ≡ Some a
whole_stays (Err f) rest more a e = e
whole_stays (Ok o) rest more a e = body_stays o rest more a (nat_lt (length rest) o.body_length) refl e

-- ---- of all

pub stays_asked : AskedStaysAsked
stays_asked bytes more a (inl (h, rest, reads, limits, e)) =
    inl (h, rest ++ more, ReadsRequest-append bytes h rest more reads, limits, sym (whole_stays (checked (head_of h)) rest more a (sym e)))
stays_asked bytes more a (inr (inl (never, e))) = inr (inl (never_after bytes more never, e))
stays_asked bytes more a (inr (inr (inl (large, e)))) = inr (inr (inl (too_large_after bytes more large, e)))
stays_asked bytes more a (inr (inr (inr (half, e)))) = absurd (cc)
