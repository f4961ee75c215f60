-- What bytes ask, and what else they cannot ask.
use Rattle.std.proofs.Common.{◌≡◌, ◌≤◌, ℕ, ◌+◌, ◌-◌, List, [], ◌++◌, take, length, ◌⊎◌, Option, Result, inl, inr, sym, ap, subst, ◌∙◌, append-nil, arith}
use Rattle.std.proofs.Math.Seq.{take-append-add}
use Rattle.httparse.specs.Grammar.{RequestHead, print_request, ReadsRequest, NeverHasRequest, EndsInTarget}
use Rattle.httparse.proofs.GrammarLemmas.{request_unique}
use Rattle.spec_api.specs.Refusals.{Refusal}
use Rattle.spec_api.specs.Targets.{Asked}
use Rattle.spec_http.specs.Heads.{head_of}
use Rattle.spec_http.specs.Checks.{checked}
use Rattle.spec_http.specs.Connections.{longest_head, most_fields, IsWithinLimits, IsHeadTooLarge, IsHalfAHead, AsksByHead, asked_after, Asks, AsksOnly}
use Rattle.spec_http.proofs.Fields.{exceeds_overflows}

abbrev pub Said : Type 0
Said = Option (Result Asked Refusal)

-- a head is not one that never comes
pub never_reads : (bytes : List ℕ) (h : RequestHead) (rest : List ℕ) → NeverHasRequest bytes → ReadsRequest bytes h rest → ⊥
never_reads bytes h rest never reads = never [] h rest (subst (λ b. ReadsRequest b h rest) (sym (append-nil bytes)) reads)

-- a head that is short enough stands in the bytes that one may have
taken : (n : ℕ) (bytes : List ℕ) (h : RequestHead) (rest : List ℕ) → ReadsRequest bytes h rest → length (print_request h) ≤ n
    → ReadsRequest (take n bytes) h (take (n - length (print_request h)) rest)
taken n bytes h rest reads fits =
    let least : n ≡ length (print_request h) + (n - length (print_request h)) = omega (arith, fits) in
    (reads.0, ap (take n) reads.1 ∙ ap (λ m. take m (print_request h ++ rest)) least ∙ take-append-add (print_request h) rest (n - length (print_request h)))

-- a head within the limits is not too large
pub not_too_large : (bytes : List ℕ) (h : RequestHead) (rest : List ℕ) → ReadsRequest bytes h rest → IsWithinLimits h → IsHeadTooLarge bytes → ⊥
not_too_large bytes h rest reads limits (inl long) = long.1 h (take (longest_head - length (print_request h)) rest) (taken longest_head bytes h rest reads limits.0)
not_too_large bytes h rest reads limits (inr many) =
    let more = exceeds_overflows most_fields bytes many [] h rest (subst (λ b. ReadsRequest b h rest) (sym (append-nil bytes)) reads) in
    absurd (omega (arith, more, limits.1))

-- what one head asks, as the same bytes have no other
by_head : (bytes : List ℕ) (said other : Said) → AsksByHead bytes said → AsksByHead bytes other → said ≡ other
by_head bytes said other (h, rest, reads, limits, e) (k, left, others, limits', e') =
    let same = request_unique bytes h k rest left reads others in
    let heads : asked_after (checked (head_of h)) rest ≡ asked_after (checked (head_of k)) rest = ap (λ g. asked_after (checked (head_of g)) rest) same.0 in
    let rests : asked_after (checked (head_of k)) rest ≡ asked_after (checked (head_of k)) left = ap (asked_after (checked (head_of k))) same.1 in
    e ∙ heads ∙ rests ∙ sym e'

-- half a head passes no limit
half_is_small : (bytes : List ℕ) → IsHalfAHead bytes → IsHeadTooLarge bytes → ⊥
half_is_small bytes half (inl long) = absurd (omega (arith, long.0, half.0))
half_is_small bytes half (inr many) = half.3 many

-- of half a head a head may come, or it ends in a target
half_may_come : (bytes : List ℕ) → IsHalfAHead bytes → NeverHasRequest bytes → EndsInTarget bytes
half_may_come bytes (short, none, inl (more, h, reads), few) never = absurd (never more h [] reads)
half_may_come bytes (short, none, inr ends, few) never = ends

abbrev pub IsOpen : List ℕ → Type 0
IsOpen bytes = NeverHasRequest bytes × (IsHeadTooLarge bytes ⊎ EndsInTarget bytes)

pub one_thing : (bytes : List ℕ) (said other : Said) → Asks bytes said → Asks bytes other → (said ≡ other) ⊎ IsOpen bytes
one_thing bytes said other (inl a) (inl b) = inl (by_head bytes said other a b)
one_thing bytes said other (inl (h, rest, reads, limits, e)) (inr (inl b)) = absurd (never_reads bytes h rest b.0 reads)
one_thing bytes said other (inl (h, rest, reads, limits, e)) (inr (inr (inl b))) = absurd (not_too_large bytes h rest reads limits b.0)
one_thing bytes said other (inl (h, rest, reads, limits, e)) (inr (inr (inr b))) = absurd (b.0.1 h rest reads)
one_thing bytes said other (inr (inl a)) (inl (h, rest, reads, limits, e)) = absurd (never_reads bytes h rest a.0 reads)
one_thing bytes said other (inr (inl a)) (inr (inl b)) = inl (a.1 ∙ sym b.1)
one_thing bytes said other (inr (inl a)) (inr (inr (inl b))) = inr (a.0, inl b.0)
one_thing bytes said other (inr (inl a)) (inr (inr (inr b))) = inr (a.0, inr (half_may_come bytes b.0 a.0))
one_thing bytes said other (inr (inr (inl a))) (inl (h, rest, reads, limits, e)) = absurd (not_too_large bytes h rest reads limits a.0)
one_thing bytes said other (inr (inr (inl a))) (inr (inl b)) = inr (b.0, inl a.0)
one_thing bytes said other (inr (inr (inl a))) (inr (inr (inl b))) = inl (a.1 ∙ sym b.1)
one_thing bytes said other (inr (inr (inl a))) (inr (inr (inr b))) = absurd (half_is_small bytes b.0 a.0)
one_thing bytes said other (inr (inr (inr a))) (inl (h, rest, reads, limits, e)) = absurd (a.0.1 h rest reads)
one_thing bytes said other (inr (inr (inr a))) (inr (inl b)) = inr (b.0, inr (half_may_come bytes a.0 b.0))
one_thing bytes said other (inr (inr (inr a))) (inr (inr (inl b))) = absurd (half_is_small bytes a.0 b.0)
one_thing bytes said other (inr (inr (inr a))) (inr (inr (inr b))) = inl (a.1 ∙ sym b.1)

settled : (said other : Said) (P : Type 0) → (other ≡ said) ⊎ P → (P → ⊥) → other ≡ said
settled said other P (inl same) none = same
settled said other P (inr p) none = absurd (none p)

-- where it is settled what bytes ask, they ask nothing else
pub only : (bytes : List ℕ) (said : Said) → Asks bytes said → (IsOpen bytes → ⊥) → AsksOnly bytes said
only bytes said asks closed = (asks, λ other others. settled said other (IsOpen bytes) (one_thing bytes other said others asks) closed)

-- as where a head may come
pub only_some : (bytes more : List ℕ) (h : RequestHead) (rest : List ℕ) (said : Said) → ReadsRequest (bytes ++ more) h rest → Asks bytes said → AsksOnly bytes said
only_some bytes more h rest said reads asks = only bytes said asks (λ free. free.0 more h rest reads)
