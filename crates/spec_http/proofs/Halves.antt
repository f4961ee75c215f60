-- Heads and bodies that are cut, and heads that are too large.
use Rattle.std.proofs.Common.{◌≡◌, ◌≤◌, ◌<◌, ℕ, List, [], ◌++◌, take, drop, length, ◌⊎◌, Some, None, Result, Ok, Err, inl, inr, refl, sym, ap, subst, ◌∙◌, append-nil, append_assoc, arith, length-append}
use Rattle.std.proofs.lemmas.Bool.{lt-ltb}
use Rattle.std.proofs.lemmas.List.{append_cancel_right, length-take-le, take-append-drop}
use Rattle.httparse.specs.Grammar.{RequestHead, IsRequestHead, print_end, print_request, ReadsRequest}
use Rattle.httparse.specs.Spans.{RequestExceeds}
use Rattle.httparse.proofs.GrammarLemmas.{request_prefix_free}
use Rattle.spec_api.specs.Refusals.{Refusal, bad_request, too_large}
use Rattle.spec_api.specs.declared.refusals.Part.TheVariants as part
use Rattle.spec_http.specs.Heads.{head_of}
use Rattle.spec_http.specs.Checks.{Opening, checked}
use Rattle.spec_http.specs.Connections.{longest_head, most_fields, IsHeadTooLarge, IsHalfAHead, asked_with_body, asked_after, AsksOnly}
use Rattle.spec_http.specs.Laws.{HeadsAsk, HalfAHeadAsksNothing, HalfABodyAsksNothing, LargeHeadsAreRefused, ManyFieldsAreRefused, IllFormedHeadsAreRefused}
use Rattle.spec_http.proofs.Fields.{started, lines_of, started_append, written_as, many_exceed, exceeds_overflows}
use Rattle.spec_http.proofs.Meanings.{only, only_some}

-- what is whole stays whole with nothing after it
alone : (h : RequestHead) (rest : List ℕ) → IsRequestHead h → ReadsRequest ((print_request h ++ rest) ++ []) h rest
alone h rest ok = (ok, append-nil (print_request h ++ rest))

pub heads_ask : HeadsAsk
heads_ask h rest ok limits = only_some (print_request h ++ rest) [] h rest (asked_after (checked (head_of h)) rest) (alone h rest ok) (inl (h, rest, (ok, refl), limits, refl))

something_left : (rest more : List ℕ) → 0 < length more → rest ++ more ≡ [] → ⊥
something_left rest more some e = absurd (omega (arith, some, ap length e, length-append rest more))

-- a whole head does not begin with another
no_head_before : (h k : RequestHead) (bytes more rest : List ℕ) → ReadsRequest (bytes ++ more) h [] → 0 < length more → ReadsRequest bytes k rest → ⊥
no_head_before h k bytes more rest whole some reads = something_left rest more some (request_prefix_free bytes more k h rest [] reads whole).1

pub half_a_head : HalfAHeadAsksNothing
half_a_head h bytes more ok few e some short =
    let whole : ReadsRequest (bytes ++ more) h [] = (ok, sym e ∙ sym (append-nil (print_request h))) in
    let within : RequestExceeds most_fields bytes → ⊥ = λ many. let over = exceeds_overflows most_fields bytes many more h [] whole in absurd (omega (arith, over, few)) in
    let half : IsHalfAHead bytes = (short, λ k rest reads. no_head_before h k bytes more rest whole some reads, inl (more, h, whole), within) in
    only_some bytes more h [] None whole (inr (inr (inr (half, refl))))

nothing_with : (r : Result Opening Refusal) (o : Opening) (rest : List ℕ) → r ≡ Ok o → length rest < o.body_length → asked_after r rest ≡ None
nothing_with r o rest e short =
    let cut : asked_with_body o rest ≡ None = rw (lt-ltb (length rest) o.body_length short) refl in
    ap (λ q. asked_after q rest) e ∙ cut

pub half_a_body : HalfABodyAsksNothing
half_a_body h rest o ok limits passes short =
    subst (AsksOnly (print_request h ++ rest)) (nothing_with (checked (head_of h)) o rest passes short) (heads_ask h rest ok limits)

-- a head that is longer than this does not stand in as many bytes
no_long_head : (n : ℕ) (h k : RequestHead) (rest left : List ℕ) → IsRequestHead h → n < length (print_request h) → ReadsRequest (take n (print_request h ++ rest)) k left → ⊥
no_long_head n h k rest left ok long reads =
    let bytes = print_request h ++ rest in
    let fits : n ≤ length bytes = omega (arith, long, length-append (print_request h) rest) in
    let same = request_prefix_free (take n bytes) (drop n bytes) k h left rest reads ((ok, take-append-drop n bytes)) in
    let size : length (take n bytes) ≡ n = length-take-le n bytes fits in
    let parts : length (take n bytes) ≡ length (print_request k ++ left) = ap length reads.1 in
    let heads : length (print_request k) ≡ length (print_request h) = ap (λ g. length (print_request g)) same.0 in
    absurd (omega (arith, long, size, parts, heads, length-append (print_request k) left))

is_too_large : (h : RequestHead) (rest : List ℕ) → IsRequestHead h → (longest_head < length (print_request h)) ⊎ (most_fields < length h.fields) → IsHeadTooLarge (print_request h ++ rest)
is_too_large h rest ok (inl long) =
    let least : longest_head ≤ length (print_request h ++ rest) = omega (arith, long, length-append (print_request h) rest) in
    inl (least, λ k left reads. no_long_head longest_head h k rest left ok long reads)
is_too_large h rest ok (inr many) = inr (many_exceed most_fields h (print_request h ++ rest) (print_end h.last ++ rest) ok many (written_as h rest))

pub large_heads : LargeHeadsAreRefused
large_heads h rest ok over = only_some (print_request h ++ rest) [] h rest (Some (Err too_large)) (alone h rest ok) (inr (inr (inl (is_too_large h rest ok over, refl))))

pub many_fields : ManyFieldsAreRefused
many_fields h bytes ok many e =
    let whole : ReadsRequest (bytes ++ print_end h.last) h [] = (ok, sym e ∙ sym (append-nil (print_request h))) in
    let written : bytes ++ print_end h.last ≡ started h (lines_of h ++ []) ++ print_end h.last =
    sym e ∙ sym (append-nil (print_request h)) ∙ written_as h [] ∙ ap (λ z. started h (lines_of h ++ z)) (append-nil (print_end h.last))
    ∙ sym (started_append h (lines_of h ++ []) (print_end h.last) ∙ ap (started h) (append_assoc (lines_of h) [] (print_end h.last))) in
    let front : bytes ≡ started h (lines_of h ++ []) = append_cancel_right bytes (started h (lines_of h ++ [])) (print_end h.last) written in
    only_some bytes (print_end h.last) h [] (Some (Err too_large)) whole (inr (inr (inl (inr (many_exceed most_fields h bytes [] ok many front), refl))))

pub ill_formed : IllFormedHeadsAreRefused
ill_formed bytes never closed = only bytes (Some (Err (bad_request part.Head))) (inr (inl (never, refl))) (λ free. closed free.1)
