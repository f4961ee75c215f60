-- No more is read than a request needs.
use Rattle.std.proofs.Common.{◌≡◌, ◌<◌, ◌≤◌, ℕ, List, [], ◌∷◌, ◌++◌, take, drop, length, Bool, true, false, Option, Some, None, is_some, Result, Ok, Err, inl, inr, refl, sym, ap, ◌∙◌, subst, arith, append_assoc, append-nil, length-append}
use Rattle.std.specs.Io.KnownBytes.{Consumes, Keeps}
use Rattle.std.proofs.KnownBytes.{Consumes-nil, Consumes-trans}
use Rattle.httparse.specs.declared.spans.HeaderSpan.{HeaderSpan}
use Rattle.httparse.specs.declared.spans.RequestSpans.{RequestSpans}
use Rattle.httparse.specs.Spans.{IsRequestAt}
use Rattle.httparse.specs.Grammar.{RequestHead, ReadsRequest, HasNoRequest, print_blank, print_version, print_end, print_section}
use Rattle.httparse.proofs.GrammarLemmas.{request_unique, ReadsRequest-append, print_request-append}
use Rattle.spec_api.specs.Refusals.{Refusal}
use Rattle.spec_api.specs.Targets.{Asked}
use Rattle.spec_http.specs.Heads.{head_of}
use Rattle.spec_http.specs.Checks.{Opening, checked}
use Rattle.spec_http.specs.Connections.{longest_head, asked_with_body, asked_after}
use Rattle.http_request_head.specs.Reading.{IsFound, Reads}
use Rattle.http_request_head.specs.declared.fault.ReadFault.{ReadFault}
use Rattle.http_request_head.specs.declared.fault.ReadFault.TheVariants as fault
use Rattle.http_request_head.specs.declared.found.FoundHead.TheVariants as found
use Rattle.http_request_reader.specs.declared.received.Received.{Received}
use Rattle.http_request_reader.specs.Receiving.{IsWhole, IsNeeded, ReadsNoMore, Needs, IsOfBody, TellsWith, Tells}
use Rattle.http_request_reader.proofs.Told.{short_body}

-- as many bytes as a head may have are needed
short_needed : (bytes : List ℕ) → length bytes ≤ longest_head → IsNeeded bytes
short_needed bytes short front back e some long whole = absurd (omega (arith, short, some, long, ap length e, length-append front back))

-- a request that is whole is whole by the head that the bytes begin with
is_whole : (bytes rest : List ℕ) (h : RequestHead) → ReadsRequest bytes h rest → IsWhole bytes → is_some (asked_after (checked (head_of h)) rest) ≡ true
is_whole bytes rest h reads (k, left, also, whole) =
    let same = request_unique bytes h k rest left reads also in
    subst (λ x. is_some (asked_after (checked (head_of x)) rest) ≡ true) (sym same.0) (subst (λ r. is_some (asked_after (checked (head_of k)) r) ≡ true) (sym same.1) whole)

not_asked : (s : Option (Result Asked Refusal)) → s ≡ None → is_some s ≡ true → ⊥
not_asked None e some = absurd (cc)
not_asked (Some a) e some = absurd (cc)

-- a beginning of what was read of a body is none
front_is_short : (h : RequestHead) (c : Result Opening Refusal) (follows more bytes front back : List ℕ) → c ≡ checked (head_of h)
    → ReadsRequest (bytes ++ more) h (follows ++ more) → IsOfBody c follows more → length bytes ≤ longest_head
    → bytes ++ more ≡ front ++ back → 0 < length back → longest_head ≤ length front → IsWhole front → ⊥
front_is_short h (Err f) follows more bytes front back is reads fits short e some long whole =
    omega (arith, short, some, long, ap length e, ap length fits, length-append bytes more, length-append front back)
front_is_short h (Ok o) follows more bytes front back is reads (inl fits) short e some long whole =
    omega (arith, short, some, long, ap length e, ap length fits, length-append bytes more, length-append front back)
front_is_short h (Ok o) follows more bytes front back is reads (inr fits) short e some long (k, left, also, whole) =
    let same = request_unique (front ++ back) h k (follows ++ more) (left ++ back) (subst (λ b. ReadsRequest b h (follows ++ more)) e reads) (ReadsRequest-append front k left back also) in
    let less : length left < o.body_length = omega (arith, fits, some, ap length same.1, length-append left back) in
    let none : asked_after (checked (head_of k)) left ≡ None = ap (λ x. asked_after (checked (head_of x)) left) (sym same.0) ∙ ap (λ x. asked_after x left) (sym is) ∙ short_body o left less in
    not_asked (asked_after (checked (head_of k)) left) none whole

no_more : (h : RequestHead) (follows more bytes : List ℕ) (after : Option (List ℕ)) (result : Result Received ReadFault)
    → ReadsRequest (bytes ++ more) h (follows ++ more) → IsOfBody (checked (head_of h)) follows more → length bytes ≤ longest_head
    → TellsWith (checked (head_of h)) (follows ++ more) after result → ReadsNoMore (bytes ++ more) result
no_more h follows more bytes after (Ok r) reads fits short tells = λ front back. front_is_short h (checked (head_of h)) follows more bytes front back refl reads fits short
no_more h follows more bytes after (Err fault.Want) reads fits short tells = λ front back. front_is_short h (checked (head_of h)) follows more bytes front back refl reads fits short
no_more h follows more bytes after (Err fault.Device) reads fits short tells = (
  λ whole. not_asked (asked_after (checked (head_of h)) (follows ++ more)) tells (is_whole (bytes ++ more) (follows ++ more) h reads whole),
  λ front back. front_is_short h (checked (head_of h)) follows more bytes front back refl reads fits short,
)

-- what is read of a head, and what is read after it
pub head_needs : (before mid after : Option (List ℕ)) (bytes : List ℕ) (fields : List HeaderSpan) (spans : RequestSpans) (result : Result Received ReadFault)
    → Reads before mid [] bytes → length bytes ≤ longest_head → IsFound bytes fields (found.Whole spans)
    → ((h : RequestHead) → IsRequestAt bytes fields spans h → Tells (checked (head_of h)) (drop spans.len bytes) mid after result) → Needs before after result
head_needs before mid after bytes fields spans result reads short is tells =
    let h = is.0.0 in
    let at = is.0.1 in
    let told = tells h at in
    let all : Consumes before mid bytes = subst (Consumes before mid) (sym reads.1) reads.2 in (
      bytes ++ told.0,
      Consumes-trans before mid after bytes told.0 all told.1,
      no_more h (drop spans.len bytes) told.0 bytes after result (ReadsRequest-append bytes h (drop spans.len bytes) told.0 at.reads) told.2 short told.3,
    )

-- where no head was found nothing else is read
pub nothing_needs : (before mid : Option (List ℕ)) (bytes : List ℕ) (r : Received) → Reads before mid [] bytes → length bytes ≤ longest_head → Needs before mid (Ok r)
nothing_needs before mid bytes r reads short = (bytes, subst (Consumes before mid) (sym reads.1) reads.2, short_needed bytes short)

-- nothing is no request
no_method : (a b c : List ℕ) → 0 < length b → [] ≡ a ++ (b ++ c) → ⊥
no_method a b c some e = absurd (omega (arith, some, ap length e, length-append a (b ++ c), length-append b c))

no_request : HasNoRequest []
no_request h rest (ok, e) =
    let after = h.target ++ 32 ∷ (print_version h.minor ++ (print_end h.line_end ++ (print_section h.fields h.last ++ rest))) in
    no_method (print_blank h.blank) h.method (32 ∷ after) ok.method.0 (e ∙ print_request-append h rest)

none_is_whole : (bytes : List ℕ) → HasNoRequest bytes → IsWhole bytes → ⊥
none_is_whole bytes none (h, rest, reads, whole) = none h rest reads

pub fault_needs : (before mid : Option (List ℕ)) (bytes : List ℕ) (f : ReadFault) (failed : Bool) → Reads before mid [] bytes → length bytes ≤ longest_head
    → (failed ≡ false → HasNoRequest bytes) → (failed ≡ true → bytes ≡ []) → Needs before mid (Err f)
fault_needs before mid bytes fault.Want failed reads short none nothing = (bytes, subst (Consumes before mid) (sym reads.1) reads.2, short_needed bytes short)
fault_needs before mid bytes fault.Device failed reads short none nothing =
    (bytes, subst (Consumes before mid) (sym reads.1) reads.2, (none_is_whole bytes (no failed none nothing), short_needed bytes short))
  where
    no : (failed : Bool) → (failed ≡ false → HasNoRequest bytes) → (failed ≡ true → bytes ≡ []) → HasNoRequest bytes
    no true none nothing = subst HasNoRequest (sym (nothing refl)) no_request
    no false none nothing = none refl
