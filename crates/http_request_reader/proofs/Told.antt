-- What is asked by what was read, and by what follows it.
use Rattle.std.proofs.Common.{◌≡◌, ◌<◌, ◌≤◌, ℕ, List, [], ◌++◌, take, drop, length, Bool, true, false, cond, nat_lt, Option, Some, None, Result, Ok, Err, IfOk, inl, inr, refl, sym, ap, ◌∙◌, subst, arith, append_assoc, append-nil, length-append}
use Rattle.std.proofs.lemmas.Bool.{le-ltb, ltb-false, ltb-true, lt-ltb}
use Rattle.std.proofs.lemmas.List.{take-append-le}
use Rattle.std.specs.Io.KnownBytes.{Consumes, IsAtEnd}
use Rattle.httparse.specs.declared.spans.HeaderSpan.{HeaderSpan}
use Rattle.httparse.specs.declared.spans.RequestSpans.{RequestSpans}
use Rattle.httparse.specs.Spans.{IsRequestAt}
use Rattle.httparse.specs.Grammar.{RequestHead}
use Rattle.spec_api.specs.Refusals.{Refusal}
use Rattle.spec_api.specs.Targets.{Asked, asked}
use Rattle.spec_http.specs.Heads.{head_of}
use Rattle.spec_http.specs.Checks.{Opening, checked}
use Rattle.spec_http.specs.Connections.{asked_with_body, asked_after, Asks}
use Rattle.spec_http.proofs.Staying.{whole_stays}
use Rattle.http_request_head.proofs.Wholes.{found_asks}
use Rattle.http_request_head.specs.Reading.{IsFound, Reads}
use Rattle.http_request_head.specs.declared.fault.ReadFault.{ReadFault}
use Rattle.http_request_head.specs.declared.found.FoundHead.{FoundHead}
use Rattle.http_request_head.specs.declared.found.FoundHead.TheVariants as found
use Rattle.http_request_reader.specs.declared.received.Received.{Received}
use Rattle.http_request_reader.specs.declared.received.Received.TheVariants as received
use Rattle.http_request_reader.specs.Receiving.{AsksKnown, Tells, said}

-- ---- what follows a whole request does not count

-- nor does anything follow where nothing is asked
stays : (c : Result Opening Refusal) (rest more : List ℕ) (s : Option (Result Asked Refusal)) → asked_after c rest ≡ s → (s ≡ None → more ≡ []) → asked_after c (rest ++ more) ≡ s
stays c rest more None e ends = ap (λ m. asked_after c (rest ++ m)) (ends refl) ∙ ap (asked_after c) (append-nil rest) ∙ e
stays c rest more (Some a) e ends = whole_stays c rest more a e

-- ---- what a connection asks

-- what follows the bytes that were read is what is left
pub known_asks : (before mid : Option (List ℕ)) (bytes : List ℕ) (r : Received) → Reads before mid [] bytes
    → ((left : List ℕ) → mid ≡ Some left → Asks (bytes ++ left) (said r)) → AsksKnown before r
known_asks None mid bytes r reads asks = tt
known_asks (Some input) None bytes r reads asks = absurd reads.2
known_asks (Some input) (Some left) bytes r reads asks =
    let whole : input ≡ bytes ++ left = reads.2 ∙ ap (λ b. b ++ left) (sym reads.1) in
    subst (λ b. Asks b (said r)) (sym whole) (asks left refl)

told : (c : Result Opening Refusal) (rest left : List ℕ) (after : Option (List ℕ)) (r : Received) → Tells c rest (Some left) after (Ok r) → asked_after c (rest ++ left) ≡ said r
told c rest left None r tells = absurd tells.1
told c rest left (Some last) r (more, consumes, fits, (says, ends)) =
    let whole : rest ++ left ≡ (rest ++ more) ++ last = ap (λ m. rest ++ m) consumes ∙ sym (append_assoc rest more last) in
    ap (asked_after c) whole ∙ stays c (rest ++ more) last (said r) says ends

pub head_asks : (before mid after : Option (List ℕ)) (bytes : List ℕ) (fields : List HeaderSpan) (spans : RequestSpans) (r : Received)
    → Reads before mid [] bytes → IsFound bytes fields (found.Whole spans)
    → ((h : RequestHead) → IsRequestAt bytes fields spans h → Tells (checked (head_of h)) (drop spans.len bytes) mid after (Ok r)) → AsksKnown before r
head_asks before mid after bytes fields spans r reads is tells =
    let h = is.0.0 in
    let at = is.0.1 in
    known_asks before mid bytes r reads
    (λ left here.
    subst (Asks (bytes ++ left)) (told (checked (head_of h)) (drop spans.len bytes) left after r (subst (λ m. Tells (checked (head_of h)) (drop spans.len bytes) m after (Ok r)) here (tells h at)))
    (found_asks bytes fields (found.Whole spans) left is h at))

-- what is asked with a head that was found, if anything is
pub whole_asks : (before mid after : Option (List ℕ)) (bytes : List ℕ) (fields : List HeaderSpan) (spans : RequestSpans) (result : Result Received ReadFault)
    → Reads before mid [] bytes → IsFound bytes fields (found.Whole spans)
    → ((h : RequestHead) → IsRequestAt bytes fields spans h → Tells (checked (head_of h)) (drop spans.len bytes) mid after result) → IfOk result (λ r. AsksKnown before r)
whole_asks before mid after bytes fields spans (Ok r) reads is tells = head_asks before mid after bytes fields spans r reads is tells
whole_asks before mid after bytes fields spans (Err f) reads is tells = tt

-- what was read onto nothing, and then lent
pub from_first : (before mid : Option (List ℕ)) (old bytes lent : List ℕ) → old ≡ [] → lent ≡ bytes → Reads before mid old bytes → Reads before mid [] lent
from_first before mid old bytes lent nothing same reads = subst (λ o. Reads before mid o lent) nothing (subst (Reads before mid old) (sym same) reads)

pub cut_asks : (before mid : Option (List ℕ)) (bytes : List ℕ) (fields : List HeaderSpan) → Reads before mid [] bytes → IsFound bytes fields found.Cut → IsAtEnd mid
    → AsksKnown before received.Ended
cut_asks before mid bytes fields reads is end = known_asks before mid bytes received.Ended reads (λ left here. found_asks bytes fields found.Cut left is (subst IsAtEnd here end))

-- ---- bodies

pub short_body : (o : Opening) (rest : List ℕ) → length rest < o.body_length → asked_with_body o rest ≡ None
short_body o rest short = rw (lt-ltb (length rest) o.body_length short) refl

pub whole_body : (o : Opening) (rest : List ℕ) (a : Result Asked Refusal) → o.body_length ≤ length rest → a ≡ asked o.method o.route o.query (take o.body_length rest)
    → asked_with_body o rest ≡ Some a
whole_body o rest a long is = rw (le-ltb (length rest) o.body_length long) (ap Some (sym is))
