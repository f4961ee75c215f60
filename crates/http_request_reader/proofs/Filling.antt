-- Bodies that are filled from a place on.
use Rattle.std.proofs.Common.{◌≡◌, ◌<◌, ◌≤◌, ◌+◌, ◌-◌, ℕ, List, [], ◌++◌, take, drop, length, Option, Result, Err, refl, sym, ap, ◌∙◌, subst, arith, append_assoc, append-nil, length-append, length-drop, length-take-le, take_all}
use Rattle.std.proofs.lemmas.List.{take-append-le}
use Rattle.std.proofs.Math.Seq.{take-append-add, take-append_seam}
use Rattle.std.specs.Io.KnownBytes.{Consumes, Keeps, IsAtEnd}
use Rattle.std.proofs.KnownBytes.{Consumes-nil, Consumes-trans, Consumes-kept}
use Rattle.http_request_head.specs.declared.fault.ReadFault.{ReadFault}
use Rattle.http_request_head.specs.declared.fault.ReadFault.TheVariants as fault
use Rattle.http_request_reader.specs.Bodies.{Fills, StopsShort}
use borrow.Rule.Slice.PartMut.{put_mid}

-- what was consumed so far stands after the front, up to this place
abbrev pub IsFilled : List ℕ → List ℕ → ℕ → Option (List ℕ) → Option (List ℕ) → Type 0
IsFilled front body place before now = (more : List ℕ) × (take place body ≡ front ++ more) × Consumes before now more × (place ≤ length body)

pub filled_at_first : (body : List ℕ) (place : ℕ) (before : Option (List ℕ)) → place ≤ length body → IsFilled (take place body) body place before before
filled_at_first body place before fits = ([], sym (append-nil (take place body)), Consumes-nil before, fits)

-- the rest of the body, with these bytes in its front
long_put : (body buf : List ℕ) (place : ℕ) → place ≤ length body → length buf ≡ length body - place → length (put_mid place (length body - place) body buf) ≡ place + length buf + length (drop (length body - place) (drop place body))
long_put body buf place fits long =
    let left = drop (length body - place) (drop place body) in
    omega (arith, length-append (take place body) (buf ++ left), length-append buf left, length-take-le place body fits)

pub filled_more : (front body buf : List ℕ) (place n : ℕ) (before mid after : Option (List ℕ)) → IsFilled front body place before mid → n ≤ length buf → length buf ≡ length body - place
    → Consumes mid after (take n buf) → IsFilled front (put_mid place (length body - place) body buf) (place + n) before after
filled_more front body buf place n before mid after (more, is, consumes, fits) few long next =
    let left = drop (length body - place) (drop place body) in
    let first : length (take place body) ≡ place = length-take-le place body fits in
    let text : take (place + n) (take place body ++ (buf ++ left)) ≡ front ++ (more ++ take n buf) =
    ap (λ k. take (k + n) (take place body ++ (buf ++ left))) (sym first)
    ∙ take-append-add (take place body) (buf ++ left) n
    ∙ ap (λ l. take place body ++ l) (take-append-le n buf left few)
    ∙ ap (λ l. l ++ take n buf) is
    ∙ append_assoc front more (take n buf)
    in
    (more ++ take n buf, text, Consumes-trans before mid after more (take n buf) consumes next, omega (arith, few, long_put body buf place fits long))

pub same_length : (body buf : List ℕ) (place : ℕ) → place ≤ length body → length buf ≡ length body - place → length (put_mid place (length body - place) body buf) ≡ length body
same_length body buf place fits long =
    let none : length (drop (length body - place) (drop place body)) ≡ 0 = omega (arith, length-drop (length body - place) (drop place body), length-drop place body) in
    omega (arith, long_put body buf place fits long, long, fits, none)

-- the body is full
pub filled_whole : (front body : List ℕ) (place : ℕ) (before now : Option (List ℕ)) → IsFilled front body place before now → length body ≤ place
    → (more : List ℕ) × Consumes before now more × (body ≡ front ++ more)
filled_whole front body place before now (more, is, consumes, fits) full = (more, consumes, sym (take_all place body full) ∙ is)

short : (front body more : List ℕ) (place : ℕ) → take place body ≡ front ++ more → place < length body → length (front ++ more) < length body
short front body more place is less = omega (arith, ap length is, length-take-le place body (omega (arith, less)), less)

-- the reader gave no more
pub filled_in_part : (front body buf : List ℕ) (place : ℕ) (before mid after : Option (List ℕ)) → IsFilled front body place before mid → place < length body → length buf ≡ length body - place
    → Keeps mid after → (more : List ℕ) × Consumes before after more × (length (front ++ more) < length (put_mid place (length body - place) body buf))
filled_in_part front body buf place before mid after (more, is, consumes, fits) less long keeps =
    (more, Consumes-kept before mid after more consumes keeps, omega (arith, short front body more place is less, long_put body buf place fits long))

pub filled_to_the_end : (front body buf : List ℕ) (place n : ℕ) (before mid after : Option (List ℕ)) → IsFilled front body place before mid → place < length body → length buf ≡ length body - place
    → n ≡ 0 → Consumes mid after (take n buf) → IsAtEnd after
    → (more : List ℕ) × Consumes before after more × ((length (front ++ more) < length (put_mid place (length body - place) body buf)) × IsAtEnd after)
filled_to_the_end front body buf place n before mid after (more, is, consumes, fits) less long none next end =
    let nothing : Consumes mid after [] = subst (λ n. Consumes mid after (take n buf)) none next in
    let all : Consumes before after more = subst (Consumes before after) (append-nil more) (Consumes-trans before mid after more [] consumes nothing) in
    (more, all, (omega (arith, short front body more place is less, long_put body buf place fits long), end))

-- a reader that fails before a body is whole
pub fault_reads : (front text body : List ℕ) (size : ℕ) (before after : Option (List ℕ)) (f : ReadFault) → Fills text body before after (Err f) → text ≡ front → length body ≡ size
    → (more : List ℕ) × Consumes before after more × StopsShort front size more f
fault_reads front text body size before after fault.Device (more, consumes, short) same long = (more, consumes, omega (arith, short, long, ap length same, length-append text more, length-append front more))
fault_reads front text body size before after fault.Want (more, consumes, none) same long = absurd none

-- a body that begins with its front, and then has room
pub begins_with : (front text body left : List ℕ) (size : ℕ) → text ≡ front → length front ≤ size → body ≡ take size text ++ left → take (length front) body ≡ front
begins_with front text body left size same fits is =
    ap (take (length front)) (is ∙ ap (λ t. take size t ++ left) same ∙ ap (λ t. t ++ left) (take_all size front fits)) ∙ take-append_seam front left
