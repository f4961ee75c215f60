-- Heads of replies, read byte after byte.
use Rattle.std.proofs.Common.{◌⊎◌, inl, inr, ◌≡◌, ◌≤◌, ◌<◌, ℕ, List, [], ◌∷◌, ◌++◌, length, drop, Option, Some, None, refl, sym, ap, ◌∙◌, subst, arith, append_assoc, append-nil, length-append, flat_map}
use Rattle.std.proofs.lemmas.Bool.{cases_lt}
use Rattle.std.specs.Io.KnownBytes.{Consumes}
use Rattle.std.proofs.KnownBytes.{Consumes-trans}
use Rattle.httparse.specs.declared.spans.HeaderSpan.{HeaderSpan}
use Rattle.httparse.specs.declared.spans.ResponseSpans.{ResponseSpans}
use Rattle.httparse.specs.Grammar.{LineEnd, crlf, lf, print_end, print_blank, print_version, print_reason, print_field, ResponseHead, print_response, ReadsResponse, HasNoResponse}
use Rattle.httparse.specs.Spans.{ResponseOverflows}
use Rattle.spec_http.specs.Connections.{longest_head, most_fields}
use Rattle.http_client.specs.Heads.{BeginsWithNoHead}
use Rattle.http_client.specs.Reading.{IfKnown, HasFound, IsFound}

-- ---- a head ends with a line feed

end_snoc : (t : List ℕ) (e : LineEnd) → (u : List ℕ) × (t ++ print_end e ≡ u ++ 10 ∷ [])
end_snoc t crlf = (t ++ 13 ∷ [], sym (append_assoc t (13 ∷ []) (10 ∷ [])))
end_snoc t lf = (t, refl)

head_snoc : (h : ResponseHead) → (u : List ℕ) × (print_response h ≡ u ++ 10 ∷ [])
unfolding print_response
head_snoc h =
    let start = print_blank h.blank ++ print_version h.minor ++ 32 ∷ h.digits ++ print_reason h.reason ++ print_end h.line_end in
    let last = end_snoc (flat_map print_field h.fields) h.last in
    (start ++ last.0, ap (λ t. start ++ t) last.1 ∙ sym (append_assoc start last.0 (10 ∷ [])))

head_some : (h : ResponseHead) → 0 < length (print_response h)
head_some h =
    let last = head_snoc h in
    omega (arith, ap length last.1, length-append last.0 (10 ∷ []))

pub nothing_is_no_head : (bytes : List ℕ) → bytes ≡ [] → HasNoResponse bytes
nothing_is_no_head bytes e h rest reads = absurd (omega (arith, head_some h, ap length (sym e ∙ reads.1), length-append (print_response h) rest))

-- ---- one byte more

-- the front of a list that is as long as another with the same beginning, or longer
front_of : (prev more text rest : List ℕ) → length text ≤ length prev → prev ++ more ≡ text ++ rest → (left : List ℕ) × (prev ≡ text ++ left)
front_of prev more [] rest le e = (prev, refl)
front_of [] more (t ∷ text) rest le e = absurd (omega (arith, le))
front_of (y ∷ prev) more (t ∷ text) rest le e =
    let on = front_of prev more text rest (omega (arith, le)) (ap (drop 1) e) in
    (on.0, cc (on.1, e))

-- a head that begins what has none is longer than that
head_longer : (prev more : List ℕ) (h : ResponseHead) (rest : List ℕ) → HasNoResponse prev → ReadsResponse (prev ++ more) h rest → length prev < length (print_response h)
head_longer prev more h rest none reads = by (cases_lt (length prev) (length (print_response h)))
  where
    by : (length prev < length (print_response h)) ⊎ (length (print_response h) ≤ length prev) → length prev < length (print_response h)
    by (inl lt) = lt
    by (inr le) = let on = front_of prev more (print_response h) rest le reads.1 in absurd (none h on.0 (reads.0, on.1))

-- a head that ends with the last byte read
all_read : (prev : List ℕ) (b : ℕ) (h : ResponseHead) (rest : List ℕ) → HasNoResponse prev → ReadsResponse (prev ++ (b ∷ [])) h rest → rest ≡ []
all_read prev b h [] none reads = refl
all_read prev b h (x ∷ rest) none reads =
    let long = head_longer prev (b ∷ []) h (x ∷ rest) none reads in
    absurd (omega (arith, long, ap length reads.1, length-append prev (b ∷ []), length-append (print_response h) (x ∷ rest)))

last_of : (prev front : List ℕ) (b : ℕ) → prev ++ (b ∷ []) ≡ front ++ (10 ∷ []) → b ≡ 10
last_of [] [] b e = cc e
last_of [] (x ∷ front) b e = absurd (omega (arith, ap length e, length-append front (10 ∷ [])))
last_of (y ∷ prev) [] b e = absurd (omega (arith, ap length e, length-append prev (b ∷ [])))
last_of (y ∷ prev) (x ∷ front) b e = last_of prev front b (ap (drop 1) e)

is_head : (prev : List ℕ) (b : ℕ) (h : ResponseHead) (rest : List ℕ) → HasNoResponse prev → ReadsResponse (prev ++ (b ∷ [])) h rest → prev ++ (b ∷ []) ≡ print_response h
is_head prev b h rest none reads = reads.1 ∙ ap (λ t. print_response h ++ t) (all_read prev b h rest none reads) ∙ append-nil (print_response h)

-- a byte that is no line feed ends no head
pub goes_on : (prev : List ℕ) (b : ℕ) → HasNoResponse prev → (b ≡ 10 → ⊥) → HasNoResponse (prev ++ (b ∷ []))
goes_on prev b none other h rest reads =
    let last = head_snoc h in
    other (last_of prev last.0 b (is_head prev b h rest none reads ∙ last.1))

-- what was found with the last byte is all that was read
pub found_whole : (prev : List ℕ) (b : ℕ) (bytes : List ℕ) (spans : List HeaderSpan) (found : ResponseSpans) → HasNoResponse prev → bytes ≡ prev ++ (b ∷ [])
    → HasFound bytes spans found → IsFound bytes spans found
found_whole prev b bytes spans found none e has = (
  has,
  λ h at. e ∙ is_head prev b h (drop found.len bytes) none (subst (λ t. ReadsResponse t h (drop found.len bytes)) e at.reads),
)

-- ---- no head

-- there are more fields than a head may have, whatever follows
pub overflow_none : (before after : Option (List ℕ)) (bytes : List ℕ) → Consumes before after bytes → ResponseOverflows most_fields bytes → IfKnown before BeginsWithNoHead
overflow_none None after bytes read over = tt
overflow_none (Some xs) None bytes read over = absurd read
overflow_none (Some xs) (Some ys) bytes read over = λ h rest reads limits.
    let many : most_fields < length h.fields = over ys h rest (subst (λ b. ReadsResponse b h rest) read reads) in
    absurd (omega (arith, many, limits.1))

-- as many bytes as a head may have, and no head
pub long_none : (before after : Option (List ℕ)) (bytes : List ℕ) → HasNoResponse bytes → longest_head ≤ length bytes → Consumes before after bytes → IfKnown before BeginsWithNoHead
long_none None after bytes none long read = tt
long_none (Some xs) None bytes none long read = absurd read
long_none (Some xs) (Some ys) bytes none long read = λ h rest reads limits.
    let longer : length bytes < length (print_response h) = head_longer bytes ys h rest none (subst (λ b. ReadsResponse b h rest) read reads) in
    absurd (omega (arith, longer, long, limits.0))

-- ---- what was read

-- a byte more was read
pub one_more : (before mid after : Option (List ℕ)) (prev bytes : List ℕ) (b : ℕ) → bytes ≡ prev ++ (b ∷ []) → Consumes before mid prev → Consumes mid after (b ∷ []) → Consumes before after bytes
one_more before mid after prev bytes b e first next = subst (Consumes before after) (sym e) (Consumes-trans before mid after prev (b ∷ []) first next)
