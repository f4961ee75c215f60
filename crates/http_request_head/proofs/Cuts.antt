-- Parts of heads: within the limit of fields just where as many lines end in them.
use Rattle.std.proofs.Common.{◌≡◌, ◌≤◌, ◌<◌, ℕ, suc, ◌+◌, List, [], ◌∷◌, ◌++◌, take, drop, length, true, false, ◌⊎◌, inl, inr, refl, sym, ap, ◌∙◌, subst, arith, append_assoc, append-nil, flat_map, length-append}
use Rattle.std.proofs.lemmas.List.{length-take-le, take-append-drop}
use Rattle.std.proofs.lemmas.List.Elements.{All-take}
use Rattle.std.specs.Prelude.{All}
use Rattle.std.proofs.lemmas.Grind.{flat_map-append}
use Rattle.httparse.specs.Grammar.{LineEnd, crlf, lf, print_end, Field, IsField, print_field, RequestHead, IsRequestHead, print_request, HasNoRequest, MayBecomeRequest}
use Rattle.httparse.specs.Spans.{RequestExceeds}
use Rattle.spec_http.specs.Connections.{longest_head, most_fields, IsHeadTooLarge, IsHalfAHead}
use Rattle.spec_http.proofs.Fields.{started, lines_of, started_append, written_as, many_exceed, exceeding_start}
use Rattle.http_request_head.specs.FieldLines.{line_ends}
use Rattle.http_request_head.proofs.Ends.{ends_append, ends_more, started_ends, over_fields, in_target}

-- where two ways to cut a text meet
split : (a b c d : List ℕ) → a ++ b ≡ c ++ d → ((z : List ℕ) × (c ≡ a ++ z) × (b ≡ z ++ d)) ⊎ ((z : List ℕ) × (a ≡ c ++ z) × (d ≡ z ++ b))
split [] b c d e = inl (c, refl, e)
split (x ∷ a) b [] d e = inr (x ∷ a, refl, sym e)
split (x ∷ a) b (y ∷ c) d e =
    let first : x ≡ y = cc in
    let rest : a ++ b ≡ c ++ d = cc in
    elim (split a b c d rest) [
      | inl s ↦ inl (s.0, cc (s.1, first), s.2)
      | inr s ↦ inr (s.0, cc (s.1, first), s.2)
    ]

-- what is left of a text that ends a line ends a line
tail_ends : (u y w : List ℕ) → u ++ 10 ∷ [] ≡ y ++ w → 0 < length w → 0 < line_ends true w
tail_ends u [] w e some = subst (λ t. 0 < line_ends true t) e (omega (arith, ends_append u (10 ∷ [])))
tail_ends [] (x ∷ y) w e some =
    let none : [] ≡ y ++ w = cc in
    absurd (omega (arith, some, ap length none, length-append y w))
tail_ends (x ∷ u) (y ∷ ys) w e some =
    let rest : u ++ 10 ∷ [] ≡ ys ++ w = cc in
    tail_ends u ys w rest some

-- lines end in a line feed
end_snoc : (t : List ℕ) (e : LineEnd) → (u : List ℕ) × (t ++ print_end e ≡ u ++ 10 ∷ [])
end_snoc t crlf = (t ++ 13 ∷ [], sym (append_assoc t (13 ∷ []) (10 ∷ [])))
end_snoc t lf = (t, refl)

lines_snoc : (f : Field) (fs : List Field) → (u : List ℕ) × (flat_map print_field (f ∷ fs) ≡ u ++ 10 ∷ [])
lines_snoc f [] =
    let one = end_snoc (f.name ++ 58 ∷ f.raw) f.end in
    (one.0, append-nil (print_field f) ∙ one.1)
lines_snoc f (g ∷ gs) =
    let rest = lines_snoc g gs in
    (print_field f ++ rest.0, ap (λ t. print_field f ++ t) rest.1 ∙ sym (append_assoc (print_field f) rest.0 (10 ∷ [])))

many_snoc : (fs : List Field) → 0 < length fs → (u : List ℕ) × (flat_map print_field fs ≡ u ++ 10 ∷ [])
many_snoc [] some = absurd (omega (arith, some))
many_snoc (f ∷ fs) some = lines_snoc f fs

-- what begins as lines do and ends as many has them all
lines_stand : (fs : List Field) (tail z more : List ℕ) → 0 < length fs → line_ends true (flat_map print_field fs) ≡ length fs → length fs ≤ line_ends true z
    → z ++ more ≡ flat_map print_field fs ++ tail → (x : List ℕ) × (z ≡ flat_map print_field fs ++ x)
lines_stand fs tail z more some count enough e =
    elim (split z more (flat_map print_field fs) tail e) [
      | inr s ↦ (s.0, s.1)
      | inl s ↦ whole s.0 s.1
    ]
  where
    whole : (w : List ℕ) → flat_map print_field fs ≡ z ++ w → (x : List ℕ) × (z ≡ flat_map print_field fs ++ x)
    whole [] same = ([], sym (append-nil z) ∙ sym same ∙ sym (append-nil (flat_map print_field fs)))
    whole (b ∷ w) same =
        let last = many_snoc fs some in
        let ends : 0 < line_ends true (b ∷ w) = tail_ends last.0 z (b ∷ w) (sym last.1 ∙ same) (omega arith) in
        let sum : line_ends true (flat_map print_field fs) ≡ line_ends true z + line_ends true (b ∷ w) = ap (line_ends true) same ∙ ends_append z (b ∷ w) in
        absurd (omega (arith, ends, sum, count, enough))

-- after the start of a head that is not whole, more lines than the limit has fields
after_start : (h : RequestHead) (bytes more z : List ℕ) → IsRequestHead h → HasNoRequest bytes → bytes ≡ started h [] ++ z → bytes ++ more ≡ print_request h ++ []
    → z ++ more ≡ lines_of h ++ print_end h.last → most_fields < line_ends true z → RequestExceeds most_fields bytes
after_start h bytes [] z ok none start whole rest many = absurd (none h [] (ok, sym (append-nil bytes) ∙ whole))
after_start h bytes (b ∷ more) z ok none start whole rest many =
    let last = end_snoc (lines_of h) h.last in
    let ends : 0 < line_ends true (b ∷ more) = tail_ends last.0 z (b ∷ more) (sym last.1 ∙ sym rest) (omega arith) in
    let sum : line_ends true (z ++ b ∷ more) ≡ line_ends true z + line_ends true (b ∷ more) = ends_append z (b ∷ more) in
    let all : line_ends true (z ++ b ∷ more) ≡ length h.fields + line_ends true (print_end h.last) = ap (line_ends true) rest ∙ over_fields h.fields (print_end h.last) ok.fields in
    let one : line_ends true (print_end h.last) ≡ 1 = one_end h.last in
    let fields : most_fields + 1 ≤ length h.fields = omega (arith, ends, sum, all, one, many) in
    let first = take (most_fields + 1) h.fields in
    let long : length first ≡ most_fields + 1 = length-take-le (most_fields + 1) h.fields fields in
    let are : All IsField first = All-take IsField (most_fields + 1) h.fields ok.fields in
    let count : line_ends true (flat_map print_field first) ≡ length first = ap (line_ends true) (sym (append-nil (flat_map print_field first))) ∙ over_fields first [] are ∙ no_more (length first) in
    let parts : lines_of h ≡ flat_map print_field first ++ flat_map print_field (drop (most_fields + 1) h.fields) =
    ap (flat_map print_field) (sym (take-append-drop (most_fields + 1) h.fields)) ∙ flat_map-append print_field first (drop (most_fields + 1) h.fields) in
    let cut : z ++ b ∷ more ≡ flat_map print_field first ++ (flat_map print_field (drop (most_fields + 1) h.fields) ++ print_end h.last) =
    rest ∙ ap (λ t. t ++ print_end h.last) parts ∙ append_assoc (flat_map print_field first) (flat_map print_field (drop (most_fields + 1) h.fields)) (print_end h.last) in
    let stand = lines_stand first (flat_map print_field (drop (most_fields + 1) h.fields) ++ print_end h.last) z (b ∷ more) (omega (arith, long)) count (omega (arith, long, many)) cut in
    let short : RequestHead = record h { fields = first } in
    let fine : IsRequestHead short = record { method = ok.method; target = ok.target; target_text = ok.target_text; minor = ok.minor; fields = are } in
    let written : bytes ≡ started short (lines_of short ++ stand.0) = start ∙ started_append h [] z ∙ ap (started h) stand.1 in
    many_exceed most_fields short bytes stand.0 fine (omega (arith, long)) written
  where
    one_end : (e : LineEnd) → line_ends true (print_end e) ≡ 1
    one_end crlf = refl
    one_end lf = refl

    no_more : (n : ℕ) → n + 0 ≡ n
    no_more n = omega arith

-- a part of a head in which more lines end than a request line's and those of the fields
pub many_lines : (bytes : List ℕ) → HasNoRequest bytes → MayBecomeRequest bytes → most_fields + 1 < line_ends false bytes → RequestExceeds most_fields bytes
many_lines bytes none (inr ends) many = absurd (omega (arith, in_target bytes ends, many))
many_lines bytes none (inl (more, h, reads)) many =
    let ok = reads.0 in
    let whole = reads.1 in
    let text : bytes ++ more ≡ started h [] ++ (lines_of h ++ print_end h.last) =
    whole ∙ written_as h [] ∙ ap (λ z. started h (lines_of h ++ z)) (append-nil (print_end h.last)) ∙ sym (started_append h [] (lines_of h ++ print_end h.last)) in
    let one : line_ends false (started h []) ≡ 1 = started_ends h [] ok in
    elim (split bytes more (started h []) (lines_of h ++ print_end h.last) text) [
      | inl s ↦ absurd (omega (arith, many, one, ap (line_ends false) s.1, ends_more false bytes s.0))
      | inr s ↦
          let lines : line_ends false bytes ≡ suc (line_ends true s.0) = ap (line_ends false) (s.1 ∙ started_append h [] s.0) ∙ started_ends h s.0 ok in
          after_start h bytes more s.0 ok none s.1 whole (sym s.2) (omega (arith, many, lines))
    ]

-- and one in which no more do
pub few_lines : (bytes : List ℕ) → line_ends false bytes ≤ most_fields + 1 → RequestExceeds most_fields bytes → ⊥
few_lines bytes few many =
    let start = exceeding_start most_fields bytes many in
    let h = start.0 in
    let lines : line_ends false bytes ≡ suc (line_ends true (lines_of h ++ start.1)) = ap (line_ends false) start.4 ∙ started_ends h (lines_of h ++ start.1) start.2 in
    let fields : line_ends true (lines_of h ++ start.1) ≡ length h.fields + line_ends true start.1 = over_fields h.fields start.1 start.2.fields in
    absurd (omega (arith, few, lines, fields, start.3))

pub is_too_large : (bytes : List ℕ) → HasNoRequest bytes → MayBecomeRequest bytes → most_fields + 1 < line_ends false bytes → IsHeadTooLarge bytes
is_too_large bytes none may many = inr (many_lines bytes none may many)

pub is_half : (bytes : List ℕ) → length bytes < longest_head → HasNoRequest bytes → MayBecomeRequest bytes → line_ends false bytes ≤ most_fields + 1 → IsHalfAHead bytes
is_half bytes short none may few = (short, none, may, few_lines bytes few)
