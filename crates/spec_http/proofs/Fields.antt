-- Heads with more fields than there is room for, whole or not.
use Rattle.std.proofs.Common.{◌≡◌, ℕ, ◌<◌, List, [], ◌∷◌, ◌++◌, length, refl, sym, ap, ◌∙◌, subst, append_assoc, append-nil, flat_map}
use Rattle.std.proofs.lemmas.List.{append_cancel_right}
use Rattle.httparse.specs.Grammar.{LineEnd, crlf, lf, print_end, print_blank, print_version, print_field, RequestHead, IsRequestHead, print_request}
use Rattle.httparse.specs.Pieces.{RequestStart, SectionOfAtMost}
use Rattle.httparse.specs.Spans.{RequestExceeds, RequestOverflows}
use Rattle.httparse.proofs.GrammarLemmas.{cons-append, request_tree, print_request-append}
use Rattle.httparse.proofs.PieceLemmas.{Stops_token, Refutes_next, RequestStart_deterministic}
use Rattle.httparse.proofs.HeadLemmas.{request_overflows}
use Rattle.httparse.proofs.ReadLemmas.{SectionOfAtMost_overflow}

-- what a head begins with, up to its fields, and then other bytes
abbrev pub started : RequestHead → List ℕ → List ℕ
started h x = print_blank h.blank ++ (h.method ++ 32 ∷ (h.target ++ 32 ∷ (print_version h.minor ++ (print_end h.line_end ++ x))))

-- the field lines of a head
abbrev pub lines_of : RequestHead → List ℕ
lines_of h = flat_map print_field h.fields

starts : (h : RequestHead) (x : List ℕ) → IsRequestHead h → RequestStart (request_tree h).0 (started h x) x
starts h x ok = (
  _,
  (refl, Stops_token h.method _ ok.method.0 ok.method.1),
  (_, (ok.method.0, ok.method.1, refl), (_, ((ok.target.0, ok.target.1, refl), ok.target_text), (_, (ok.minor, refl), refl))),
)

pub started_append : (h : RequestHead) (x y : List ℕ) → started h x ++ y ≡ started h (x ++ y)
started_append h x y = regroup (print_blank h.blank) h.method h.target (print_version h.minor) (print_end h.line_end) x y
  where
    regroup : (a b c d e x y : List ℕ)
        → (a ++ (b ++ 32 ∷ (c ++ 32 ∷ (d ++ (e ++ x))))) ++ y ≡ a ++ (b ++ 32 ∷ (c ++ 32 ∷ (d ++ (e ++ (x ++ y)))))
    regroup a b c d e x y = simp (append_assoc, cons-append)

-- a head is its start, its field lines and its empty line
pub written_as : (h : RequestHead) (rest : List ℕ) → print_request h ++ rest ≡ started h (lines_of h ++ (print_end h.last ++ rest))
written_as h rest = print_request-append h rest ∙ ap (started h) (append_assoc (lines_of h) (print_end h.last) rest)

-- of bytes with more whole fields than room no head with fewer comes
pub many_overflow : (room : ℕ) (h : RequestHead) (bytes x : List ℕ) → IsRequestHead h → room < length h.fields → bytes ≡ started h (lines_of h ++ x) → RequestOverflows room bytes
many_overflow room h bytes x ok many e =
    request_overflows room (Refutes_next (SectionOfAtMost room) RequestStart_deterministic {a = (request_tree h).0}
    (subst (λ b. RequestStart (request_tree h).0 b (lines_of h ++ x)) (sym e) (starts h (lines_of h ++ x) ok))
    (SectionOfAtMost_overflow room h.fields (lines_of h ++ x) x (ok.fields, refl) many))

-- and they exceed it
pub many_exceed : (room : ℕ) (h : RequestHead) (bytes x : List ℕ) → IsRequestHead h → room < length h.fields → bytes ≡ started h (lines_of h ++ x) → RequestExceeds room bytes
many_exceed room h bytes x ok many e =
    let ended : RequestHead = record h { last = lf } in (
      started h (lines_of h),
      x,
      e ∙ sym (started_append h (lines_of h) x),
      ended,
      (
        record { method = ok.method; target = ok.target; target_text = ok.target_text; minor = ok.minor; fields = ok.fields },
        started_append h (lines_of h) (10 ∷ []) ∙ sym (written_as ended []),
      ),
      many,
    )

-- what stands before the empty line of a head, or before its last byte
front_by : (h : RequestHead) (front : List ℕ) (last : LineEnd) → front ++ 10 ∷ [] ≡ started h (lines_of h ++ print_end last) → (x : List ℕ) × (front ≡ started h (lines_of h ++ x))
front_by h front lf e =
    let moved : started h (lines_of h ++ []) ++ 10 ∷ [] ≡ started h (lines_of h ++ 10 ∷ []) = started_append h (lines_of h ++ []) (10 ∷ []) ∙ ap (started h) (append_assoc (lines_of h) [] (10 ∷ [])) in
    ([], append_cancel_right front (started h (lines_of h ++ [])) (10 ∷ []) (e ∙ sym moved))
front_by h front crlf e =
    let moved : started h (lines_of h ++ 13 ∷ []) ++ 10 ∷ [] ≡ started h (lines_of h ++ 13 ∷ 10 ∷ []) = started_append h (lines_of h ++ 13 ∷ []) (10 ∷ []) ∙ ap (started h) (append_assoc (lines_of h) (13 ∷ []) (10 ∷ [])) in
    (13 ∷ [], append_cancel_right front (started h (lines_of h ++ 13 ∷ [])) (10 ∷ []) (e ∙ sym moved))

front_of : (h : RequestHead) (front : List ℕ) → front ++ 10 ∷ [] ≡ print_request h ++ [] → (x : List ℕ) × (front ≡ started h (lines_of h ++ x))
front_of h front e = front_by h front h.last (e ∙ written_as h [] ∙ ap (λ z. started h (lines_of h ++ z)) (append-nil (print_end h.last)))

-- bytes that exceed the room begin with the start of a head and more field lines than that
pub exceeding_start : (room : ℕ) (bytes : List ℕ) → RequestExceeds room bytes
    → (h : RequestHead) × (x : List ℕ) × IsRequestHead h × (room < length h.fields) × (bytes ≡ started h (lines_of h ++ x))
exceeding_start room bytes (front, rest, e, h, reads, many) =
    let found = front_of h front reads.1 in (
      h,
      found.0 ++ rest,
      reads.0,
      many,
      e ∙ ap (λ z. z ++ rest) found.1 ∙ started_append h (lines_of h ++ found.0) rest ∙ ap (started h) (append_assoc (lines_of h) found.0 rest),
    )

-- they are the beginning of no head with fewer
pub exceeds_overflows : (room : ℕ) (bytes : List ℕ) → RequestExceeds room bytes → RequestOverflows room bytes
exceeds_overflows room bytes over =
    let start = exceeding_start room bytes over in
    many_overflow room start.0 bytes start.1 start.2 start.3 start.4
