-- From place to place.
use Rattle.std.proofs.Common.{◌≡◌, ℕ, zero, suc, true, ◌<◌, ◌≤◌, ◌-◌, ◌+◌, List, [], ◌∷◌, ◌++◌, length, take, drop, Option, None, refl, sym, ap, subst, ◌∙◌, append_assoc, append-nil, length-append, arith}
use Rattle.std.proofs.lemmas.List.{append_cancel_left, length-replicate, take-append-le, length-take-le}
use Rattle.std.proofs.Math.ListN.{replicate}
use Rattle.std.proofs.lemmas.List.Elements.{All-nil, All-cons}
use Rattle.std.specs.Char.{is_ascii_hexdigit}
use Rattle.std.proofs.KnownBytes.{Consumes-trans, Consumes-nil}
use Rattle.std.specs.Io.KnownBytes.{Consumes, IsAtEnd}
use Rattle.httparse.specs.Grammar.{ChunkLine, IsChunkLine, print_chunk_line, ReadsChunkLine, chunk_size, is_ows}
use Rattle.httparse.proofs.ChunkLemmas.{chunk_line_unique}
use Rattle.chunked.specs.Bodies.{IsBodyWithin, crlf, joined, last_chunk}
use Rattle.chunked.specs.Reading.{IsLeft, HasRest, HasAnyRest, Passes, Reaches, Fails, Stops, longest_line}
use Rattle.chunked.specs.Parts.{HasLine, IsLine, HasText, IsText, ReadsSize}
use Rattle.chunked.specs.declared.fault.ChunkFault.{ChunkFault}
use Rattle.chunked.specs.declared.fault.ChunkFault.TheVariants as fault
use Rattle.chunked.specs.declared.place.BodyPlace.{BodyPlace}
use Rattle.chunked.specs.declared.place.BodyPlace.TheVariants as place
use Rattle.chunked.proofs.Lines.{fails_after, fails_at}

-- one passage after another
pub passes_then : (p q s : BodyPlace) (front back content : List ℕ) → Passes p front [] q → Passes q back content s → Passes p (front ++ back) content s
passes_then p q s front back content a b = (
  λ longest tail more rest le h. subst (λ t. IsLeft longest p t (content ++ more) rest) (sym (append_assoc front back tail)) (a.0 longest (back ++ tail) (content ++ more) rest le (b.0 longest tail more rest le h)),
  λ longest tail all rest h.
      let first = a.1 longest (back ++ tail) all rest (subst (λ t. IsLeft longest p t all rest) (append_assoc front back tail) h) in
      let second = b.1 longest tail first.0 rest first.2 in
      (second.0, first.1 ∙ second.1, second.2),
)

pub passes_stay : (p : BodyPlace) → Passes p [] [] p
passes_stay p = (λ longest tail more rest le h. h, λ longest tail all rest h. (all, refl, h))

-- what is left of a body after a passage
pub passes_rest : (p q : BodyPlace) (read content : List ℕ) → Passes p read content q → (longest : ℕ) (tail : List ℕ) → HasRest p longest (read ++ tail) → HasRest q longest tail
passes_rest p q read content a longest tail h = let on = a.1 longest tail h.0 h.1 h.2 in (on.0, h.1, on.2)

-- a body is one within any greater length of lines
pub longer_body : (m n : ℕ) → m ≤ n → (chunks : List (List ℕ)) (input rest : List ℕ) → IsBodyWithin m chunks input rest → IsBodyWithin n chunks input rest
longer_body m n le [] input rest (l, reads, none, short) = (l, reads, none, omega (arith, le, short))
longer_body m n le (bytes ∷ chunks) input rest (l, tail, reads, long, short, pos, body) = (l, tail, reads, long, omega (arith, le, short), pos, longer_body m n le chunks tail rest body)

pub longer_left : (m n : ℕ) → m ≤ n → (p : BodyPlace) (input content rest : List ℕ) → IsLeft m p input content rest → IsLeft n p input content rest
longer_left m n le place.Line input content rest h = (h.0, longer_body m n le h.0 input rest h.1, h.2)
longer_left m n le (place.Within k) input content rest h = (h.0, h.1, h.2, h.3, h.4, longer_body m n le h.2 h.1 rest h.5, h.6)
longer_left m n le place.Ended input content rest h = h

-- what may be continued at the second place may be so at the first
pub passes_any : (p q : BodyPlace) (read content : List ℕ) → Passes p read content q → (tail : List ℕ) → HasAnyRest q tail → (more : List ℕ) × HasAnyRest p (read ++ (tail ++ more))
passes_any p q read content a tail (n, (inner, rest, h)) =
    let le : n ≤ n + longest_line = omega arith in
    let some : longest_line ≤ n + longest_line = omega arith in
    let whole = a.0 (n + longest_line) tail inner rest some (longer_left n (n + longest_line) le q tail inner rest h) in (
      [],
      (n + longest_line, (content ++ inner, rest, subst (λ t. IsLeft (n + longest_line) p (read ++ t) (content ++ inner) rest) (sym (append-nil tail)) whole)),
    )

-- a line that says a size
line_to_chunk : (longest : ℕ) (l : ChunkLine) (n : ℕ) (tail all rest : List ℕ) → IsChunkLine l → n ≡ chunk_size l → 0 < n → (chunks : List (List ℕ)) → IsBodyWithin longest chunks (print_chunk_line l ++ tail) rest
    → all ≡ joined chunks → IsLeft longest (place.Within n) tail all rest
line_to_chunk longest l n tail all rest ok size some [] (k, reads, none, short) c =
    let same = chunk_line_unique (print_chunk_line l ++ tail) l k tail (crlf ++ rest) (ok, refl) reads in
    absurd (omega (arith, some, size, ap chunk_size same.0, none))
line_to_chunk longest l n tail all rest ok size some (bytes ∷ chunks) (k, tail', reads, long, short, pos, body) c =
    let same = chunk_line_unique (print_chunk_line l ++ tail) l k tail (bytes ++ (crlf ++ tail')) (ok, refl) reads in
    (bytes, tail', chunks, sym long ∙ sym (ap chunk_size same.0) ∙ sym size, same.1, body, c)

pub passes_line : (l : ChunkLine) (n : ℕ) → IsChunkLine l → n ≡ chunk_size l → length (print_chunk_line l) ≤ longest_line → 0 < n → Passes place.Line (print_chunk_line l) [] (place.Within n)
passes_line l n ok size short some = (
  λ longest tail more rest le h. (
    h.0 ∷ h.2,
    (l, h.1, (ok, ap (λ t. print_chunk_line l ++ t) h.4), sym size ∙ sym h.3, omega (arith, short, le), subst (λ k. 0 < k) (sym h.3) some, h.5),
    h.6,
  ),
  λ longest tail all rest h. (all, refl, line_to_chunk longest l n tail all rest ok size some h.0 h.1 h.2),
)

-- the line that says 0, and the end of the body
last_line : (longest : ℕ) (l : ChunkLine) (tail all rest : List ℕ) → IsChunkLine l → 0 ≡ chunk_size l → (chunks : List (List ℕ)) → IsBodyWithin longest chunks (print_chunk_line l ++ tail) rest
    → all ≡ joined chunks → (all ≡ []) × (tail ≡ crlf ++ rest)
last_line longest l tail all rest ok size [] (k, reads, none, short) c =
    (c, (chunk_line_unique (print_chunk_line l ++ tail) l k tail (crlf ++ rest) (ok, refl) reads).1)
last_line longest l tail all rest ok size (bytes ∷ chunks) (k, tail', reads, long, short, pos, body) c =
    let same = chunk_line_unique (print_chunk_line l ++ tail) l k tail (bytes ++ (crlf ++ tail')) (ok, refl) reads in
    absurd (omega (arith, pos, size, ap chunk_size same.0, long))

pub passes_end : (l : ChunkLine) → IsChunkLine l → 0 ≡ chunk_size l → length (print_chunk_line l) ≤ longest_line → Passes place.Line (print_chunk_line l ++ crlf) [] place.Ended
passes_end l ok size short = (
  λ longest tail more rest le h. (
    [],
    (l, (ok, append_assoc (print_chunk_line l) crlf tail ∙ ap (λ t. print_chunk_line l ++ (crlf ++ t)) h.1), sym size, omega (arith, short, le)),
    h.0,
  ),
  λ longest tail all rest h.
      let last = last_line longest l (crlf ++ tail) all rest ok size h.0 (subst (λ t. IsBodyWithin longest h.0 t rest) (append_assoc (print_chunk_line l) crlf tail) h.1) h.2 in
      ([], last.0, (refl, append_cancel_left crlf tail rest last.1)),
)

-- the end of a chunk
close : (longest : ℕ) (bytes tail tail' rest all : List ℕ) (chunks : List (List ℕ)) → length bytes ≡ 0 → crlf ++ tail ≡ bytes ++ (crlf ++ tail') → IsBodyWithin longest chunks tail' rest
    → all ≡ bytes ++ joined chunks → IsLeft longest place.Line tail all rest
close longest [] tail tail' rest all chunks none e body c = (chunks, subst (λ t. IsBodyWithin longest chunks t rest) (sym (append_cancel_left crlf tail tail' e)) body, c)
close longest (x ∷ bytes) tail tail' rest all chunks none e body c = absurd (omega (arith, none))

pub passes_close : Passes (place.Within 0) crlf [] place.Line
passes_close = (
  λ longest tail more rest le h. ([], tail, h.0, refl, refl, h.1, h.2),
  λ longest tail all rest h. (all, refl, close longest h.0 tail h.1 rest all h.2 h.3 h.4 h.5 h.6),
)

-- bytes of a chunk
split : (taken tail bytes back : List ℕ) → length taken ≤ length bytes → taken ++ tail ≡ bytes ++ back → (more : List ℕ) × (bytes ≡ taken ++ more) × (tail ≡ more ++ back)
split [] tail bytes back le e = (bytes, refl, e)
split (x ∷ taken) tail [] back le e = absurd (omega (arith, le))
split (x ∷ taken) tail (y ∷ bytes) back le e =
    let on = split taken tail bytes back (omega (arith, le)) (ap (drop 1) e) in
    (on.0, cc (on.1, e), on.2)

pub passes_bytes : (n k : ℕ) (taken : List ℕ) → length taken ≡ k → k ≤ n → Passes (place.Within n) taken taken (place.Within (n - k))
passes_bytes n k taken long le = (
  λ longest tail more rest some h. (
    taken ++ h.0,
    h.1,
    h.2,
    length-append taken h.0 ∙ omega (arith, long, h.3, le),
    ap (λ t. taken ++ t) h.4 ∙ sym (append_assoc taken h.0 (crlf ++ h.1)),
    h.5,
    ap (λ t. taken ++ t) h.6 ∙ sym (append_assoc taken h.0 (joined h.2)),
  ),
  λ longest tail all rest h.
      let on = split taken tail h.0 (crlf ++ h.1) (omega (arith, long, h.3, le)) h.4 in (
        on.0 ++ joined h.2,
        h.6 ∙ ap (λ t. t ++ joined h.2) on.1 ∙ append_assoc taken on.0 (joined h.2),
        (on.0, h.1, h.2, omega (arith, long, h.3, ap length on.1, length-append taken on.0), on.2, h.5, refl),
      ),
)

-- the shortest rest of a body
abbrev zero_line : ChunkLine
zero_line = record { digits = 48 ∷ []; pad = []; extension = None }

zero_line_is : print_chunk_line zero_line ≡ 48 ∷ crlf
unfolding print_chunk_line
zero_line_is = refl

zero_line_ok : IsChunkLine zero_line
zero_line_ok = record {
  digits = (omega arith, omega arith, All-cons (λ b. is_ascii_hexdigit b ≡ true) 48 [] refl (All-nil (λ b. is_ascii_hexdigit b ≡ true)));
  pad = All-nil (λ b. is_ows b ≡ true);
  extension = tt;
}

-- the end of a body is one
pub last_is_body : (rest : List ℕ) → IsBodyWithin 3 [] (last_chunk ++ rest) rest
last_is_body rest = (zero_line, (zero_line_ok, ap (λ t. t ++ (crlf ++ rest)) (sym zero_line_is)), refl, omega (arith, ap length zero_line_is))

abbrev pub zeros : ℕ → List ℕ
zeros n = replicate n 0

-- a chunk that was begun may be continued
abbrev pub chunk_rest : ℕ → List ℕ
chunk_rest n = zeros n ++ (crlf ++ last_chunk)

pub chunk_is_left : (n : ℕ) → IsLeft 3 (place.Within n) (chunk_rest n) (zeros n ++ []) []
chunk_is_left n = (zeros n, last_chunk, [], length-replicate n 0, refl, last_is_body [], refl)

chunk_may_end : (n : ℕ) → HasAnyRest (place.Within n) (chunk_rest n)
chunk_may_end n = (3, (zeros n ++ [], [], chunk_is_left n))

-- a line may be continued to a body
line_may_go_on : (l : ChunkLine) (n : ℕ) → IsChunkLine l → n ≡ chunk_size l → (more : List ℕ) × HasAnyRest place.Line (print_chunk_line l ++ more)
line_may_go_on l zero ok size = (crlf, (length (print_chunk_line l), ([], [], ([], (l, (ok, refl), sym size, omega arith), refl))))
line_may_go_on l (suc n) ok size =
    let m = length (print_chunk_line l) + 3 in
    let le : 3 ≤ m = omega arith in
    let bytes = zeros (suc n) in
    let long : length bytes ≡ suc n = length-replicate (suc n) 0 in
    let body = longer_body 3 m le [] last_chunk [] (last_is_body []) in (
      bytes ++ (crlf ++ last_chunk),
      (m, (joined (bytes ∷ []), [], (bytes ∷ [], (l, last_chunk, (ok, refl), sym size ∙ sym long, omega arith, omega (arith, long), body), refl))),
    )

-- what is left of a body at a line begins with one
pub rest_has_line : (longest : ℕ) (input : List ℕ) → HasRest place.Line longest input → HasLine longest input
rest_has_line longest input (all, rest, ([], body, c)) = (body.0, crlf ++ rest, body.1, body.3)
rest_has_line longest input (all, rest, (bytes ∷ chunks, body, c)) = (body.0, bytes ++ (crlf ++ body.1), body.2, body.4)

line_is_rest : (input : List ℕ) → IsLine input → (more : List ℕ) × HasAnyRest place.Line (input ++ more)
line_is_rest input (l, (ok, e)) =
    let on = line_may_go_on l (chunk_size l) ok refl in
    (on.0, subst (λ t. HasAnyRest place.Line (t ++ on.0)) (sym (e ∙ append-nil (print_chunk_line l))) on.1)

pub rest_has_end : (l : ChunkLine) → IsChunkLine l → 0 ≡ chunk_size l → (longest : ℕ) (tail : List ℕ) → HasRest place.Line longest (print_chunk_line l ++ tail) → HasText crlf longest tail
rest_has_end l ok size longest tail (all, rest, h) = (rest, (last_line longest l tail all rest ok size h.0 h.1 h.2).1)

end_is_rest : (l : ChunkLine) → IsChunkLine l → 0 ≡ chunk_size l → (tail : List ℕ) → IsText crlf tail → (more : List ℕ) × HasAnyRest place.Line (print_chunk_line l ++ (tail ++ more))
end_is_rest l ok size tail e =
    let reads : ReadsChunkLine (print_chunk_line l ++ (tail ++ [])) l (crlf ++ []) = (ok, ap (λ t. print_chunk_line l ++ (t ++ [])) e) in
    ([], (length (print_chunk_line l), ([], [], ([], (l, reads, sym size, omega arith), refl))))

close_begins : (bytes input tail : List ℕ) → length bytes ≡ 0 → input ≡ bytes ++ (crlf ++ tail) → (rest : List ℕ) × (input ≡ crlf ++ rest)
close_begins [] input tail none e = (tail, e)
close_begins (x ∷ bytes) input tail none e = absurd (omega (arith, none))

pub rest_has_close : (longest : ℕ) (input : List ℕ) → HasRest (place.Within 0) longest input → HasText crlf longest input
rest_has_close longest input (all, rest, h) = close_begins h.0 input h.1 h.3 h.4

close_is_rest : (tail : List ℕ) → IsText crlf tail → (more : List ℕ) × HasAnyRest (place.Within 0) (tail ++ more)
close_is_rest tail e = (last_chunk, subst (λ t. HasAnyRest (place.Within 0) (t ++ last_chunk)) (sym e) (chunk_may_end 0))

-- a chunk has more than nothing
no_rest : (n : ℕ) → 0 < n → (longest : ℕ) → HasRest (place.Within n) longest [] → ⊥
no_rest n some longest (all, rest, h) = absurd (omega (arith, some, h.3, ap length h.4, length-append h.0 (crlf ++ h.1)))

pub rest_is_cut : (before after : Option (List ℕ)) (n : ℕ) → 0 < n → Consumes before after [] → IsAtEnd after → Stops (place.Within n) before after fault.Truncated
rest_is_cut before after n some r end = ([], r, end, no_rest n some, zeros n ++ (crlf ++ last_chunk), chunk_may_end n)

-- the passages as reads
pub reaches_chunk : (before after : Option (List ℕ)) (n : ℕ) → ReadsSize before after n → 0 < n → Reaches place.Line before [] (place.Within n) after
reaches_chunk before after n r some = (print_chunk_line r.0, r.1, passes_line r.0 n r.2 r.3 r.4 some)

pub reaches_end : (before mid after : Option (List ℕ)) (n : ℕ) → n ≡ 0 → ReadsSize before mid n → Consumes mid after crlf → Reaches place.Line before [] place.Ended after
reaches_end before mid after n none r e = (print_chunk_line r.0 ++ crlf, Consumes-trans before mid after (print_chunk_line r.0) crlf r.1 e, passes_end r.0 r.2 (sym none ∙ r.3) r.4)

pub reaches_next : (before mid after : Option (List ℕ)) (p : BodyPlace) → Consumes before mid crlf → Reaches place.Line mid [] p after → Reaches (place.Within 0) before [] p after
reaches_next before mid after p e r = (crlf ++ r.0, Consumes-trans before mid after crlf r.0 e r.1, passes_then (place.Within 0) place.Line p crlf r.0 [] passes_close r.2)

pub reaches_then : (before mid after : Option (List ℕ)) (p q s : BodyPlace) (content : List ℕ) → Reaches p before [] q mid → Reaches q mid content s after → Reaches p before content s after
reaches_then before mid after p q s content a b = (a.0 ++ b.0, Consumes-trans before mid after a.0 b.0 a.1 b.1, passes_then p q s a.0 b.0 content a.2 b.2)

pub reaches_bytes : (before after : Option (List ℕ)) (n k : ℕ) (taken : List ℕ) → length taken ≡ k → k ≤ n → Consumes before after taken → Reaches (place.Within n) before taken (place.Within (n - k)) after
reaches_bytes before after n k taken long le c = (taken, c, passes_bytes n k taken long le)

pub line_fails : (a b : Option (List ℕ)) (f : ChunkFault) → Fails HasLine IsLine a b f → Stops place.Line a b f
line_fails a b f h = fails_at (HasRest place.Line) HasLine (HasAnyRest place.Line) IsLine a b f rest_has_line line_is_rest h

pub end_fails : (a b c : Option (List ℕ)) (n : ℕ) (f : ChunkFault) → n ≡ 0 → ReadsSize a b n → Fails (HasText crlf) (IsText crlf) b c f → Stops place.Line a c f
end_fails a b c n f none r h =
    fails_after (HasRest place.Line) (HasText crlf) (HasAnyRest place.Line) (IsText crlf) a b c (print_chunk_line r.0) f r.1
    (rest_has_end r.0 r.2 (sym none ∙ r.3)) (end_is_rest r.0 r.2 (sym none ∙ r.3)) h

pub close_fails : (a b : Option (List ℕ)) (f : ChunkFault) → Fails (HasText crlf) (IsText crlf) a b f → Stops (place.Within 0) a b f
close_fails a b f h = fails_at (HasRest (place.Within 0)) (HasText crlf) (HasAnyRest (place.Within 0)) (IsText crlf) a b f rest_has_close close_is_rest h

pub stops_then : (p q : BodyPlace) (front : List ℕ) (a b c : Option (List ℕ)) (f : ChunkFault) → Consumes a b front → Passes p front [] q → Stops q b c f → Stops p a c f
stops_then p q front a b c f r passes h =
    fails_after (HasRest p) (HasRest q) (HasAnyRest p) (HasAnyRest q) a b c front f r (passes_rest p q front [] passes) (passes_any p q front [] passes) h

pub next_fails : (a b c : Option (List ℕ)) (f : ChunkFault) → Consumes a b crlf → Stops place.Line b c f → Stops (place.Within 0) a c f
next_fails a b c f r h = stops_then (place.Within 0) place.Line crlf a b c f r passes_close h

pub reaches_stay : (known : Option (List ℕ)) (p : BodyPlace) → Reaches p known [] p known
reaches_stay known p = ([], Consumes-nil known, passes_stay p)

-- bytes that were read into a part of a buffer
pub bytes_read : (a b : Option (List ℕ)) (n k : ℕ) (part rest : List ℕ) → k ≤ length part → length part ≤ n → Consumes a b (take k part)
    → Reaches (place.Within n) a (take k (part ++ rest)) (place.Within (n - k)) b
bytes_read a b n k part rest le fits c =
    subst (λ t. Reaches (place.Within n) a t (place.Within (n - k)) b) (sym (take-append-le k part rest le))
    (reaches_bytes a b n k (take k part) (length-take-le k part le) (omega (arith, le, fits)) c)
