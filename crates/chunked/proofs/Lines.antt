-- Lines of chunks, read byte after byte.
use Rattle.std.proofs.lemmas.Bool.{cases_lt}
use Rattle.std.proofs.Common.{◌⊎◌, inl, inr, ◌≡◌, ℕ, ◌<◌, ◌≤◌, List, [], ◌∷◌, ◌++◌, length, drop, Option, refl, sym, ap, subst, ◌∙◌, append_assoc, append-nil, length-append, arith}
use Rattle.std.specs.Io.KnownBytes.{Consumes, IsAtEnd}
use Rattle.httparse.specs.Grammar.{ChunkLine, print_chunk_line, ReadsChunkLine, HasNoChunkLine, NeverHasChunkLine, print_extension}
use Rattle.httparse.specs.Spans.{IsChunkLineAt}
use Rattle.chunked.specs.Bodies.{crlf}
use Rattle.chunked.specs.Reading.{Fails, longest_line}
use Rattle.chunked.specs.Parts.{HasLine, IsLine, HasText, IsText, ReadsSize, IsCutLine}
use Rattle.chunked.specs.declared.fault.ChunkFault.{ChunkFault}
use Rattle.chunked.specs.declared.fault.ChunkFault.TheVariants as fault
use Rattle.std.proofs.KnownBytes.{Consumes-trans}

-- a fault after what was read
pub fails_after : (P Q : ℕ → List ℕ → Type 0) (V W : List ℕ → Type 0) (a b c : Option (List ℕ)) (front : List ℕ) (f : ChunkFault) → Consumes a b front
    → ((longest : ℕ) (tail : List ℕ) → P longest (front ++ tail) → Q longest tail) → ((tail : List ℕ) → W tail → (more : List ℕ) × V (front ++ (tail ++ more)))
    → Fails Q W b c f → Fails P V a c f
fails_after P Q V W a b c front fault.Malformed r imp whole h =
    (front ++ h.0, Consumes-trans a b c front h.0 r h.1, λ more p. h.2 more (imp longest_line (h.0 ++ more) (subst (P longest_line) (append_assoc front h.0 more) p)))
fails_after P Q V W a b c front fault.Truncated r imp whole h =
    let on = whole (h.0 ++ h.4) h.5 in (
      front ++ h.0,
      Consumes-trans a b c front h.0 r h.1,
      h.2,
      λ longest p. h.3 longest (imp longest h.0 p),
      h.4 ++ on.0,
      subst V (ap (λ t. front ++ t) (append_assoc h.0 h.4 on.0) ∙ sym (append_assoc front h.0 (h.4 ++ on.0))) on.1,
    )
fails_after P Q V W a b c front fault.Device r imp whole h = tt
fails_after P Q V W a b c front fault.Want r imp whole h = h

-- a fault of what has to be there is a fault of the whole
pub fails_at : (P Q : ℕ → List ℕ → Type 0) (V W : List ℕ → Type 0) (a b : Option (List ℕ)) (f : ChunkFault)
    → ((longest : ℕ) (input : List ℕ) → P longest input → Q longest input) → ((tail : List ℕ) → W tail → (more : List ℕ) × V (tail ++ more))
    → Fails Q W a b f → Fails P V a b f
fails_at P Q V W a b fault.Malformed imp whole h = (h.0, h.1, λ more p. h.2 more (imp longest_line (h.0 ++ more) p))
fails_at P Q V W a b fault.Truncated imp whole h =
    let on = whole (h.0 ++ h.4) h.5 in
    (h.0, h.1, h.2, λ longest p. h.3 longest (imp longest h.0 p), h.4 ++ on.0, subst V (append_assoc h.0 h.4 on.0) on.1)
fails_at P Q V W a b fault.Device imp whole h = tt
fails_at P Q V W a b fault.Want imp whole h = h

-- the end of a line
pub end_fails_first : (a b : Option (List ℕ)) (f : ChunkFault) → Fails (HasText (13 ∷ [])) (IsText (13 ∷ [])) a b f → Fails (HasText crlf) (IsText crlf) a b f
end_fails_first a b f h =
    fails_at (HasText crlf) (HasText (13 ∷ [])) (IsText crlf) (IsText (13 ∷ [])) a b f (λ longest input p. (10 ∷ p.0, p.1)) (λ tail e. (10 ∷ [], ap (λ t. t ++ (10 ∷ [])) e)) h

behind_cr : (tail rest : List ℕ) → 13 ∷ tail ≡ 13 ∷ rest → tail ≡ rest
behind_cr tail rest e = ap (drop 1) e

pub end_fails_second : (a b c : Option (List ℕ)) (f : ChunkFault) → Consumes a b (13 ∷ []) → Fails (HasText (10 ∷ [])) (IsText (10 ∷ [])) b c f → Fails (HasText crlf) (IsText crlf) a c f
end_fails_second a b c f r h =
    fails_after (HasText crlf) (HasText (10 ∷ [])) (IsText crlf) (IsText (10 ∷ [])) a b c (13 ∷ []) f r
    (λ longest tail p. (p.0, behind_cr tail (10 ∷ p.0) p.1)) (λ tail e. ([], ap (λ t. 13 ∷ t) (append-nil tail ∙ e))) h

-- a line ends with LF, and is not empty
abbrev line_front : ChunkLine → List ℕ
line_front l = (l.digits ++ l.pad ++ print_extension l.extension) ++ (13 ∷ [])

line_is : (l : ChunkLine) → print_chunk_line l ≡ line_front l ++ (10 ∷ [])
unfolding print_chunk_line
line_is l = sym (append_assoc (l.digits ++ l.pad ++ print_extension l.extension) (13 ∷ []) (10 ∷ []))

line_some : (l : ChunkLine) → 0 < length (print_chunk_line l)
line_some l = omega (arith, ap length (line_is l), length-append (line_front l) (10 ∷ []))

pub nothing_is_no_line : (bytes : List ℕ) → bytes ≡ [] → HasNoChunkLine bytes
nothing_is_no_line bytes e l rest r = absurd (omega (arith, line_some l, ap length (sym e ∙ r.1), length-append (print_chunk_line l) rest))

-- the front of a list that is as long as another with the same beginning, or longer
before : (prev more text rest : List ℕ) → length text ≤ length prev → prev ++ more ≡ text ++ rest → (left : List ℕ) × (prev ≡ text ++ left)
before prev more [] rest le e = (prev, refl)
before [] more (t ∷ text) rest le e = absurd (omega (arith, le))
before (y ∷ prev) more (t ∷ text) rest le e =
    let on = before prev more text rest (omega (arith, le)) (ap (drop 1) e) in
    (on.0, cc (on.1, e))

-- a line that begins what has none is longer than that
line_longer : (prev more : List ℕ) (l : ChunkLine) (rest : List ℕ) → HasNoChunkLine prev → ReadsChunkLine (prev ++ more) l rest → length prev < length (print_chunk_line l)
line_longer prev more l rest none r = by (cases_lt (length prev) (length (print_chunk_line l)))
  where
    by : (length prev < length (print_chunk_line l)) ⊎ (length (print_chunk_line l) ≤ length prev) → length prev < length (print_chunk_line l)
    by (inl lt) = lt
    by (inr le) = let on = before prev more (print_chunk_line l) rest le r.1 in absurd (none l on.0 (r.0, on.1))

-- a line that ends with the last byte read
all_read : (prev : List ℕ) (b : ℕ) (l : ChunkLine) (rest : List ℕ) → HasNoChunkLine prev → ReadsChunkLine (prev ++ (b ∷ [])) l rest → rest ≡ []
all_read prev b l [] none r = refl
all_read prev b l (x ∷ rest) none r =
    let long = line_longer prev (b ∷ []) l (x ∷ rest) none r in
    absurd (omega (arith, long, ap length r.1, length-append prev (b ∷ []), length-append (print_chunk_line l) (x ∷ rest)))

last_of : (prev front : List ℕ) (b : ℕ) → prev ++ (b ∷ []) ≡ front ++ (10 ∷ []) → b ≡ 10
last_of [] [] b e = cc e
last_of [] (x ∷ front) b e = absurd (omega (arith, ap length e, length-append front (10 ∷ [])))
last_of (y ∷ prev) [] b e = absurd (omega (arith, ap length e, length-append prev (b ∷ [])))
last_of (y ∷ prev) (x ∷ front) b e = last_of prev front b (ap (drop 1) e)

-- a byte that is no LF ends no line
pub goes_on : (prev : List ℕ) (b : ℕ) → HasNoChunkLine prev → (b ≡ 10 → ⊥) → HasNoChunkLine (prev ++ (b ∷ []))
goes_on prev b none other l rest r =
    let whole : prev ++ (b ∷ []) ≡ print_chunk_line l =
    r.1 ∙ ap (λ t. print_chunk_line l ++ t) (all_read prev b l rest none r) ∙ append-nil (print_chunk_line l) in
    other (last_of prev (line_front l) b (whole ∙ line_is l))

-- the size that a line says
pub line_read : (prev : List ℕ) (b : ℕ) (bytes : List ℕ) (len size : ℕ) (before mid after : Option (List ℕ)) → HasNoChunkLine prev → bytes ≡ prev ++ (b ∷ []) → length prev < longest_line
    → Consumes before mid prev → Consumes mid after (b ∷ []) → (l : ChunkLine) → IsChunkLineAt bytes len size l → ReadsSize before after size
line_read prev b bytes len size before mid after none e fits r s l at =
    let reads : ReadsChunkLine (prev ++ (b ∷ [])) l (drop len bytes) = subst (λ t. ReadsChunkLine t l (drop len bytes)) e at.reads in
    let whole : prev ++ (b ∷ []) ≡ print_chunk_line l =
    reads.1 ∙ ap (λ t. print_chunk_line l ++ t) (all_read prev b l (drop len bytes) none reads) ∙ append-nil (print_chunk_line l) in (
      l,
      subst (Consumes before after) whole (Consumes-trans before mid after prev (b ∷ []) r s),
      at.reads.0,
      at.size_is,
      omega (arith, fits, ap length whole, length-append prev (b ∷ [])),
    )

-- what is no line, whatever follows
pub line_malformed : (prev : List ℕ) (b : ℕ) (bytes : List ℕ) (before mid after : Option (List ℕ)) → bytes ≡ prev ++ (b ∷ []) → Consumes before mid prev → Consumes mid after (b ∷ [])
    → NeverHasChunkLine bytes → Fails HasLine IsLine before after fault.Malformed
line_malformed prev b bytes before mid after e r s never =
    (bytes, subst (Consumes before after) (sym e) (Consumes-trans before mid after prev (b ∷ []) r s), λ more h. never more h.0 h.1 h.2)

-- a line that is too long
pub line_too_long : (bytes : List ℕ) (before after : Option (List ℕ)) → HasNoChunkLine bytes → longest_line ≤ length bytes → Consumes before after bytes
    → Fails HasLine IsLine before after fault.Malformed
line_too_long bytes before after none long r =
    (bytes, r, λ more h. omega (arith, long, h.3, line_longer bytes more h.0 h.1 none h.2))

-- a line that the input's end cuts off
pub line_cut : (bytes : List ℕ) (before mid after : Option (List ℕ)) (f : ChunkFault) → HasNoChunkLine bytes → Consumes before mid bytes → Consumes mid after [] → IsAtEnd after
    → IsCutLine bytes f → Fails HasLine IsLine before after f
line_cut bytes before mid after fault.Malformed none r s end cut =
    (bytes, subst (Consumes before after) (append-nil bytes) (Consumes-trans before mid after bytes [] r s), λ more h. cut more h.0 h.1 h.2)
line_cut bytes before mid after fault.Truncated none r s end cut =
    (bytes, subst (Consumes before after) (append-nil bytes) (Consumes-trans before mid after bytes [] r s), end, λ longest h. none h.0 h.1 h.2, cut.0, (cut.1, cut.2))
line_cut bytes before mid after fault.Device none r s end cut = absurd cut
line_cut bytes before mid after fault.Want none r s end cut = absurd cut
