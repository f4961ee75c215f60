-- What bytes say, as they come.
use Rattle.std.proofs.Common.{◌≡◌, ◌<◌, ◌≤◌, ◌↔◌, ℕ, List, [], ◌∷◌, ◌++◌, length, flat_map, nat_lt, Bool, true, false, cond, Some, None, Result, Ok, Err, IsOk, refl, sym, ap, ◌∙◌, append_assoc, append-nil, arith, length-append}
use Rattle.std.specs.List.{AllByRecursion}
use Rattle.framing.specs.Lines.{IsPartial}
use Rattle.spec_api.specs.Frames.{Frame, frame_text}
use Rattle.spec_client_go.specs.ReadFrames.{Read, lines, rest, reading, read_lines, line_read, holding, failed, onto, next, longest_frame}
use Rattle.framing.specs.Texts.{ReadsAs, ReadsAll}
use Rattle.framing.specs.Decoders.{fed, opened, left, all_fed}
use Rattle.spec_client_go.specs.declared.frame_fault.FrameFault.{FrameFault}
use Rattle.spec_client_go.specs.declared.frame_fault.FrameFault.TheVariants.{TooLong}
use Rattle.framing.proofs.Cutting.{lines-append, rest-append, lines-line, rest-line, lines-partial, rest-partial, Splits-lines, before, before_rest, lines_before, rest_before}

-- a line first
pub reading-line : (l more : List ℕ) → IsPartial l → reading (l ++ 10 ∷ more) ≡ next (line_read l) (reading more)
reading-line l more h = rw (lines-line l more h, rest-line l more h) refl

limited : Bool → List ℕ → Read
limited b r = cond b (holding r) (failed TooLong)

pub reading-short : (r : List ℕ) → IsPartial r → length r < longest_frame → reading r ≡ holding r
reading-short r h k = let b : nat_lt (length r) longest_frame ≡ true = grind arith in rw (lines-partial r h, rest-partial r h, b) refl

pub reading-long : (r : List ℕ) → IsPartial r → longest_frame ≤ length r → reading r ≡ failed TooLong
reading-long r h k = let b : nat_lt (length r) longest_frame ≡ false = grind arith in rw (lines-partial r h, rest-partial r h, b) refl

too_long_at : (q : List ℕ) (ls : List (List ℕ)) (r : List ℕ) → longest_frame ≤ length q → read_lines (before q ls) (before_rest q ls r) ≡ failed TooLong
too_long_at q [] r k = let b : nat_lt (length (q ++ r)) longest_frame ≡ false = grind (arith, length-append q r) in rw b refl
too_long_at q (l ∷ ls) r k = let b : nat_lt (length (q ++ l)) longest_frame ≡ false = grind (arith, length-append q l) in rw b refl

-- however a line that is too long goes on
too_long : (q c : List ℕ) → IsPartial q → longest_frame ≤ length q → reading (q ++ c) ≡ failed TooLong
too_long q c h k = rw (lines_before q c h, rest_before q c h) (too_long_at q (lines c) (rest c) k)

abbrev flat : List (List ℕ) → List ℕ
flat ps = flat_map (λ p. p) ps

ended : (f : FrameFault) (ps : List (List ℕ)) → all_fed (record { buffered = []; fault = Some f }) ps ≡ failed f
ended f [] = refl
ended f (p ∷ ps) = ended f ps

abbrev Goes : List (List ℕ) → Type 0
Goes ps = (r : List ℕ) → IsPartial r → length r < longest_frame → all_fed (record { buffered = r; fault = None }) ps ≡ reading (r ++ flat ps)

limited_more : (ps : List (List ℕ)) → Goes ps → (q : List ℕ) (b : Bool) → IsPartial q → nat_lt (length q) longest_frame ≡ b
    → (let r = cond b (holding q) (failed TooLong) in onto r.events (all_fed (left r) ps)) ≡ reading (q ++ flat ps)
limited_more ps ih q true h e = ih q h (grind arith)
limited_more ps ih q false h e = ended TooLong ps ∙ sym (too_long q (flat ps) h (grind arith))

next_more : (ps : List (List ℕ)) (r s : Read) (o : Result Frame FrameFault) → onto r.events (all_fed (left r) ps) ≡ s
    → (let t = next o r in onto t.events (all_fed (left t) ps)) ≡ next o s
next_more ps r s (Ok e) h = ap (λ t. onto (e ∷ []) t) h
next_more ps r s (Err f) h = ended f ps

-- what lines and a rest give goes on with what comes after
read_lines-more : (ps : List (List ℕ)) → Goes ps → (ls : List (List ℕ)) (q : List ℕ) → IsPartial q
    → onto (read_lines ls q).events (all_fed (left (read_lines ls q)) ps) ≡ read_lines (ls ++ lines (q ++ flat ps)) (rest (q ++ flat ps))
read_lines-more ps ih [] q h = limited_more ps ih q (nat_lt (length q) longest_frame) h refl
read_lines-more ps ih (l ∷ ls) q h = next_more ps (read_lines ls q) _ (line_read l) (read_lines-more ps ih ls q h)

goes : (ps : List (List ℕ)) → Goes ps
goes [] r h k = sym (ap reading (append-nil r) ∙ reading-short r h k)
goes (p ∷ ps) r h k =
    let split = Splits-lines (r ++ p) in
    read_lines-more ps (goes ps) (lines (r ++ p)) (rest (r ++ p)) split.partial
    ∙ ap (λ ls. read_lines ls (rest (rest (r ++ p) ++ flat ps))) (sym (lines-append (r ++ p) (flat ps)))
    ∙ ap (read_lines (lines ((r ++ p) ++ flat ps))) (sym (rest-append (r ++ p) (flat ps)))
    ∙ ap reading (append_assoc r p (flat ps))

pub no_cutting : (ps : List (List ℕ)) → all_fed opened ps ≡ reading (flat_map (λ p. p) ps)
no_cutting ps = goes ps [] tt (omega arith)

-- what was given stays the beginning
pub begun : (a b : List ℕ) → (later : List Frame) × ((reading (a ++ b)).events ≡ (reading a).events ++ later)
begun a b =
    let h = fed (left (reading a)) b in
    (h.events ++ [], sym (ap (λ z. (reading (a ++ z)).events) (append-nil b)) ∙ sym (ap (λ r. r.events) (no_cutting (a ∷ b ∷ []))))

-- lines of frames in a row
pub all_read : (es : List Frame) → AllByRecursion (λ e. ReadsAs (frame_text e) e) es → ReadsAll (flat_map frame_text es) es
all_read [] h more = refl
all_read (e ∷ es) h more =
    ap reading (append_assoc (frame_text e) (flat_map frame_text es) more) ∙ h.0 (flat_map frame_text es ++ more) ∙ ap (onto (e ∷ [])) (all_read es h.1 more)

-- a fault, and the lines
abbrev AreFrames : List (List ℕ) → List ℕ → Type 0
AreFrames ls q = AllByRecursion (λ l. IsOk (line_read l)) ls × (length q < longest_frame)

limited_fault : (q : List ℕ) (b : Bool) → nat_lt (length q) longest_frame ≡ b → ((cond b (holding q) (failed TooLong)).fault ≡ None) ↔ AreFrames [] q
limited_fault q true e = (λ h. (tt, grind arith), λ h. refl)
limited_fault q false e = (λ h. cc, λ h. let k = h.1 in absurd (grind arith))

next_fault : (ls : List (List ℕ)) (q : List ℕ) (r : Read) (o : Result Frame FrameFault) → (r.fault ≡ None) ↔ AreFrames ls q
    → ((next o r).fault ≡ None) ↔ ((IsOk o × AllByRecursion (λ l. IsOk (line_read l)) ls) × (length q < longest_frame))
next_fault ls q r (Ok e) h = (λ k. let p = h.0 k in ((refl, p.0), p.1), λ k. h.1 (k.0.1, k.1))
next_fault ls q r (Err f) h = (λ k. cc, λ k. cc)

pub fault_of_lines : (ls : List (List ℕ)) (q : List ℕ) → ((read_lines ls q).fault ≡ None) ↔ AreFrames ls q
fault_of_lines [] q = limited_fault q (nat_lt (length q) longest_frame) refl
fault_of_lines (l ∷ ls) q = next_fault ls q (read_lines ls q) (line_read l) (fault_of_lines ls q)
