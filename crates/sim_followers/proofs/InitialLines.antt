-- The next initial lines, and those after them.
use Rattle.std.proofs.Common.{◌≡◌, ◌≤◌, ◌<◌, ◌+◌, ℕ, zero, suc, List, [], ◌∷◌, ◌++◌, length, map, take, drop, Bool, true, false, refl, sym, ap, ◌∙◌, arith, append_assoc, append-nil}
use Rattle.std.proofs.lemmas.List.{take-map, drop-map, drop-drop, length-map, length-drop}
use Rattle.spec_api.specs.declared.kinds.Kind.{Kind}
use Rattle.spec_api.specs.Events.{Event}
use Rattle.spec_api.specs.Frames.{frame_text, bookmark_frame}
use Rattle.spec_api.specs.Streams.{Line, initial_end, frame_of, text_of_lines}
use Rattle.sim_followers.specs.Openings.{initial_line, initial_lines, lines_left, added_text}

-- ---- objects alone

pub take_few : (n : ℕ) (cs : List Event) (r : ℕ) → n ≤ length cs → take n (initial_lines cs r) ≡ map initial_line (take n cs)
take_few zero cs r le = refl
take_few (suc n) [] r le = absurd (omega (arith, le))
take_few (suc n) (c ∷ cs) r le = ap (λ ls. initial_line c ∷ ls) (take_few n cs r (omega (arith, le)))

pub drop_few : (n : ℕ) (cs : List Event) (r : ℕ) → n ≤ length cs → drop n (initial_lines cs r) ≡ initial_lines (drop n cs) r
drop_few zero cs r le = refl
drop_few (suc n) [] r le = absurd (omega (arith, le))
drop_few (suc n) (c ∷ cs) r le = drop_few n cs r (omega (arith, le))

-- ---- all of them

abbrev no_lines : List Line
no_lines = []

none_taken : (n : ℕ) → take n no_lines ≡ no_lines
none_taken zero = refl
none_taken (suc n) = refl

none_dropped : (n : ℕ) → drop n no_lines ≡ no_lines
none_dropped zero = refl
none_dropped (suc n) = refl

pub take_many : (n : ℕ) (cs : List Event) (r : ℕ) → length cs < n → take n (initial_lines cs r) ≡ initial_lines cs r
take_many zero cs r many = absurd (omega (arith, many))
take_many (suc n) [] r many = ap (λ ls. initial_end r ∷ ls) (none_taken n)
take_many (suc n) (c ∷ cs) r many = ap (λ ls. initial_line c ∷ ls) (take_many n cs r (omega (arith, many)))

pub drop_many : (n : ℕ) (cs : List Event) (r : ℕ) → length cs < n → drop n (initial_lines cs r) ≡ []
drop_many zero cs r many = absurd (omega (arith, many))
drop_many (suc n) [] r many = none_dropped n
drop_many (suc n) (c ∷ cs) r many = drop_many n cs r (omega (arith, many))

-- ---- texts

pub text_is : (k : Kind) (cs : List Event) → added_text cs ≡ text_of_lines k (map initial_line cs)
text_is k [] = refl
text_is k (c ∷ cs) = ap (λ t. frame_text (frame_of k (initial_line c)) ++ t) (text_is k cs)

pub closed_text : (k : Kind) (cs : List Event) (r : ℕ) → added_text cs ++ frame_text (bookmark_frame k true r) ≡ text_of_lines k (initial_lines cs r)
closed_text k [] r = sym (append-nil (frame_text (bookmark_frame k true r)))
closed_text k (c ∷ cs) r =
    append_assoc (frame_text (frame_of k (initial_line c))) (added_text cs) (frame_text (bookmark_frame k true r))
    ∙ ap (λ t. frame_text (frame_of k (initial_line c)) ++ t) (closed_text k cs r)

-- ---- lists

pub length_is : (cs : List Event) (r : ℕ) → length (initial_lines cs r) ≡ length cs + 1
length_is [] r = refl
length_is (c ∷ cs) r = let rest = length_is cs r in omega (arith, rest)

-- ---- what is left of them

module _ {X : Type 0} (seen : X → Event) where
  pub few_written : (k : Kind) (b : Bool) (w m : ℕ) (es : List X) (r : ℕ) (t : List ℕ) → b ≡ false → m ≤ length (drop w es) → t ≡ added_text (map seen (take m (drop w es)))
      → t ≡ text_of_lines k (take m (lines_left b (drop w (map seen es)) r))
  few_written k true w m es r t left le is = cc
  few_written k false w m es r t left le is =
      let cs = drop w (map seen es) in
      let same : cs ≡ map seen (drop w es) = drop-map seen w es in
      let long : m ≤ length cs = omega (arith, le, ap length same, length-map (drop w es) seen) in
      is ∙ text_is k (map seen (take m (drop w es))) ∙ ap (λ z. text_of_lines k (map initial_line z)) (sym (take-map seen m (drop w es)) ∙ ap (take m) (sym same))
      ∙ ap (text_of_lines k) (sym (take_few m cs r long))

  pub all_written : (k : Kind) (b : Bool) (w m : ℕ) (es : List X) (r : ℕ) (t : List ℕ) → b ≡ false → length (drop w es) < m
      → t ≡ added_text (map seen (drop w es)) ++ frame_text (bookmark_frame k true r) → t ≡ text_of_lines k (take m (lines_left b (drop w (map seen es)) r))
  all_written k true w m es r t left many is = cc
  all_written k false w m es r t left many is =
      let cs = drop w (map seen es) in
      let same : cs ≡ map seen (drop w es) = drop-map seen w es in
      let long : length cs < m = omega (arith, many, ap length same, length-map (drop w es) seen) in
      is ∙ ap (λ z. added_text z ++ frame_text (bookmark_frame k true r)) (sym same) ∙ closed_text k cs r ∙ ap (text_of_lines k) (sym (take_many m cs r long))

  pub few_passed : (b : Bool) (w m : ℕ) (es : List X) (r : ℕ) → b ≡ false → w + m ≤ length es
      → lines_left b (drop (w + m) (map seen es)) r ≡ drop m (lines_left b (drop w (map seen es)) r)
  few_passed true w m es r left le = cc
  few_passed false w m es r left le =
      let cs = map seen es in
      let long : m ≤ length (drop w cs) = omega (arith, le, length-map es seen, length-drop w cs) in
      ap (λ z. initial_lines z r) (sym (drop-drop m w cs)) ∙ sym (drop_few m (drop w cs) r long)

  pub all_passed : (b : Bool) (w m : ℕ) (es : List X) (r : ℕ) → b ≡ false → length es < w + m → w ≤ length es → [] ≡ drop m (lines_left b (drop w (map seen es)) r)
  all_passed true w m es r left many le = cc
  all_passed false w m es r left many le =
      let cs = map seen es in
      let long : length (drop w cs) < m = omega (arith, many, le, length-map es seen, length-drop w cs) in sym (drop_many m (drop w cs) r long)
