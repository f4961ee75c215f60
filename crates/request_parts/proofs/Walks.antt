-- What the parameters take, where each is a whole segment.
use Rattle.std.proofs.Common.{◌≡◌, ℕ, suc, ◌+◌, ◌-◌, ◌<◌, ◌≤◌, List, [], ◌∷◌, ◌++◌, length, drop, take, get_or, Bool, true, false, cond, refl, sym, ap, ◌∙◌, arith, ◌==◌, ◌&&◌, ltb, leb, length-append, append-nil, append_assoc, lit<}
use Rattle.std.proofs.lemmas.Bool.Decides.{nat_tests}
use Rattle.std.proofs.Math.Seq.{drop-append_seam, take-append_seam, drop-append-add}
use Rattle.std.proofs.lemmas.List.{get_or-append-add}
use Rattle.matchit.specs.Seek.{segment}
use Rattle.matchit.specs.Params.{walk, wild_from, wild_stop, part_of, next_at, after_token}
use Rattle.request_parts.proofs.Plain.{Plain, AllPlain, AreBytes, cut-segment}
use Rattle.request_parts.proofs.Seeks.{IsRoute}
use Rattle.request_parts.specs.Parts.{Part, word, any, part_tokens, tokens, joined}

-- the segments are the route's words and fill its parameters
abbrev pub Fits : List Part → List (List ℕ) → List (ℕ × ℕ) → Type 0
Fits [] [] [] = Unit {0}
Fits [] [] (n ∷ ns) = ⊥
Fits [] (s ∷ ss) ns = ⊥
Fits (p ∷ ps) [] ns = ⊥
Fits (word w ∷ ps) (s ∷ ss) ns = (w ≡ s) × Fits ps ss ns
Fits (any ∷ ps) (s ∷ ss) [] = ⊥
Fits (any ∷ ps) (s ∷ ss) (n ∷ ns) = Fits ps ss ns

abbrev pub taken : List ℕ → List Part → List (List ℕ) → List (ℕ × ℕ) → List (List ℕ × List ℕ)
taken text [] ss ns = []
taken text (p ∷ ps) [] ns = []
taken text (word w ∷ ps) (s ∷ ss) ns = taken text ps ss ns
taken text (any ∷ ps) (s ∷ ss) [] = []
taken text (any ∷ ps) (s ∷ ss) (n ∷ ns) = (part_of text n.0 n.1, s) ∷ taken text ps ss ns

-- a word is passed byte by byte
wild-word : (w t : List ℕ) (len token at : ℕ) → AreBytes w → at + length w ≤ len → wild_from (w ++ t) len token at ≡ wild_from t len (token + length w) (at + length w)
wild-word [] t len token at p l =
    let e1 : token ≡ token + 0 = omega arith in
    let e2 : at ≡ at + 0 = omega arith in
    (λ i. wild_from t len (e1 i) (e2 i))
wild-word (x ∷ w) t len token at p l =
    let b : x < 256 = p.0 in
    let byte : ltb x 256 ≡ true = grind (arith, nat_tests) in
    let inside : at < len = omega arith in
    let go : ltb at len ≡ true = grind (arith, nat_tests) in
    let n : next_at len at ≡ at + 1 = ap (λ v. cond v (at + 1) at) go in
    let e1 : token + 1 + length w ≡ token + length (x ∷ w) = omega arith in
    let e2 : at + 1 + length w ≡ at + length (x ∷ w) = omega arith in
    let ih = wild-word w t len (token + 1) (at + 1) p.1 (omega arith) in
    ap (λ v. cond v (wild_from (w ++ t) len (token + 1) (next_at len at)) (token, at)) byte
    ∙ ap (λ z. wild_from (w ++ t) len (token + 1) z) n ∙ ih ∙ (λ i. wild_from t len (e1 i) (e2 i))

third-false : (u v w : Bool) (a b : ℕ) → w ≡ false → cond (u && v && w) a b ≡ b
third-false true true w a b e = ap (λ z. cond z a b) e
third-false true false w a b e = refl
third-false false v w a b e = refl

-- where a parameter stops
stop-last : (done path : List ℕ) (at : ℕ) → wild_stop (done ++ 47 ∷ 256 ∷ []) (length done + 1) path at ≡ length path
stop-last done path at =
    let l : length (done ++ 47 ∷ 256 ∷ []) ≤ length done + 1 + 1 = simp length-append (omega arith) in
    let e : ltb (length done + 1 + 1) (length (done ++ 47 ∷ 256 ∷ [])) ≡ false = grind (arith, nat_tests) in
    third-false (ltb (length done + 1) (length (done ++ 47 ∷ 256 ∷ []))) (get_or (done ++ 47 ∷ 256 ∷ []) (length done + 1) 0 == 256) (ltb (length done + 1 + 1) (length (done ++ 47 ∷ 256 ∷ []))) (at + length (segment (drop at path)) - length (segment (drop (length done + 1 + 1) (done ++ 47 ∷ 256 ∷ [])))) (length path) e

all-true : (u v w : Bool) (a b : ℕ) → u ≡ true → v ≡ true → w ≡ true → cond (u && v && w) a b ≡ a
all-true u v w a b e f g = (λ i. cond (e i && f i && g i) a b)

stop-slash : (done t pdone s r : List ℕ) → Plain s
    → wild_stop (done ++ 47 ∷ 256 ∷ 47 ∷ t) (length done + 1) (pdone ++ 47 ∷ (s ++ 47 ∷ r)) (length pdone + 1) ≡ length pdone + 1 + length s
stop-slash done t pdone s r p =
    let pattern = done ++ 47 ∷ 256 ∷ 47 ∷ t in
    let path = pdone ++ 47 ∷ (s ++ 47 ∷ r) in
    let long : length done + 3 ≤ length pattern = simp length-append (omega arith) in
    let e : ltb (length done + 1) (length pattern) ≡ true = grind (arith, nat_tests) in
    let g : ltb (length done + 1 + 1) (length pattern) ≡ true = grind (arith, nat_tests) in
    let f : (get_or pattern (length done + 1) 0 == 256) ≡ true = ap (λ z. z == 256) (get_or-append-add done (47 ∷ 256 ∷ 47 ∷ t) 1 0) in
    let d2 : length done + 1 + 1 ≡ length done + 2 = omega arith in
    let a : segment (drop (length pdone + 1) path) ≡ s ++ 47 ∷ [] = ap segment (drop-append-add pdone (47 ∷ (s ++ 47 ∷ r)) 1) ∙ cut-segment s r p in
    let b : segment (drop (length done + 1 + 1) pattern) ≡ 47 ∷ [] = ap (λ n. segment (drop n pattern)) d2 ∙ ap segment (drop-append-add done (47 ∷ 256 ∷ 47 ∷ t) 2) in
    let la : length (s ++ 47 ∷ []) ≡ length s + 1 = simp length-append refl in
    all-true (ltb (length done + 1) (length pattern)) (get_or pattern (length done + 1) 0 == 256) (ltb (length done + 1 + 1) (length pattern)) (length pdone + 1 + length (segment (drop (length pdone + 1) path)) - length (segment (drop (length done + 1 + 1) pattern))) (length path) e f g
    ∙ (λ i. length pdone + 1 + length (a i) - length (b i)) ∙ rw la (omega arith)

part-segment : (pdone s r : List ℕ) → part_of (pdone ++ 47 ∷ (s ++ r)) (length pdone + 1) (length pdone + 1 + length s) ≡ s
part-segment pdone s r =
    let path = pdone ++ 47 ∷ (s ++ r) in
    let fits : length pdone + 1 + length s ≤ length path = simp length-append (omega arith) in
    let e : leb (length pdone + 1) (length pdone + 1 + length s) ≡ true = grind (arith, nat_tests) in
    let f : leb (length pdone + 1 + length s) (length path) ≡ true = grind (arith, nat_tests) in
    let n : length pdone + 1 + length s - (length pdone + 1) ≡ length s = omega arith in
    (λ i. cond (e i && f i) (take (n i) (drop-append-add pdone (47 ∷ (s ++ r)) 1 i)) []) ∙ take-append_seam s r

plain-bytes : (w : List ℕ) → Plain w → AreBytes w
plain-bytes [] p = tt
plain-bytes (x ∷ w) p = (p.0, plain-bytes w p.2)

stops : (ps : List Part) (ss : List (List ℕ)) (ns : List (ℕ × ℕ)) (done pdone s : List ℕ) → Fits ps ss ns → Plain s
    → wild_stop (done ++ 47 ∷ 256 ∷ tokens ps) (length done + 1) (pdone ++ 47 ∷ (s ++ joined ss)) (length pdone + 1) ≡ length pdone + 1 + length s
stops [] [] ns done pdone s f p =
    stop-last done (pdone ++ 47 ∷ (s ++ [])) (length pdone + 1) ∙ simp (append-nil, length-append) (omega arith)
stops [] (z ∷ ss) ns done pdone s f p = absurd f
stops (q ∷ ps) [] ns done pdone s f p = absurd f
stops (q ∷ ps) (z ∷ ss) ns done pdone s f p = stop-slash done (part_tokens q ++ tokens ps) pdone s (z ++ joined ss) p

-- each parameter takes its segment
pub walks : (ps : List Part) (ss : List (List ℕ)) (ns : List (ℕ × ℕ)) (pattern text path done pdone : List ℕ) (token at : ℕ)
    → pattern ≡ done ++ tokens ps → path ≡ pdone ++ joined ss → IsRoute ps → AllPlain ss → Fits ps ss ns → length pattern < 65536
    → wild_from (drop token pattern) (length path) token at ≡ wild_from (tokens ps) (length path) (length done) (length pdone)
    → walk pattern text path ns token at ≡ taken text ps ss ns
walks [] [] [] pattern text path done pdone token at e q g p f b h = refl
walks [] [] (n ∷ ns) pattern text path done pdone token at e q g p f b h = absurd f
walks [] (s ∷ ss) ns pattern text path done pdone token at e q g p f b h = absurd f
walks (z ∷ ps) [] ns pattern text path done pdone token at e q g p f b h = absurd f
walks (word [] ∷ ps) (s ∷ ss) ns pattern text path done pdone token at e q g p f b h = absurd g
walks (word (x ∷ w) ∷ ps) (s ∷ ss) ns pattern text path done pdone token at e q g p f b h =
    let v = 47 ∷ x ∷ w in
    let small : AreBytes v = (lit< tt, plain-bytes (x ∷ w) g.0) in
    let lw : length s ≡ length (x ∷ w) = ap length (sym f.0) in
    let lp : length path ≡ length pdone + suc (length s + length (joined ss)) = ap length q ∙ simp length-append refl in
    let passed = wild-word v (tokens ps) (length path) (length done) (length pdone) small (omega arith) in
    let d : length done + length v ≡ length (done ++ v) = sym (length-append done v) in
    let a : length pdone + length v ≡ length (pdone ++ 47 ∷ s) = simp length-append (omega arith) in
    walks ps ss ns pattern text path (done ++ v) (pdone ++ 47 ∷ s) token at
    (e ∙ sym (append_assoc done v (tokens ps))) (q ∙ sym (append_assoc pdone (47 ∷ s) (joined ss))) g.1 p.1 f.1 b
    (h ∙ passed ∙ (λ i. wild_from (tokens ps) (length path) (d i) (a i)))
walks (any ∷ ps) (s ∷ ss) [] pattern text path done pdone token at e q g p f b h = absurd f
walks (any ∷ ps) (s ∷ ss) (n ∷ ns) pattern text path done pdone token at e q g p f b h =
    let W = wild_from (drop token pattern) (length path) token at in
    let lp : length path ≡ length pdone + suc (length s + length (joined ss)) = ap length q ∙ simp length-append refl in
    let le : length pattern ≡ length done + suc (suc (length (tokens ps))) = ap length e ∙ simp length-append (omega arith) in
    let inside : length pdone < length path = omega arith in
    let go : ltb (length pdone) (length path) ≡ true = grind (arith, nat_tests) in
    let w : W ≡ (length done + 1, length pdone + 1) = h ∙ ap (λ v. (length done + 1, cond v (length pdone + 1) (length pdone))) go in
    let stop : wild_stop pattern (length done + 1) path (length pdone + 1) ≡ length pdone + 1 + length s =
    (λ i. wild_stop (e i) (length done + 1) (q i) (length pdone + 1)) ∙ stops ps ss ns done pdone s f p.0 in
    let part : part_of path (length pdone + 1) (length pdone + 1 + length s) ≡ s =
    ap (λ z. part_of z (length pdone + 1) (length pdone + 1 + length s)) q ∙ part-segment pdone s (joined ss) in
    let mark : List ℕ = 47 ∷ 256 ∷ [] in
    let e2 : pattern ≡ (done ++ mark) ++ tokens ps = e ∙ sym (append_assoc done mark (tokens ps)) in
    let q2 : path ≡ (pdone ++ 47 ∷ s) ++ joined ss = q ∙ sym (append_assoc pdone (47 ∷ s) (joined ss)) in
    let after : after_token (length done + 1) ≡ length (done ++ mark) = simp length-append (omega arith) in
    let place : length pdone + 1 + length s ≡ length (pdone ++ 47 ∷ s) = simp length-append (omega arith) in
    let rest : drop (length (done ++ mark)) pattern ≡ tokens ps = ap (drop (length (done ++ mark))) e2 ∙ drop-append_seam (done ++ mark) (tokens ps) in
    let later = walks ps ss ns pattern text path (done ++ mark) (pdone ++ 47 ∷ s) (length (done ++ mark)) (length (pdone ++ 47 ∷ s)) e2 q2 g p.1 f b
    (ap (λ z. wild_from z (length path) (length (done ++ mark)) (length (pdone ++ 47 ∷ s))) rest) in
    (λ i. (part_of text n.0 n.1, part_of path (w i).1 (wild_stop pattern (w i).0 path (w i).1)) ∷ walk pattern text path ns (after_token (w i).0) (wild_stop pattern (w i).0 path (w i).1))
    ∙ (λ i. (part_of text n.0 n.1, part_of path (length pdone + 1) (stop i)) ∷ walk pattern text path ns (after i) (stop i))
    ∙ (λ i. (part_of text n.0 n.1, part i) ∷ walk pattern text path ns (length (done ++ mark)) (place i))
    ∙ ap (λ z. (part_of text n.0 n.1, s) ∷ z) later
