-- The turns of workers: which keys are in their hands, and that none is in two.
use Rattle.std.proofs.Common.{◌≡◌, ℕ, zero, suc, List, [], ◌∷◌, Bool, true, false, not, ◌&&◌, ◌||◌, Option, Some, None, slice_get, slice_set, refl, sym, ap, ◌∙◌, subst}
use mathlib.Core.Bool.{true≢false}
use Rattle.std.specs.Cmp.{eq_by_cmp_equiv, IsEquivalence}
use Rattle.std.specs.Ordering.{eq_by_cmp}
use Rattle.spec_client_go.specs.WorkQueues.{WorkKey, work_key_cmp}
use Rattle.spec_client_go.proofs.WorkKeyOrder.{work_key_total}
use Rattle.spec_sim.specs.Turns.{Turn}
use Rattle.sim_worker_laws.specs.TurnLaws.{is_of, is_in_hands}

abbrev pub same : WorkKey → WorkKey → Bool
same = eq_by_cmp work_key_cmp

pub same_laws : IsEquivalence same
same_laws = eq_by_cmp_equiv work_key_total

-- the key of a turn is that of no turn after it
abbrev pub IsFree : Option Turn → List (Option Turn) → Type 0
IsFree None os = Unit {0}
IsFree (Some h) os = is_in_hands h.work_key os ≡ false

abbrev pub Apart : List (Option Turn) → Type 0
Apart [] = Unit {0}
Apart (o ∷ os) = IsFree o os × Apart os

swapped : (a b c : Bool) → (a || (b || c)) ≡ (b || (a || c))
swapped true true c = refl
swapped true false c = refl
swapped false b c = refl

or_true : (a : Bool) → (a || true) ≡ true
or_true true = refl
or_true false = refl

first_false : (a b : Bool) → (a || b) ≡ false → a ≡ false
first_false true b e = e
first_false false b e = refl

second_false : (a b : Bool) → (a || b) ≡ false → b ≡ false
second_false true b e = absurd (true≢false e)
second_false false b e = e

pub alike : (q k : WorkKey) → same q k ≡ true → (os : List (Option Turn)) → is_in_hands q os ≡ is_in_hands k os
alike q k t [] = refl
alike q k t (None ∷ os) = alike q k t os
alike q k t (Some h ∷ os) = λ i. same_laws.congr q k h.work_key t i || alike q k t os i

-- ---- a worker without a turn begins one

pub hands_with : (w : ℕ) (h : Turn) (os : List (Option Turn)) (q : WorkKey) → slice_get os w ≡ Some None → is_in_hands q (slice_set os w (Some h)) ≡ (same q h.work_key || is_in_hands q os)
hands_with w h [] q e = cc
hands_with zero h (None ∷ os) q e = refl
hands_with zero h (Some g ∷ os) q e = cc
hands_with (suc w) h (o ∷ os) q e = ap (λ b. is_of q o || b) (hands_with w h os q e) ∙ swapped (is_of q o) (same q h.work_key) (is_in_hands q os)

pub apart_with : (w : ℕ) (h : Turn) (os : List (Option Turn)) → slice_get os w ≡ Some None → is_in_hands h.work_key os ≡ false → Apart os → Apart (slice_set os w (Some h))
apart_with w h [] e new a = tt
apart_with zero h (o ∷ os) e new a = (second_false (is_of h.work_key o) (is_in_hands h.work_key os) new, a.1)
apart_with (suc w) h (None ∷ os) e new a = (tt, apart_with w h os e new a.1)
apart_with (suc w) h (Some g ∷ os) e new a =
    let other : same g.work_key h.work_key ≡ false = same_laws.symm g.work_key h.work_key ∙ first_false (same h.work_key g.work_key) (is_in_hands h.work_key os) new in
    let none : is_in_hands h.work_key os ≡ false = second_false (same h.work_key g.work_key) (is_in_hands h.work_key os) new in (
      hands_with w h os g.work_key e ∙ ap (λ b. b || is_in_hands g.work_key os) other ∙ a.0,
      apart_with w h os e none a.1,
    )

-- ---- a turn ends

pub is_there : (w : ℕ) (h : Turn) (os : List (Option Turn)) → slice_get os w ≡ Some (Some h) → is_in_hands h.work_key os ≡ true
is_there w h [] e = cc
is_there zero h (None ∷ os) e = cc
is_there zero h (Some g ∷ os) e = let is : g ≡ h = cc in ap (λ (x : Turn). same h.work_key x.work_key || is_in_hands h.work_key os) is ∙ ap (λ b. b || is_in_hands h.work_key os) (same_laws.refl h.work_key)
is_there (suc w) h (o ∷ os) e = ap (λ b. is_of h.work_key o || b) (is_there w h os e) ∙ or_true (is_of h.work_key o)

pub fewer : (w : ℕ) (os : List (Option Turn)) (q : WorkKey) → is_in_hands q os ≡ false → is_in_hands q (slice_set os w None) ≡ false
fewer w [] q e = e
fewer zero (o ∷ os) q e = second_false (is_of q o) (is_in_hands q os) e
fewer (suc w) (o ∷ os) q e =
    ap (λ b. b || is_in_hands q (slice_set os w None)) (first_false (is_of q o) (is_in_hands q os) e) ∙ fewer w os q (second_false (is_of q o) (is_in_hands q os) e)

pub apart_without : (w : ℕ) (os : List (Option Turn)) → Apart os → Apart (slice_set os w None)
apart_without w [] a = a
apart_without zero (o ∷ os) a = (tt, a.1)
apart_without (suc w) (None ∷ os) a = (tt, apart_without w os a.1)
apart_without (suc w) (Some g ∷ os) a = (fewer w os g.work_key a.0, apart_without w os a.1)

out : (e b : Bool) → (e ≡ true → b ≡ false) → b ≡ (not e && (e || b))
out true b no_more = no_more refl
out false b no_more = refl

apart_ways : (e t b : Bool) → (e ≡ true → t ≡ false) → (t || (not e && b)) ≡ (not e && (t || b))
apart_ways true t b no_more = ap (λ x. x || false) (no_more refl)
apart_ways false t b no_more = refl

pub hands_without : (w : ℕ) (h : Turn) (os : List (Option Turn)) (q : WorkKey) → slice_get os w ≡ Some (Some h) → Apart os → is_in_hands q (slice_set os w None) ≡ (not (same q h.work_key) && is_in_hands q os)
hands_without w h [] q e a = cc
hands_without zero h (None ∷ os) q e a = cc
hands_without zero h (Some g ∷ os) q e a =
    let is : g ≡ h = cc in subst (λ (x : Turn). is_in_hands q os ≡ (not (same q x.work_key) && (same q g.work_key || is_in_hands q os))) is
    (out (same q g.work_key) (is_in_hands q os) (λ t. alike q g.work_key t os ∙ a.0))
hands_without (suc w) h (None ∷ os) q e a = hands_without w h os q e a.1
hands_without (suc w) h (Some g ∷ os) q e a =
    ap (λ b. same q g.work_key || b) (hands_without w h os q e a.1)
    ∙ apart_ways (same q h.work_key) (same q g.work_key) (is_in_hands q os) (λ t. by (same q g.work_key) refl t)
  where
    by : (b : Bool) → same q g.work_key ≡ b → same q h.work_key ≡ true → b ≡ false
    by false u t = refl
    by true u t = sym (is_there w h os e) ∙ sym (alike q h.work_key t os) ∙ alike q g.work_key u os ∙ a.0

-- ---- a turn goes on

pub hands_on : (w : ℕ) (h n : Turn) (os : List (Option Turn)) (q : WorkKey) → slice_get os w ≡ Some (Some h) → n.work_key ≡ h.work_key → is_in_hands q (slice_set os w (Some n)) ≡ is_in_hands q os
hands_on w h n [] q e k = cc
hands_on zero h n (None ∷ os) q e k = cc
hands_on zero h n (Some g ∷ os) q e k = let is : h ≡ g = cc in ap (λ t. same q t || is_in_hands q os) (k ∙ ap (λ (x : Turn). x.work_key) is)
hands_on (suc w) h n (o ∷ os) q e k = ap (λ b. is_of q o || b) (hands_on w h n os q e k)

pub apart_on : (w : ℕ) (h n : Turn) (os : List (Option Turn)) → slice_get os w ≡ Some (Some h) → n.work_key ≡ h.work_key → Apart os → Apart (slice_set os w (Some n))
apart_on w h n [] e k a = cc
apart_on zero h n (None ∷ os) e k a = cc
apart_on zero h n (Some g ∷ os) e k a = let is : h ≡ g = cc in (ap (λ t. is_in_hands t os) (k ∙ ap (λ (x : Turn). x.work_key) is) ∙ a.0, a.1)
apart_on (suc w) h n (None ∷ os) e k a = (tt, apart_on w h n os e k a.1)
apart_on (suc w) h n (Some g ∷ os) e k a = (hands_on w h n os g.work_key e k ∙ a.0, apart_on w h n os e k a.1)

-- ---- in a user's words

pub unique : (v w : ℕ) (a b : Turn) (os : List (Option Turn)) → Apart os → slice_get os v ≡ Some (Some a) → slice_get os w ≡ Some (Some b) → a.work_key ≡ b.work_key → v ≡ w
unique v w a b [] h x y t = cc
unique zero zero a b (o ∷ os) h x y t = refl
unique zero (suc w) a b (None ∷ os) h x y t = cc
unique zero (suc w) a b (Some g ∷ os) h x y t =
    let is : g ≡ a = cc in
    absurd (true≢false (sym (is_there w b os y) ∙ ap (λ k. is_in_hands k os) (sym t ∙ ap (λ (z : Turn). z.work_key) (sym is)) ∙ h.0))
unique (suc v) zero a b (None ∷ os) h x y t = cc
unique (suc v) zero a b (Some g ∷ os) h x y t =
    let is : g ≡ b = cc in
    absurd (true≢false (sym (is_there v a os x) ∙ ap (λ k. is_in_hands k os) (t ∙ ap (λ (z : Turn). z.work_key) (sym is)) ∙ h.0))
unique (suc v) (suc w) a b (o ∷ os) h x y t = ap suc (unique v w a b os h.1 x y t)
