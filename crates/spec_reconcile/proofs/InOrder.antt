-- A list that a stable sort gives is the list in order.
use Rattle.std.proofs.Common.{◌≡◌, ◌≤◌, ◌<◌, ℕ, zero, suc, List, [], ◌∷◌, map, length, get_or, Bool, true, false, cond, not, ◌&&◌, refl, sym, ap, ◌∙◌, subst, Ordering, Less, Equal, Greater, if◌then◌else◌, arith}
use Rattle.std.specs.Cmp.{IsTotalOrder, tied_itself, tied_back, alike_right}
use Rattle.std.specs.List.{AllByRecursion, filter}
use Rattle.std.specs.List.Sorted.{IsSorted, IsStable, ties}
use Rattle.std.specs.Ordering.{is_le, is_lt, on, ordering_reverse}
use Rattle.std.proofs.lemmas.List.Sorted.{sorted_far, ranks_by}
use Rattle.spec_reconcile.specs.Orders.{placed, in_order}

-- ---- each of a list

abbrev pub Each : {A : Type 0} → (A → Type 0) → List A → Type 0
Each P as' = AllByRecursion P as'

pub each_implies : {A : Type 0} (P Q : A → Type 0) → ((a : A) → P a → Q a) → (as' : List A) → Each P as' → Each Q as'
each_implies P Q f [] h = tt
each_implies P Q f (a ∷ as') h = (f a h.0, each_implies P Q f as' h.1)

-- what is first among those that pass a test is one of them
first_kept-at : {A : Type 0} (P : A → Type 0) (b : Bool) (a y : A) (ks r : List A) → P a → (ks ≡ y ∷ r → P y) → cond b (a ∷ ks) ks ≡ y ∷ r → P y
first_kept-at P true a y ks r p f e = subst P (cc) p
first_kept-at P false a y ks r p f e = f e

pub first_kept : {A : Type 0} (P : A → Type 0) (t : A → Bool) (y : A) (r as' : List A) → Each P as' → filter t as' ≡ y ∷ r → P y
first_kept P t y r [] h e = cc
first_kept P t y r (a ∷ as') h e = first_kept-at P (t a) a y (filter t as') r h.0 (first_kept P t y r as' h.1) e

module _ {A : Type 0} {cmp : A → A → Ordering} (total : IsTotalOrder cmp) where
  below : A → A → Bool
  below a b = is_lt (cmp a b)

  -- ---- ties

  equal_at : (r s : Ordering) → r ≡ ordering_reverse s → (not (is_lt r) && not (is_lt s)) ≡ true → r ≡ Equal
  equal_at Less s e h = cc
  equal_at Equal s e h = refl
  equal_at Greater Less e h = cc
  equal_at Greater Equal e h = cc
  equal_at Greater Greater e h = cc

  tie_equal : (a b : A) → ties (λ x y. is_lt (cmp x y)) a b ≡ true → cmp a b ≡ Equal
  tie_equal a b h = equal_at (cmp a b) (cmp b a) (total.antisymm a b) h

  tie_both : (a b : A) → is_lt (cmp a b) ≡ false → is_lt (cmp b a) ≡ false → ties (λ x y. is_lt (cmp x y)) a b ≡ true
  tie_both a b h k = rw (h, k) refl

  tie_itself : (a : A) → ties (λ x y. is_lt (cmp x y)) a a ≡ true
  tie_itself a = let e = tied_itself total a in tie_both a a (ap is_lt e) (ap is_lt e)

  both_tie : (x a b : A) → ties (λ x y. is_lt (cmp x y)) x a ≡ true → ties (λ x y. is_lt (cmp x y)) x b ≡ true → is_le (cmp a b) ≡ true
  both_tie x a b h k = ap is_le (sym (total.congr x a b (tie_equal x a h)) ∙ tie_equal x b k)

  -- ---- lists that ascend: none is below an earlier one

  abbrev pub Ascends : List A → Type 0
  Ascends [] = Unit {0}
  Ascends (a ∷ as') = Each (λ b. is_lt (cmp b a) ≡ false) as' × Ascends as'

  each_at : (P : A → Type 0) (as' : List A) → ((j : ℕ) (d : A) → j < length as' → P (get_or as' j d)) → Each P as'
  each_at P [] f = tt
  each_at P (a ∷ as') f = (f zero a (omega arith), each_at P as' (λ j d h. f (suc j) d (omega arith)))

  ascends_at : (as' : List A) → ((i j : ℕ) (d : A) → i ≤ j → j < length as' → is_lt (cmp (get_or as' j d) (get_or as' i d)) ≡ false) → Ascends as'
  ascends_at [] f = tt
  ascends_at (a ∷ as') f = (each_at (λ b. is_lt (cmp b a) ≡ false) as' (λ j d h. f zero (suc j) d (omega arith) (omega arith)), ascends_at as' (λ i j d p q. f (suc i) (suc j) d (omega arith) (omega arith)))

  pub sorted_ascends : (as' : List A) → IsSorted cmp as' → Ascends as'
  sorted_ascends as' up = ascends_at as' (λ i j d p q. sorted_far (λ x y. is_lt (cmp x y)) (ranks_by total (λ x. x)) as' up i j d p q)

  -- ---- in order, a list ascends

  placed_each-at : (P : A → Type 0) (a b : A) (bs : List A) (t : Bool) → P a → P b × Each P bs → Each P (placed cmp a bs) → Each P (if t then a ∷ b ∷ bs else b ∷ placed cmp a bs)
  placed_each-at P a b bs true p h k = (p, h)
  placed_each-at P a b bs false p h k = (h.0, k)

  placed_each : (P : A → Type 0) (a : A) (bs : List A) → P a → Each P bs → Each P (placed cmp a bs)
  placed_each P a [] p h = (p, tt)
  placed_each P a (b ∷ bs) p h = placed_each-at P a b bs (is_le (cmp a b)) p h (placed_each P a bs p h.1)

  back : (a b : A) (o : Ordering) → cmp a b ≡ o → is_lt (cmp b a) ≡ is_lt (ordering_reverse o)
  back a b o e = ap is_lt (total.antisymm b a ∙ ap ordering_reverse e)

  -- what is not below b is not below an a that is not after b
  above : (a b c : A) (o p : Ordering) → cmp a b ≡ o → is_le o ≡ true → cmp c a ≡ p → is_lt (cmp c b) ≡ false → is_lt p ≡ false
  above a b c Less Less e f g h = let k = total.trans c a b g e in cc (ap is_lt k)
  above a b c Equal Less e f g h = let k = sym (alike_right total a b c e) ∙ g in cc (ap is_lt k)
  above a b c Greater Less e f g h = cc
  above a b c o Equal e f g h = refl
  above a b c o Greater e f g h = refl

  placed_ascends-at : (a b : A) (bs : List A) (o : Ordering) → cmp a b ≡ o → Ascends (b ∷ bs) → Ascends (placed cmp a bs) → Ascends (if is_le o then a ∷ b ∷ bs else b ∷ placed cmp a bs)
  placed_ascends-at a b bs Less e h k = ((back a b Less e, each_implies (λ c. is_lt (cmp c b) ≡ false) (λ c. is_lt (cmp c a) ≡ false) (λ c. above a b c Less (cmp c a) e refl refl) bs h.0), h)
  placed_ascends-at a b bs Equal e h k = ((back a b Equal e, each_implies (λ c. is_lt (cmp c b) ≡ false) (λ c. is_lt (cmp c a) ≡ false) (λ c. above a b c Equal (cmp c a) e refl refl) bs h.0), h)
  placed_ascends-at a b bs Greater e h k = (placed_each (λ c. is_lt (cmp c b) ≡ false) a bs (ap is_lt e) h.0, k)

  placed_ascends : (a : A) (bs : List A) → Ascends bs → Ascends (placed cmp a bs)
  placed_ascends a [] h = (tt, tt)
  placed_ascends a (b ∷ bs) h = placed_ascends-at a b bs (cmp a b) refl h (placed_ascends a bs h.1)

  pub in_order_ascends : (as' : List A) → Ascends (in_order cmp as')
  in_order_ascends [] = tt
  in_order_ascends (a ∷ as') = placed_ascends a (in_order cmp as') (in_order_ascends as')

  -- ---- in order, those that tie stand as they stood

  -- two that pass a test only where the first is not after the second may change places where it is
  swapped : (s t u : Bool) (a b : A) (bs ks : List A) → (s ≡ true → t ≡ true → u ≡ true) → u ≡ false → ks ≡ cond s (a ∷ bs) bs → cond t (b ∷ ks) ks ≡ cond s (a ∷ cond t (b ∷ bs) bs) (cond t (b ∷ bs) bs)
  swapped true true u a b bs ks f e h = let k = f refl refl in cc
  swapped true false u a b bs ks f e h = h
  swapped false true u a b bs ks f e h = ap (λ (cs : List A). b ∷ cs) h
  swapped false false u a b bs ks f e h = h

  placed_keeps-at : (t : A → Bool) (a b : A) (bs : List A) (le : Bool) → (t a ≡ true → t b ≡ true → le ≡ true) → filter t (placed cmp a bs) ≡ filter t (a ∷ bs)
      → filter t (if le then a ∷ b ∷ bs else b ∷ placed cmp a bs) ≡ filter t (a ∷ b ∷ bs)
  placed_keeps-at t a b bs true f h = refl
  placed_keeps-at t a b bs false f h = swapped (t a) (t b) false a b (filter t bs) (filter t (placed cmp a bs)) f refl h

  placed_keeps : (t : A → Bool) (a : A) (bs : List A) → ((b : A) → t a ≡ true → t b ≡ true → is_le (cmp a b) ≡ true) → filter t (placed cmp a bs) ≡ filter t (a ∷ bs)
  placed_keeps t a [] f = refl
  placed_keeps t a (b ∷ bs) f = placed_keeps-at t a b bs (is_le (cmp a b)) (f b) (placed_keeps t a bs f)

  pub in_order_stable : (as' : List A) → IsStable cmp as' (in_order cmp as')
  in_order_stable [] x = refl
  in_order_stable (a ∷ as') x =
      let t : A → Bool = ties (λ y z. is_lt (cmp y z)) x in
      placed_keeps t a (in_order cmp as') (λ b. both_tie x a b) ∙ ap (λ (ks : List A). cond (t a) (a ∷ ks) ks) (in_order_stable as' x)

  -- ---- two lists that ascend, with the same ties, are one

  abbrev Alike : List A → List A → Type 0
  Alike as' bs = (x : A) → filter (ties (λ y z. is_lt (cmp y z)) x) as' ≡ filter (ties (λ y z. is_lt (cmp y z)) x) bs

  kept_first : (t : Bool) (a : A) (ks : List A) → t ≡ true → cond t (a ∷ ks) ks ≡ a ∷ ks
  kept_first true a ks h = refl
  kept_first false a ks h = cc

  kept_rest : (t : Bool) (a : A) (ks : List A) → t ≡ false → cond t (a ∷ ks) ks ≡ ks
  kept_rest true a ks h = cc
  kept_rest false a ks h = refl

  not_none : (a : A) (as' : List A) → Alike (a ∷ as') [] → ⊥
  not_none a as' h = let e = sym (kept_first (ties (λ y z. is_lt (cmp y z)) a a) a (filter (ties (λ y z. is_lt (cmp y z)) a) as') (tie_itself a)) ∙ h a in cc

  -- the first of one list is not below the first of another, where these do not tie
  not_below : (a b : A) (as' bs : List A) → Ascends (b ∷ bs) → Alike (a ∷ as') (b ∷ bs) → ties (λ y z. is_lt (cmp y z)) a b ≡ false → is_lt (cmp a b) ≡ false
  not_below a b as' bs up h apart =
      let t : A → Bool = ties (λ y z. is_lt (cmp y z)) a in
      first_kept (λ c. is_lt (cmp c b) ≡ false) t a (filter t as') bs up.0
      (sym (kept_rest (t b) b (filter t bs) apart) ∙ sym (h a) ∙ kept_first (t a) a (filter t as') (tie_itself a))

  alike_back : (as' bs : List A) → Alike as' bs → Alike bs as'
  alike_back as' bs h x = sym (h x)

  tie_back : (a b : A) → ties (λ y z. is_lt (cmp y z)) a b ≡ false → ties (λ y z. is_lt (cmp y z)) b a ≡ false
  tie_back a b h = turned (ties (λ y z. is_lt (cmp y z)) b a) refl where
    turned : (t : Bool) → ties (λ y z. is_lt (cmp y z)) b a ≡ t → t ≡ false
    turned true e = let k = tied_back total b a (tie_equal b a e) in cc (tie_both a b (ap is_lt k) (ap is_lt (tie_equal b a e)))
    turned false e = refl

  heads_at : (a b : A) (as' bs : List A) (t : Bool) → ties (λ y z. is_lt (cmp y z)) a b ≡ t → Ascends (a ∷ as') → Ascends (b ∷ bs) → Alike (a ∷ as') (b ∷ bs) → a ≡ b
  heads_at a b as' bs true e up vp h =
      let s : A → Bool = ties (λ y z. is_lt (cmp y z)) a in
      let k = sym (kept_first (s a) a (filter s as') (tie_itself a)) ∙ h a ∙ kept_first (s b) b (filter s bs) e in
      cc
  heads_at a b as' bs false e up vp h =
      let p = not_below a b as' bs vp h e in
      let q = not_below b a bs as' up (alike_back (a ∷ as') (b ∷ bs) h) (tie_back a b e) in
      cc (tie_both a b p q)

  tails_at : (t : Bool) (a : A) (as' bs : List A) → cond t (a ∷ as') as' ≡ cond t (a ∷ bs) bs → as' ≡ bs
  tails_at true a as' bs e = cc
  tails_at false a as' bs e = e

  tails_alike : (a b : A) (as' bs : List A) → a ≡ b → Alike (a ∷ as') (b ∷ bs) → Alike as' bs
  tails_alike a b as' bs e h x =
      let t : A → Bool = ties (λ y z. is_lt (cmp y z)) x in
      tails_at (t a) a (filter t as') (filter t bs) (h x ∙ ap (λ (c : A). cond (t c) (c ∷ filter t bs) (filter t bs)) (sym e))

  alike_same : (as' bs : List A) → Ascends as' → Ascends bs → Alike as' bs → as' ≡ bs
  alike_same [] [] up vp h = refl
  alike_same [] (b ∷ bs) up vp h = absurd (not_none b bs (alike_back [] (b ∷ bs) h))
  alike_same (a ∷ as') [] up vp h = absurd (not_none a as' h)
  alike_same (a ∷ as') (b ∷ bs) up vp h =
      let e = heads_at a b as' bs (ties (λ y z. is_lt (cmp y z)) a b) refl up vp h in
      let rest = alike_same as' bs up.1 vp.1 (tails_alike a b as' bs e h) in
      λ i. e i ∷ rest i

  -- what a stable sort gives
  pub stable_is_in_order : (as' bs : List A) → IsSorted cmp bs → IsStable cmp as' bs → bs ≡ in_order cmp as'
  stable_is_in_order as' bs up stable =
      alike_same bs (in_order cmp as') (sorted_ascends bs up) (in_order_ascends as') (λ x. stable x ∙ sym (in_order_stable as' x))

-- ---- by what is compared of each

placed_map-at : {A B : Type 0} (f : A → B) (a b : A) (bs : List A) (ks : List B) (t : Bool) (more : List A) → map f more ≡ ks → map f (if t then a ∷ b ∷ bs else b ∷ more) ≡ (if t then f a ∷ f b ∷ map f bs else f b ∷ ks)
placed_map-at f a b bs ks true more h = refl
placed_map-at f a b bs ks false more h = ap (λ (cs : List _). f b ∷ cs) h

placed_map : {A B : Type 0} (f : A → B) (cmp : B → B → Ordering) (a : A) (bs : List A) → map f (placed (on f cmp) a bs) ≡ placed cmp (f a) (map f bs)
placed_map f cmp a [] = refl
placed_map f cmp a (b ∷ bs) = placed_map-at f a b bs (placed cmp (f a) (map f bs)) (is_le (cmp (f a) (f b))) (placed (on f cmp) a bs) (placed_map f cmp a bs)

pub in_order_map : {A B : Type 0} (f : A → B) (cmp : B → B → Ordering) (as' : List A) → map f (in_order (on f cmp) as') ≡ in_order cmp (map f as')
in_order_map f cmp [] = refl
in_order_map f cmp (a ∷ as') = placed_map f cmp a (in_order (on f cmp) as') ∙ ap (placed cmp (f a)) (in_order_map f cmp as')
