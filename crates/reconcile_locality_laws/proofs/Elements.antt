-- The elements of lists, and tests of all or some of them.
use Rattle.std.proofs.Common.{◌≡◌, ◌⊎◌, ◌||◌, ◌&&◌, ◌++◌, inl, inr, List, [], ◌∷◌, Bool, true, false, cond, map, filter, filter_map, flat_map, Option, Some, None, arith, refl, sym, ap, subst, ◌∙◌}
use Rattle.std.proofs.lemmas.List.Elements.{Contains-append_cases, Contains-append_left, Contains-append_right, Contains-push, Contains-push_cases}
use Rattle.std.specs.List.{AllByRecursion, Contains, list_any, list_all, cons_option}

pub not_true : (b : Bool) → (b ≡ true → ⊥) → b ≡ false
not_true true h = absurd (h refl)
not_true false h = refl

abbrev pub In : {X : Type 0} → List X → X → Type 0
In [] x = ⊥
In (y ∷ ys) x = (y ≡ x) ⊎ In ys x

pub in_left : {X : Type 0} (xs ys : List X) (x : X) → In xs x → In (xs ++ ys) x
in_left [] ys x i = absurd i
in_left (z ∷ xs) ys x (inl is) = inl is
in_left (z ∷ xs) ys x (inr i) = inr (in_left xs ys x i)

pub in_right : {X : Type 0} (xs ys : List X) (x : X) → In ys x → In (xs ++ ys) x
in_right [] ys x i = i
in_right (z ∷ xs) ys x i = inr (in_right xs ys x i)

pub in_either : {X : Type 0} (xs ys : List X) (x : X) → In (xs ++ ys) x → In xs x ⊎ In ys x
in_either [] ys x i = inr i
in_either (z ∷ xs) ys x (inl is) = inl (inl is)
in_either {X} (z ∷ xs) ys x (inr i) = by (in_either xs ys x i)
  where
    by : In xs x ⊎ In ys x → ((z ≡ x) ⊎ In xs x) ⊎ In ys x
    by (inl i) = inl (inr i)
    by (inr i) = inr i

pub in_map : {X Y : Type 0} (f : X → Y) (xs : List X) (x : X) → In xs x → In (map f xs) (f x)
in_map f [] x i = absurd i
in_map f (y ∷ xs) x (inl is) = inl (ap f is)
in_map f (y ∷ xs) x (inr i) = inr (in_map f xs x i)

pub in_filter : {X : Type 0} (p : X → Bool) (xs : List X) (x : X) → p x ≡ true → In xs x → In (filter p xs) x
in_filter p [] x holds i = absurd i
in_filter p (y ∷ xs) x holds (inl is) = subst (λ b. In (cond b (y ∷ filter p xs) (filter p xs)) x) (sym holds ∙ ap p (sym is)) (inl is)
in_filter p (y ∷ xs) x holds (inr i) = by (p y) (in_filter p xs x holds i)
  where
    by : (b : Bool) → In (filter p xs) x → In (cond b (y ∷ filter p xs) (filter p xs)) x
    by true rest = inr rest
    by false rest = rest

-- what is left passes, and was there
pub was_in : {X : Type 0} (p : X → Bool) (xs : List X) (x : X) → In (filter p xs) x → In xs x × (p x ≡ true)
was_in p [] x i = absurd i
was_in p (y ∷ xs) x i = by (p y) refl (was_in p xs x) i
  where
    later : In xs x × (p x ≡ true) → In (y ∷ xs) x × (p x ≡ true)
    later w = (inr w.0, w.1)

    first : p y ≡ true → (In (filter p xs) x → In xs x × (p x ≡ true)) → (y ≡ x) ⊎ In (filter p xs) x → In (y ∷ xs) x × (p x ≡ true)
    first e rest (inl is) = (inl is, ap p (sym is) ∙ e)
    first e rest (inr i) = later (rest i)

    by : (b : Bool) → p y ≡ b → (In (filter p xs) x → In xs x × (p x ≡ true)) → In (cond b (y ∷ filter p xs) (filter p xs)) x → In (y ∷ xs) x × (p x ≡ true)
    by true e rest i = first e rest i
    by false e rest i = later (rest i)

pub in_filter_map : {X Y : Type 0} (f : X → Option Y) (xs : List X) (x : X) (y : Y) → f x ≡ Some y → In xs x → In (filter_map f xs) y
in_filter_map f [] x y is i = absurd i
in_filter_map f (z ∷ xs) x y is (inl e) = subst (λ o. In (cons_option o (filter_map f xs)) y) (sym is ∙ ap f (sym e)) (inl refl)
in_filter_map {X} {Y} f (z ∷ xs) x y is (inr i) = by (f z) (in_filter_map f xs x y is i)
  where
    by : (o : Option Y) → In (filter_map f xs) y → In (cons_option o (filter_map f xs)) y
    by None rest = rest
    by (Some w) rest = inr rest

pub in_flat_map : {X Y : Type 0} (f : X → List Y) (xs : List X) (x : X) (y : Y) → In xs x → In (f x) y → In (flat_map f xs) y
in_flat_map f [] x y i j = absurd i
in_flat_map f (z ∷ xs) x y (inl is) j = in_left (f z) (flat_map f xs) y (subst (λ w. In (f w) y) (sym is) j)
in_flat_map f (z ∷ xs) x y (inr i) j = in_right (f z) (flat_map f xs) y (in_flat_map f xs x y i j)

pub contained : {X : Type 0} (xs : List X) (x : X) → In xs x → Contains xs x
contained [] x i = absurd i
contained (y ∷ xs) x (inl is) = subst (Contains (y ∷ xs)) is (Contains-append_left (y ∷ []) xs y (Contains-push [] y))
contained (y ∷ xs) x (inr i) = Contains-append_right (y ∷ []) xs x (contained xs x i)

none_there : {X : Type 0} (x : X) → Contains [] x → ⊥
none_there x c = omega (arith, c.1)

the_one : {X : Type 0} (y x : X) → Contains (y ∷ []) x → y ≡ x
the_one y x c = by (Contains-push_cases [] y x c)
  where
    by : Contains [] x ⊎ (y ≡ x) → y ≡ x
    by (inl none) = absurd (none_there x none)
    by (inr is) = is

pub in_list : {X : Type 0} (xs : List X) (x : X) → Contains xs x → In xs x
in_list [] x c = none_there x c
in_list (y ∷ xs) x c = by (in_list xs x) (Contains-append_cases (y ∷ []) xs x c)
  where
    by : (Contains xs x → In xs x) → Contains (y ∷ []) x ⊎ Contains xs x → (y ≡ x) ⊎ In xs x
    by rest (inl first) = inl (the_one y x first)
    by rest (inr later) = inr (rest later)

-- ---- tests

pub all_in : {X : Type 0} (P : X → Type 0) (xs : List X) (x : X) → AllByRecursion P xs → In xs x → P x
all_in P [] x a i = absurd i
all_in P (y ∷ xs) x a (inl is) = subst P is a.0
all_in P (y ∷ xs) x a (inr i) = all_in P xs x a.1 i

pub each_in : {X : Type 0} (P : X → Type 0) (xs : List X) → ((x : X) → In xs x → P x) → AllByRecursion P xs
each_in P [] h = tt
each_in P (y ∷ xs) h = (h y (inl refl), each_in P xs (λ x i. h x (inr i)))

pub any_in : {X : Type 0} (t : X → Bool) (xs : List X) → list_any t xs ≡ true → (x : X) × In xs x × (t x ≡ true)
any_in t [] h = cc
any_in {X} t (y ∷ xs) h = by (t y) refl (any_in t xs) h
  where
    later : ((x : X) × In xs x × (t x ≡ true)) → (x : X) × In (y ∷ xs) x × (t x ≡ true)
    later w = (w.0, inr w.1, w.2)

    by : (b : Bool) → t y ≡ b → (list_any t xs ≡ true → (x : X) × In xs x × (t x ≡ true)) → (b || list_any t xs) ≡ true → (x : X) × In (y ∷ xs) x × (t x ≡ true)
    by true e rest h = (y, inl refl, e)
    by false e rest h = later (rest h)

pub in_any : {X : Type 0} (t : X → Bool) (xs : List X) (x : X) → In xs x → t x ≡ true → list_any t xs ≡ true
in_any t [] x i is = absurd i
in_any t (y ∷ xs) x (inl e) is = ap (λ b. b || list_any t xs) (ap t e ∙ is)
in_any t (y ∷ xs) x (inr i) is = by (t y) (in_any t xs x i is)
  where
    by : (b : Bool) → list_any t xs ≡ true → (b || list_any t xs) ≡ true
    by true rest = refl
    by false rest = rest

pub every_in : {X : Type 0} (t : X → Bool) (xs : List X) (x : X) → list_all t xs ≡ true → In xs x → t x ≡ true
every_in t [] x h i = absurd i
every_in t (y ∷ xs) x h i = by (t y) refl (every_in t xs x) h i
  where
    by : (b : Bool) → t y ≡ b → (list_all t xs ≡ true → In xs x → t x ≡ true) → (b && list_all t xs) ≡ true → (y ≡ x) ⊎ In xs x → t x ≡ true
    by true e rest h (inl is) = ap t (sym is) ∙ e
    by true e rest h (inr i) = rest h i
    by false e rest h i = cc

pub in_every : {X : Type 0} (t : X → Bool) (xs : List X) → ((x : X) → In xs x → t x ≡ true) → list_all t xs ≡ true
in_every t [] h = refl
in_every t (y ∷ xs) h = ap (λ b. b && list_all t xs) (h y (inl refl)) ∙ in_every t xs (λ x i. h x (inr i))
