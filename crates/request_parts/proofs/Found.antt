-- The table's rows, and the forms that it finds.
use Rattle.std.proofs.Common.{◌≡◌, ◌≢◌, ℕ, ◌+◌, ◌<◌, List, [], ◌∷◌, ◌++◌, Option, Some, None, option_and_then, MatchOption, Bool, true, false, cond, codes, refl, sym, ap, ◌∙◌, arith, subst, ◌&&◌, not, ◌==◌, nat_lt, if◌then◌else◌, true≢false}
use Rattle.std.proofs.lemmas.Bool.Decides.{nat_tests}
use Rattle.std.specs.List.{list_all}
use Rattle.std.specs.Option.{option_map_or}
use Rattle.matchit.proofs.OnLiterals.{matchit_on_literals}
use Rattle.matchit.specs.Router.{RouteOf}
use Rattle.matchit.specs.Seek.{same_text, or_else}
use Rattle.request_parts.specs.Parts.{Part, word, any, tokens, rows, found, after_word, after_any}
use Rattle.request_parts.specs.Table.{table, route_text}
use Rattle.spec_api.proofs.Truths.{both_true}
use Rattle.spec_api.specs.Targets.{after_words, is_filled}
use Rattle.spec_api.proofs.PathForms.{Form, all_form, namespace_form, object_form, status_form, below, form_of, by_prefix}
use Rattle.spec_api.specs.declared.kinds.Group.{Group}
use Rattle.spec_api.specs.declared.kinds.Group.TheVariants.{Core, Apps}
use Rattle.request_parts.specs.declared.entries.Layout.{Layout}
use Rattle.request_parts.specs.declared.entries.Layout.TheVariants.{All, Namespace, Object, Status}
use Rattle.request_parts.specs.declared.entries.RouteEntry.{RouteEntry}
use Rattle.request_parts.proofs.Plain.{Plain}
use Rattle.request_parts.proofs.Seeks.{IsRoute, AreRoutes, found-none, after_word-empty, AreRoutes-word, AreRoutes-any}
use Rattle.request_parts.proofs.Forms.{IsFilled, filled-tail, filled-rest, same, goes_on, Goes, under, unders, after-under, or-none, on_rest, found-words, after-word, worded, any-step}
use Rattle.request_parts.proofs.Walks.{Fits, taken}

abbrev pub prefix : Group → List Part
prefix Core = word (codes "api") ∷ word (codes "v1") ∷ []
prefix Apps = word (codes "apis") ∷ word (codes "apps") ∷ word (codes "v1") ∷ []

abbrev pub layout_parts : Layout → List Part
layout_parts All = any ∷ []
layout_parts Namespace = word (codes "namespaces") ∷ any ∷ any ∷ []
layout_parts Object = word (codes "namespaces") ∷ any ∷ any ∷ any ∷ []
layout_parts Status = word (codes "namespaces") ∷ any ∷ any ∷ any ∷ word (codes "status") ∷ []

abbrev pub names_from : ℕ → Layout → List (ℕ × ℕ)
names_from n All = (n + 1, n + 9) ∷ []
names_from n Namespace = (n + 12, n + 21) ∷ (n + 24, n + 32) ∷ []
names_from n Object = (n + 12, n + 21) ∷ (n + 24, n + 32) ∷ (n + 35, n + 39) ∷ []
names_from n Status = (n + 12, n + 21) ∷ (n + 24, n + 32) ∷ (n + 35, n + 39) ∷ []

abbrev pub route_names : Group → Layout → List (ℕ × ℕ)
route_names Core f = names_from 8 f
route_names Apps f = names_from 14 f

abbrev pub row : Group → Layout → RouteOf RouteEntry
row g f = record { pattern = tokens (prefix g ++ layout_parts f); text = route_text g f; names = route_names g f; value = record { group = g; layout = f } }

-- the routes below a prefix
abbrev pub forms : Group → List (List Part × RouteOf RouteEntry)
forms g = (layout_parts Status, row g Status) ∷ (layout_parts Object, row g Object) ∷ (layout_parts Namespace, row g Namespace) ∷ (layout_parts All, row g All) ∷ []

abbrev pub routes : List (List Part × RouteOf RouteEntry)
routes = under (codes "api") (unders (codes "v1" ∷ []) (forms Core)) ++ under (codes "apis") (unders (codes "apps" ∷ codes "v1" ∷ []) (forms Apps))

pub table-rows : table ≡ rows routes
unfolding matchit_on_literals
table-rows = refl

abbrev pub group_of : Form → Group
group_of (all_form g p) = g
group_of (namespace_form g n p) = g
group_of (object_form g n p o) = g
group_of (status_form g n p o) = g

abbrev pub layout_of : Form → Layout
layout_of (all_form g p) = All
layout_of (namespace_form g n p) = Namespace
layout_of (object_form g n p o) = Object
layout_of (status_form g n p o) = Status

abbrev pub row_of : Option Form → Option (RouteOf RouteEntry)
row_of None = None
row_of (Some x) = Some (row (group_of x) (layout_of x))

-- ---- below a prefix

abbrev tails : Group → List (List Part × RouteOf RouteEntry)
tails g = (any ∷ any ∷ any ∷ word (codes "status") ∷ [], row g Status) ∷ (any ∷ any ∷ any ∷ [], row g Object) ∷ (any ∷ any ∷ [], row g Namespace) ∷ []

abbrev lasts : Group → List (List Part × RouteOf RouteEntry)
lasts g = (word (codes "status") ∷ [], row g Status) ∷ ([], row g Object) ∷ []

head : (g : Group) (b : ℕ) (s : List ℕ) (ss : List (List ℕ)) → found (forms g) ((b ∷ s) ∷ ss) ≡ or_else (found (cond (same_text (codes "namespaces") (b ∷ s)) (tails g) []) ss) (found (([], row g All) ∷ []) ss)
head g b s ss =
    ap (λ z. or_else (found z ss) (found (([], row g All) ∷ []) ss))
    (after-under (codes "namespaces") (b ∷ s) (tails g) ((layout_parts All, row g All) ∷ []))

-- with more after the first segment
more : (g : Group) (b : ℕ) (s : List ℕ) (c : ℕ) (t : List ℕ) (ss : List (List ℕ)) → found (forms g) ((b ∷ s) ∷ (c ∷ t) ∷ ss) ≡ cond (same_text (codes "namespaces") (b ∷ s)) (found (tails g) ((c ∷ t) ∷ ss)) None
more g b s c t ss =
    head g b s ((c ∷ t) ∷ ss)
    ∙ ap (λ z. or_else (found (cond (same_text (codes "namespaces") (b ∷ s)) (tails g) []) ((c ∷ t) ∷ ss)) z) (any-step c t ss (([], row g All) ∷ []) refl ∙ found-none ss)
    ∙ or-none (found (cond (same_text (codes "namespaces") (b ∷ s)) (tails g) []) ((c ∷ t) ∷ ss))
    ∙ by (same_text (codes "namespaces") (b ∷ s))
  where
    by : (v : Bool) → found (cond v (tails g) []) ((c ∷ t) ∷ ss) ≡ cond v (found (tails g) ((c ∷ t) ∷ ss)) None
    by true = refl
    by false = found-none ((c ∷ t) ∷ ss)

when : (v : Bool) (x : Form) (o : Option (RouteOf RouteEntry)) → o ≡ row_of (Some x) → cond v o None ≡ row_of (if v then Some x else None)
when true x o e = e
when false x o e = refl

never : (v : Bool) (o : Option (RouteOf RouteEntry)) → o ≡ None → cond v o None ≡ None
never true o e = e
never false o e = refl

after_last : (g : Group) (f : ℕ) (w : List ℕ) (ss : List (List ℕ)) → found (lasts g) ((f ∷ w) ∷ ss) ≡ found (cond (same_text (codes "status") (f ∷ w)) (([], row g Status) ∷ []) []) ss
after_last g f w ss =
    ap (λ z. or_else (found (cond (same_text (codes "status") (f ∷ w)) (([], row g Status) ∷ []) []) ss) z) (found-none ss)
    ∙ or-none (found (cond (same_text (codes "status") (f ∷ w)) (([], row g Status) ∷ []) []) ss)

to_last : (g : Group) (c : ℕ) (t : List ℕ) (d : ℕ) (u : List ℕ) (e : ℕ) (v : List ℕ) (ss : List (List ℕ)) → found (tails g) ((c ∷ t) ∷ (d ∷ u) ∷ (e ∷ v) ∷ ss) ≡ found (lasts g) ss
to_last g c t d u e v ss =
    any-step c t ((d ∷ u) ∷ (e ∷ v) ∷ ss) (tails g) refl
    ∙ any-step d u ((e ∷ v) ∷ ss) (after_any (tails g)) refl
    ∙ any-step e v ss (after_any (after_any (tails g))) refl

below-found : (g : Group) (ss : List (List ℕ)) → IsFilled ss → found (forms g) ss ≡ row_of (below g ss)
below-found g [] h = refl
below-found g ([] ∷ ss) h = cc
below-found g ((b ∷ s) ∷ []) h = head g b s [] ∙ by (same_text (codes "namespaces") (b ∷ s))
  where
    by : (v : Bool) → or_else (found (cond v (tails g) []) []) (Some (row g All)) ≡ Some (row g All)
    by true = refl
    by false = refl
below-found g ((b ∷ s) ∷ [] ∷ ss) h = absurd (true≢false (sym (filled-tail (b ∷ s) ([] ∷ ss) h)))
below-found g ((b ∷ s) ∷ (c ∷ t) ∷ []) h =
    more g b s c t [] ∙ never (same_text (codes "namespaces") (b ∷ s)) (found (tails g) ((c ∷ t) ∷ [])) (any-step c t [] (tails g) refl)
below-found g ((b ∷ s) ∷ (c ∷ t) ∷ [] ∷ ss) h = absurd (true≢false (sym (filled-tail (c ∷ t) ([] ∷ ss) (filled-tail (b ∷ s) ((c ∷ t) ∷ [] ∷ ss) h))))
below-found g ((b ∷ s) ∷ (c ∷ t) ∷ (d ∷ u) ∷ []) h =
    more g b s c t ((d ∷ u) ∷ [])
    ∙ when (same_text (codes "namespaces") (b ∷ s)) (namespace_form g (c ∷ t) (d ∷ u)) (found (tails g) ((c ∷ t) ∷ (d ∷ u) ∷ []))
    (any-step c t ((d ∷ u) ∷ []) (tails g) refl ∙ any-step d u [] (after_any (tails g)) refl)
below-found g ((b ∷ s) ∷ (c ∷ t) ∷ (d ∷ u) ∷ [] ∷ ss) h = absurd (true≢false (sym (filled-tail (d ∷ u) ([] ∷ ss) (filled-tail (c ∷ t) ((d ∷ u) ∷ [] ∷ ss) (filled-tail (b ∷ s) ((c ∷ t) ∷ (d ∷ u) ∷ [] ∷ ss) h)))))
below-found g ((b ∷ s) ∷ (c ∷ t) ∷ (d ∷ u) ∷ (e ∷ v) ∷ []) h =
    more g b s c t ((d ∷ u) ∷ (e ∷ v) ∷ [])
    ∙ when (same_text (codes "namespaces") (b ∷ s)) (object_form g (c ∷ t) (d ∷ u) (e ∷ v)) (found (tails g) ((c ∷ t) ∷ (d ∷ u) ∷ (e ∷ v) ∷ []))
    (to_last g c t d u e v [])
below-found g ((b ∷ s) ∷ (c ∷ t) ∷ (d ∷ u) ∷ (e ∷ v) ∷ [] ∷ ss) h = absurd (true≢false (sym (filled-tail (e ∷ v) ([] ∷ ss) (filled-tail (d ∷ u) ((e ∷ v) ∷ [] ∷ ss) (filled-tail (c ∷ t) ((d ∷ u) ∷ (e ∷ v) ∷ [] ∷ ss) (filled-tail (b ∷ s) ((c ∷ t) ∷ (d ∷ u) ∷ (e ∷ v) ∷ [] ∷ ss) h))))))
below-found g ((b ∷ s) ∷ (c ∷ t) ∷ (d ∷ u) ∷ (e ∷ v) ∷ (f ∷ w) ∷ []) h =
    more g b s c t ((d ∷ u) ∷ (e ∷ v) ∷ (f ∷ w) ∷ [])
    ∙ ap (λ z. cond (same_text (codes "namespaces") (b ∷ s)) z None) (to_last g c t d u e v ((f ∷ w) ∷ []) ∙ after_last g f w [])
    ∙ by (same_text (codes "namespaces") (b ∷ s)) (same_text (codes "status") (f ∷ w))
  where
    by : (x y : Bool) → cond x (found (cond y (([], row g Status) ∷ []) []) []) None ≡ row_of (if x && y then Some (status_form g (c ∷ t) (d ∷ u) (e ∷ v)) else None)
    by true true = refl
    by true false = refl
    by false y = refl
below-found g ((b ∷ s) ∷ (c ∷ t) ∷ (d ∷ u) ∷ (e ∷ v) ∷ (f ∷ w) ∷ [] ∷ ss) h = absurd (true≢false (sym (filled-tail (f ∷ w) ([] ∷ ss) (filled-tail (e ∷ v) ((f ∷ w) ∷ [] ∷ ss) (filled-tail (d ∷ u) ((e ∷ v) ∷ (f ∷ w) ∷ [] ∷ ss) (filled-tail (c ∷ t) ((d ∷ u) ∷ (e ∷ v) ∷ (f ∷ w) ∷ [] ∷ ss) (filled-tail (b ∷ s) ((c ∷ t) ∷ (d ∷ u) ∷ (e ∷ v) ∷ (f ∷ w) ∷ [] ∷ ss) h)))))))
below-found g ((b ∷ s) ∷ (c ∷ t) ∷ (d ∷ u) ∷ (e ∷ v) ∷ (f ∷ w) ∷ (j ∷ x) ∷ ss) h =
    more g b s c t ((d ∷ u) ∷ (e ∷ v) ∷ (f ∷ w) ∷ (j ∷ x) ∷ ss)
    ∙ never (same_text (codes "namespaces") (b ∷ s)) (found (tails g) ((c ∷ t) ∷ (d ∷ u) ∷ (e ∷ v) ∷ (f ∷ w) ∷ (j ∷ x) ∷ ss))
    (to_last g c t d u e v ((f ∷ w) ∷ (j ∷ x) ∷ ss) ∙ after_last g f w ((j ∷ x) ∷ ss) ∙ by (same_text (codes "status") (f ∷ w)))
  where
    by : (y : Bool) → found (cond y (([], row g Status) ∷ []) []) ((j ∷ x) ∷ ss) ≡ None
    by true = any-step j x ss (([], row g Status) ∷ []) refl ∙ found-none ss
    by false = found-none ((j ∷ x) ∷ ss)

-- ---- the whole table

found-api : (ss : List (List ℕ)) → IsFilled ss → found routes (codes "api" ∷ ss) ≡ row_of (by_prefix (codes "api" ∷ ss))
found-api ss h =
    ap (λ z. or_else (found (unders (codes "v1" ∷ []) (forms Core)) ss) z) (found-none ss)
    ∙ or-none (found (unders (codes "v1" ∷ []) (forms Core)) ss)
    ∙ found-words (codes "v1" ∷ []) (forms Core) ss h
    ∙ by (after_words (codes "v1" ∷ []) ss) (filled-rest (codes "v1" ∷ []) ss h)
  where
    by : (o : Option (List (List ℕ))) → MatchOption o (Unit {0}) IsFilled → on_rest (forms Core) o ≡ row_of (option_map_or (below Core) o (option_and_then (below Apps) (after_words (codes "apis" ∷ codes "apps" ∷ codes "v1" ∷ []) (codes "api" ∷ ss))))
    by None g = refl
    by (Some r) g = below-found Core r g

found-apis : (ss : List (List ℕ)) → IsFilled ss → found routes (codes "apis" ∷ ss) ≡ row_of (by_prefix (codes "apis" ∷ ss))
found-apis ss h =
    ap (λ z. or_else (found (unders (codes "apps" ∷ codes "v1" ∷ []) (forms Apps)) ss) z) (found-none ss)
    ∙ or-none (found (unders (codes "apps" ∷ codes "v1" ∷ []) (forms Apps)) ss)
    ∙ found-words (codes "apps" ∷ codes "v1" ∷ []) (forms Apps) ss h
    ∙ by (after_words (codes "apps" ∷ codes "v1" ∷ []) ss) (filled-rest (codes "apps" ∷ codes "v1" ∷ []) ss h)
  where
    by : (o : Option (List (List ℕ))) → MatchOption o (Unit {0}) IsFilled → on_rest (forms Apps) o ≡ row_of (option_and_then (below Apps) o)
    by None g = refl
    by (Some r) g = below-found Apps r g

abbrev core_rows : List (List Part × RouteOf RouteEntry)
core_rows = unders (codes "v1" ∷ []) (forms Core)

abbrev apps_rows : List (List Part × RouteOf RouteEntry)
apps_rows = unders (codes "apps" ∷ codes "v1" ∷ []) (forms Apps)

found-other : (b : ℕ) (s : List ℕ) (ss : List (List ℕ)) → same_text (codes "api") (b ∷ s) ≡ false → same_text (codes "apis") (b ∷ s) ≡ false
    → found routes ((b ∷ s) ∷ ss) ≡ row_of (by_prefix ((b ∷ s) ∷ ss))
found-other b s ss e f =
    let w : after_word (b ∷ s) routes ≡ [] =
    after-under (codes "api") (b ∷ s) core_rows (under (codes "apis") apps_rows)
    ∙ ap (λ v. cond v (core_rows ++ after_word (b ∷ s) (under (codes "apis") apps_rows)) (after_word (b ∷ s) (under (codes "apis") apps_rows))) e
    ∙ after-word (codes "apis") (b ∷ s) apps_rows ∙ ap (λ v. cond v apps_rows []) f in
    any-step b s ss routes w ∙ found-none ss
    ∙ sym (ap (λ v. row_of (option_map_or (below Core) (cond v (after_words (codes "v1" ∷ []) ss) None) (option_and_then (below Apps) (after_words (codes "apis" ∷ codes "apps" ∷ codes "v1" ∷ []) ((b ∷ s) ∷ ss))))) e
    ∙ ap (λ v. row_of (option_and_then (below Apps) (cond v (after_words (codes "apps" ∷ codes "v1" ∷ []) ss) None))) f)

found-routes : (ss : List (List ℕ)) → IsFilled ss → found routes ss ≡ row_of (by_prefix ss)
found-routes [] h = refl
found-routes ([] ∷ ss) h = cc
found-routes ((b ∷ s) ∷ ss) h = by (same_text (codes "api") (b ∷ s)) (same_text (codes "apis") (b ∷ s)) refl refl
  where
    by : (x y : Bool) → same_text (codes "api") (b ∷ s) ≡ x → same_text (codes "apis") (b ∷ s) ≡ y → found routes ((b ∷ s) ∷ ss) ≡ row_of (by_prefix ((b ∷ s) ∷ ss))
    by true y e f =
        let P : List ℕ → Type 0 = λ z. found routes (z ∷ ss) ≡ row_of (by_prefix (z ∷ ss)) in
        subst P (same (codes "api") (b ∷ s) e) (found-api ss (filled-tail (b ∷ s) ss h))
    by false true e f =
        let P : List ℕ → Type 0 = λ z. found routes (z ∷ ss) ≡ row_of (by_prefix (z ∷ ss)) in
        subst P (same (codes "apis") (b ∷ s) f) (found-apis ss (filled-tail (b ∷ s) ss h))
    by false false e f = found-other b s ss e f

-- where a segment is empty, nothing is found
found-empty : {K : Type 0} (ss : List (List ℕ)) (t : List (List Part × K)) → AreRoutes t → list_all is_filled ss ≡ false → found t ss ≡ None
found-empty [] t g e = cc
found-empty ([] ∷ ss) t g e = ap (λ z. found z ss) (after_word-empty t g) ∙ found-none ss
found-empty ((b ∷ s) ∷ ss) t g e =
    let long : is_filled (b ∷ s) ≡ true = grind (arith, nat_tests) in
    let f : list_all is_filled ss ≡ false = ap (λ v. v && list_all is_filled ss) (sym long) ∙ e in
    (λ i. or_else (found-empty ss (after_word (b ∷ s) t) (AreRoutes-word (b ∷ s) t g) f i) (found-empty ss (after_any t) (AreRoutes-any t g) f i))

abbrev is_plain : ℕ → Bool
is_plain x = nat_lt x 256 && not (x == 47)

plain-by : (w : List ℕ) → list_all is_plain w ≡ true → Plain w
plain-by [] h = tt
plain-by (x ∷ w) h =
    let a = both_true (is_plain x) (list_all is_plain w) h in
    let b = both_true (nat_lt x 256) (not (x == 47)) a.0 in
    let l : nat_lt x 256 ≡ true = b.0 in
    let n : not (x == 47) ≡ true = b.1 in
    let small : x < 256 = grind (arith, nat_tests) in
    let other : x ≢ 47 = λ e. absurd (true≢false (sym n ∙ ap (λ z. not (z == 47)) e)) in
    (small, other, plain-by w a.1)

abbrev is_route : List Part → Bool
is_route [] = true
is_route (word w ∷ ps) = is_filled w && list_all is_plain w && is_route ps
is_route (any ∷ ps) = is_route ps

pub route-by : (ps : List Part) → is_route ps ≡ true → IsRoute ps
route-by [] h = tt
route-by (word [] ∷ ps) h = cc
route-by (word (x ∷ w) ∷ ps) h =
    let a = both_true (is_filled (x ∷ w) && list_all is_plain (x ∷ w)) (is_route ps) h in
    let b = both_true (is_filled (x ∷ w)) (list_all is_plain (x ∷ w)) a.0 in
    (plain-by (x ∷ w) b.1, route-by ps a.1)
route-by (any ∷ ps) h = route-by ps h

abbrev are_routes : {K : Type 0} → List (List Part × K) → Bool
are_routes [] = true
are_routes ((ps, k) ∷ t) = is_route ps && are_routes t

routes-by : {K : Type 0} (t : List (List Part × K)) → are_routes t ≡ true → AreRoutes t
routes-by [] h = tt
routes-by ((ps, k) ∷ t) h =
    let a = both_true (is_route ps) (are_routes t) h in
    (route-by ps a.0, routes-by t a.1)

pub routes-are : AreRoutes routes
routes-are = routes-by routes refl

pub found-form : (ss : List (List ℕ)) → found routes ss ≡ row_of (form_of ([] ∷ ss))
found-form ss = by (list_all is_filled ss) refl
  where
    by : (v : Bool) → list_all is_filled ss ≡ v → found routes ss ≡ row_of (cond v (by_prefix ss) None)
    by true e = found-routes ss e
    by false e = found-empty ss routes routes-are e

-- ---- what the parameters are

-- the parameters of a path of this form
abbrev pub params_of : Form → List (List ℕ × List ℕ)
params_of (all_form g p) = (codes "resource", p) ∷ []
params_of (namespace_form g n p) = (codes "namespace", n) ∷ (codes "resource", p) ∷ []
params_of (object_form g n p o) = (codes "namespace", n) ∷ (codes "resource", p) ∷ (codes "name", o) ∷ []
params_of (status_form g n p o) = (codes "namespace", n) ∷ (codes "resource", p) ∷ (codes "name", o) ∷ []

-- the rest of a path below its prefix fits the form, and fills the parameters
abbrev pub Told : Group → List (List ℕ) → Form → Type 0
Told g r x =
    (group_of x ≡ g) × Fits (layout_parts (layout_of x)) r (route_names g (layout_of x))
    × (taken (route_text g (layout_of x)) (layout_parts (layout_of x)) r (route_names g (layout_of x)) ≡ params_of x)

told-if : (g : Group) (r : List (List ℕ)) (v : Bool) (x : Form) → (v ≡ true → Told g r x) → MatchOption (if v then Some x else None) (Unit {0}) (Told g r)
told-if g r true x f = f refl
told-if g r false x f = tt

word-of : (w s : List ℕ) → same_text w s ≡ true → w ≡ s
word-of w s h = same w s h

below-told-core : (r : List (List ℕ)) → MatchOption (below Core r) (Unit {0}) (Told Core r)
below-told-core [] = tt
below-told-core (p ∷ []) = (refl, tt, refl)
below-told-core (w ∷ n ∷ []) = tt
below-told-core (w ∷ n ∷ p ∷ []) =
    told-if Core (w ∷ n ∷ p ∷ []) (same_text (codes "namespaces") w) (namespace_form Core n p) (λ e. (refl, (same (codes "namespaces") w e, tt), refl))
below-told-core (w ∷ n ∷ p ∷ o ∷ []) =
    told-if Core (w ∷ n ∷ p ∷ o ∷ []) (same_text (codes "namespaces") w) (object_form Core n p o) (λ e. (refl, (same (codes "namespaces") w e, tt), refl))
below-told-core (w ∷ n ∷ p ∷ o ∷ l ∷ []) =
    told-if Core (w ∷ n ∷ p ∷ o ∷ l ∷ []) (same_text (codes "namespaces") w && same_text (codes "status") l) (status_form Core n p o)
    (λ e. let b = both_true (same_text (codes "namespaces") w) (same_text (codes "status") l) e in (refl, (same (codes "namespaces") w b.0, (same (codes "status") l b.1, tt)), refl))
below-told-core (w ∷ n ∷ p ∷ o ∷ l ∷ m ∷ r) = tt

below-told-apps : (r : List (List ℕ)) → MatchOption (below Apps r) (Unit {0}) (Told Apps r)
below-told-apps [] = tt
below-told-apps (p ∷ []) = (refl, tt, refl)
below-told-apps (w ∷ n ∷ []) = tt
below-told-apps (w ∷ n ∷ p ∷ []) =
    told-if Apps (w ∷ n ∷ p ∷ []) (same_text (codes "namespaces") w) (namespace_form Apps n p) (λ e. (refl, (same (codes "namespaces") w e, tt), refl))
below-told-apps (w ∷ n ∷ p ∷ o ∷ []) =
    told-if Apps (w ∷ n ∷ p ∷ o ∷ []) (same_text (codes "namespaces") w) (object_form Apps n p o) (λ e. (refl, (same (codes "namespaces") w e, tt), refl))
below-told-apps (w ∷ n ∷ p ∷ o ∷ l ∷ []) =
    told-if Apps (w ∷ n ∷ p ∷ o ∷ l ∷ []) (same_text (codes "namespaces") w && same_text (codes "status") l) (status_form Apps n p o)
    (λ e. let b = both_true (same_text (codes "namespaces") w) (same_text (codes "status") l) e in (refl, (same (codes "namespaces") w b.0, (same (codes "status") l b.1, tt)), refl))
below-told-apps (w ∷ n ∷ p ∷ o ∷ l ∷ m ∷ r) = tt

-- the whole path fits the route, and its parameters are those of its form
abbrev pub Fitting : List (List ℕ) → Form → Type 0
Fitting ss x =
    Fits (prefix (group_of x) ++ layout_parts (layout_of x)) ss (route_names (group_of x) (layout_of x))
    × (taken (route_text (group_of x) (layout_of x)) (prefix (group_of x) ++ layout_parts (layout_of x)) ss (route_names (group_of x) (layout_of x)) ≡ params_of x)

fit : (g : Group) (ws : List (List ℕ)) → ((ps : List Part) → prefix g ++ ps ≡ worded ws ps) → (ss r : List (List ℕ)) (x : Form)
    → ((ps : List Part) (ns : List (ℕ × ℕ)) (text : List ℕ) → Goes ws ps ss ns text r) → Told g r x → Fitting ss x
fit g ws e ss r x go told =
    let f = layout_of x in
    let there = go (layout_parts f) (route_names g f) (route_text g f) told.1 in
    let P : Group → Type 0 = λ h. Fits (prefix h ++ layout_parts f) ss (route_names h f) × (taken (route_text h f) (prefix h ++ layout_parts f) ss (route_names h f) ≡ params_of x) in
    let Q : List Part → Type 0 = λ z. Fits z ss (route_names g f) × (taken (route_text g f) z ss (route_names g f) ≡ params_of x) in
    subst P (sym told.0) (subst Q (sym (e (layout_parts f))) (there.0, there.1 ∙ told.2))

goes-at : (ws ss r : List (List ℕ)) → after_words ws ss ≡ Some r → (ps : List Part) (ns : List (ℕ × ℕ)) (text : List ℕ) → Goes ws ps ss ns text r
goes-at ws ss r e ps ns text =
    let P : Option (List (List ℕ)) → Type 0 = λ o. MatchOption o (Unit {0}) (Goes ws ps ss ns text) in
    subst P e (goes_on ws ps ss ns text)

told-weaker : (ss : List (List ℕ)) (g : Group) (r : List (List ℕ)) (o : Option Form) → ((x : Form) → Told g r x → Fitting ss x)
    → MatchOption o (Unit {0}) (Told g r) → MatchOption o (Unit {0}) (Fitting ss)
told-weaker ss g r None f h = tt
told-weaker ss g r (Some x) f h = f x h

prefix-fits : (ss : List (List ℕ)) → MatchOption (by_prefix ss) (Unit {0}) (Fitting ss)
prefix-fits ss = core (after_words (codes "api" ∷ codes "v1" ∷ []) ss) refl
  where
    apps : (o : Option (List (List ℕ))) → after_words (codes "apis" ∷ codes "apps" ∷ codes "v1" ∷ []) ss ≡ o → MatchOption (option_and_then (below Apps) o) (Unit {0}) (Fitting ss)
    apps None e = tt
    apps (Some r) e =
        told-weaker ss Apps r (below Apps r) (λ x t. fit Apps (codes "apis" ∷ codes "apps" ∷ codes "v1" ∷ []) (λ ps. refl) ss r x (goes-at (codes "apis" ∷ codes "apps" ∷ codes "v1" ∷ []) ss r e) t) (below-told-apps r)

    core : (o : Option (List (List ℕ))) → after_words (codes "api" ∷ codes "v1" ∷ []) ss ≡ o → MatchOption (option_map_or (below Core) o (option_and_then (below Apps) (after_words (codes "apis" ∷ codes "apps" ∷ codes "v1" ∷ []) ss))) (Unit {0}) (Fitting ss)
    core None e = apps (after_words (codes "apis" ∷ codes "apps" ∷ codes "v1" ∷ []) ss) refl
    core (Some r) e =
        told-weaker ss Core r (below Core r) (λ x t. fit Core (codes "api" ∷ codes "v1" ∷ []) (λ ps. refl) ss r x (goes-at (codes "api" ∷ codes "v1" ∷ []) ss r e) t) (below-told-core r)

pub form-fits : (ss : List (List ℕ)) → MatchOption (form_of ([] ∷ ss)) (Unit {0}) (Fitting ss)
form-fits ss = by (list_all is_filled ss) (prefix-fits ss)
  where
    by : (v : Bool) → MatchOption (by_prefix ss) (Unit {0}) (Fitting ss) → MatchOption (cond v (by_prefix ss) None) (Unit {0}) (Fitting ss)
    by true h = h
    by false h = tt
