-- The pods that are still to be seen deleted.
use Rattle.std.proofs.Common.{◌≡◌, refl, sym, ap, subst, ◌∙◌, ℕ, ◌-◌, ◌≤◌, ◌==◌, ◌&&◌, ◌||◌, Bool, true, false, not, cond, List, [], ◌∷◌, Option, Some, None, nat_lt, arith}
use Rattle.std.proofs.lemmas.Bool.{le-ltb, ne_eqb}
use Rattle.std.proofs.lemmas.Map.Text.{is_eq-slice_cmp}
use mathlib.Core.Bool.{true≢false}
use Rattle.std.specs.Cmp.{Equal-is, tied_itself}
use Rattle.std.specs.Ordering.{nat_cmp, eq_by_cmp, is_eq}
use Rattle.std.specs.Cmp.Lexicographic.{slice_cmp, nat_list_cmp_total}
use Rattle.std.specs.List.{list_any}
use Rattle.std.specs.Str.{bytes_eq}
use Rattle.std.specs.FinMap as map
use Rattle.std.specs.FinMap.{get-insert, get-retain_keys, get_tied}
use Rattle.std.specs.FinSet as set
use Rattle.std.specs.FinSet.{contains-empty, contains-from_list, contains-remove, empty_of_len, len-empty, same_set, nat_cmp-IsAntisymmetric, slice_cmp-IsAntisymmetric}
use Rattle.spec_laws.specs.AwaitedLaws.{deletions_of, is_awaited, all_deleted, is_among, are_among, SeenIsAwaitedNoMore, StrangersChangeNothing, WaitsForEach, DeletionsOnlyFall}
use Rattle.spec_api.specs.Keys.{is_same_key}
use Rattle.spec_client_go.specs.Expectations.{Owner, owner_cmp, Expectation, Table, Uids, change, deleted, deletions_expected, is_met, satisfied}
use Rattle.spec_laws.specs.ExpectationLaws.{Change, expect_creations, expect_deletions, see_created, see_deleted, forget, after, after_all, sets, sets_none}
use Rattle.spec_client_go.proofs.Expected.{owner_total, keys_tied, get_put}
use Rattle.spec_laws.proofs.Falling.{put_same, tied, fewer_deletions}

-- ---- uids

abbrev same : List ℕ → List ℕ → Bool
same = eq_by_cmp (slice_cmp nat_cmp)

same_itself : (u : List ℕ) → same u u ≡ true
same_itself u = ap is_eq (tied_itself nat_list_cmp_total u)

same_tells : (p q : List ℕ) → same p q ≡ true → p ≡ q
same_tells p q e = slice_cmp-IsAntisymmetric nat_cmp-IsAntisymmetric p q ((Equal-is (slice_cmp nat_cmp p q)).0 e)

same_among : (u : List ℕ) (pods : List (List ℕ)) → list_any (same u) pods ≡ is_among pods u
same_among u [] = refl
same_among u (p ∷ ps) = ap (λ b. b || list_any (same u) ps) (is_eq-slice_cmp u p) ∙ ap (λ b. bytes_eq u p || b) (same_among u ps)

-- ---- one pod

not_both : (b c d : Bool) → (not c && (not b && d)) ≡ (not (b || c) && d)
not_both true true d = refl
not_both true false d = refl
not_both false c d = refl

-- whether a pod is waited for after one was seen
seen_is : (o : Owner) (pod q : List ℕ) (t : Table) → is_awaited o q (deleted o pod t) ≡ (not (same q pod) && is_awaited o q t)
seen_is o pod q t = by (map.get t o) refl
  where
    absent : (b : Bool) → false ≡ (not b && false)
    absent true = refl
    absent false = refl

    by : (x : Option Expectation) → map.get t o ≡ x
        → set.contains (deletions_of (map.get (change x (λ e. record e { deletions = set.remove e.deletions pod }) o t) o)) q ≡ (not (same q pod) && set.contains (deletions_of (map.get t o)) q)
    by None is =
        let none = ap (λ x. set.contains (deletions_of x) q) is ∙ contains-empty (slice_cmp nat_cmp) q in
        none ∙ absent (same q pod) ∙ ap (λ b. not (same q pod) && b) (sym none)
    by (Some e) is =
        ap (λ x. set.contains (deletions_of x) q) (get_put t o (record e { deletions = set.remove e.deletions pod })) ∙ contains-remove nat_list_cmp_total e.deletions pod q
        ∙ ap (λ x. not (same q pod) && set.contains (deletions_of x) q) (sym is)

pub seen_no_more : SeenIsAwaitedNoMore
seen_no_more = record {
  it_is_not = λ o pod t. seen_is o pod pod t ∙ ap (λ b. not b && is_awaited o pod t) (same_itself pod);
  others_are = λ o pod other t e. seen_is o pod other t ∙ ap (λ b. not b && is_awaited o other t) (is_eq-slice_cmp other pod ∙ e);
}

none_removed : (s : Uids) (pod : List ℕ) → set.contains s pod ≡ false → set.remove s pod ≡ s
none_removed s pod none = same_set nat_list_cmp_total (slice_cmp-IsAntisymmetric nat_cmp-IsAntisymmetric) _ _ (λ q. contains-remove nat_list_cmp_total s pod q ∙ by q (same q pod) refl)
  where
    by : (q : List ℕ) (b : Bool) → same q pod ≡ b → (not b && set.contains s q) ≡ set.contains s q
    by q true e = sym (ap (set.contains s) (same_tells q pod e) ∙ none)
    by q false e = refl

pub strangers : StrangersChangeNothing
strangers o pod t none = by (map.get t o) refl
  where
    by : (x : Option Expectation) → map.get t o ≡ x → change x (λ e. record e { deletions = set.remove e.deletions pod }) o t ≡ t
    by None is = refl
    by (Some e) is =
        let left : set.remove e.deletions pod ≡ e.deletions = none_removed e.deletions pod (ap (λ x. set.contains (deletions_of x) pod) (sym is) ∙ none) in
        ap (λ s. map.insert t o (record e { deletions = s })) left ∙ put_same t o e is

-- ---- all pods

abbrev all_removed : Uids → List (List ℕ) → Uids
all_removed s [] = s
all_removed s (p ∷ ps) = all_removed (set.remove s p) ps

contains-all_removed : (s : Uids) (pods : List (List ℕ)) (q : List ℕ) → set.contains (all_removed s pods) q ≡ (not (list_any (same q) pods) && set.contains s q)
contains-all_removed s [] q = refl
contains-all_removed s (p ∷ ps) q =
    contains-all_removed (set.remove s p) ps q ∙ ap (λ b. not (list_any (same q) ps) && b) (contains-remove nat_list_cmp_total s p q)
    ∙ not_both (same q p) (list_any (same q) ps) (set.contains s q)

get-all_deleted : (o : Owner) (pods : List (List ℕ)) (t : Table) (e : Expectation) → map.get t o ≡ Some e
    → map.get (all_deleted o pods t) o ≡ Some (record e { deletions = all_removed e.deletions pods })
get-all_deleted o [] t e is = is
get-all_deleted o (p ∷ ps) t e is =
    get-all_deleted o ps (deleted o p t) (record e { deletions = set.remove e.deletions p })
    (ap (λ x. map.get (change x (λ e. record e { deletions = set.remove e.deletions p }) o t) o) is ∙ get_put t o (record e { deletions = set.remove e.deletions p }))

abbrev left_of : List (List ℕ) → List (List ℕ) → Uids
left_of uids pods = all_removed (set.from_list uids) pods

contains-left : (uids pods : List (List ℕ)) (q : List ℕ) → set.contains (left_of uids pods) q ≡ (not (is_among pods q) && is_among uids q)
contains-left uids pods q =
    contains-all_removed (set.from_list uids) pods q ∙ ap (λ b. not b && set.contains (set.from_list {R = slice_cmp nat_cmp} uids) q) (same_among q pods)
    ∙ ap (λ b. not (is_among pods q) && b) (contains-from_list nat_list_cmp_total uids q ∙ same_among q uids)

satisfied_is : (o : Owner) (t : Table) (uids pods : List (List ℕ)) (then now : ℕ)
    → satisfied o now (all_deleted o pods (deletions_expected o uids then t)) ≡ ((set.len (left_of uids pods) == 0) || nat_lt 300000 (now - then))
satisfied_is o t uids pods then now =
    ap (is_met now)
    (get-all_deleted o pods (deletions_expected o uids then t) (record { creations = 0; deletions = set.from_list uids; since = then })
    (get_put t o (record { creations = 0; deletions = set.from_list uids; since = then })))

-- none is left of uids that are all among the pods
none_of : (uids pods : List (List ℕ)) (q : List ℕ) → are_among pods uids ≡ true → (not (is_among pods q) && is_among uids q) ≡ false
none_of [] pods q all = by (is_among pods q)
  where
    by : (b : Bool) → (not b && false) ≡ false
    by true = refl
    by false = refl
none_of (u ∷ us) pods q all = by (λ h. none_of us pods q h) (is_among pods u) (bytes_eq q u) refl refl all
  where
    gone : (b c : Bool) → b ≡ true → (not b && c) ≡ false
    gone b c e = rw e refl

    by : (are_among pods us ≡ true → (not (is_among pods q) && is_among us q) ≡ false) → (b c : Bool) → is_among pods u ≡ b → bytes_eq q u ≡ c → (b && are_among pods us) ≡ true
        → (not (is_among pods q) && (c || is_among us q)) ≡ false
    by rest false c e f h = absurd (true≢false (sym h))
    by rest true true e f h = gone (is_among pods q) true (ap (is_among pods) (same_tells q u (is_eq-slice_cmp q u ∙ f)) ∙ e)
    by rest true false e f h = rest h

none_left : (uids pods : List (List ℕ)) → are_among pods uids ≡ true → set.len (left_of uids pods) ≡ 0
none_left uids pods all =
    ap set.len
    (same_set nat_list_cmp_total (slice_cmp-IsAntisymmetric nat_cmp-IsAntisymmetric) (left_of uids pods) set.empty
    (λ q. contains-left uids pods q ∙ none_of uids pods q all ∙ sym (contains-empty (slice_cmp nat_cmp) q)))
    ∙ len-empty (slice_cmp nat_cmp)

-- one that is not among the pods
one_of : (uids pods : List (List ℕ)) → are_among pods uids ≡ false → (u : List ℕ) × (is_among uids u ≡ true) × (is_among pods u ≡ false)
one_of [] pods none = absurd (true≢false none)
one_of (u ∷ us) pods none = by (λ h. one_of us pods h) (is_among pods u) refl none
  where
    or_true : (b : Bool) → (b || true) ≡ true
    or_true true = refl
    or_true false = refl

    by : (are_among pods us ≡ false → (w : List ℕ) × (is_among us w ≡ true) × (is_among pods w ≡ false)) → (b : Bool) → is_among pods u ≡ b → (b && are_among pods us) ≡ false
        → (w : List ℕ) × (is_among (u ∷ us) w ≡ true) × (is_among pods w ≡ false)
    by rest true e h = let more = rest h in (more.0, ap (λ b. bytes_eq more.0 u || b) more.1 ∙ or_true (bytes_eq more.0 u), more.2)
    by rest false e h = (u, ap (λ b. b || is_among us u) (sym (is_eq-slice_cmp u u) ∙ same_itself u), e)

some_left : (uids pods : List (List ℕ)) → are_among pods uids ≡ false → (set.len (left_of uids pods) == 0) ≡ false
some_left uids pods none =
    let one = one_of uids pods none in
    let there : set.contains (left_of uids pods) one.0 ≡ true =
    contains-left uids pods one.0 ∙ ap (λ b. not b && is_among uids one.0) one.2 ∙ one.1 in
    ne_eqb (set.len (left_of uids pods)) 0
    (λ z. true≢false (sym there ∙ ap (λ s. set.contains s one.0) (empty_of_len (left_of uids pods) z) ∙ contains-empty (slice_cmp nat_cmp) one.0))

pub waits : WaitsForEach
waits = record {
  is_over = λ o t uids pods then now all. satisfied_is o t uids pods then now ∙ ap (λ n. (n == 0) || nat_lt 300000 (now - then)) (none_left uids pods all);
  lasts = λ o t uids pods then now none l.
      satisfied_is o t uids pods then now ∙ ap (λ b. b || nat_lt 300000 (now - then)) (some_left uids pods none) ∙ le-ltb 300000 (now - then) (omega (arith, l));
}

-- ---- whatever is called

-- no more is waited for than before, and nothing that was not
record AtMost (new old : Option Expectation) : Type 0 where
  number : set.len (deletions_of new) ≤ set.len (deletions_of old)
  pods : (q : List ℕ) → set.contains (deletions_of new) q ≡ true → set.contains (deletions_of old) q ≡ true

as_before : (x : Option Expectation) → AtMost x x
as_before x = record { number = omega arith; pods = λ q h. h }

nothing : (x : Option Expectation) → AtMost None x
nothing x = record {
  number = let none = len-empty (slice_cmp nat_cmp) in omega (arith, none);
  pods = λ q h. absurd (true≢false (sym h ∙ contains-empty (slice_cmp nat_cmp) q));
}

then_less : (x y z : Option Expectation) → AtMost z y → AtMost y x → AtMost z x
then_less x y z b a = record { number = omega (arith, a.number, b.number); pods = λ q h. a.pods q (b.pods q h) }

one_less : (e : Expectation) (pod : List ℕ) → AtMost (Some (record e { deletions = set.remove e.deletions pod })) (Some e)
one_less e pod = record { number = fewer_deletions e.deletions pod; pods = λ q h. by (same q pod) (set.contains e.deletions q) (sym (contains-remove nat_list_cmp_total e.deletions pod q) ∙ h) }
  where
    by : (b c : Bool) → (not b && c) ≡ true → c ≡ true
    by true c h = absurd (true≢false (sym h))
    by false c h = h

changed : (f : Expectation → Expectation) → ((e : Expectation) → AtMost (Some (f e)) (Some e)) → (t : Table) (o p : Owner) → AtMost (map.get (change (map.get t p) f p t) o) (map.get t o)
changed f falls t o p = by (map.get t p) refl
  where
    at : (e : Expectation) (b : Bool) → is_eq (owner_cmp o p) ≡ b → map.get t p ≡ Some e → AtMost (cond b (Some (f e)) (map.get t o)) (map.get t o)
    at e true h is = subst (λ x. AtMost (Some (f e)) x) (sym is ∙ get_tied owner_total t o p (tied o p h)) (falls e)
    at e false h is = as_before (map.get t o)

    by : (x : Option Expectation) → map.get t p ≡ x → AtMost (map.get (change x f p t) o) (map.get t o)
    by None is = as_before (map.get t o)
    by (Some e) is = subst (λ x. AtMost x (map.get t o)) (sym (get-insert owner_total t p (f e) o)) (at e _ refl is)

elsewhere : (t : Table) (o p : Owner) (e : Expectation) → is_eq (owner_cmp o p) ≡ false → AtMost (map.get (map.insert t p e) o) (map.get t o)
elsewhere t o p e h = subst (λ x. AtMost x (map.get t o)) (sym (get-insert owner_total t p e o ∙ ap (λ b. cond b (Some e) (map.get t o)) h)) (as_before (map.get t o))

step : (o : Owner) (t : Table) (c : Change) → sets o c ≡ false → AtMost (map.get (after t c) o) (map.get t o)
step o t (expect_creations p n now) h = elsewhere t o p _ h
step o t (expect_deletions p uids now) h = elsewhere t o p _ h
step o t (see_created p) h = changed (λ e. record e { creations = e.creations - 1 }) (λ e. record { number = omega arith; pods = λ q i. i }) t o p
step o t (see_deleted p u) h = changed (λ e. record e { deletions = set.remove e.deletions u }) (λ e. one_less e u) t o p
step o t (forget k) h =
    subst (λ x. AtMost x (map.get t o))
    (sym (get-retain_keys t (λ p. not (is_same_key k p.key)) o (λ x e. ap (λ n. not (is_same_key k n)) (sym (keys_tied o x e)))))
    (by (not (is_same_key k o.key)))
  where
    by : (b : Bool) → AtMost (cond b (map.get t o) None) (map.get t o)
    by true = as_before (map.get t o)
    by false = nothing (map.get t o)

less_left : (o : Owner) (t : Table) (cs : List Change) → sets_none o cs ≡ true → AtMost (map.get (after_all t cs) o) (map.get t o)
less_left o t [] h = as_before (map.get t o)
less_left o t (c ∷ cs) h = by (less_left o (after t c) cs) (sets o c) refl h
  where
    by : (sets_none o cs ≡ true → AtMost (map.get (after_all (after t c) cs) o) (map.get (after t c) o)) → (b : Bool) → sets o c ≡ b → (not b && sets_none o cs) ≡ true → AtMost (map.get (after_all (after t c) cs) o) (map.get t o)
    by rest true e n = absurd (true≢false (sym n))
    by rest false e n = then_less (map.get t o) (map.get (after t c) o) (map.get (after_all (after t c) cs) o) (rest n) (step o t c e)

pub deletions_fall : DeletionsOnlyFall
deletions_fall o t cs h = let less = less_left o t cs h in (less.number, less.pods)
