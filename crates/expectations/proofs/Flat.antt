-- A table of maps as one table.
use Rattle.std.proofs.Common.{◌≡◌, refl, sym, ap, ◌∙◌, ℕ, List, [], ◌∷◌, ◌++◌, ◌&&◌, Bool, true, false, not, cond, Option, None, Some, T}
use Rattle.std.specs.Cmp.{Equal-is, eq_by_cmp_equiv}
use Rattle.std.specs.Ordering.{eq_by_cmp, is_lt}
use Rattle.std.specs.FinMap as map_of
use Rattle.std.specs.FinMap.{find, is_sorted, entries_sorted, get-entries, get-from_entries, get-insert, get-retain_keys, same_map}
use Rattle.std.specs.FinMap.Entries.{below_all}
use Rattle.spec_api.specs.Keys.{Key, key_cmp, is_same_key}
use Rattle.spec_client_go.specs.Expectations.{Owner, owner_cmp, Expectation, change, forgotten}
use Rattle.spec_client_go.proofs.WorkKeyOrder.{name_total, name_tells}
use Rattle.spec_client_go.proofs.Expected.{owner_total, owner_tells, keys_tied}
use Rattle.spec_client_go.proofs.Alarms.{first, less_is_not_equal, second, tie_both}
use Rattle.expectations.specs.Seen.{uid_cmp, Owners, Nested, inside, flattened, flat, changed_from, changed_at}
use Rattle.expectations.proofs.SeenTexts.{uid_total, uid_tells}

abbrev pub or_else : Option Expectation → Option Expectation → Option Expectation
or_else None y = y
or_else (Some e) y = Some e

abbrev pub within : List ℕ → Option Owners → Option Expectation
within u None = None
within u (Some m) = map_of.get m u

named_same : (a b : Key) → is_same_key a b ≡ true → a ≡ b
named_same a b e = name_tells a b ((Equal-is (key_cmp a b)).0 e)

uid_same : (a b : List ℕ) → eq_by_cmp uid_cmp a b ≡ true → a ≡ b
uid_same a b e = uid_tells a b ((Equal-is (uid_cmp a b)).0 e)

find_inside : (o : Owner) (k : Key) (fs : List (List ℕ × Expectation)) (rest : List (Owner × Expectation))
    → find owner_cmp o (inside k fs ++ rest) ≡ cond (is_same_key o.key k) (or_else (find uid_cmp o.uid fs) (find owner_cmp o rest)) (find owner_cmp o rest)
find_inside o k [] rest = by (is_same_key o.key k)
  where
    by : (b : Bool) → find owner_cmp o rest ≡ cond b (find owner_cmp o rest) (find owner_cmp o rest)
    by true = refl
    by false = refl
find_inside o k (f ∷ fs) rest =
    ap (λ b. cond b (Some f.1) (find owner_cmp o (inside k fs ++ rest))) (tie_both (key_cmp o.key k) (uid_cmp o.uid f.0))
    ∙ ap (cond (is_same_key o.key k && eq_by_cmp uid_cmp o.uid f.0) (Some f.1)) (find_inside o k fs rest)
    ∙ by (is_same_key o.key k) (eq_by_cmp uid_cmp o.uid f.0) (find uid_cmp o.uid fs) (find owner_cmp o rest)
  where
    by : (a b : Bool) (x r : Option Expectation) → cond (a && b) (Some f.1) (cond a (or_else x r) r) ≡ cond a (or_else (cond b (Some f.1) x) r) r
    by true true x r = refl
    by true false x r = refl
    by false b x r = refl

not_found : (k : Key) (es : List (Key × Owners)) → T (below_all key_cmp k es) → find key_cmp k es ≡ None
not_found k [] h = refl
not_found k (e ∷ es) h =
    ap (λ b. cond b (Some e.1) (find key_cmp k es)) (less_is_not_equal (key_cmp k e.0) (below_all key_cmp k es) h)
    ∙ not_found k es (second (is_lt (key_cmp k e.0)) (below_all key_cmp k es) h)

or_none : (x : Option Expectation) → or_else x None ≡ x
or_none None = refl
or_none (Some e) = refl

find_flat : (o : Owner) (es : List (Key × Owners)) → T (is_sorted key_cmp es) → find owner_cmp o (flattened es) ≡ within o.uid (find key_cmp o.key es)
find_flat o [] h = refl
find_flat o (e ∷ es) h =
    find_inside o e.0 (map_of.entries e.1) (flattened es)
    ∙ ap (λ r. cond (is_same_key o.key e.0) (or_else (find uid_cmp o.uid (map_of.entries e.1)) r) r) (find_flat o es (second (below_all key_cmp e.0 es) (is_sorted key_cmp es) h))
    ∙ by (is_same_key o.key e.0) refl
  where
    by : (b : Bool) → is_same_key o.key e.0 ≡ b
        → cond b (or_else (find uid_cmp o.uid (map_of.entries e.1)) (within o.uid (find key_cmp o.key es))) (within o.uid (find key_cmp o.key es)) ≡ within o.uid (cond b (Some e.1) (find key_cmp o.key es))
    by true t =
        ap (λ x. or_else (find uid_cmp o.uid (map_of.entries e.1)) (within o.uid x)) (ap (λ k. find key_cmp k es) (named_same o.key e.0 t) ∙ not_found e.0 es (first (below_all key_cmp e.0 es) (is_sorted key_cmp es) h))
        ∙ or_none _
        ∙ sym (get-entries e.1 o.uid)
    by false t = refl

-- what is found in the one table is found under the key, and there under the uid
pub get-flat : (n : Nested) (o : Owner) → map_of.get (flat n) o ≡ within o.uid (map_of.get n o.key)
get-flat n o = get-from_entries owner_total (flattened (map_of.entries n)) o ∙ find_flat o (map_of.entries n) (entries_sorted n) ∙ ap (within o.uid) (sym (get-entries n o.key))

-- one expectation is put in its place
pub flat_put : (n n' : Nested) (o : Owner) (m' : Owners) (e : Expectation)
    → ((q : Key) → map_of.get n' q ≡ cond (is_same_key q o.key) (Some m') (map_of.get n q))
    → ((u : List ℕ) → map_of.get m' u ≡ cond (eq_by_cmp uid_cmp u o.uid) (Some e) (within u (map_of.get n o.key)))
    → flat n' ≡ map_of.insert (flat n) o e
flat_put n n' o m' e outer inner =
    same_map owner_total owner_tells _ _
    (λ p. get-flat n' p
    ∙ ap (within p.uid) (outer p.key)
    ∙ by p (is_same_key p.key o.key) refl
    ∙ ap (λ b. cond b (Some e) (within p.uid (map_of.get n p.key))) (sym (tie_both (key_cmp p.key o.key) (uid_cmp p.uid o.uid)))
    ∙ ap (cond (eq_by_cmp owner_cmp p o) (Some e)) (sym (get-flat n p))
    ∙ sym (get-insert owner_total (flat n) o e p))
  where
    by : (p : Owner) (b : Bool) → is_same_key p.key o.key ≡ b → within p.uid (cond b (Some m') (map_of.get n p.key)) ≡ cond (b && eq_by_cmp uid_cmp p.uid o.uid) (Some e) (within p.uid (map_of.get n p.key))
    by p true t = inner p.uid ∙ ap (λ k. cond (eq_by_cmp uid_cmp p.uid o.uid) (Some e) (within p.uid (map_of.get n k))) (sym (named_same p.key o.key t))
    by p false t = refl

-- to put back what stands at a key changes nothing
pub put_back : (n n' : Nested) (k : Key) (m : Owners) → map_of.get n k ≡ Some m → ((q : Key) → map_of.get n' q ≡ cond (is_same_key q k) (Some m) (map_of.get n q)) → n' ≡ n
put_back n n' k m is outer = same_map name_total name_tells _ _ (λ q. outer q ∙ by q (is_same_key q k) refl)
  where
    by : (q : Key) (b : Bool) → is_same_key q k ≡ b → cond b (Some m) (map_of.get n q) ≡ map_of.get n q
    by q true t = sym (ap (map_of.get n) (named_same q k t) ∙ is)
    by q false t = refl

-- one expectation is changed, if it is there
pub flat_change : (n n' : Nested) (o : Owner) (m : Owners) (f : Expectation → Expectation) → map_of.get n o.key ≡ Some m
    → ((q : Key) → map_of.get n' q ≡ cond (is_same_key q o.key) (Some (changed_at f o.uid m)) (map_of.get n q))
    → flat n' ≡ change (map_of.get (flat n) o) f o (flat n)
flat_change n n' o m f is outer =
    by (map_of.get m o.uid) refl outer ∙ ap (λ x. change x f o (flat n)) (sym (get-flat n o ∙ ap (within o.uid) is))
  where
    by : (x : Option Expectation) → map_of.get m o.uid ≡ x → ((q : Key) → map_of.get n' q ≡ cond (is_same_key q o.key) (Some (changed_from x f o.uid m)) (map_of.get n q)) → flat n' ≡ change x f o (flat n)
    by None e outer = ap flat (put_back n n' o.key m is outer)
    by (Some x) e outer =
        flat_put n n' o (map_of.insert m o.uid (f x)) (f x) outer
        (λ u. get-insert uid_total m o.uid (f x) u ∙ ap (λ y. cond (eq_by_cmp uid_cmp u o.uid) (Some (f x)) (within u y)) (sym is))

-- without the key nothing changes
pub flat_absent : (n : Nested) (o : Owner) (f : Expectation → Expectation) → map_of.get n o.key ≡ None → flat n ≡ change (map_of.get (flat n) o) f o (flat n)
flat_absent n o f is = ap (λ x. change x f o (flat n)) (sym (get-flat n o ∙ ap (within o.uid) is))

-- all under the key is forgotten
pub flat_forgotten : (n n' : Nested) (k : Key) → ((q : Key) → map_of.get n' q ≡ cond (is_same_key q k) None (map_of.get n q)) → flat n' ≡ forgotten k (flat n)
flat_forgotten n n' k outer =
    same_map owner_total owner_tells _ _
    (λ p. get-flat n' p
    ∙ ap (within p.uid) (outer p.key)
    ∙ by p (is_same_key p.key k)
    ∙ (λ i. cond (not ((eq_by_cmp_equiv name_total).symm p.key k i)) (sym (get-flat n p) i) None)
    ∙ sym (get-retain_keys (flat n) (λ o. not (is_same_key k o.key)) p (λ x e. ap (λ q. not (is_same_key k q)) (sym (keys_tied p x e)))))
  where
    by : (p : Owner) (b : Bool) → within p.uid (cond b None (map_of.get n p.key)) ≡ cond (not b) (within p.uid (map_of.get n p.key)) None
    by p true = refl
    by p false = refl
