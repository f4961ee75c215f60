-- What a look-up, a change and a removal in the maps do to the table.
use Rattle.std.proofs.Common.{◌≡◌, refl, sym, ap, ◌∙◌, ℕ, List, [], true, cond, Option, None, Some, option_map, string_bytes, String, Global, Ordering, Result, Ok, Err, OnOk, OnErr, map, ◌++◌, ◌∷◌}
use mathlib.Core.List.{map-append}
use Rattle.std.specs.Option.{IsSome}
use Rattle.std.specs.BTreeSet.{insert_key}
use Rattle.std.specs.FinSet as set
use Rattle.std.specs.Ordering.{eq_by_cmp}
use Rattle.std.specs.BTreeMap.{BTreeMap, is_at}
use Rattle.std.specs.Map.{lookup, KeepsOthers}
use Rattle.std.specs.FinMap as map_of
use Rattle.std.specs.FinMap.{get-insert, same_map}
use Rattle.spec_api.specs.Keys.{Key as Name, key_cmp as name_cmp, is_same_key}
use Rattle.spec_client_go.specs.Expectations as spec
use Rattle.spec_client_go.specs.Expectations.{Owner, owner_cmp, Table, change, is_met, satisfied, forgotten}
use Rattle.spec_client_go.proofs.WorkKeyOrder.{name_total, name_tells}
use Rattle.spec_client_go.proofs.Expected.{owner_total, owner_tells}
use Rattle.object_keys.specs.Keys.{key_of}
use Rattle.object_keys.specs.declared.key.Key.{Key}
use Rattle.object_keys.specs.contracts.key.KeyOrd.TheImpl as key_ord
use Rattle.object_keys.proofs.KeyOrder.{key_cmp-name_cmp}
use Rattle.object_keys.specs.Seen.{seen_map, seen_set}
use Rattle.object_keys.proofs.SeenMaps as maps
use Rattle.expectations.specs.declared.expectation.Expectation.{Expectation}
use Rattle.expectations.specs.Seen.{uid_cmp, Owners, expectation_of, owners_of, nested_of, flat, changed_from, changed_at}
use Rattle.expectations.proofs.SeenTexts.{uid_total, uid_tells, text_cmp, at_text, get-text, insert-texts, update-text}
use Rattle.expectations.proofs.Flat.{within, get-flat, flat_change, flat_absent, flat_forgotten, flat_put, put_back}

abbrev pub Texts : Type 0
Texts = List (String Global × Expectation)

abbrev pub by_text : Texts → Owners
by_text es = seen_map uid_cmp string_bytes expectation_of es

pub is_there : {X : Type 0} (o : Option X) (x : X) → Some x ≡ o → IsSome o
is_there None x e = cc
is_there (Some y) x e = refl

pub met_where : (now : ℕ) (t : List ℕ) (es : Texts) (v : Expectation) → Some v ≡ lookup (is_at (at_text t)) es → is_met now (Some (expectation_of v)) ≡ is_met now (map_of.get (by_text es) t)
met_where now t es v e = ap (is_met now) (ap (option_map expectation_of) e ∙ sym (get-text expectation_of t es))

pub met_without : (now : ℕ) (t : List ℕ) (es : Texts) → None ≡ lookup (is_at (at_text t)) es → true ≡ is_met now (map_of.get (by_text es) t)
met_without now t es e = ap (λ o. is_met now (option_map expectation_of o)) e ∙ ap (is_met now) (sym (get-text expectation_of t es))

pub changed_text : (f : spec.Expectation → spec.Expectation) (t : List ℕ) (es es' : Texts) (v v' : Expectation) → Some v ≡ lookup (is_at (at_text t)) es → lookup (is_at (at_text t)) es' ≡ Some v' → KeepsOthers (eq_by_cmp text_cmp) (is_at (at_text t)) es es'
    → expectation_of v' ≡ f (expectation_of v) → by_text es' ≡ changed_at f t (by_text es)
changed_text f t es es' v v' was is keeps e =
    same_map uid_total uid_tells _ _
    (λ q. update-text expectation_of t es es' (Some v') is keeps q ∙ ap (λ x. cond (eq_by_cmp uid_cmp q t) (Some x) (map_of.get (by_text es) q)) e ∙ sym (get-insert uid_total (by_text es) t (f (expectation_of v)) q))
    ∙ ap (λ o. changed_from o f t (by_text es)) (ap (option_map expectation_of) was ∙ sym (get-text expectation_of t es))

pub unchanged_text : (f : spec.Expectation → spec.Expectation) (t : List ℕ) (es : Texts) → None ≡ lookup (is_at (at_text t)) es → by_text es ≡ changed_at f t (by_text es)
unchanged_text f t es e = ap (λ o. changed_from o f t (by_text es)) (ap (option_map expectation_of) e ∙ sym (get-text expectation_of t es))

abbrev pub key_cmp : Key → Key → Ordering
key_cmp = (key_ord.ghosts).cmp

abbrev pub Keyed : Type 0
Keyed = List (Key × BTreeMap (String Global) Expectation)

get-key : (es : Keyed) (k : Key) → map_of.get (nested_of es) (key_of k) ≡ option_map owners_of (lookup (is_at (key_cmp k)) es)
get-key = maps.get-seen name_cmp name_total name_tells key_of key_cmp key_cmp-name_cmp owners_of

update-key : (k : Key) (old new : Keyed) (w : Option (BTreeMap (String Global) Expectation)) → lookup (is_at (key_cmp k)) new ≡ w → KeepsOthers (eq_by_cmp key_cmp) (is_at (key_cmp k)) old new
    → (q : Name) → map_of.get (nested_of new) q ≡ cond (is_same_key q (key_of k)) (option_map owners_of w) (map_of.get (nested_of old) q)
update-key k = maps.update-by name_cmp name_total name_tells key_of key_cmp key_cmp-name_cmp owners_of (key_cmp k) (key_of k) (λ a. key_cmp-name_cmp k a)

abbrev pub owner : Key → List ℕ → Owner
owner k uid = record { key = key_of k; uid = uid }

abbrev pub table_of : Keyed → Table
table_of es = flat (nested_of es)

pub changed_key : (f : spec.Expectation → spec.Expectation) (k : Key) (uid : List ℕ) (es es' : Keyed) (m m' : BTreeMap (String Global) Expectation) → Some m ≡ lookup (is_at (key_cmp k)) es → lookup (is_at (key_cmp k)) es' ≡ Some m'
    → KeepsOthers (eq_by_cmp key_cmp) (is_at (key_cmp k)) es es' → owners_of m' ≡ changed_at f uid (owners_of m) → table_of es' ≡ change (map_of.get (table_of es) (owner k uid)) f (owner k uid) (table_of es)
changed_key f k uid es es' m m' was is keeps e =
    flat_change (nested_of es) (nested_of es') (owner k uid) (owners_of m) f (get-key es k ∙ ap (option_map owners_of) (sym was))
    (λ q. update-key k es es' (Some m') is keeps q ∙ ap (λ x. cond (is_same_key q (key_of k)) (Some x) (map_of.get (nested_of es) q)) e)

pub unchanged_key : (f : spec.Expectation → spec.Expectation) (k : Key) (uid : List ℕ) (es : Keyed) → None ≡ lookup (is_at (key_cmp k)) es → table_of es ≡ change (map_of.get (table_of es) (owner k uid)) f (owner k uid) (table_of es)
unchanged_key f k uid es e = flat_absent (nested_of es) (owner k uid) f (get-key es k ∙ ap (option_map owners_of) (sym e))

pub satisfied_where : (now : ℕ) (k : Key) (uid : List ℕ) (es : Keyed) (m : BTreeMap (String Global) Expectation) → Some m ≡ lookup (is_at (key_cmp k)) es → is_met now (map_of.get (owners_of m) uid) ≡ satisfied (owner k uid) now (table_of es)
satisfied_where now k uid es m e = ap (is_met now) (ap (λ o. within uid (option_map owners_of o)) e ∙ ap (within uid) (sym (get-key es k)) ∙ sym (get-flat (nested_of es) (owner k uid)))

pub satisfied_without : (now : ℕ) (k : Key) (uid : List ℕ) (es : Keyed) → None ≡ lookup (is_at (key_cmp k)) es → true ≡ satisfied (owner k uid) now (table_of es)
satisfied_without now k uid es e = ap (λ o. is_met now (within uid (option_map owners_of o))) e ∙ ap (is_met now) (ap (within uid) (sym (get-key es k)) ∙ sym (get-flat (nested_of es) (owner k uid)))

pub forgot : (k : Key) (es es' : Keyed) → lookup (is_at (key_cmp k)) es' ≡ None → KeepsOthers (eq_by_cmp key_cmp) (is_at (key_cmp k)) es es' → table_of es' ≡ forgotten (key_of k) (table_of es)
forgot k es es' gone keeps = flat_forgotten (nested_of es) (nested_of es') (key_of k) (update-key k es es' None gone keeps)

-- what is set stands in its place, where the key was there
pub expected_there : (k : Key) (uid : List ℕ) (e : spec.Expectation) (es es' : Keyed) (m m' : BTreeMap (String Global) Expectation) → Some m ≡ lookup (is_at (key_cmp k)) es → lookup (is_at (key_cmp k)) es' ≡ Some m'
    → KeepsOthers (eq_by_cmp key_cmp) (is_at (key_cmp k)) es es' → owners_of m' ≡ map_of.insert (owners_of m) uid e → table_of es' ≡ map_of.insert (table_of es) (owner k uid) e
expected_there k uid e es es' m m' was is keeps put =
    flat_put (nested_of es) (nested_of es') (owner k uid) (owners_of m') e (update-key k es es' (Some m') is keeps)
    (λ u. ap (λ x. map_of.get x u) put ∙ get-insert uid_total (owners_of m) uid e u ∙ ap (λ o. cond (eq_by_cmp uid_cmp u uid) (Some e) (within u o)) (ap (option_map owners_of) was ∙ sym (get-key es k)))

-- and where it was not
pub expected_new : (k copy : Key) (uid : List ℕ) (e : spec.Expectation) (es es' : Keyed) (m m' : BTreeMap (String Global) Expectation) → key_of copy ≡ key_of k → m.entries ≡ [] → None ≡ lookup (is_at (key_cmp k)) es → lookup (is_at (key_cmp copy)) es' ≡ Some m'
    → KeepsOthers (eq_by_cmp key_cmp) (is_at (key_cmp copy)) es es' → owners_of m' ≡ map_of.insert (owners_of m) uid e → table_of es' ≡ map_of.insert (table_of es) (owner k uid) e
expected_new k copy uid e es es' m m' same none was is keeps put =
    flat_put (nested_of es) (nested_of es') (owner k uid) (owners_of m') e
    (λ q. update-key copy es es' (Some m') is keeps q ∙ ap (λ n. cond (is_same_key q n) (Some (owners_of m')) (map_of.get (nested_of es) q)) same)
    (λ u. ap (λ x. map_of.get x u) put
    ∙ get-insert uid_total (owners_of m) uid e u
    ∙ ap (cond (eq_by_cmp uid_cmp u uid) (Some e)) (ap (λ es. map_of.get (by_text es) u) none ∙ map_of.get-empty uid_cmp u)
    ∙ ap (λ o. cond (eq_by_cmp uid_cmp u uid) (Some e) (within u o)) (ap (option_map owners_of) was ∙ sym (get-key es k)))

-- where what stands at a key says the same, nothing has changed
pub same_key : (k : Key) (es es' : Keyed) (m m' : BTreeMap (String Global) Expectation) → Some m ≡ lookup (is_at (key_cmp k)) es → lookup (is_at (key_cmp k)) es' ≡ Some m' → KeepsOthers (eq_by_cmp key_cmp) (is_at (key_cmp k)) es es' → owners_of m' ≡ owners_of m
    → table_of es' ≡ table_of es
same_key k es es' m m' was is keeps e =
    ap flat
    (put_back (nested_of es) (nested_of es') (key_of k) (owners_of m) (get-key es k ∙ ap (option_map owners_of) (sym was))
    (λ q. update-key k es es' (Some m') is keeps q ∙ ap (λ x. cond (is_same_key q (key_of k)) (Some x) (map_of.get (nested_of es) q)) e))

-- no keys, no expectations
pub none_at_all : (es : Keyed) → es ≡ [] → table_of es ≡ map_of.empty
none_at_all es e =
    ap table_of e
    ∙ same_map owner_total owner_tells _ _ (λ o. get-flat (nested_of []) o ∙ ap (within o.uid) (map_of.get-empty name_cmp o.key) ∙ sym (map_of.get-empty owner_cmp o))

-- what follows from a success
pub on_ok : {T E P Q : Type 0} (r : Result T E) → (P → Q) → OnOk r P → OnOk r Q
on_ok (Ok x) f h = f h
on_ok (Err e) f h = h

-- and from a failure
pub on_err : {T E P Q : Type 0} (r : Result T E) → (P → Q) → OnErr r P → OnErr r Q
on_err (Ok x) f h = h
on_err (Err e) f h = f h

-- one text more
pub one_more_text : (ks ks' : List (String Global)) (ts : List (String Global)) (t : String Global) → ks' ≡ insert_key text_cmp ks t → seen_set uid_cmp string_bytes ks ≡ set.from_list (map string_bytes ts)
    → seen_set uid_cmp string_bytes ks' ≡ set.from_list (map string_bytes (ts ++ t ∷ []))
one_more_text ks ks' ts t e h =
    ap (seen_set uid_cmp string_bytes) e
    ∙ insert-texts ks t
    ∙ ap (λ s. set.insert s (string_bytes t)) h
    ∙ sym (set.from_list_push uid_total uid_tells (map string_bytes ts) (string_bytes t))
    ∙ ap (λ ns. set.from_list ns) (sym (map-append string_bytes ts (t ∷ [])))
