-- The changes of deltas lead from the members before them to the members after them, under each key.
use Rattle.std.proofs.Common.{◌≡◌, inl, inr, ℕ, List, [], ◌∷◌, ◌++◌, map, filter, Bool, true, false, cond, is_some, is_eq, Option, Some, None, refl, sym, ap, ◌∙◌, subst}
use Rattle.std.specs.BTreeMap.{insert_entry}
use Rattle.serde_json.specs.Data.{Data}
use Rattle.spec_api.specs.History.{Entries, found, put_or_remove}
use Rattle.spec_api.specs.Keys.{Key, key_cmp, is_same_key}
use Rattle.spec_api.specs.Objects.{Object}
use Rattle.spec_api.proofs.PutLaws.{name_cmp_total, IsAbove, IsAscending, none_above, lookup-insert_entry, IsAscending-put, IsAscending-after, found-after, same_name}
use Rattle.spec_client_go.specs.Reflectors.{Delta, replace, put, remove, mark, name_in, put_in, put_all, apply_delta, apply_deltas}
use Rattle.spec_client_go.specs.Shifts.{Shift, overlaid, shift_at, is_change, shift_to, removal, shifts_of, all_shifts}
use Rattle.sim_rest_laws.specs.ShiftRunLaws.{NoReplace, OnlyTheFirst, Lead}

-- ---- one after another

pub lead_both : (x : Key) (a b c : Option Data) (ss ts : List Shift) → Lead x a ss b → Lead x b ts c → Lead x a (ss ++ ts) c
lead_both x a b c [] ts f g = subst (λ o. Lead x o ts c) (sym f) g
lead_both x a b c (s ∷ ss) ts (inl f) g = inl (f.0, f.1, lead_both x s.new b c ss ts f.2 g)
lead_both x a b c (s ∷ ss) ts (inr f) g = inr (f.0, lead_both x a b c ss ts f.1 g)

-- one change, or none
lead_one : (x : Key) (s : Shift) (a b : Option Data) (c : Bool) → is_same_key x s.key ≡ c → a ≡ cond c s.old a → b ≡ cond c s.new a → Lead x a (s ∷ []) b
lead_one x s a b true e old new = inl (e, sym old, sym new)
lead_one x s a b false e old new = inr (e, sym new)

-- ---- in order

ascending_all : (os : List Object) (ms : Entries) → IsAscending key_cmp ms → IsAscending key_cmp (put_all ms os)
ascending_all [] ms a = a
ascending_all (o ∷ os) ms a = ascending_all os (put_in ms o) (IsAscending-after (name_in o) (Some o.value) ms a)

pub ascending_delta : (ms : Entries) (d : Delta) → IsAscending key_cmp ms → IsAscending key_cmp (apply_delta ms d)
ascending_delta ms (replace r os) a = ascending_all os [] tt
ascending_delta ms (put o) a = IsAscending-after (name_in o) (Some o.value) ms a
ascending_delta ms (remove r k) a = IsAscending-after k None ms a
ascending_delta ms (mark r) a = a

pub ascending_deltas : (ds : List Delta) (ms : Entries) → IsAscending key_cmp ms → IsAscending key_cmp (apply_deltas ms ds)
ascending_deltas [] ms a = a
ascending_deltas (d ∷ ds) ms a = ascending_deltas ds (apply_delta ms d) (ascending_delta ms d a)

-- ---- one object

same_found : (x k : Key) (ms : Entries) (c : Bool) → is_same_key x k ≡ c → found x ms ≡ cond c (found k ms) (found x ms)
same_found x k ms true e = ap (λ z. found z ms) (same_name x k e)
same_found x k ms false e = refl

lead_put : (x : Key) (ms : Entries) (o : Object) → IsAscending key_cmp ms → Lead x (found x ms) (shift_to ms (name_in o) (Some o.value) ∷ []) (found x (put_in ms o))
lead_put x ms o a =
    lead_one x (shift_to ms (name_in o) (Some o.value)) (found x ms) (found x (put_in ms o)) (is_same_key x (name_in o)) refl (same_found x (name_in o) ms (is_same_key x (name_in o)) refl)
    (found-after x (name_in o) (Some o.value) ms a)

lead_removal : (x k : Key) (ms : Entries) (o : Option Data) → found k ms ≡ o → IsAscending key_cmp ms → Lead x (found x ms) (removal k o) (found x (apply_delta ms (remove 0 k)))
lead_removal x k ms None e a = sym (found-after x k None ms a ∙ by (is_same_key x k) refl)
  where
    by : (c : Bool) → is_same_key x k ≡ c → cond c None (found x ms) ≡ found x ms
    by true is = sym (ap (λ z. found z ms) (same_name x k is) ∙ e)
    by false is = refl
lead_removal x k ms (Some d) e a =
    lead_one x (record { key = k; old = Some d; new = None }) (found x ms) (found x (put_or_remove ms k None)) (is_same_key x k) refl (same_found x k ms (is_same_key x k) refl ∙ ap (λ z. cond (is_same_key x k) z (found x ms)) e)
    (found-after x k None ms a)

-- ---- a whole map in the place of nothing

-- what two maps say under a key, one over the other
abbrev or_else : Option Data → Option Data → Option Data
or_else None o = o
or_else (Some d) o = Some d

none_else : (o : Option Data) → or_else o None ≡ o
none_else None = refl
none_else (Some d) = refl

-- above a key is not that key
not_above : (x k : Key) (es : Entries) → is_same_key x k ≡ true → IsAbove key_cmp k es → found x es ≡ None
not_above x k es e a = ap (λ z. found z es) (same_name x k e) ∙ none_above name_cmp_total k es a

found-overlaid : (x : Key) (es ms : Entries) → IsAscending key_cmp es → found x (overlaid ms es) ≡ or_else (found x es) (found x ms)
found-overlaid x [] ms a = refl
found-overlaid x (e ∷ es) ms a =
    found-overlaid x es (insert_entry key_cmp ms e.0 e.1) a.1 ∙ ap (or_else (found x es)) (lookup-insert_entry name_cmp_total x e.0 e.1 ms) ∙ by (is_same_key x e.0) refl
  where
    by : (c : Bool) → is_same_key x e.0 ≡ c → or_else (found x es) (cond c (Some e.1) (found x ms)) ≡ or_else (cond c (Some e.1) (found x es)) (found x ms)
    by true is = ap (λ o. or_else o (Some e.1)) (not_above x e.0 es is a.0)
    by false is = refl

ascending_overlaid : (es ms : Entries) → IsAscending key_cmp ms → IsAscending key_cmp (overlaid ms es)
ascending_overlaid [] ms a = a
ascending_overlaid (e ∷ es) ms a = ascending_overlaid es (insert_entry key_cmp ms e.0 e.1) (IsAscending-put name_cmp_total e.0 e.1 ms a)

module _ (x : Key) (new : Entries) where
  -- the changes under the keys of these members, from nothing
  abbrev changes : Entries → List Shift
  changes es = filter is_change (map (λ e. shift_at [] new e.0) es)

  -- keys above it do nothing
  lead_above : (k : Key) (es : Entries) (a : Option Data) → is_same_key x k ≡ true → IsAbove key_cmp k es → Lead x a (changes es) a
  lead_above k [] a e up = refl
  lead_above k (m ∷ es) a e up = by (is_change (shift_at [] new m.0)) (lead_above k es a e up.1)
    where
      other : is_same_key x m.0 ≡ false
      other = ap (λ z. is_same_key z m.0) (same_name x k e) ∙ ap is_eq up.0

      by : (c : Bool) → Lead x a (changes es) a → Lead x a (cond c (shift_at [] new m.0 ∷ changes es) (changes es)) a
      by true rest = inr (other, rest)
      by false rest = rest

  lead_changes : (es : Entries) → IsAscending key_cmp es → Lead x None (changes es) (cond (is_some (found x es)) (found x new) None)
  lead_changes [] up = refl
  lead_changes (m ∷ es) up = by (is_same_key x m.0) refl (lead_changes es up.1)
    where
      is_it : (o : Option Data) → found m.0 new ≡ o → is_same_key x m.0 ≡ true
          → Lead x None (cond (is_change (record { key = m.0; old = None; new = o })) (record { key = m.0; old = None; new = o } ∷ changes es) (changes es)) o
      is_it None e same = lead_above m.0 es None same up.0
      is_it (Some d) e same = inl (same, refl, lead_above m.0 es (Some d) same up.0)

      other : (c : Bool) (o : Option Data) → is_same_key x m.0 ≡ false → Lead x None (changes es) o → Lead x None (cond c (shift_at [] new m.0 ∷ changes es) (changes es)) o
      other true o apart rest = inr (apart, rest)
      other false o apart rest = rest

      by : (c : Bool) → is_same_key x m.0 ≡ c → Lead x None (changes es) (cond (is_some (found x es)) (found x new) None)
          → Lead x None (cond (is_change (shift_at [] new m.0)) (shift_at [] new m.0 ∷ changes es) (changes es)) (cond (is_some (cond c (Some m.1) (found x es))) (found x new) None)
      by true e rest = subst (Lead x None (cond (is_change (shift_at [] new m.0)) (shift_at [] new m.0 ∷ changes es) (changes es))) (sym (ap (λ z. found z new) (same_name x m.0 e))) (is_it (found m.0 new) refl e)
      by false e rest = other (is_change (shift_at [] new m.0)) (cond (is_some (found x es)) (found x new) None) e rest

-- where nothing was there
lead_first : (x : Key) (r : ℕ) (os : List Object) → Lead x None (shifts_of [] (replace r os)) (found x (put_all [] os))
lead_first x r os =
    let new = put_all [] os in
    let all = overlaid [] new in
    let there : found x all ≡ found x new = found-overlaid x new [] (ascending_all os [] tt) ∙ none_else_of (found x new) in
    subst (Lead x None (shifts_of [] (replace r os))) (ap (λ o. cond (is_some o) (found x new) None) there ∙ as_found (found x new)) (lead_changes x new all (ascending_overlaid new [] tt))
  where
    none_else_of : (o : Option Data) → or_else o None ≡ o
    none_else_of o = none_else o

    as_found : (o : Option Data) → cond (is_some o) o None ≡ o
    as_found None = refl
    as_found (Some d) = refl

-- ---- deltas

lead_delta : (x : Key) (ms : Entries) (d : Delta) → NoReplace (d ∷ []) → IsAscending key_cmp ms → Lead x (found x ms) (shifts_of ms d) (found x (apply_delta ms d))
lead_delta x ms (replace r os) none a = absurd none
lead_delta x ms (put o) none a = lead_put x ms o a
lead_delta x ms (remove r k) none a = lead_removal x k ms (found k ms) refl a
lead_delta x ms (mark r) none a = refl

first_none : (d : Delta) (ds : List Delta) → NoReplace (d ∷ ds) → NoReplace (d ∷ []) × NoReplace ds
first_none (replace r os) ds n = absurd n
first_none (put o) ds n = (tt, n)
first_none (remove r k) ds n = (tt, n)
first_none (mark r) ds n = (tt, n)

pub lead_deltas : (x : Key) (ds : List Delta) (ms : Entries) → NoReplace ds → IsAscending key_cmp ms → Lead x (found x ms) (all_shifts ms ds) (found x (apply_deltas ms ds))
lead_deltas x [] ms none a = refl
lead_deltas x (d ∷ ds) ms none a =
    let two = first_none d ds none in
    lead_both x (found x ms) (found x (apply_delta ms d)) (found x (apply_deltas (apply_delta ms d) ds)) (shifts_of ms d) (all_shifts (apply_delta ms d) ds) (lead_delta x ms d two.0 a)
    (lead_deltas x ds (apply_delta ms d) two.1 (ascending_delta ms d a))

-- the first may give the whole map where nothing is there
lead_head : (x : Key) (d : Delta) → Lead x None (shifts_of [] d) (found x (apply_delta [] d))
lead_head x (replace r os) = lead_first x r os
lead_head x (put o) = lead_put x [] o tt
lead_head x (remove r k) = refl
lead_head x (mark r) = refl

pub lead_anew : (x : Key) (ds : List Delta) → OnlyTheFirst ds → Lead x None (all_shifts [] ds) (found x (apply_deltas [] ds))
lead_anew x [] once = refl
lead_anew x (d ∷ ds) once =
    lead_both x None (found x (apply_delta [] d)) (found x (apply_deltas (apply_delta [] d) ds)) (shifts_of [] d) (all_shifts (apply_delta [] d) ds) (lead_head x d)
    (lead_deltas x ds (apply_delta [] d) once (ascending_delta [] d tt))
