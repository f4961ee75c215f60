-- What an insertion, a removal and a look-up do, by the members that a map is seen as.
use denote.Ref.{Bor}
use Rattle.std.specs.Option.{option_copied}
use Rattle.std.proofs.Common.{arith, ℕ, ◌≤◌, ◌+◌, Bool, true, false, cond, is_eq, ◌≡◌, ◌∙◌, List, [], ◌∷◌, length, Option, Some, None, is_some, option_map, Ordering, Less, Equal, Greater, refl, sym, ap}
use Rattle.std.specs.Ordering.{match_ordering}
use Rattle.shared_map.specs.Entries.{put_entry}
use Rattle.std.proofs.lemmas.List.{length-map}
use Rattle.serde_json.specs.Data.{Data}
use Rattle.std.specs.List.{AllByRecursion}
use Rattle.std.specs.List.Sorted.{IsStrictlySortedBy}
use Rattle.std.specs.Map.{keys_of, remove_entry}
use Rattle.std.specs.BTreeMap.{insert_entry, is_at}
use Rattle.object_keys.specs.contracts.key.KeyOrd.TheImpl as key_ord
use Rattle.object_keys.specs.Keys.{key_of}
use Rattle.object_keys.specs.declared.key.Key.{Key}
use Rattle.meta.specs.declared.stored.StoredObject.{StoredObject}
use Rattle.object_keys.proofs.KeyOrder.{key_cmp-name_cmp}
use Rattle.object_keys.proofs.MapViews.{map-remove_entry_by}
use Rattle.spec_api.proofs.PutLaws.{IsAbove, IsAbove-below, IsAscending, name_cmp_total, none_above, same_name}
use Rattle.spec_api.specs.Keys.{Key as Name}
use Rattle.spec_api.specs.History.{Entries, found}
use Rattle.spec_api.specs.Keys.{key_cmp as name_cmp}
use Rattle.store.specs.Seen.{members_seen}

abbrev pub key_cmp : Key → Key → Ordering
key_cmp = (key_ord.ghosts).cmp

-- what is put into a shared map is inserted into what it is seen as
pub seen-put_entry : (es : List (Key × StoredObject)) (e : Key × StoredObject) → members_seen (put_entry key_cmp es e) ≡ insert_entry name_cmp (members_seen es) (key_of e.0) e.1.value
seen-put_entry [] e = refl
seen-put_entry (f ∷ fs) e =
    by (key_cmp e.0 f.0) refl (seen-put_entry fs e)
    ∙ ap (λ r. match_ordering r ((key_of e.0, e.1.value) ∷ members_seen (f ∷ fs)) ((key_of f.0, e.1.value) ∷ members_seen fs) ((key_of f.0, f.1.value) ∷ insert_entry name_cmp (members_seen fs) (key_of e.0) e.1.value)) (key_cmp-name_cmp e.0 f.0)
  where
    by : (r : Ordering) → key_cmp e.0 f.0 ≡ r → members_seen (put_entry key_cmp fs e) ≡ insert_entry name_cmp (members_seen fs) (key_of e.0) e.1.value
        → members_seen (match_ordering r (e ∷ f ∷ fs) (e ∷ fs) (f ∷ put_entry key_cmp fs e))
        ≡ match_ordering r ((key_of e.0, e.1.value) ∷ members_seen (f ∷ fs)) ((key_of f.0, e.1.value) ∷ members_seen fs) ((key_of f.0, f.1.value) ∷ insert_entry name_cmp (members_seen fs) (key_of e.0) e.1.value)
    by Less is rest = refl
    by Equal is rest = ap (λ n. (n, e.1.value) ∷ members_seen fs) (same_name (key_of e.0) (key_of f.0) (ap is_eq (sym (key_cmp-name_cmp e.0 f.0) ∙ is)))
    by Greater is rest = ap (λ ms. (key_of f.0, f.1.value) ∷ ms) rest

pub seen-remove_entry : (es : List (Key × StoredObject)) (k : Key) → members_seen (remove_entry (is_at (key_cmp k)) es) ≡ remove_entry (is_at (name_cmp (key_of k))) (members_seen es)
seen-remove_entry es k = map-remove_entry_by key_of (λ (o : StoredObject). o.value) (key_cmp k) (name_cmp (key_of k)) (key_cmp-name_cmp k) es

pub option_map-copied : (o : Option (Bor StoredObject)) → option_map (λ (x : Bor StoredObject). x.now.value) o ≡ option_map (λ (o : StoredObject). o.value) (option_copied o)
option_map-copied None = refl
option_map-copied (Some x) = refl

pub is_some-map : (o : Option StoredObject) → is_some (option_map (λ (o : StoredObject). o.value) o) ≡ is_some o
is_some-map None = refl
is_some-map (Some o) = refl

pub length-seen : (es : List (Key × StoredObject)) → length (members_seen es) ≡ length es
length-seen es = length-map es (λ (e : Key × StoredObject). (key_of e.0, e.1.value))

-- ---- keys in order

above_seen : (k : Key) (es : List (Key × StoredObject)) → AllByRecursion (λ (y : Key). key_cmp k y ≡ Less) (keys_of es) → IsAbove name_cmp (key_of k) (members_seen es)
above_seen k [] h = tt
above_seen k (e ∷ es) h = (sym (key_cmp-name_cmp k e.0) ∙ h.0, above_seen k es h.1)

pub ascending_seen : (es : List (Key × StoredObject)) → IsStrictlySortedBy key_cmp (keys_of es) → IsAscending name_cmp (members_seen es)
unfolding IsStrictlySortedBy
ascending_seen [] h = tt
ascending_seen (e ∷ es) h = (above_seen e.0 es h.0, ascending_seen es h.1)

-- ---- how many there are

few_put_at : (k : Name) (d : Data) (m : Name × Data) (ms : Entries) (r : Ordering) → name_cmp k m.0 ≡ r → IsAscending name_cmp (m ∷ ms)
    → length (insert_entry name_cmp ms k d) ≤ length ms + cond (is_some (found k ms)) 0 1
    → length (match_ordering r ((k, d) ∷ m ∷ ms) ((m.0, d) ∷ ms) (m ∷ insert_entry name_cmp ms k d)) ≤ length (m ∷ ms) + cond (is_some (cond (is_eq r) (Some m.1) (found k ms))) 0 1
few_put_at k d m ms Less is up rest =
    let none : found k ms ≡ None = none_above name_cmp_total k ms (IsAbove-below name_cmp_total k m.0 ms is up.0) in
    let one : cond {A = ℕ} (is_some (found k ms)) 0 1 ≡ 1 = ap (λ o. cond (is_some o) 0 1) none in
    omega (arith, one)
few_put_at k d m ms Equal is up rest = omega arith
few_put_at k d m ms Greater is up rest = omega (arith, rest)

pub few_put : (k : Name) (d : Data) (ms : Entries) → IsAscending name_cmp ms → length (insert_entry name_cmp ms k d) ≤ length ms + cond (is_some (found k ms)) 0 1
few_put k d [] up = omega arith
few_put k d (m ∷ ms) up = few_put_at k d m ms (name_cmp k m.0) refl up (few_put k d ms up.1)

pub few_removed : (k : Name) (ms : Entries) → length (remove_entry (is_at (name_cmp k)) ms) ≤ length ms
few_removed k [] = omega arith
few_removed k (m ∷ ms) = by (is_at (name_cmp k) m.0) (few_removed k ms)
  where
    by : (b : Bool) → length (remove_entry (is_at (name_cmp k)) ms) ≤ length ms → length (cond b ms (m ∷ remove_entry (is_at (name_cmp k)) ms)) ≤ length (m ∷ ms)
    by true rest = omega arith
    by false rest = omega (arith, rest)
