-- An index beside the map of the same objects, through what is put, removed and looked up.
use Rattle.std.proofs.Common.{◌≡◌, List, Bool, true, false, cond, Option, option_map, is_eq, Ordering, Less, Equal, Greater, refl, sym, ap, ◌∙◌}
use Rattle.std.specs.List.Sorted.{IsStrictlySortedBy}
use Rattle.std.specs.Map.{keys_of}
use Rattle.std.specs.Ordering.{ordering_reverse}
use Rattle.std.specs.HashMap.{get}
use Rattle.serde_json.specs.Data.{Data}
use Rattle.spec_api.specs.Keys.{key_cmp as name_cmp}
use Rattle.spec_api.specs.History.{found, put_or_remove}
use Rattle.spec_api.specs.Keys.{is_same_key}
use Rattle.spec_api.proofs.PutLaws.{name_cmp_total, found-after}
use Rattle.object_keys.specs.Keys.{key_of}
use Rattle.object_keys.specs.contracts.key.KeyOrd.TheImpl.Laws.{matches_eq-law}
use Rattle.object_keys.specs.contracts.key.KeyPartialEq.TheImpl as key_eq
use Rattle.object_keys.specs.declared.key.Key.{Key}
use Rattle.meta.specs.declared.stored.StoredObject.{StoredObject}
use Rattle.object_keys.proofs.KeyOrder.{key_cmp-name_cmp}
use Rattle.store.specs.Seen.{members_seen, Index, IsIndexOf}
use Rattle.store.proofs.SeenMaps.{key_cmp, ascending_seen}

abbrev pub same_key : Key → Key → Bool
same_key = (key_eq.ghosts).eq

abbrev data_of : Option StoredObject → Option Data
data_of o = option_map (λ (o : StoredObject). o.value) o

-- keys are the same just where their names are
same_key-named : (a b : Key) → same_key a b ≡ is_eq (name_cmp (key_of a) (key_of b))
same_key-named a b = matches_eq-law a b ∙ ap is_eq (key_cmp-name_cmp a b)

swapped : (r : Ordering) → is_eq (ordering_reverse r) ≡ is_eq r
swapped Less = refl
swapped Equal = refl
swapped Greater = refl

same_key-turned : (a b : Key) → same_key a b ≡ is_same_key (key_of b) (key_of a)
same_key-turned a b = same_key-named a b ∙ ap is_eq (name_cmp_total.antisymm (key_of a) (key_of b)) ∙ swapped (name_cmp (key_of b) (key_of a))

either : (a b : Bool) (v x : Option StoredObject) (w y : Option Data) → a ≡ b → data_of v ≡ w → data_of x ≡ y → data_of (cond a v x) ≡ cond b w y
either true true v x w y same vw xy = vw
either false false v x w y same vw xy = xy
either true false v x w y same vw xy = cc
either false true v x w y same vw xy = cc

-- where the index and the members take the same under one name, the index stays that of the members
pub index_takes : (i j : Index) (es fs : List (Key × StoredObject)) (copy key : Key) (v : Option StoredObject) (put : Option Data) → key_of copy ≡ key_of key → data_of v ≡ put
    → ((q : Key) → get same_key j q ≡ cond (same_key copy q) v (get same_key i q)) → members_seen fs ≡ put_or_remove (members_seen es) (key_of key) put → IsStrictlySortedBy key_cmp (keys_of es)
    → IsIndexOf i (members_seen es) → IsIndexOf j (members_seen fs)
index_takes i j es fs copy key v put named vw put_in put_under ordered held q =
    let same : same_key copy q ≡ is_same_key (key_of q) (key_of key) = same_key-turned copy q ∙ ap (λ n. is_same_key (key_of q) n) named in
    ap data_of (put_in q)
    ∙ either (same_key copy q) (is_same_key (key_of q) (key_of key)) v (get same_key i q) put (found (key_of q) (members_seen es)) same vw (held q)
    ∙ sym (found-after (key_of q) (key_of key) put (members_seen es) (ascending_seen es ordered))
    ∙ ap (found (key_of q)) (sym put_under)

-- an index that has the same under each key is as good
pub index_alike : (i j : Index) (es fs : List (Key × StoredObject)) → ((q : Key) → get same_key j q ≡ get same_key i q) → fs ≡ es → IsIndexOf i (members_seen es) → IsIndexOf j (members_seen fs)
index_alike i j es fs alike same held q = ap data_of (alike q) ∙ held q ∙ ap (λ l. found (key_of q) (members_seen l)) (sym same)
