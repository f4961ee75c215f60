-- What an insertion and a removal do, by the members that a map is seen as.
use Rattle.std.proofs.Common.{◌≡◌, ◌∙◌, List, [], ◌∷◌, length, map, Bool, true, false, cond, Ordering, Less, Equal, Greater, refl, sym, ap}
use Rattle.std.specs.Map.{remove_entry}
use Rattle.std.specs.Ordering.{match_ordering}
use Rattle.spec_client_go.proofs.WorkKeyOrder.{name_tells}
use Rattle.shared_map.specs.Entries.{put_entry}
use Rattle.std.specs.BTreeMap.{insert_entry, is_at}
use Rattle.serde_json.specs.Data.{Data}
use Rattle.object_keys.specs.contracts.key.KeyOrd.TheImpl as key_ord
use Rattle.object_keys.specs.Keys.{key_of}
use Rattle.object_keys.specs.declared.key.Key.{Key}
use Rattle.object_keys.proofs.KeyOrder.{key_cmp-name_cmp}
use Rattle.object_keys.proofs.MapViews.{map-remove_entry_by}
use Rattle.spec_api.specs.Keys.{key_cmp as name_cmp}
use Rattle.spec_api.specs.Objects.{Object}
use Rattle.reflector.specs.Seen.{members_seen, HaveKinds}
use Rattle.spec_client_go.specs.Reflectors.{objects_of}
use Rattle.reflector.specs.declared.shared_objects.SharedObject.{SharedObject}

abbrev pub key_cmp : Key → Key → Ordering
key_cmp = (key_ord.ghosts).cmp

abbrev pub data_of : SharedObject → Data
data_of o = o.value

pub seen-remove_entry : (es : List (Key × SharedObject)) (k : Key) → members_seen (remove_entry (is_at (key_cmp k)) es) ≡ remove_entry (is_at (name_cmp (key_of k))) (members_seen es)
seen-remove_entry es k = map-remove_entry_by key_of data_of (key_cmp k) (name_cmp (key_of k)) (key_cmp-name_cmp k) es

-- what is put into a shared map is inserted into what it is seen as
pub seen-put_entry : (es : List (Key × SharedObject)) (e : Key × SharedObject) → members_seen (put_entry key_cmp es e) ≡ insert_entry name_cmp (members_seen es) (key_of e.0) e.1.value
seen-put_entry [] e = refl
seen-put_entry (f ∷ fs) e =
    by (key_cmp e.0 f.0) refl (seen-put_entry fs e)
    ∙ ap (λ r. match_ordering r ((key_of e.0, e.1.value) ∷ members_seen (f ∷ fs)) ((key_of f.0, e.1.value) ∷ members_seen fs) ((key_of f.0, f.1.value) ∷ insert_entry name_cmp (members_seen fs) (key_of e.0) e.1.value)) (key_cmp-name_cmp e.0 f.0)
  where
    by : (r : Ordering) → key_cmp e.0 f.0 ≡ r → members_seen (put_entry key_cmp fs e) ≡ insert_entry name_cmp (members_seen fs) (key_of e.0) e.1.value
        → members_seen (match_ordering r (e ∷ f ∷ fs) (e ∷ fs) (f ∷ put_entry key_cmp fs e))
        ≡ match_ordering r ((key_of e.0, e.1.value) ∷ members_seen (f ∷ fs)) ((key_of f.0, e.1.value) ∷ members_seen fs) ((key_of f.0, f.1.value) ∷ insert_entry name_cmp (members_seen fs) (key_of e.0) e.1.value)
    by Less is rest = refl
    by Equal is rest = ap (λ n. (n, e.1.value) ∷ members_seen fs) (name_tells (key_of e.0) (key_of f.0) (sym (key_cmp-name_cmp e.0 f.0) ∙ is))
    by Greater is rest = ap (λ ms. (key_of f.0, f.1.value) ∷ ms) rest

-- ---- kinds of keys

pub kinds_put : (es : List (Key × SharedObject)) (e : Key × SharedObject) → e.0.kind ≡ e.1.kind → HaveKinds es → HaveKinds (put_entry key_cmp es e)
kinds_put [] e h a = (h, tt)
kinds_put (f ∷ fs) e h a = by (key_cmp e.0 f.0) (kinds_put fs e h a.1)
  where
    by : (r : Ordering) → HaveKinds (put_entry key_cmp fs e) → HaveKinds (match_ordering r (e ∷ f ∷ fs) (e ∷ fs) (f ∷ put_entry key_cmp fs e))
    by Less later = (h, a)
    by Equal later = (h, a.1)
    by Greater later = (a.0, later)

pub kinds_removed : (es : List (Key × SharedObject)) (k : Key) → HaveKinds es → HaveKinds (remove_entry (is_at (key_cmp k)) es)
kinds_removed [] k a = tt
kinds_removed (f ∷ fs) k a = by (is_at (key_cmp k) f.0) (kinds_removed fs k a.1)
  where
    by : (b : Bool) → HaveKinds (remove_entry (is_at (key_cmp k)) fs) → HaveKinds (cond b fs (f ∷ remove_entry (is_at (key_cmp k)) fs))
    by true later = a.1
    by false later = (a.0, later)

-- ---- their objects

abbrev pub values : List (Key × SharedObject) → List Object
values es = map (λ e. e.1) es

pub values_seen : (es : List (Key × SharedObject)) → HaveKinds es → values es ≡ objects_of (members_seen es)
values_seen [] a = refl
values_seen (e ∷ es) a = ap (λ k. record { kind = k; value = e.1.value } ∷ values es) (sym a.0) ∙ ap (λ os. record { kind = e.0.kind; value = e.1.value } ∷ os) (values_seen es a.1)

pub emptied : {T : Type 0} → (xs : List T) → length xs ≡ 0 → xs ≡ []
emptied [] h = refl
emptied (x ∷ xs) h = cc
