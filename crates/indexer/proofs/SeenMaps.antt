-- What a look-up finds, by the members that a map is seen as.
use denote.Ref.{Bor}
use Rattle.std.specs.Option.{option_copied}
use Rattle.std.proofs.Common.{◌≡◌, List, true, Option, Some, None, cond, is_eq, option_map, Ordering, Less, Equal, Greater, refl, ap}
use Rattle.std.specs.Map.{remove_entry, lookup, keys_of}
use Rattle.std.specs.List.Sorted.{IsStrictlySortedBy}
use Rattle.std.proofs.lemmas.Cmp.{eq_by_cmp_equiv}
use Rattle.std.proofs.lemmas.Map.{lookup-remove_entry}
use Rattle.std.proofs.lemmas.Map.Keys.{IsDistinct-from_sorted}
use Rattle.object_keys.specs.contracts.key.KeyOrd.TheImpl.Laws.{total-law}
use Rattle.std.specs.BTreeMap.{is_at}
use Rattle.object_keys.specs.Keys.{key_of}
use Rattle.object_keys.specs.declared.key.Key.{Key}
use Rattle.object_keys.proofs.KeyOrder.{key_cmp-name_cmp}
use Rattle.object_keys.proofs.MapViews.{option_map-lookup}
use Rattle.spec_api.specs.History.{found}
use Rattle.spec_api.specs.Keys.{key_cmp as name_cmp}
use Rattle.reflector.proofs.SeenMaps.{key_cmp, data_of}
use Rattle.reflector.specs.Seen.{members_seen}
use Rattle.reflector.specs.declared.shared_objects.SharedObject.{SharedObject}

pub seen-lookup : (es : List (Key × SharedObject)) (k : Key) → option_map data_of (lookup (is_at (key_cmp k)) es) ≡ found (key_of k) (members_seen es)
seen-lookup es k = option_map-lookup key_of data_of (key_cmp k) (name_cmp (key_of k)) (key_cmp-name_cmp k) es

pub option_map-copied : (o : Option (Bor SharedObject)) → option_map (λ (x : Bor SharedObject). x.now.value) o ≡ option_map data_of (option_copied o)
option_map-copied None = refl
option_map-copied (Some x) = refl

equal : (r : Ordering) → is_eq r ≡ true → r ≡ Equal
equal Less is = cc
equal Equal is = refl
equal Greater is = cc

-- what is found after a removal
pub lookup-removed : (k q : Key) (es : List (Key × SharedObject)) → IsStrictlySortedBy key_cmp (keys_of es) → lookup (is_at (key_cmp q)) (remove_entry (is_at (key_cmp k)) es) ≡ cond (is_at (key_cmp k) q) None (lookup (is_at (key_cmp q)) es)
lookup-removed k q es sorted =
    lookup-remove_entry (eq_by_cmp_equiv total-law) (is_at (key_cmp k)) (λ x y is. ap is_eq (total-law.congr k x y (equal (key_cmp k x) is))) q es (IsDistinct-from_sorted key_cmp (keys_of es) sorted)
