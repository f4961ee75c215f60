-- What an insert and a removal do to the members that a map is seen as.
use Rattle.std.proofs.Common.{◌≡◌, List, Ordering, option_map}
use denote.Ref.{Bor}
use Rattle.std.specs.Map.{remove_entry, lookup}
use Rattle.std.specs.BTreeMap.{insert_entry, is_at}
use Rattle.object_keys.specs.contracts.key.KeyOrd.TheImpl as key_ord
use Rattle.object_keys.specs.Keys.{key_of}
use Rattle.spec_api.specs.Keys.{key_cmp}
use Rattle.spec_api.specs.History.{found}
use Rattle.object_keys.specs.declared.key.Key.{Key}
use Rattle.meta.specs.declared.stored.StoredObject.{StoredObject}
use Rattle.object_keys.proofs.KeyOrder.{key_cmp-name_cmp}
use Rattle.object_keys.proofs.MapViews.{map-insert_entry, map-remove_entry_by, option_map-lookup}
use Rattle.revisions.specs.Seen.{seen}

abbrev pub ref_cmp : Bor Key → Bor Key → Ordering
ref_cmp x y = (key_ord.ghosts).cmp x.now y.now

pub seen-insert_entry : (es : List (Bor Key × Bor StoredObject)) (k : Bor Key) (o : Bor StoredObject) → seen (insert_entry ref_cmp es k o) ≡ insert_entry key_cmp (seen es) (key_of k.now) o.now.value
seen-insert_entry es k o = map-insert_entry (λ (k : Bor Key). key_of k.now) (λ (o : Bor StoredObject). o.now.value) ref_cmp key_cmp (λ a b. key_cmp-name_cmp a.now b.now) es k o

pub seen-remove_entry : (es : List (Bor Key × Bor StoredObject)) (k : Key) → seen (remove_entry (is_at (λ (y : Bor Key). (key_ord.ghosts).cmp k y.now)) es) ≡ remove_entry (is_at (key_cmp (key_of k))) (seen es)
seen-remove_entry es k = map-remove_entry_by (λ (k : Bor Key). key_of k.now) (λ (o : Bor StoredObject). o.now.value) (λ (y : Bor Key). (key_ord.ghosts).cmp k y.now) (key_cmp (key_of k)) (λ y. key_cmp-name_cmp k y.now) es

pub seen-lookup : (es : List (Bor Key × Bor StoredObject)) (k : Key) → option_map (λ (o : Bor StoredObject). o.now.value) (lookup (is_at (λ (y : Bor Key). (key_ord.ghosts).cmp k y.now)) es) ≡ found (key_of k) (seen es)
seen-lookup es k = option_map-lookup (λ (k : Bor Key). key_of k.now) (λ (o : Bor StoredObject). o.now.value) (λ (y : Bor Key). (key_ord.ghosts).cmp k y.now) (key_cmp (key_of k)) (λ y. key_cmp-name_cmp k y.now) es
