-- Keys in order say names in order.
use Rattle.std.proofs.Common.{◌≡◌, List, [], ◌∷◌, Less, sym, ◌∙◌}
use Rattle.std.specs.List.{AllByRecursion}
use Rattle.std.specs.List.Sorted.{IsStrictlySortedBy}
use Rattle.std.specs.Map.{keys_of}
use Rattle.spec_api.specs.Keys.{Key as Name, key_cmp as name_cmp}
use Rattle.object_keys.specs.Keys.{key_of}
use Rattle.object_keys.specs.declared.key.Key.{Key}
use Rattle.object_keys.proofs.KeyOrder.{key_cmp-name_cmp}
use Rattle.reflector.specs.declared.shared_objects.SharedObject.{SharedObject}
use Rattle.reflector.specs.Seen.{members_seen}
use Rattle.reflector.proofs.SeenMaps.{key_cmp}

above_seen : (k : Key) (es : List (Key × SharedObject)) → AllByRecursion (λ (y : Key). key_cmp k y ≡ Less) (keys_of es) → AllByRecursion (λ (y : Name). name_cmp (key_of k) y ≡ Less) (keys_of (members_seen es))
above_seen k [] h = tt
above_seen k (e ∷ es) h = (sym (key_cmp-name_cmp k e.0) ∙ h.0, above_seen k es h.1)

pub in_order_seen : (es : List (Key × SharedObject)) → IsStrictlySortedBy key_cmp (keys_of es) → IsStrictlySortedBy name_cmp (keys_of (members_seen es))
unfolding IsStrictlySortedBy
in_order_seen [] h = tt
in_order_seen (e ∷ es) h = (above_seen e.0 es h.0, in_order_seen es h.1)
