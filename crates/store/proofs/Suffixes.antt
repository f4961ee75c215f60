-- What is left of members in order after a place is the last of them.
use Rattle.std.proofs.Common.{◌≡◌, ◌∷◌, ◌++◌, [], cond, is_lt, Option, Some, None, Ordering, Less, Equal, Greater, refl, sym, ap, ◌∙◌, append_assoc}
use Rattle.std.specs.List.Sorted.{IsStrictlySortedBy}
use Rattle.std.specs.Map.{keys_of}
use Rattle.spec_api.specs.Keys.{Key as Name}
use Rattle.spec_api.specs.History.{View, Entries, viewed}
use Rattle.spec_api.specs.Pages.{Place, place_of, place_cmp, after_place}
use Rattle.spec_api.proofs.PageLists.{order, place_total, ascending_viewed, left_after, all_after}
use Rattle.spec_api.proofs.PutLaws.{IsAbove, IsAscending}
use Rattle.std.proofs.Common.{List}
use Rattle.object_keys.specs.declared.key.Key.{Key}
use Rattle.meta.specs.declared.stored.StoredObject.{StoredObject}
use Rattle.store.specs.Seen.{members_seen}
use Rattle.store.specs.Snapshots.{LeavesAfter}
use Rattle.store.proofs.SeenMaps.{key_cmp, ascending_seen}

-- below a member all those above it are after
all_above : (q : Place) (k : Name) (ms : Entries) → place_cmp q (place_of k) ≡ Less → IsAbove order k ms → after_place (Some q) ms ≡ ms
all_above q k [] low a = refl
all_above q k (m ∷ ms) low a = rw (place_total.trans q (place_of k) (place_of m.0) low a.0) (ap (λ z. m ∷ z) (all_above q k ms low a.1))

IsLast : Entries → Entries → Type 0
IsLast ms left = (front : Entries) × (ms ≡ front ++ left)

last_ones : (q : Place) (ms : Entries) → IsAscending order ms → IsLast ms (after_place (Some q) ms)
unfolding IsLast
last_ones q [] up = ([], refl)
last_ones q (m ∷ ms) up = by (place_cmp q (place_of m.0)) refl (last_ones q ms up.1)
  where
    by : (r : Ordering) → place_cmp q (place_of m.0) ≡ r → IsLast ms (after_place (Some q) ms) → IsLast (m ∷ ms) (cond (is_lt r) (m ∷ after_place (Some q) ms) (after_place (Some q) ms))
    by Less low rest = ([], ap (λ z. m ∷ z) (sym (all_above q m.0 ms low up.0)))
    by Equal same rest = (m ∷ rest.0, ap (λ z. m ∷ z) rest.1)
    by Greater high rest = (m ∷ rest.0, ap (λ z. m ∷ z) rest.1)

last_at : (p : Option Place) (ms : Entries) → IsAscending order ms → IsLast ms (after_place p ms)
unfolding IsLast
last_at None ms up = ([], sym (all_after ms))
last_at (Some q) ms up = last_ones q ms up

-- those after a member that is left
left_past : (p : Option Place) (k : Name) (ms : Entries) → IsAscending order ms → LeavesAfter k (after_place p ms) (after_place (Some (place_of k)) ms)
unfolding IsLast
left_past p k ms up before left d is =
    let last = last_at p ms up in
    left_after ms (last.0 ++ before) 1 ((k, d) ∷ left) (place_of k) up (last.1 ∙ ap (λ z. last.0 ++ z) is ∙ sym (append_assoc last.0 before ((k, d) ∷ left))) refl

pub gone_past : (v : View) (p : Option Place) (k : Name) (es : List (Key × StoredObject)) → IsStrictlySortedBy key_cmp (keys_of es)
    → LeavesAfter k (after_place p (viewed v (members_seen es))) (after_place (Some (place_of k)) (viewed v (members_seen es)))
gone_past v p k es sorted = left_past p k (viewed v (members_seen es)) (ascending_viewed v (members_seen es) (ascending_seen es sorted))
