-- What is left of members without those that count as absent, as the copy grows.
use Rattle.std.proofs.Common.{◌≡◌, ℕ, List, [], ◌∷◌, ◌++◌, map, Bool, true, false, cond, string_bytes, string_cmp, nat_cmp, Less, Greater, refl, ap, ◌∙◌}
use Rattle.std.proofs.lemmas.Cmp.{nat_list_cmp_total}
use Rattle.std.specs.Cmp.Lexicographic.{slice_cmp}
use Rattle.std.specs.List.{AllByRecursion}
use Rattle.std.specs.List.Sorted.{IsStrictlySortedBy}
use Rattle.std.specs.Map.{keys_of}
use Rattle.std.specs.Ordering.{ordering_reverse}
use Rattle.serde_json.specs.Data.{Data, Members, member, put}
use Rattle.serde_json.specs.View.{view, items_of, members_view}
use Rattle.serde_json.proofs.Views.{Entry}
use Rattle.spec_api.specs.declared.schemas.Shape.{Shape}
use Rattle.spec_api.specs.declared.schemas.Schema.{Schema}
use Rattle.spec_api.specs.Schemas.{property_at}
use Rattle.spec_api.specs.Reading.{tidied, tidied_items, tidied_members, is_absent}

pub tidied_items-items_of : (s : Shape) (ds : List Data) → tidied_items s (items_of ds) ≡ items_of (map (tidied s) ds)
tidied_items-items_of s [] = refl
tidied_items-items_of s (d ∷ ds) = rw (tidied_items-items_of s ds)

-- what is left of a member
abbrev pub left : Schema → Entry → Data
left p e = tidied (property_at p (string_bytes e.0)).shape (view e.1)

abbrev pub is_gone : Schema → Entry → Bool
is_gone p e = is_absent (property_at p (string_bytes e.0)) (left p e)

-- a member that counts as absent changes nothing at the end
pub tidied_members-absent_last : (p : Schema) (done : List Entry) (e : Entry) → is_gone p e ≡ true → tidied_members p (members_view done) ≡ tidied_members p (members_view (done ++ e ∷ []))
tidied_members-absent_last p [] e h = rw h
tidied_members-absent_last p (f ∷ done) e h = rw (tidied_members-absent_last p done e h)

below_middle : (first : Entry) (es : List Entry) (e : Entry) (more : List Entry) → AllByRecursion (λ y. string_cmp first.0 y ≡ Less) (keys_of (es ++ e ∷ more)) → string_cmp first.0 e.0 ≡ Less
below_middle first [] e more h = h.0
below_middle first (x ∷ es) e more h = below_middle first es e more h.1

put_past : (b : Bool) (k l : List ℕ) (x d : Data) (old new : Members) → slice_cmp nat_cmp k l ≡ Greater → put k x old ≡ new → put k x (cond b old (member l d old)) ≡ cond b new (member l d new)
put_past true k l x d old new above is = is
put_past false k l x d old new above is = rw above (ap (member l d) is)

-- another, above those before it, goes last
pub tidied_members-put_last : (p : Schema) (done : List Entry) (e : Entry) (more : List Entry) → IsStrictlySortedBy string_cmp (keys_of (done ++ e ∷ more)) → is_gone p e ≡ false
    → put (string_bytes e.0) (left p e) (tidied_members p (members_view done)) ≡ tidied_members p (members_view (done ++ e ∷ []))
unfolding IsStrictlySortedBy
tidied_members-put_last p [] e more h there = rw there
tidied_members-put_last p (first ∷ done) e more h there =
    let above : slice_cmp nat_cmp (string_bytes e.0) (string_bytes first.0) ≡ Greater =
    nat_list_cmp_total.antisymm (string_bytes e.0) (string_bytes first.0) ∙ ap ordering_reverse (below_middle first done e more h.0) in
    put_past (is_gone p first) _ _ _ _ _ _ above (tidied_members-put_last p done e more h.1 there)

one_more_at : (b : Bool) (p : Schema) (done : List Entry) (e : Entry) (more : List Entry) → IsStrictlySortedBy string_cmp (keys_of (done ++ e ∷ more)) → is_gone p e ≡ b
    → cond b (tidied_members p (members_view done)) (put (string_bytes e.0) (left p e) (tidied_members p (members_view done))) ≡ tidied_members p (members_view (done ++ e ∷ []))
one_more_at true p done e more h is = tidied_members-absent_last p done e is
one_more_at false p done e more h is = tidied_members-put_last p done e more h is

-- one more member, above those before it
pub tidied_members-one_more : (p : Schema) (done : List Entry) (e : Entry) (more : List Entry) → IsStrictlySortedBy string_cmp (keys_of (done ++ e ∷ more))
    → cond (is_absent (property_at p (string_bytes e.0)) (left p e)) (tidied_members p (members_view done)) (put (string_bytes e.0) (left p e) (tidied_members p (members_view done))) ≡ tidied_members p (members_view (done ++ e ∷ []))
tidied_members-one_more p done e more h = one_more_at _ p done e more h refl
