-- What is read of a value with no float has none.
use Rattle.std.proofs.Common.{◌≡◌, List, ℕ, Bool, true, false, cond, codes, not, ◌||◌, refl}
use Rattle.std.specs.Ordering.{match_ordering, nat_cmp}
use Rattle.std.specs.Cmp.Lexicographic.{slice_cmp}
use Rattle.std.specs.declared.cmp.Ordering.{Ordering}
use Rattle.std.proofs.Common.{Less, Equal, Greater, is_some}
use Rattle.serde_json.specs.Data.{Data, null, boolean, number, string, array, object, Items, no_items, item, Members, no_members, member, put}
use Rattle.serde_json.specs.Find.{get}
use Rattle.serde_json.specs.Written.{has_float, items_have_float, members_have_float}
use Rattle.spec_api.proofs.Truths.{both_true, left_false, right_false}
use Rattle.spec_api.specs.declared.kinds.Kind.{Kind}
use Rattle.spec_api.specs.declared.kinds.Kind.TheVariants.{Pod}
use Rattle.spec_api.specs.declared.schemas.Shape.{Shape}
use Rattle.spec_api.specs.declared.schemas.Schema.{Schema}
use Rattle.spec_api.specs.Kinds.{api_version, kind_text}
use Rattle.spec_api.specs.Schemas.{property_at}
use Rattle.spec_api.specs.Values.{with_member, with_default}
use Rattle.spec_api.specs.Reading.{tidied, tidied_items, tidied_members, is_absent, item_of, schema_of, filled, with_spec, is_body, empty}

pub both_false : (a b : Bool) → a ≡ false → b ≡ false → (a || b) ≡ false
both_false a b h k = rw (h, k) refl

unless_absent : (b : Bool) (k : List ℕ) (d : Data) (ms : Members) → has_float d ≡ false → members_have_float ms ≡ false → members_have_float (cond b ms (member k d ms)) ≡ false
unless_absent true k d ms p q = q
unless_absent false k d ms p q = both_false _ _ p q

mutual
  pub has_float-tidied : (s : Shape) (d : Data) → has_float d ≡ false → has_float (tidied s d) ≡ false
  has_float-tidied s null h = refl
  has_float-tidied s (boolean b) h = refl
  has_float-tidied s (number n) h = h
  has_float-tidied s (string t) h = refl
  has_float-tidied s (array ds) h = items_tidied (item_of s) ds h
  has_float-tidied s (object ms) h = members_tidied (schema_of s) ms h

  pub items_tidied : (s : Shape) (ds : Items) → items_have_float ds ≡ false → items_have_float (tidied_items s ds) ≡ false
  items_tidied s no_items h = refl
  items_tidied s (item d ds) h = both_false _ _ (has_float-tidied s d (left_false (has_float d) _ h)) (items_tidied s ds (right_false (has_float d) _ h))

  pub members_tidied : (p : Schema) (ms : Members) → members_have_float ms ≡ false → members_have_float (tidied_members p ms) ≡ false
  members_tidied p no_members h = refl
  members_tidied p (member k d ms) h =
      unless_absent (is_absent (property_at p k) (tidied (property_at p k).shape d)) k _ _ (has_float-tidied (property_at p k).shape d (left_false (has_float d) _ h)) (members_tidied p ms (right_false (has_float d) _ h))

at_ordering : (o : Ordering) (a b c : Members) → members_have_float a ≡ false → members_have_float b ≡ false → members_have_float c ≡ false → members_have_float (match_ordering o a b c) ≡ false
at_ordering Less a b c p q r = p
at_ordering Equal a b c p q r = q
at_ordering Greater a b c p q r = r

pub members_have_float-put : (k : List ℕ) (d : Data) (ms : Members) → has_float d ≡ false → members_have_float ms ≡ false → members_have_float (put k d ms) ≡ false
members_have_float-put k d no_members p q = both_false _ _ p refl
members_have_float-put k d (member l e ms) p q =
    at_ordering (slice_cmp nat_cmp k l) _ _ _ (both_false _ _ p q) (both_false _ _ p (right_false (has_float e) _ q))
    (both_false _ _ (left_false (has_float e) _ q) (members_have_float-put k d ms p (right_false (has_float e) _ q)))

pub has_float-with_member : (k : List ℕ) (d v : Data) → has_float d ≡ false → has_float v ≡ false → has_float (with_member k d v) ≡ false
has_float-with_member k d null p q = refl
has_float-with_member k d (boolean c) p q = refl
has_float-with_member k d (number n) p q = q
has_float-with_member k d (string s) p q = refl
has_float-with_member k d (array ds) p q = q
has_float-with_member k d (object ms) p q = members_have_float-put k d ms p q

default_at : (b : Bool) (k : List ℕ) (e v : Data) → has_float e ≡ false → has_float v ≡ false → has_float (cond b v (with_member k e v)) ≡ false
default_at true k e v g h = h
default_at false k e v g h = has_float-with_member k e v g h

has_float-with_default : (k : List ℕ) (e v : Data) → has_float e ≡ false → has_float v ≡ false → has_float (with_default k e v) ≡ false
has_float-with_default k e v g h = default_at (is_some (get k v)) k e v g h

has_float-with_spec : (k : Kind) (v : Data) → has_float v ≡ false → has_float (with_spec k v) ≡ false
has_float-with_spec Pod v h = has_float-with_default (codes "spec") empty v refl h
has_float-with_spec k v h = h

pub has_float-filled : (k : Kind) (v : Data) → has_float v ≡ false → has_float (filled k v) ≡ false
has_float-filled k v h =
    let with_metadata = with_default (codes "metadata") empty v in
    let whole : has_float (with_spec k with_metadata) ≡ false = has_float-with_spec k with_metadata (has_float-with_default (codes "metadata") empty v refl h) in
    let named = with_default (codes "kind") (string (kind_text k)) (with_spec k with_metadata) in
    has_float-with_default (codes "apiVersion") (string (api_version k)) named refl (has_float-with_default (codes "kind") (string (kind_text k)) (with_spec k with_metadata) refl whole)

pub not_true : (b : Bool) → not b ≡ true → b ≡ false
not_true true h = cc
not_true false h = refl

pub has_float-is_body : (d : Data) → is_body d ≡ true → has_float d ≡ false
has_float-is_body d h = not_true (has_float d) (both_true _ _ (both_true _ _ h).0).1
