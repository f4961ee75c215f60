-- Members of a map: what is put, removed and looked up.
use Rattle.std.proofs.Common.{◌≡◌, ℕ, List, [], ◌∷◌, Bool, true, false, cond, Option, Some, None, option_and_then, Ordering, Less, Equal, Greater, string_bytes, nat_cmp, is_eq, is_some, unwrap_or, rules, refl, ap, ◌∙◌}
use Rattle.std.proofs.lemmas.Cmp.{nat_list_cmp_total, tied_itself}
use Rattle.std.specs.Cmp.Lexicographic.{slice_cmp}
use Rattle.std.specs.Map.{remove_entry}
use Rattle.std.specs.BTreeMap.{is_at}
use Rattle.std.specs.Ordering.{match_ordering}
use Rattle.serde_json.specs.Data.{Data, null, boolean, number, string, array, object, Members, no_members, member, put}
use Rattle.serde_json.specs.Find.{get, get_member, as_object}
use Rattle.serde_json.specs.View.{view, members_view}
use Rattle.serde_json.specs.declared.value.Value.{Null, the_lemmas}
use Rattle.serde_json.proofs.Views.{Entry}
use Rattle.spec_api.specs.Values.{members_of, inner_of, without, found_or_null}

members_view-cond : (b : Bool) (xs ys : List Entry) → members_view (cond b xs ys) ≡ cond b (members_view xs) (members_view ys)
members_view-cond true xs ys = refl
members_view-cond false xs ys = refl

-- the entries without that at a name
pub members_view-remove_entry : (name : List ℕ) (es : List Entry) → members_view (remove_entry (is_at (λ k. slice_cmp nat_cmp name (string_bytes k))) es) ≡ without name (members_view es)
members_view-remove_entry name [] = refl
members_view-remove_entry name (e ∷ es) =
    members_view-cond (is_eq (slice_cmp nat_cmp name (string_bytes e.0))) es _ ∙ ap (λ r. cond (is_eq (slice_cmp nat_cmp name (string_bytes e.0))) (members_view es) (member (string_bytes e.0) (view e.1) r)) (members_view-remove_entry name es)

same_text : (k : List ℕ) → slice_cmp nat_cmp k k ≡ Equal
same_text k = tied_itself nat_list_cmp_total k

put-put_at : (o : Ordering) (k l : List ℕ) (d e f : Data) (ms : Members) → slice_cmp nat_cmp k l ≡ o → put k d (put k e ms) ≡ put k d ms
    → put k d (match_ordering o (member k e (member l f ms)) (member l e ms) (member l f (put k e ms))) ≡ match_ordering o (member k d (member l f ms)) (member l d ms) (member l f (put k d ms))
put-put_at Less k l d e f ms is later = rw same_text
put-put_at Equal k l d e f ms is later = rw is
put-put_at Greater k l d e f ms is later = rw is (ap (member l f) later)

-- of two values put at a name the last stands
pub put-put : (k : List ℕ) (d e : Data) (ms : Members) → put k d (put k e ms) ≡ put k d ms
put-put k d e no_members = rw same_text
put-put k d e (member l f ms) = put-put_at (slice_cmp nat_cmp k l) k l d e f ms refl (put-put k d e ms)

-- an object is its members
pub object-members_of : (d : Data) → is_some (as_object d) ≡ true → object (members_of d) ≡ d
object-members_of null h = cc
object-members_of (boolean b) h = cc
object-members_of (number n) h = cc
object-members_of (string s) h = cc
object-members_of (array ds) h = cc
object-members_of (object ms) h = refl

pub get-members_of : (k : List ℕ) (d : Data) → get k d ≡ get_member k (members_of d)
get-members_of k null = refl
get-members_of k (boolean b) = refl
get-members_of k (number n) = refl
get-members_of k (string s) = refl
get-members_of k (array ds) = refl
get-members_of k (object ms) = refl

pub get-inner_of : (k : List ℕ) (o : Option Data) → option_and_then (get k) o ≡ get_member k (inner_of o)
get-inner_of k None = refl
get-inner_of k (Some d) = get-members_of k d

pub view-Null : view Null ≡ null
view-Null = search (rules, the_lemmas)

members_of-found : (o : Option Data) → members_of (unwrap_or o null) ≡ inner_of o
members_of-found None = refl
members_of-found (Some d) = refl

-- the members of the object at a name, or none
pub members_of-found_or_null : (k : List ℕ) (ms : Members) → members_of (found_or_null k ms) ≡ inner_of (get_member k ms)
members_of-found_or_null k ms = members_of-found (get_member k ms)
