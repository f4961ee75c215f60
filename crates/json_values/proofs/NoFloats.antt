-- What is set in values with no float, if it has none, leaves none.
use Rattle.std.proofs.Common.{◌≡◌, List, ℕ, Bool, true, false, cond, codes, Bor, Option, Some, None, IfSome, option_map, Result, Ok, Err, OnOk, OnErr, Ordering, Less, Equal, Greater, nat_cmp, is_eq, refl, ap, ◌∙◌}
use Rattle.std.specs.Cmp.Lexicographic.{slice_cmp}
use Rattle.std.specs.Ordering.{match_ordering}
use Rattle.serde_json.specs.Data.{Data, null, boolean, number, string, array, object, Members, no_members, member, put}
use Rattle.serde_json.specs.Find.{get, get_member}
use Rattle.serde_json.specs.Written.{has_float, members_have_float}
use Rattle.serde_json.specs.View.{view, members_view}
use Rattle.serde_json.specs.declared.value.Value.{Value}
use Rattle.serde_json.proofs.Views.{Entry}
use Rattle.spec_api.proofs.Truths.{left_false, right_false}
use Rattle.spec_api.proofs.NoFloatsRead.{both_false, members_have_float-put}
use Rattle.spec_api.specs.Metadata.{metadata_of, metadata}
use Rattle.spec_api.specs.Values.{members_of, inner_of, without}

-- the members, without one
without_at : (b : Bool) (a c : Members) → members_have_float a ≡ false → members_have_float c ≡ false → members_have_float (cond b a c) ≡ false
without_at true a c p q = p
without_at false a c p q = q

pub members_have_float-without : (k : List ℕ) (ms : Members) → members_have_float ms ≡ false → members_have_float (without k ms) ≡ false
members_have_float-without k no_members h = refl
members_have_float-without k (member l e ms) h =
    let rest = right_false (has_float e) (members_have_float ms) h in
    without_at (is_eq (slice_cmp nat_cmp k l)) ms (member l e (without k ms)) rest (both_false (has_float e) _ (left_false (has_float e) _ h) (members_have_float-without k ms rest))

-- a value that is found
abbrev pub no_float : Option Data → Type 0
no_float None = Unit {0}
no_float (Some d) = has_float d ≡ false

found_no_float_at : (o : Ordering) (e : Data) (rest : Option Data) → has_float e ≡ false → no_float rest → no_float (match_ordering o rest (Some e) rest)
found_no_float_at Less e rest p q = q
found_no_float_at Equal e rest p q = p
found_no_float_at Greater e rest p q = q

pub found_no_float : (k : List ℕ) (ms : Members) → members_have_float ms ≡ false → no_float (get_member k ms)
found_no_float k no_members h = tt
found_no_float k (member l e ms) h = found_no_float_at (slice_cmp nat_cmp k l) e (get_member k ms) (left_false (has_float e) _ h) (found_no_float k ms (right_false (has_float e) _ h))

pub members_of-no_float : (d : Data) → has_float d ≡ false → members_have_float (members_of d) ≡ false
members_of-no_float null h = refl
members_of-no_float (boolean b) h = refl
members_of-no_float (number n) h = refl
members_of-no_float (string s) h = refl
members_of-no_float (array ds) h = refl
members_of-no_float (object ms) h = h

pub inner_of-no_float : (o : Option Data) → no_float o → members_have_float (inner_of o) ≡ false
inner_of-no_float None h = refl
inner_of-no_float (Some d) h = members_of-no_float d h

pub get_no_float : (k : List ℕ) (d : Data) → has_float d ≡ false → no_float (get k d)
get_no_float k null h = tt
get_no_float k (boolean b) h = tt
get_no_float k (number n) h = tt
get_no_float k (string s) h = tt
get_no_float k (array ds) h = tt
get_no_float k (object ms) h = found_no_float k ms h

pub metadata_of-no_float : (d : Data) → has_float d ≡ false → members_have_float (metadata_of d) ≡ false
metadata_of-no_float d h = inner_of-no_float (get (codes "metadata") d) (get_no_float (codes "metadata") d h)

pub metadata-no_float : (k : List ℕ) (d : Data) → has_float d ≡ false → no_float (metadata k d)
metadata-no_float k d h = found_no_float k (metadata_of d) (metadata_of-no_float d h)

-- a borrowed value that is found
pub found-no_float : (r : Option (Bor Value)) → no_float (option_map (λ v. view v.now) r) → IfSome r (λ v. has_float (view v.now) ≡ false)
found-no_float None h = tt
found-no_float (Some v) h = h

-- after a put, whether there was memory for it or not
pub after_put-no_float : {X Y : Type 0} (r : Result X Y) (k : List ℕ) (d : Data) (old new : List Entry) → OnOk r (members_view new ≡ put k d (members_view old)) → OnErr r (new ≡ old) → has_float d ≡ false
    → members_have_float (members_view old) ≡ false → members_have_float (members_view new) ≡ false
after_put-no_float (Ok x) k d old new ok err p q = ap members_have_float ok ∙ members_have_float-put k d (members_view old) p q
after_put-no_float (Err e) k d old new ok err p q = ap (λ es. members_have_float (members_view es)) err ∙ q
