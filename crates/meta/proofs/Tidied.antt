-- What is read of an object is one.
use Rattle.std.proofs.Common.{◌≡◌, List, ℕ, Bool, true, false, cond, codes, refl}
use Rattle.std.proofs.Common.{is_some}
use Rattle.serde_json.specs.Data.{Data, null, boolean, number, string, array, object}
use Rattle.serde_json.specs.Find.{get, as_object}
use Rattle.spec_api.proofs.Truths.{both_true}
use Rattle.spec_api.specs.declared.kinds.Kind.{Kind}
use Rattle.spec_api.specs.declared.kinds.Kind.TheVariants.{Pod}
use Rattle.spec_api.specs.declared.schemas.Shape.{Shape}
use Rattle.spec_api.specs.Kinds.{api_version, kind_text}
use Rattle.spec_api.specs.Values.{with_member, with_default}
use Rattle.spec_api.specs.Reading.{tidied, filled, with_spec, is_body, empty}

abbrev pub is_object : Data → Bool
is_object d = is_some (as_object d)

is_object-tidied : (s : Shape) (d : Data) → is_object d ≡ true → is_object (tidied s d) ≡ true
is_object-tidied s null h = h
is_object-tidied s (boolean b) h = h
is_object-tidied s (number n) h = h
is_object-tidied s (string t) h = h
is_object-tidied s (array ds) h = h
is_object-tidied s (object ms) h = refl

pub is_object-with_member : (k : List ℕ) (d v : Data) → is_object v ≡ true → is_object (with_member k d v) ≡ true
is_object-with_member k d null h = h
is_object-with_member k d (boolean b) h = h
is_object-with_member k d (number n) h = h
is_object-with_member k d (string s) h = h
is_object-with_member k d (array ds) h = h
is_object-with_member k d (object ms) h = refl

object_default_at : (b : Bool) (k : List ℕ) (e v : Data) → is_object v ≡ true → is_object (cond b v (with_member k e v)) ≡ true
object_default_at true k e v h = h
object_default_at false k e v h = is_object-with_member k e v h

is_object-with_default : (k : List ℕ) (e v : Data) → is_object v ≡ true → is_object (with_default k e v) ≡ true
is_object-with_default k e v h = object_default_at (is_some (get k v)) k e v h

is_object-with_spec : (k : Kind) (v : Data) → is_object v ≡ true → is_object (with_spec k v) ≡ true
is_object-with_spec Pod v h = is_object-with_default (codes "spec") empty v h
is_object-with_spec k v h = h

is_object-filled : (k : Kind) (v : Data) → is_object v ≡ true → is_object (filled k v) ≡ true
is_object-filled k v h =
    let with_metadata = with_default (codes "metadata") empty v in
    let whole : is_object (with_spec k with_metadata) ≡ true = is_object-with_spec k with_metadata (is_object-with_default (codes "metadata") empty v h) in
    let named = with_default (codes "kind") (string (kind_text k)) (with_spec k with_metadata) in
    is_object-with_default (codes "apiVersion") (string (api_version k)) named (is_object-with_default (codes "kind") (string (kind_text k)) (with_spec k with_metadata) whole)

pub is_object-is_body : (d : Data) → is_body d ≡ true → is_object d ≡ true
is_object-is_body d h = (both_true _ _ (both_true _ _ h).0).0

-- what is read of a body is an object
pub is_object-read : (k : Kind) (s : Shape) (d : Data) → is_body d ≡ true → is_object (filled k (tidied s d)) ≡ true
is_object-read k s d h = is_object-filled k (tidied s d) (is_object-tidied s d (is_object-is_body d h))
