-- Reading an object: what it has to be, what is left out of it, and what is filled in.
use Rattle.std.specs.Prelude.{ℤ, Bool, true, false, not, nat_le, Result, Ok, Err, ◌&&◌, ◌||◌, ◌==◌, length, if◌then◌else◌, bytes_eq, int_le, is_some, option_map, unwrap_or, codes}
use Rattle.spec_api.specs.Texts.Values.{Num, Data, boolean, number, string, array, object, Items, no_items, item, Members, no_members, member, depth, as_object, as_i64, has_float, items_len, members_len, with_default, is_null}
use Rattle.spec_api.specs.declared.kinds.Kind.{Kind}
use Rattle.spec_api.specs.declared.kinds.Kind.TheVariants.{Pod}
use Rattle.spec_api.specs.declared.refusals.Part.{Part}
use Rattle.spec_api.specs.declared.refusals.Part.TheVariants as part
use Rattle.spec_api.specs.declared.schemas.Shape.{Shape}
use Rattle.spec_api.specs.declared.schemas.Shape.TheVariants.{Anything, Text, VersionOf, NameOf, Truth, Whole, TextList, List as ListOf, Object}
use Rattle.spec_api.specs.declared.schemas.Schema.{Schema}
use Rattle.spec_api.specs.declared.schemas.Schema.TheVariants.{Root, Unknown}
use Rattle.spec_api.specs.declared.schemas.Property.{Property}
use Rattle.spec_api.specs.Texts.Kinds.{api_version, kind_text}
use Rattle.spec_api.specs.Objects.Schemas.{property_at}

-- from the first number to the second
abbrev pub is_within : ℤ → ℤ → Num → Bool
is_within least most n = unwrap_or (option_map (λ z. int_le least z && int_le z most) (as_i64 n)) false

-- whether a value has a shape; a member that is null counts as absent (Kubernetes API Conventions, Nullable)
abbrev mutual
  pub fits : Shape → Data → Bool
  fits Anything d = true
  fits Text (string s) = true
  fits (VersionOf k) (string s) = bytes_eq s (api_version k)
  fits (NameOf k) (string s) = bytes_eq s (kind_text k)
  fits Truth (boolean b) = true
  fits (Whole least most) (number n) = is_within least most n
  fits TextList (array ds) = items_fit Text ds
  fits (ListOf p) (array ds) = items_fit (Object p) ds
  fits (Object p) (object ms) = members_fit p ms
  fits s d = false

  pub items_fit : Shape → Items → Bool
  items_fit s no_items = true
  items_fit s (item d ds) = fits s d && items_fit s ds

  pub members_fit : Schema → Members → Bool
  members_fit p no_members = true
  members_fit p (member k d ms) = (is_null d || fits (property_at p k).shape d) && members_fit p ms

abbrev pub is_empty : Data → Bool
is_empty (string s) = length s == 0
is_empty (array ds) = items_len ds == 0
is_empty (object ms) = members_len ms == 0
is_empty d = false

-- a member that is null counts as absent, and where its table says so an empty one too
abbrev pub is_absent : Property → Data → Bool
is_absent m d = is_null d || (m.drops_empty && is_empty d)

abbrev pub schema_of : Shape → Schema
schema_of (Object p) = p
schema_of s = Unknown

abbrev pub item_of : Shape → Shape
item_of TextList = Text
item_of (ListOf p) = Object p
item_of s = Anything

-- without the members, at every depth, that count as absent
abbrev mutual
  pub tidied : Shape → Data → Data
  tidied s (array ds) = array (tidied_items (item_of s) ds)
  tidied s (object ms) = object (tidied_members (schema_of s) ms)
  tidied s d = d

  pub tidied_items : Shape → Items → Items
  tidied_items s no_items = no_items
  tidied_items s (item d ds) = item (tidied s d) (tidied_items s ds)

  pub tidied_members : Schema → Members → Members
  tidied_members p no_members = no_members
  tidied_members p (member k d ms) =
      if is_absent (property_at p k) (tidied (property_at p k).shape d) then tidied_members p ms
      else member k (tidied (property_at p k).shape d) (tidied_members p ms)

abbrev pub empty : Data
empty = object no_members

-- a Pod has a spec
abbrev pub with_spec : Kind → Data → Data
with_spec Pod d = with_default (codes "spec") empty d
with_spec k d = d

-- what is filled in where it is absent: what the object is, its metadata, and a Pod's spec (Kubernetes API Conventions, Types)
abbrev pub filled : Kind → Data → Data
filled k d =
    with_default (codes "apiVersion") (string (api_version k)) (with_default (codes "kind") (string (kind_text k)) (with_spec k (with_default (codes "metadata") empty d)))

-- a JSON object without fractions or exponents, nested no deeper than 100, each object or list counting one
abbrev pub is_body : Data → Bool
is_body d = is_some (as_object d) && not (has_float d) && nat_le (depth d) 100

-- a value read as an object of a kind, or the part of the request that is at fault
abbrev pub reading : Kind → Data → Result Data Part
reading k d =
    if not (is_body d) then Err part.Body
    else (if fits (Object (Root k)) d then Ok (filled k (tidied (Object (Root k)) d)) else Err part.Object)
