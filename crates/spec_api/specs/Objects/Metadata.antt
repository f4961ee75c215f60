-- What an object's metadata says (Kubernetes API Conventions, Metadata).
use Rattle.std.specs.Prelude.{ℕ, List, [], Bool, true, false, not, Option, Some, None, is_some, option_and_then, unwrap_or, codes, decimal, ◌∷◌}
use Rattle.std.specs.Str.{bytes_eq}
use Rattle.spec_api.specs.Texts.Values.{Data, string, object, Members, put, Items, no_items, item, get, get_member, as_str, as_bool, as_array, members_of, inner_of}

-- the members of an object's metadata
abbrev pub metadata_of : Data → Members
metadata_of d = inner_of (get (codes "metadata") d)

-- the object with this metadata
abbrev pub with_metadata : Members → Data → Data
with_metadata meta d = object (put (codes "metadata") (object meta) (members_of d))

-- the object with this metadata, at a revision (Kubernetes API Concepts, Resource versions)
abbrev pub at_revision : ℕ → Members → Data → Data
at_revision r meta d = with_metadata (put (codes "resourceVersion") (string (decimal r)) meta) d

-- a member of the metadata
abbrev pub metadata : List ℕ → Data → Option Data
metadata k d = get_member k (metadata_of d)

-- a text of the metadata
abbrev pub metadata_text : List ℕ → Data → Option (List ℕ)
metadata_text k d = option_and_then as_str (metadata k d)

abbrev pub name : Data → Option (List ℕ)
name d = metadata_text (codes "name") d

abbrev pub namespace : Data → Option (List ℕ)
namespace d = metadata_text (codes "namespace") d

abbrev pub uid : Data → Option (List ℕ)
uid d = metadata_text (codes "uid") d

-- the version of an object (Kubernetes API Concepts, Resource versions)
abbrev pub version : Data → Option (List ℕ)
version d = metadata_text (codes "resourceVersion") d

-- whether a text is named, and the object has another one, or none
abbrev pub differs : Option (List ℕ) → Option (List ℕ) → Bool
differs None stored = false
differs (Some s) None = true
differs (Some s) (Some t) = not (bytes_eq s t)

-- whether a text is named, and is another than this one
abbrev pub is_other : Option (List ℕ) → List ℕ → Bool
is_other named t = differs named (Some t)

-- whether deletionTimestamp is set (Kubernetes, Finalizers)
abbrev pub is_being_deleted : Data → Bool
is_being_deleted d = is_some (metadata_text (codes "deletionTimestamp") d)

-- an object's labels; one without the member has none
abbrev pub labels_of : Data → Members
labels_of d = inner_of (metadata (codes "labels") d)

-- the value of a label
abbrev pub label : List ℕ → Data → Option (List ℕ)
label k d = option_and_then as_str (option_and_then (get k) (metadata (codes "labels") d))

-- who owns an object, as a reference says
pub record Owner : Type 0 where
  pub api_version : Option (List ℕ)
  pub kind : Option (List ℕ)
  pub name : Option (List ℕ)
  pub uid : Option (List ℕ)
  pub is_controller : Bool
  pub blocks_deletion : Bool

abbrev pub text_at : List ℕ → Data → Option (List ℕ)
text_at k d = option_and_then as_str (get k d)

abbrev pub truth_at : List ℕ → Data → Bool
truth_at k d = unwrap_or (option_and_then as_bool (get k d)) false

abbrev pub owner : Data → Owner
owner d =
    record {
      api_version = text_at (codes "apiVersion") d;
      kind = text_at (codes "kind") d;
      name = text_at (codes "name") d;
      uid = text_at (codes "uid") d;
      is_controller = truth_at (codes "controller") d;
      blocks_deletion = truth_at (codes "blockOwnerDeletion") d;
    }

abbrev pub owners_in : Items → List Owner
owners_in no_items = []
owners_in (item d ds) = owner d ∷ owners_in ds

-- the owners, in the order of the references
abbrev pub owners : Data → List Owner
owners d = owners_in (unwrap_or (option_and_then as_array (metadata (codes "ownerReferences") d)) no_items)
