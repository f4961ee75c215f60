-- Objects with other owner references, or without a finalizer (Kubernetes, Owners and Dependents; Finalizers).
use Rattle.std.specs.Prelude.{ℕ, List, [], Bool, true, false, not, codes, unwrap_or, if◌then◌else◌}
use Rattle.std.specs.Str.{bytes_eq}
use Rattle.serde_json.specs.Data.{Data, Items, no_items, item, boolean, string, array, object, Members, no_members, put}
use Rattle.spec_api.specs.Checks.{finalizers, text_is}
use Rattle.spec_api.specs.Keys.{Key}
use Rattle.spec_api.specs.Kinds.{api_version, kind_text}
use Rattle.spec_api.specs.Metadata.{Owner, owner, metadata, metadata_of, with_metadata, uid}
use Rattle.spec_api.specs.SelectorValues.{items_in}
use Rattle.spec_api.specs.Values.{members_of}

-- the object with a list in its metadata
abbrev pub with_list : List ℕ → Items → Data → Data
with_list name items d = with_metadata (put name (array items) (metadata_of d)) d

-- those of the items that pass
abbrev pub only : (Data → Bool) → Items → Items
only test no_items = no_items
only test (item d ds) = if test d then item d (only test ds) else only test ds

-- the object without this finalizer
abbrev pub without_finalizer : List ℕ → Data → Data
without_finalizer t d = with_list (codes "finalizers") (only (λ f. not (text_is (bytes_eq t) f)) (finalizers d)) d

-- the owner references, as they are stored
abbrev pub references : Data → Items
references d = items_in (metadata (codes "ownerReferences") d)

-- the object with those of its references alone whose owner passes
abbrev pub keeping_owners : (Owner → Bool) → Data → Data
keeping_owners test d = with_list (codes "ownerReferences") (only (λ r. test (owner r)) (references d)) d

-- a reference for which its owner does not wait
abbrev pub unblocked : Data → Data
unblocked r = object (put (codes "blockOwnerDeletion") (boolean false) (members_of r))

abbrev pub all_unblocked : Items → Items
all_unblocked no_items = no_items
all_unblocked (item r rs) = item (unblocked r) (all_unblocked rs)

-- the object with no reference for which an owner waits
abbrev pub blocking_nobody : Data → Data
blocking_nobody d = with_list (codes "ownerReferences") (all_unblocked (references d)) d

-- ---- references to a controller

-- the members of the reference to an object as the controller
abbrev pub reference_members : Key → List ℕ → Members
reference_members k u =
    put (codes "uid") (string u)
    (put (codes "name") (string k.name)
    (put (codes "kind") (string (kind_text k.kind))
    (put (codes "controller") (boolean true)
    (put (codes "blockOwnerDeletion") (boolean true) (put (codes "apiVersion") (string (api_version k.kind)) no_members)))))

abbrev pub controller_reference : Key → Data → Data
controller_reference k d = object (reference_members k (unwrap_or (uid d) []))

-- the items with one more at their end
abbrev pub with_last : Data → Items → Items
with_last e no_items = item e no_items
with_last e (item d ds) = item d (with_last e ds)

-- the object with an owner more, as its controller
abbrev pub with_controller : Key → Data → Data → Data
with_controller k owner d = with_list (codes "ownerReferences") (with_last (controller_reference k owner) (references d)) d
