-- What is there may be asked again: it is as a parser gives it, and stays so where a member of it is changed.
use Rattle.std.specs.Prelude.{◌≡◌, ◌⊎◌, ℕ, List, [], ◌∷◌, Bool, true, Some, Ok, codes, unwrap_or}
use Rattle.std.specs.List.{AllByRecursion}
use Rattle.std.specs.Str.{IsUtf8}
use Rattle.serde_json.specs.Data.{Data, boolean, string, array, object, Items, no_items, item, no_members, member, put}
use Rattle.serde_json.specs.Find.{get}
use Rattle.spec_api.specs.declared.kinds.Kind.{Kind}
use Rattle.spec_api.specs.Checks.{in_spec}
use Rattle.spec_api.specs.History.{History, View, state, list}
use Rattle.spec_api.specs.Metadata.{metadata, metadata_of, with_metadata}
use Rattle.spec_api.specs.Keys.{Key, is_namespace, is_subdomain}
use Rattle.spec_api.specs.Reached.{IsParsed, AreParsed, IsReached}
use Rattle.spec_api.specs.Reading.{empty, reading}
use Rattle.spec_api.specs.Replacements.{as_stored, keeping}
use Rattle.spec_api.specs.Values.{members_of, inner_of, without}

-- ---- what is there

-- an object that is there is as a parser gives it, at every depth
abbrev pub StoredAreParsed : Type 0
StoredAreParsed = (h : History) (r : ℕ) (k : Key) (d : Data) → IsReached h → state h r k ≡ Some d → IsParsed d

-- and each of a list
abbrev pub ListedAreParsed : Type 0
ListedAreParsed = (h : History) (v : View) (r : ℕ) → IsReached h → AllByRecursion (λ (m : Key × Data). IsParsed m.1) (list h v r)

-- the key of an object that is there names a namespace and a name as they have to be, so a controller may create beside it
abbrev pub NamesAreValid : Type 0
NamesAreValid = (h : History) (r : ℕ) (k : Key) (d : Data) → IsReached h → state h r k ≡ Some d → (is_namespace k.namespace ≡ true) × (is_subdomain k.name ≡ true)

-- ---- what is changed

-- what is parsed stays so with a member set in its metadata, or removed from it
abbrev pub MetadataEditsStayParsed : Type 0
MetadataEditsStayParsed =
    (d e : Data) (q : List ℕ) → IsUtf8 q → IsParsed d → IsParsed e
    → IsParsed (with_metadata (put q e (metadata_of d)) d) × IsParsed (with_metadata (without q (metadata_of d)) d)

-- with another member, as its status
abbrev pub MembersStayParsed : Type 0
MembersStayParsed = (d e : Data) (q : List ℕ) → IsUtf8 q → IsParsed d → IsParsed e → IsParsed (object (put q e (members_of d)))

-- and with a member set in one of its members, as the replicas in its spec
abbrev pub InnerEditsStayParsed : Type 0
InnerEditsStayParsed = (d e : Data) (p q : List ℕ) → IsUtf8 p → IsUtf8 q → IsParsed d → IsParsed e → IsParsed (object (put p (object (put q e (inner_of (get p d)))) (members_of d)))

-- of owner references, a truth value
abbrev pub IsFlag : List ℕ → Type 0
IsFlag q = (q ≡ codes "controller") ⊎ (q ≡ codes "blockOwnerDeletion")

-- owner references of which each is left out, is as it was, or has a truth value set
pub data AreEdited : Items → Items → Type 0 where
  none : AreEdited no_items no_items
  left_out : (r : Data) (rs ss : Items) → AreEdited rs ss → AreEdited (item r rs) ss
  as_it_was : (r : Data) (rs ss : Items) → AreEdited rs ss → AreEdited (item r rs) (item r ss)
  set : (q : List ℕ) (b : Bool) (r : Data) (rs ss : Items) → IsFlag q → AreEdited rs ss → AreEdited (item r rs) (item (object (put q (boolean b) (members_of r))) ss)

-- such references are as a parser gives them, where they were so
abbrev pub ReferencesStayParsed : Type 0
ReferencesStayParsed = (rs ss : Items) → AreEdited rs ss → AreParsed rs → AreParsed ss

-- and an object that reads as itself does so with such references, if any are left
abbrev pub ReferencesReadAgain : Type 0
ReferencesReadAgain =
    (k : Kind) (d s : Data) (rs ss : Items) → reading k d ≡ Ok d → metadata (codes "ownerReferences") d ≡ Some (array rs) → AreEdited rs (item s ss)
    → (let e = with_metadata (put (codes "ownerReferences") (array (item s ss)) (metadata_of d)) d in reading k e ≡ Ok e)

-- what a pod has of its template's metadata
abbrev pub copied : List (List ℕ)
copied = codes "annotations" ∷ codes "finalizers" ∷ codes "labels" ∷ []

-- the pod that is made of an object's template, with owner references and a name to be made, is as a parser gives it (Kubernetes, ReplicaSet)
abbrev pub MadePodsAreParsed : Type 0
MadePodsAreParsed =
    (d : Data) (refs : Items) (named : List ℕ) → IsUtf8 named → IsParsed d → AreParsed refs
    → (let t = unwrap_or (in_spec (codes "template") d) empty in
    IsParsed
    (object
    (as_stored (codes "spec") (get (codes "spec") t)
    (member (codes "metadata")
    (object (put (codes "ownerReferences") (array refs) (put (codes "generateName") (string named) (keeping copied (inner_of (get (codes "metadata") t)) no_members))))
    no_members))))
