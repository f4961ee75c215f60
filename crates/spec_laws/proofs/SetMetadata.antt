-- What the metadata of an object says once the server has set its own.
use Rattle.std.proofs.Common.{◌≡◌, ◌≤◌, ℕ, List, Bool, true, false, nat_lt, codes, bytes_eq, decimal, is_some, IfSome, Option, Some, None, option_and_then, refl, ap, ◌∙◌, arith}
use Rattle.serde_json.specs.Data.{Data, null, boolean, number, string, array, object, Members, put}
use Rattle.serde_json.specs.Find.{get_member, as_str}
use Rattle.spec_api.specs.declared.kinds.Kind.{Kind}
use Rattle.spec_api.specs.Defaults.{unsigned_value}
use Rattle.spec_api.specs.Metadata.{metadata, metadata_of, metadata_text, name, namespace, uid, version, at_revision}
use Rattle.spec_api.specs.NewObjects.{created, first_status, new_metadata, with_generation, with_status}
use Rattle.spec_api.specs.Replacements.{as_stored, generation, in_place, is_new_generation, keeping, unchanged_metadata, unchanged_members, next_generation, updated, with_next_generation}
use Rattle.spec_api.specs.Uids.{uid_text, cluster_word}
use Rattle.spec_api.specs.Values.{members_of, without}
use Rattle.serde_json.proofs.Views.{get_member-put, get_member-put_other}
use Rattle.spec_api.proofs.JsonMembers.{apart, get_member-without_other, metadata_of-with, text_in, text_in-put, text_in-put_other, text_in-without_other, metadata_text-with}

pub at_most : (limit n : ℕ) → nat_lt limit n ≡ false → n ≤ limit
at_most limit n h = grind arith

-- ---- at a revision

pub version-at_revision : (r : ℕ) (meta : Members) (d : Data) → version (at_revision r meta d) ≡ Some (decimal r)
version-at_revision r meta d =
    metadata_text-with (codes "resourceVersion") (put (codes "resourceVersion") (string (decimal r)) meta) d ∙ text_in-put (codes "resourceVersion") (decimal r) meta

pub text-at_revision : (q : List ℕ) (r : ℕ) (meta : Members) (d : Data) → bytes_eq q (codes "resourceVersion") ≡ false → metadata_text q (at_revision r meta d) ≡ text_in q meta
text-at_revision q r meta d other =
    metadata_text-with q (put (codes "resourceVersion") (string (decimal r)) meta) d ∙ text_in-put_other q (codes "resourceVersion") (string (decimal r)) meta other

-- ---- of a new object

module _ (k : Kind) (r : ℕ) (ns named moment : List ℕ) (meta : Members) where
  abbrev base : Members
  base = with_generation k (without (codes "deletionTimestamp") meta)

  abbrev with_name : Members
  with_name = put (codes "name") (string named) base

  abbrev with_namespace : Members
  with_namespace = put (codes "namespace") (string ns) with_name

  pub name-new_metadata : text_in (codes "name") (new_metadata k r ns named moment meta) ≡ Some named
  name-new_metadata =
      text_in-put_other (codes "name") (codes "uid") (string (uid_text cluster_word r)) (put (codes "creationTimestamp") (string moment) with_namespace) refl
      ∙ text_in-put_other (codes "name") (codes "creationTimestamp") (string moment) with_namespace refl
      ∙ text_in-put_other (codes "name") (codes "namespace") (string ns) with_name refl
      ∙ text_in-put (codes "name") named base

  pub namespace-new_metadata : text_in (codes "namespace") (new_metadata k r ns named moment meta) ≡ Some ns
  namespace-new_metadata =
      text_in-put_other (codes "namespace") (codes "uid") (string (uid_text cluster_word r)) (put (codes "creationTimestamp") (string moment) with_namespace) refl
      ∙ text_in-put_other (codes "namespace") (codes "creationTimestamp") (string moment) with_namespace refl
      ∙ text_in-put (codes "namespace") ns with_name

  pub uid-new_metadata : text_in (codes "uid") (new_metadata k r ns named moment meta) ≡ Some (uid_text cluster_word r)
  uid-new_metadata = text_in-put (codes "uid") (uid_text cluster_word r) (put (codes "creationTimestamp") (string moment) with_namespace)

pub uid-created : (k : Kind) (r : ℕ) (ns named moment : List ℕ) (o : Data) → uid (created k r ns named moment o) ≡ Some (uid_text cluster_word r)
uid-created k r ns named moment o =
    text-at_revision (codes "uid") r (new_metadata k r ns named moment (metadata_of o)) (object (with_status (first_status k) (members_of o))) refl
    ∙ uid-new_metadata k r ns named moment (metadata_of o)

-- ---- of the stored object

pub text-as_held_other : (q k : List ℕ) (o : Option Data) (ms : Members) → bytes_eq q k ≡ false → text_in q (as_stored k o ms) ≡ text_in q ms
text-as_held_other q k None ms other = text_in-without_other q k ms other
text-as_held_other q k (Some d) ms other = text_in-put_other q k d ms other

pub member-as_held_other : (q k : List ℕ) (o : Option Data) (ms : Members) → bytes_eq q k ≡ false → get_member q (as_stored k o ms) ≡ get_member q ms
member-as_held_other q k None ms other = get_member-without_other q k ms other
member-as_held_other q k (Some d) ms other = get_member-put_other q k d ms (apart q k other)

-- the stored object's member is there after
pub held_member : (k : List ℕ) (o : Option Data) (ms : Members) → is_some o ≡ true → get_member k (as_stored k o ms) ≡ o
held_member k None ms h = cc
held_member k (Some d) ms h = get_member-put k d ms

-- the stored object's member is there after, if it is a text
pub held_text : (k : List ℕ) (o : Option Data) (ms : Members) → IfSome (option_and_then as_str o) (λ t. text_in k (as_stored k o ms) ≡ Some t)
held_text k None ms = tt
held_text k (Some null) ms = tt
held_text k (Some (boolean b)) ms = tt
held_text k (Some (number n)) ms = tt
held_text k (Some (string s)) ms = text_in-put k s ms
held_text k (Some (array ds)) ms = tt
held_text k (Some (object os)) ms = tt

pub moved : (o a b : Option (List ℕ)) → a ≡ b → IfSome o (λ t. b ≡ Some t) → IfSome o (λ t. a ≡ Some t)
moved None a b is h = tt
moved (Some t) a b is h = is ∙ h

-- ---- of what stands in its place

module _ (k : Kind) (existing o : Data) where
  abbrev from : Members
  from = metadata_of existing

  abbrev m1 : Members
  m1 = as_stored (codes "namespace") (get_member (codes "namespace") from) (metadata_of o)

  abbrev m2 : Members
  m2 = as_stored (codes "uid") (get_member (codes "uid") from) m1

  abbrev m3 : Members
  m3 = as_stored (codes "creationTimestamp") (get_member (codes "creationTimestamp") from) m2

  abbrev m4 : Members
  m4 = as_stored (codes "deletionTimestamp") (get_member (codes "deletionTimestamp") from) m3

  abbrev m5 : Members
  m5 = as_stored (codes "generation") (get_member (codes "generation") from) m4

  -- what stands after the time of creation leaves a text as it is
  after_creation : (q : List ℕ) → bytes_eq q (codes "resourceVersion") ≡ false → bytes_eq q (codes "generation") ≡ false → bytes_eq q (codes "deletionTimestamp") ≡ false
      → metadata_text q (in_place k existing o) ≡ text_in q m3
  after_creation q a b c =
      metadata_text-with q (keeping unchanged_metadata from (metadata_of o)) (object (keeping (unchanged_members k) (members_of existing) (members_of o)))
      ∙ text-as_held_other q (codes "resourceVersion") (get_member (codes "resourceVersion") from) m5 a
      ∙ text-as_held_other q (codes "generation") (get_member (codes "generation") from) m4 b
      ∙ text-as_held_other q (codes "deletionTimestamp") (get_member (codes "deletionTimestamp") from) m3 c

  pub name-in_place : name (in_place k existing o) ≡ name o
  name-in_place =
      after_creation (codes "name") refl refl refl
      ∙ text-as_held_other (codes "name") (codes "creationTimestamp") (get_member (codes "creationTimestamp") from) m2 refl
      ∙ text-as_held_other (codes "name") (codes "uid") (get_member (codes "uid") from) m1 refl
      ∙ text-as_held_other (codes "name") (codes "namespace") (get_member (codes "namespace") from) (metadata_of o) refl

  pub namespace-in_place : IfSome (namespace existing) (λ t. namespace (in_place k existing o) ≡ Some t)
  namespace-in_place =
      moved (namespace existing) (namespace (in_place k existing o)) (text_in (codes "namespace") m1)
      (after_creation (codes "namespace") refl refl refl
      ∙ text-as_held_other (codes "namespace") (codes "creationTimestamp") (get_member (codes "creationTimestamp") from) m2 refl
      ∙ text-as_held_other (codes "namespace") (codes "uid") (get_member (codes "uid") from) m1 refl)
      (held_text (codes "namespace") (get_member (codes "namespace") from) (metadata_of o))

  pub uid-in_place : IfSome (uid existing) (λ t. uid (in_place k existing o) ≡ Some t)
  uid-in_place =
      moved (uid existing) (uid (in_place k existing o)) (text_in (codes "uid") m2)
      (after_creation (codes "uid") refl refl refl ∙ text-as_held_other (codes "uid") (codes "creationTimestamp") (get_member (codes "creationTimestamp") from) m2 refl)
      (held_text (codes "uid") (get_member (codes "uid") from) m1)

  pub creation-in_place : IfSome (metadata_text (codes "creationTimestamp") existing) (λ t. metadata_text (codes "creationTimestamp") (in_place k existing o) ≡ Some t)
  creation-in_place =
      moved (metadata_text (codes "creationTimestamp") existing) (metadata_text (codes "creationTimestamp") (in_place k existing o)) (text_in (codes "creationTimestamp") m3)
      (after_creation (codes "creationTimestamp") refl refl refl) (held_text (codes "creationTimestamp") (get_member (codes "creationTimestamp") from) m2)

  pub deletion-in_place : IfSome (metadata_text (codes "deletionTimestamp") existing) (λ t. metadata_text (codes "deletionTimestamp") (in_place k existing o) ≡ Some t)
  deletion-in_place =
      moved (metadata_text (codes "deletionTimestamp") existing) (metadata_text (codes "deletionTimestamp") (in_place k existing o)) (text_in (codes "deletionTimestamp") m4)
      (metadata_text-with (codes "deletionTimestamp") (keeping unchanged_metadata from (metadata_of o)) (object (keeping (unchanged_members k) (members_of existing) (members_of o)))
      ∙ text-as_held_other (codes "deletionTimestamp") (codes "resourceVersion") (get_member (codes "resourceVersion") from) m5 refl
      ∙ text-as_held_other (codes "deletionTimestamp") (codes "generation") (get_member (codes "generation") from) m4 refl)
      (held_text (codes "deletionTimestamp") (get_member (codes "deletionTimestamp") from) m3)

  -- what was there as the generation is there after
  pub generation-in_place : is_some (metadata (codes "generation") existing) ≡ true → metadata (codes "generation") (in_place k existing o) ≡ metadata (codes "generation") existing
  generation-in_place there =
      ap (get_member (codes "generation")) (metadata_of-with (keeping unchanged_metadata from (metadata_of o)) (object (keeping (unchanged_members k) (members_of existing) (members_of o))))
      ∙ member-as_held_other (codes "generation") (codes "resourceVersion") (get_member (codes "resourceVersion") from) m5 refl ∙ held_member (codes "generation") (get_member (codes "generation") from) m4 there

-- the next generation leaves a text as it is
pub text-with_next_generation : (q : List ℕ) (is_new : Bool) (existing : Data) (meta : Members) → bytes_eq q (codes "generation") ≡ false
    → text_in q (with_next_generation is_new existing meta) ≡ text_in q meta
text-with_next_generation q true existing meta other = text_in-put_other q (codes "generation") (unsigned_value (next_generation (generation existing))) meta other
text-with_next_generation q false existing meta other = refl

-- a text that an update leaves as its object has it
pub text-updated : (k : Kind) (q : List ℕ) (r : ℕ) (existing d : Data) → bytes_eq q (codes "resourceVersion") ≡ false → bytes_eq q (codes "generation") ≡ false
    → metadata_text q (updated k r existing d) ≡ metadata_text q d
text-updated k q r existing d a b =
    text-at_revision q r (with_next_generation (is_new_generation k existing d) existing (metadata_of d)) d a
    ∙ text-with_next_generation q (is_new_generation k existing d) existing (metadata_of d) b
