-- What is read of a ReplicaSet with another number of pods, or another revision: what was put.
use Rattle.std.proofs.Common.{◌≡◌, ◌==◌, ℕ, List, Bool, true, false, cond, codes, decimal, nat_lt, is_some, unwrap_or, option_map, Option, Some, None, option_and_then, Ok, Ordering, Less, Equal, Greater, nat_cmp, refl, sym, ap, ◌∙◌, subst, arith}
use Rattle.std.specs.Cmp.Lexicographic.{slice_cmp}
use Rattle.std.specs.Ordering.{match_ordering}
use Rattle.serde_json.specs.Data.{Data, null, boolean, number, string, array, object, Members, no_members, member, put}
use Rattle.serde_json.specs.Events.{members_len}
use Rattle.serde_json.specs.Find.{get, get_member, as_str}
use Rattle.serde_json.proofs.Views.{get_member-put, get_member-put_other}
use Rattle.spec_api.proofs.FirstStatus.{get-members_of}
use Rattle.spec_api.proofs.JsonMembers.{apart, metadata_of-with}
use Rattle.spec_api.specs.declared.kinds.Kind.TheVariants.{ReplicaSet}
use Rattle.spec_api.specs.declared.schemas.Schema.{Schema}
use Rattle.spec_api.specs.declared.schemas.Schema.TheVariants.{Root, Texts, Metadata as TheMetadata, ReplicaSetSpec}
use Rattle.spec_api.specs.declared.schemas.Shape.TheVariants.{Object as ObjectOf}
use Rattle.spec_api.specs.Defaults.{defaulted, unsigned_value, replica_set_defaults}
use Rattle.spec_api.specs.Kinds.{api_version, kind_text}
use Rattle.spec_api.specs.Metadata.{metadata, metadata_of, version}
use Rattle.spec_api.specs.Reading.{reading, filled, fits, is_body, schema_of, tidied, empty}
use Rattle.spec_api.specs.Schemas.{property_at}
use Rattle.spec_api.specs.Values.{members_of, inner_of, with_default, with_member}
use Rattle.spec_laws.proofs.NeatMembers.{Neat, Neat-get, Neat-tidy, Neat-metadata}
use Rattle.spec_laws.proofs.ReadAgain.{MembersTidy, opened, tidied_members-MembersTidy}
use Rattle.spec_laws.proofs.WholeObjects.{AreWhole}
use Rattle.spec_reconcile.specs.Deployments.{with_replicas}
use Rattle.spec_reconcile.specs.Revisions.{revision_annotation, revision, annotated, with_revision, raised}
use Rattle.sim_rest_command_laws.proofs.UnderNames.{default_other, metadata_filled}
use Rattle.sim_rest_command_laws.proofs.Reports.{inner_tidy, tidy_put}
use Rattle.sim_rest_command_laws.proofs.Updates.{not_zero}

-- ---- what is tidy stays so

-- the members of what is found among tidy ones are tidy
found_tidy : (n : ℕ) (p : Schema) (k : List ℕ) (ms : Members) → Neat n p ms → MembersTidy (schema_of (property_at p k).shape) (inner_of (get_member k ms))
found_tidy n p k ms neat = by (get_member k ms) refl
  where
    by : (o : Option Data) → get_member k ms ≡ o → MembersTidy (schema_of (property_at p k).shape) (inner_of o)
    by None is = tt
    by (Some d) is = inner_tidy (property_at p k).shape (Some d) (Neat-get n p k ms d is neat).2

put_some : (k : List ℕ) (d : Data) (ms : Members) → (members_len (put k d ms) == 0) ≡ false
put_some k d no_members = not_zero 1 (omega arith)
put_some k d (member l e ms) = by (slice_cmp nat_cmp k l)
  where
    put_first : Ordering → Members
    put_first o = match_ordering o (member k d (member l e ms)) (member l d ms) (member l e (put k d ms))

    by : (o : Ordering) → (members_len (put_first o) == 0) ≡ false
    by Less = not_zero (members_len (put_first Less)) (omega arith)
    by Equal = not_zero (members_len (put_first Equal)) (omega arith)
    by Greater = not_zero (members_len (put_first Greater)) (omega arith)

-- ---- a set with another revision

module _ (d : Data) (whole : AreWhole ReplicaSet (members_of d)) (there : is_some (get (codes "metadata") d) ≡ true) where
  meta_tidy : Neat 98 TheMetadata (metadata_of d)
  meta_tidy = subst (λ (o : Option Data). Neat 98 TheMetadata (inner_of o)) (sym (get-members_of (codes "metadata") d)) (Neat-metadata ReplicaSet (members_of d) whole.neat)

  pub record Raised (e : Data) : Type 0 where
    pub tidy : MembersTidy (Root ReplicaSet) (members_of e)
    pub spec : get (codes "spec") e ≡ get (codes "spec") d
    pub meta : is_some (get (codes "metadata") e) ≡ true
    pub version : version e ≡ version d

  as_it_was : Raised d
  as_it_was = record { tidy = Neat-tidy 99 (Root ReplicaSet) (members_of d) whole.neat; spec = refl; meta = there; version = refl }

  with_one : (due : ℕ) → Raised (with_revision due d)
  with_one due =
      let said = annotated due (inner_of (metadata (codes "annotations") d)) in
      let meta = put (codes "annotations") (object said) (metadata_of d) in
      let said_tidy : MembersTidy Texts said =
      tidy_put Texts revision_annotation (string (decimal due)) (inner_of (metadata (codes "annotations") d)) refl tt (found_tidy 98 TheMetadata (codes "annotations") (metadata_of d) meta_tidy) in
      let meta_is : MembersTidy TheMetadata meta =
      tidy_put TheMetadata (codes "annotations") (object said) (metadata_of d) (put_some revision_annotation (string (decimal due)) (inner_of (metadata (codes "annotations") d))) said_tidy
      (Neat-tidy 98 TheMetadata (metadata_of d) meta_tidy) in
      record {
        tidy = tidy_put (Root ReplicaSet) (codes "metadata") (object meta) (members_of d) refl meta_is (Neat-tidy 99 (Root ReplicaSet) (members_of d) whole.neat);
        spec = get_member-put_other (codes "spec") (codes "metadata") (object meta) (members_of d) (apart (codes "spec") (codes "metadata") refl) ∙ sym (get-members_of (codes "spec") d);
        meta = ap is_some (get_member-put (codes "metadata") (object meta) (members_of d));
        version =
            ap (λ (ms : Members). option_and_then as_str (get_member (codes "resourceVersion") ms)) (metadata_of-with meta d)
            ∙ ap (option_and_then as_str) (get_member-put_other (codes "resourceVersion") (codes "annotations") (object said) (metadata_of d) (apart (codes "resourceVersion") (codes "annotations") refl));
      }

  pub is_raised : (due : ℕ) → Raised (raised due d)
  is_raised due = by (nat_lt (revision d) due)
    where
      by : (b : Bool) → Raised (cond b (with_revision due d) d)
      by true = with_one due
      by false = as_it_was

-- ---- what is filled in

spec_filled : (d : Data) → get (codes "spec") (filled ReplicaSet d) ≡ get (codes "spec") d
spec_filled d =
    let one = with_default (codes "metadata") empty d in
    let two = with_default (codes "kind") (string (kind_text ReplicaSet)) one in
    default_other (codes "spec") (codes "apiVersion") (string (api_version ReplicaSet)) two refl
    ∙ default_other (codes "spec") (codes "kind") (string (kind_text ReplicaSet)) one refl ∙ default_other (codes "spec") (codes "metadata") empty d refl

-- where a spec says the number of pods nothing is filled in
pub spec_defaulted : (d : Data) (ms : Members) → get (codes "spec") d ≡ Some (object ms) → is_some (get_member (codes "replicas") ms) ≡ true → get (codes "spec") (defaulted ReplicaSet d) ≡ Some (object ms)
spec_defaulted d ms is there =
    ap (λ (o : Option Data). get (codes "spec") (unwrap_or (option_map (λ e. with_member (codes "spec") (replica_set_defaults e) d) o) d)) is
    ∙ ap (λ b. get (codes "spec") (with_member (codes "spec") (cond b (object ms) (with_member (codes "replicas") (unsigned_value 1) (object ms))) d)) there ∙ put_back d is
  where
    put_back : (d : Data) → get (codes "spec") d ≡ Some (object ms) → get (codes "spec") (with_member (codes "spec") (object ms) d) ≡ Some (object ms)
    put_back null is = cc
    put_back (boolean b) is = cc
    put_back (number n) is = cc
    put_back (string t) is = cc
    put_back (array ds) is = cc
    put_back (object all) is = get_member-put (codes "spec") (object ms) all

-- ---- a set with another number of pods

-- what is tidy stays so with this number in its spec, so it is read as it was put
module _ (d e : Data) (n : ℕ) (whole : AreWhole ReplicaSet (members_of d)) (there : is_some (get (codes "metadata") d) ≡ true) (raised : Raised d whole there e) where
  abbrev pub spec : Members
  spec = put (codes "replicas") (unsigned_value n) (inner_of (get (codes "spec") e))

  abbrev all : Members
  all = put (codes "spec") (object spec) (members_of e)

  spec_tidy : MembersTidy ReplicaSetSpec spec
  spec_tidy =
      let old : MembersTidy ReplicaSetSpec (inner_of (get (codes "spec") e)) =
      subst (λ (o : Option Data). MembersTidy ReplicaSetSpec (inner_of o)) (sym (raised.spec ∙ get-members_of (codes "spec") d)) (found_tidy 99 (Root ReplicaSet) (codes "spec") (members_of d) whole.neat) in
      tidy_put ReplicaSetSpec (codes "replicas") (unsigned_value n) (inner_of (get (codes "spec") e)) refl tt old

  all_tidy : MembersTidy (Root ReplicaSet) all
  all_tidy = tidy_put (Root ReplicaSet) (codes "spec") (object spec) (members_of e) refl spec_tidy raised.tidy

  module _ (first : Data) (read : reading ReplicaSet (with_replicas n e) ≡ Ok first) where
    is_filled : filled ReplicaSet (object all) ≡ first
    is_filled =
        let root = ObjectOf (Root ReplicaSet) in
        let parts = opened (is_body (object all)) (fits root (object all)) (filled ReplicaSet (tidied root (object all))) first read in
        ap (λ xs. filled ReplicaSet (object xs)) (sym (tidied_members-MembersTidy (Root ReplicaSet) all all_tidy)) ∙ parts.2

    pub spec_read : get (codes "spec") first ≡ Some (object spec)
    spec_read = ap (get (codes "spec")) (sym is_filled) ∙ spec_filled (object all) ∙ get_member-put (codes "spec") (object spec) (members_of e)

    pub metadata_read : metadata_of first ≡ metadata_of e
    metadata_read =
        let kept : get_member (codes "metadata") all ≡ get (codes "metadata") e = get_member-put_other (codes "metadata") (codes "spec") (object spec) (members_of e) (apart (codes "metadata") (codes "spec") refl) ∙ sym (get-members_of (codes "metadata") e) in
        ap metadata_of (sym is_filled) ∙ ap inner_of (metadata_filled ReplicaSet (object all) (ap is_some kept ∙ raised.meta)) ∙ ap inner_of kept
