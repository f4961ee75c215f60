-- What is stored of the ReplicaSet that a Deployment creates: its one controller reference is to the Deployment.
use Rattle.std.proofs.Common.{◌≡◌, ℕ, List, [], ◌∷◌, Bool, true, false, cond, codes, filter, filter_map, unwrap_or, Option, Some, option_and_then, Ok, refl, ap, ◌∙◌}
use Rattle.serde_json.specs.Data.{Data, string, array, object, no_items, item, Members, no_members, put}
use Rattle.serde_json.specs.Find.{get_member, as_array}
use Rattle.serde_json.proofs.Views.{get_member-put, get_member-put_other}
use Rattle.spec_api.proofs.JsonMembers.{apart, get_member-without_other}
use Rattle.spec_api.specs.declared.kinds.Kind.{Kind}
use Rattle.spec_api.specs.declared.kinds.Kind.TheVariants.{ConfigMap, Pod, ReplicaSet, Deployment}
use Rattle.spec_api.specs.declared.schemas.Schema.TheVariants.{Metadata as TheMetadata}
use Rattle.spec_api.specs.Defaults.{unsigned_value}
use Rattle.spec_api.specs.Keys.{Key}
use Rattle.spec_api.specs.Kinds.{has_generation}
use Rattle.spec_api.specs.Metadata.{Owner, metadata, metadata_of, owners_in, uid}
use Rattle.spec_api.specs.NewObjects.{created, new_metadata, with_first_status, with_generation}
use Rattle.spec_api.specs.Reading.{tidied_members}
use Rattle.spec_api.specs.Values.{without}
use Rattle.spec_api.specs.Verbs.{object_in}
use Rattle.spec_client_go.specs.OwnerReferences.{namespace_of, key_named, controls_as, controller_keys}
use Rattle.spec_laws.proofs.Removals.{member-at_revision}
use Rattle.spec_laws.proofs.VerbLaws.{metadata_of-defaulted}
use Rattle.spec_laws.proofs.SetMetadata.{text-at_revision, namespace-new_metadata}
use Rattle.spec_reconcile.specs.Deployments.{Rollout, new_object, hash_of, new_name, due}
use Rattle.spec_reconcile.specs.MetadataEdits.{controller_reference, reference_members}
use Rattle.spec_reconcile.specs.NewPods.{template}
use Rattle.spec_reconcile.specs.Revisions.{annotated}
use Rattle.spec_reconcile.specs.Templates.{selector, new_set_metadata, new_set_spec, with_hash}
use Rattle.spec_api.specs.Metadata.{labels_of}
use Rattle.sim_rest_command_laws.proofs.ListEdits.{meta_read}
use Rattle.sim_rest_command_laws.proofs.UnderNames.{found_tidied}
use Rattle.sim_rest_command_laws.proofs.Updates.{said}

generation_other : (b : Bool) (ms : Members) → get_member (codes "ownerReferences") (cond b (put (codes "generation") (unsigned_value 1) ms) ms) ≡ get_member (codes "ownerReferences") ms
generation_other true ms = get_member-put_other (codes "ownerReferences") (codes "generation") (unsigned_value 1) ms (apart (codes "ownerReferences") (codes "generation") refl)
generation_other false ms = refl

-- the server leaves the references of what is created
references_created : (k : Kind) (r : ℕ) (ns named moment : List ℕ) (o : Data) → metadata (codes "ownerReferences") (created k r ns named moment o) ≡ metadata (codes "ownerReferences") o
references_created k r ns named moment o =
    let q = codes "ownerReferences" in
    let m = metadata_of o in
    let m1 = without (codes "deletionTimestamp") m in
    let m2 = with_generation k m1 in
    let m3 = put (codes "name") (string named) m2 in
    let m4 = put (codes "namespace") (string ns) m3 in
    let m5 = put (codes "creationTimestamp") (string moment) m4 in
    member-at_revision q r (new_metadata k r ns named moment m) (with_first_status k o) refl
    ∙ get_member-put_other q (codes "uid") _ m5 (apart q (codes "uid") refl)
    ∙ get_member-put_other q (codes "creationTimestamp") (string moment) m4 (apart q (codes "creationTimestamp") refl)
    ∙ get_member-put_other q (codes "namespace") (string ns) m3 (apart q (codes "namespace") refl)
    ∙ get_member-put_other q (codes "name") (string named) m2 (apart q (codes "name") refl)
    ∙ generation_other (has_generation k) m1
    ∙ get_member-without_other q (codes "deletionTimestamp") m refl

-- the keys that references as the controller of a kind name in a namespace
abbrev named_by : List ℕ → Option Data → List Key
named_by ns found = filter_map (λ (o : Owner). key_named ns Deployment o.name) (filter (controls_as Deployment) (owners_in (unwrap_or (option_and_then as_array found) no_items)))

-- the reference to a Deployment names its key
pub reference_names : (k : Key) (u : List ℕ) → k.kind ≡ Deployment → named_by k.namespace (Some (array (item (object (reference_members k u)) no_items))) ≡ k ∷ []
reference_names k u is = by k.kind k.namespace k.name is
  where
    by : (kind : Kind) (ns n : List ℕ) → kind ≡ Deployment → (let j : Key = record { kind = kind; namespace = ns; name = n } in named_by ns (Some (array (item (object (reference_members j u)) no_items))) ≡ j ∷ [])
    by Deployment ns n e = refl
    by ConfigMap ns n e = cc
    by Pod ns n e = cc
    by ReplicaSet ns n e = cc

module _ (r : Rollout) (n : ℕ) (o : Data) (is : object_in ReplicaSet (new_object r n) ≡ Ok o) where
  abbrev reference : Data
  reference = controller_reference r.key r.deployment

  abbrev labels : Members
  labels = put (codes "labels") (object (with_hash (hash_of r.deployment) (labels_of (template r.deployment)))) (put (codes "annotations") (object (annotated (due r) no_members)) no_members)

  abbrev below : Members
  below = put (codes "name") (string (new_name r)) labels

  abbrev meta : Members
  meta = new_set_metadata (new_name r) reference (hash_of r.deployment) (template r.deployment) (annotated (due r) no_members)

  abbrev rest : Data
  rest = object (put (codes "spec") (object (new_set_spec (selector r.deployment) (hash_of r.deployment) (template r.deployment) n)) no_members)

  metadata_is : metadata_of o ≡ tidied_members TheMetadata meta
  metadata_is =
      let z = said ReplicaSet (new_object r n) o is in
      ap metadata_of z.is ∙ metadata_of-defaulted ReplicaSet z.first ∙ meta_read ReplicaSet meta rest z.first z.reads

  references_are : metadata (codes "ownerReferences") o ≡ Some (array (item reference no_items))
  references_are =
      ap (get_member (codes "ownerReferences")) metadata_is
      ∙ found_tidied TheMetadata (codes "ownerReferences") meta (array (item reference no_items)) (get_member-put (codes "ownerReferences") (array (item reference no_items)) below) refl

  -- so what is stored names the Deployment as its controller
  pub names_deployment : (at : ℕ) (named moment : List ℕ) → r.key.kind ≡ Deployment → controller_keys Deployment (created ReplicaSet at r.key.namespace named moment o) ≡ r.key ∷ []
  names_deployment at named moment kind =
      let new = created ReplicaSet at r.key.namespace named moment o in
      let in_namespace : namespace_of new ≡ r.key.namespace =
      ap (λ (v : Option (List ℕ)). unwrap_or v []) (text-at_revision (codes "namespace") at (new_metadata ReplicaSet at r.key.namespace named moment (metadata_of o)) (with_first_status ReplicaSet o) refl ∙ namespace-new_metadata ReplicaSet at r.key.namespace named moment (metadata_of o)) in
      ap (λ ns. named_by ns (metadata (codes "ownerReferences") new)) in_namespace
      ∙ ap (named_by r.key.namespace) (references_created ReplicaSet at r.key.namespace named moment o ∙ references_are) ∙ reference_names r.key (unwrap_or (uid r.deployment) []) kind
