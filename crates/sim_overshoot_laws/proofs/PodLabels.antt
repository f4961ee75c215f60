-- What is stored of the pod that is made of a set's template has the template's labels, so it matches the set.
use Rattle.std.proofs.Common.{◌≡◌, ℕ, List, ◌++◌, true, false, true≢false, codes, is_some, Option, Some, None, Ok, refl, sym, ap, ◌∙◌}
use Rattle.serde_json.specs.Data.{Data, string, array, item, no_items, Members, no_members, put}
use Rattle.serde_json.specs.Find.{get, get_member}
use Rattle.serde_json.proofs.Views.{get_member-put, get_member-put_other}
use Rattle.spec_api.proofs.JsonMembers.{apart}
use Rattle.spec_api.proofs.Truths.{right_true}
use Rattle.spec_api.specs.declared.kinds.Kind.TheVariants.{Pod, ReplicaSet}
use Rattle.spec_api.specs.declared.schemas.Schema.TheVariants.{Root, Metadata as TheMetadata, Template, TemplateMetadata, ReplicaSetSpec}
use Rattle.spec_api.specs.Checks.{are_labels_valid, in_spec, is_selected, is_template_valid, requirements}
use Rattle.spec_api.specs.Keys.{Key}
use Rattle.spec_api.specs.Metadata.{labels_of, metadata, metadata_of}
use Rattle.spec_api.specs.NewObjects as new_objects
use Rattle.spec_api.specs.Reading.{is_absent, reading, tidied, tidied_members}
use Rattle.spec_api.specs.Replacements.{as_stored}
use Rattle.spec_api.specs.Schemas.{property_at}
use Rattle.spec_api.specs.Selectors.{Requirement, meets_all}
use Rattle.spec_api.specs.SelectorValues.{is_some_and}
use Rattle.spec_api.specs.Values.{inner_of, without}
use Rattle.spec_laws.proofs.NeatMembers.{Neat-get, opens}
use Rattle.spec_laws.proofs.ReadAgain.{filled_members}
use Rattle.spec_reconcile.specs.MetadataEdits.{controller_reference}
use Rattle.spec_reconcile.specs.NewPods.{new_pod, template}
use Rattle.spec_reconcile.specs.Pods.{matches}
use Rattle.sim_overshoot_laws.specs.SetLaws.{NewPodsMatchTheirSet}
use Rattle.sim_overshoot_laws.proofs.StoredParts.{member-created}
use Rattle.sim_overshoot_laws.proofs.StoredPods.{metadata_read}
use Rattle.sim_rest_command_laws.proofs.UnderNames.{Under, under_put, under_without, under_stored, under_tidied, has_tidied, one_found}
use Rattle.sim_overshoot_laws.proofs.TidyMembers.{Fine, tidy_in, inner_get, then_some, tidied_fine, none_at}

-- ---- the labels of a set's template

abbrev label_name : List ℕ
label_name = codes "labels"

module _ (k : Key) (set : Data) where
  abbrev from : Members
  from = metadata_of (template set)

  -- they stand as they are read
  labels_fine : reading ReplicaSet set ≡ Ok set → (l : Data) → get_member label_name from ≡ Some l → Fine TemplateMetadata label_name l
  labels_fine reads l at =
      let t = inner_get label_name (get (codes "metadata") (template set)) in
      let m = then_some label_name (get (codes "metadata") (template set)) l (sym t ∙ at) in
      let u = inner_get (codes "metadata") (in_spec (codes "template") set) in
      let tem = then_some (codes "metadata") (in_spec (codes "template") set) m.0 (sym u ∙ m.1) in
      let sp = then_some (codes "template") (get (codes "spec") set) tem.0 tem.1 in
      let o = opens ReplicaSet set set reads in
      let spec = Neat-get 99 (Root ReplicaSet) (codes "spec") (filled_members ReplicaSet o.left) sp.0 (ap (get (codes "spec")) (sym o.is) ∙ sp.1) o.neat in
      let in_set = tidy_in ReplicaSetSpec (codes "template") sp.0 tem.0 spec.2 sp.2 in
      let in_template = tidy_in Template (codes "metadata") tem.0 m.0 in_set.1 tem.2 in
      tidy_in TemplateMetadata label_name m.0 l in_template.1 m.2

  -- ---- among the members of the pod's metadata

  abbrev early : Members
  early = as_stored (codes "finalizers") (get_member (codes "finalizers") from) (as_stored (codes "annotations") (get_member (codes "annotations") from) no_members)

  abbrev named : Members → Members
  named ms = put (codes "ownerReferences") (array (item (controller_reference k set) no_items)) (put (codes "generateName") (string (k.name ++ codes "-")) ms)

  none_early : (P : Data → Type 0) → Under label_name P early
  none_early P =
      let a = as_stored (codes "annotations") (get_member (codes "annotations") from) no_members in
      under_stored label_name P (codes "finalizers") (get_member (codes "finalizers") from) a refl (under_stored label_name P (codes "annotations") (get_member (codes "annotations") from) no_members refl tt)

  under_named : (P : Data → Type 0) (ms : Members) → Under label_name P ms → Under label_name P (named ms)
  under_named P ms h =
      let g = put (codes "generateName") (string (k.name ++ codes "-")) ms in
      under_put label_name P (codes "ownerReferences") (array (item (controller_reference k set) no_items)) g (λ f. absurd (true≢false (sym f)))
      (under_put label_name P (codes "generateName") (string (k.name ++ codes "-")) ms (λ f. absurd (true≢false (sym f))) h)

  found_named : (ms : Members) → get_member label_name (named ms) ≡ get_member label_name ms
  found_named ms =
      let g = put (codes "generateName") (string (k.name ++ codes "-")) ms in
      get_member-put_other label_name (codes "ownerReferences") (array (item (controller_reference k set) no_items)) g (apart label_name (codes "ownerReferences") refl)
      ∙ get_member-put_other label_name (codes "generateName") (string (k.name ++ codes "-")) ms (apart label_name (codes "generateName") refl)

  -- they are left as they are, or are not there
  left_as_is : (x : Option Data) → ((l : Data) → x ≡ Some l → Fine TemplateMetadata label_name l) → get_member label_name (tidied_members TheMetadata (named (as_stored label_name x early))) ≡ x
  left_as_is None fine =
      none_at label_name (tidied_members TheMetadata (named (without label_name early)))
      (under_tidied label_name TheMetadata (λ d. ⊥) (λ d. ⊥) (λ d f. f) (named (without label_name early))
      (under_named (λ d. ⊥) (without label_name early) (under_without label_name (λ d. ⊥) label_name early (none_early (λ d. ⊥)))))
  left_as_is (Some l) fine =
      let ms = put label_name l early in
      let f : Fine TheMetadata label_name l = fine l refl in
      let same : tidied (property_at TheMetadata label_name).shape l ≡ l = tidied_fine TheMetadata label_name l f in
      let one : (P : Data → Type 0) → P l → Under label_name P (named ms) = (λ P h. under_named P ms (under_put label_name P label_name l early (λ e. h) (none_early P))) in
      one_found label_name l (tidied_members TheMetadata (named ms))
      (under_tidied label_name TheMetadata (λ d. d ≡ l) (λ d. d ≡ l) (λ d is. ap (tidied (property_at TheMetadata label_name).shape) is ∙ same) (named ms) (one (λ d. d ≡ l) refl))
      (has_tidied label_name TheMetadata (named ms) (one (λ d. is_absent (property_at TheMetadata label_name) (tidied (property_at TheMetadata label_name).shape d) ≡ false) (ap (is_absent (property_at TheMetadata label_name)) same ∙ f.0))
      (ap is_some (found_named ms ∙ get_member-put label_name l early)))

  -- so what is stored has the template's labels
  labels_stored : (r : ℕ) (ns name moment : List ℕ) (o : Data) → reading ReplicaSet set ≡ Ok set → reading Pod (new_pod k set) ≡ Ok o
      → metadata label_name (new_objects.created Pod r ns name moment o) ≡ metadata label_name (template set)
  labels_stored r ns name moment o reads read =
      member-created label_name Pod r ns name moment o refl refl refl refl refl refl refl
      ∙ ap (get_member label_name) (metadata_read k set o read)
      ∙ left_as_is (get_member label_name from) (labels_fine reads)

-- ---- what the selector matches

selected : (set pod : Data) → labels_of pod ≡ labels_of (template set) → is_template_valid set ≡ true → matches set pod ≡ true
selected set pod same valid = by (requirements set) (in_spec (codes "template") set) refl refl
  where
    in_template : (t : Data) → in_spec (codes "template") set ≡ Some t → labels_of (template set) ≡ labels_of t
    in_template t e =
        ap (λ x. inner_of (get_member label_name (inner_of (get_member (codes "metadata") (inner_of x))))) e
        ∙ ap (λ m. inner_of (get_member label_name (inner_of m))) (inner_get (codes "metadata") (Some t))

    by : (x : Option (List Requirement)) (y : Option Data) → requirements set ≡ x → in_spec (codes "template") set ≡ y → is_some_and (λ rs. meets_all rs (labels_of pod)) (requirements set) ≡ true
    by None y e f = let no = sym (ap (λ (x : Option (List Requirement)). is_some_and (λ (rs : List Requirement). is_some_and (is_selected rs) (in_spec (codes "template") set)) x) e) ∙ valid in cc
    by (Some rs) None e f =
        let no = sym (ap (λ (x : Option (List Requirement)). is_some_and (λ (rs : List Requirement). is_some_and (is_selected rs) (in_spec (codes "template") set)) x) e ∙ ap (is_some_and (is_selected rs)) f) ∙ valid in cc
    by (Some rs) (Some t) e f =
        let yes = sym (ap (λ (x : Option (List Requirement)). is_some_and (λ (rs : List Requirement). is_some_and (is_selected rs) (in_spec (codes "template") set)) x) e ∙ ap (is_some_and (is_selected rs)) f) ∙ valid in
        ap (λ (x : Option (List Requirement)). is_some_and (λ rs. meets_all rs (labels_of pod)) x) e ∙ ap (meets_all rs) (same ∙ in_template t f) ∙ right_true (are_labels_valid t) (meets_all rs (labels_of t)) yes

pub new_pods_match_their_set : NewPodsMatchTheirSet
new_pods_match_their_set k set o r ns name moment reads valid read =
    selected set (new_objects.created Pod r ns name moment o) (ap inner_of (labels_stored k set r ns name moment o reads read)) valid
