-- What follows where no check finds a fault.
use Rattle.std.proofs.Common.{◌≡◌, IfSome, subst, inl, inr, ◌≤◌, ◌^◌, ℕ, List, [], ◌∷◌, Bool, true, false, cond, not, ◌&&◌, ◌||◌, length, nat_le, nat_lt, Option, Some, None, is_some, unwrap_or, option_and_then, option_map, codes, refl, sym, ap, ◌∙◌, arith}
use Rattle.std.proofs.lemmas.Bool.Decides.{nat_tests}
use Rattle.std.specs.Prelude.{decimal}
use Rattle.std.specs.List.{list_all}
use Rattle.std.specs.Result.{result_ok}
use Rattle.std.specs.Str.{bytes_eq}
use Rattle.serde_json.specs.Data.{Data, string, object, Members, put, no_items}
use Rattle.serde_json.specs.Find.{get, get_member, as_array}
use Rattle.serde_json.proofs.Views.{get_member-put, get_member-put_other}
use Rattle.spec_api.proofs.Truths.{and_true, both_true, right_true}
use Rattle.spec_api.specs.declared.kinds.Kind.{Kind}
use Rattle.spec_api.specs.declared.kinds.Kind.TheVariants.{ConfigMap, Pod, ReplicaSet, Deployment}
use Rattle.spec_api.specs.declared.refusals.Field.{Field}
use Rattle.spec_laws.specs.CheckLaws.{HasTemplate, SelectsItsTemplate, CreatedSelectTheirTemplates, UpdatedSelectTheirTemplates, StoredPassAgain}
use Rattle.spec_api.specs.Checks.{is_generating_byte, Check, first_fault, checks, checks_of, in_spec, requirements, is_selected, is_template_valid, are_labels, are_labels_valid, is_selector_valid, adds_no_finalizer, is_selector_kept, is_possible_uid, is_not_empty, is_owner, are_owners_valid, controllers, generate_name, is_name_valid, generates, passes_if_there, is_generate_name_valid, are_finalizers_valid, is_finalizer, text_is, is_not_negative, counts, is_strategy}
use Rattle.spec_api.specs.Metadata.{labels_of, Owner, metadata, metadata_of, name, owners, owners_in}
use Rattle.spec_api.specs.Selectors.{Requirement, meets_all}
use Rattle.spec_api.specs.SelectorValues.{all_items, items_in, is_some_and, selector_of_value}
use Rattle.spec_api.specs.Uids.{uid_text, uid_revision, cluster_word}
use Rattle.spec_api.specs.Values.{inner_of, members_of, without}
use Rattle.spec_api.specs.NewObjects.{created, first_status, new_metadata, with_first_status, with_generation, with_status}
use Rattle.spec_api.specs.Defaults.{unsigned_value}
use Rattle.spec_api.specs.Kinds.{has_generation}
use Rattle.spec_api.specs.Keys.{is_subdomain}
use Rattle.spec_laws.proofs.SetMetadata.{text-at_revision, name-new_metadata}
use Rattle.spec_api.proofs.JsonMembers.{apart, get_member-without_other, metadata_of-with, text_in}
use Rattle.spec_api.proofs.FirstStatus.{get-first, metadata_of-first}

abbrev pub AllMet : List Check → Type 0
AllMet [] = Unit {0}
AllMet (c ∷ cs) = (c.0 ≡ true) × AllMet cs

met_by : (b : Bool) (f : Field) (rest : Option Field) → cond b rest (Some f) ≡ None → (b ≡ true) × (rest ≡ None)
met_by true f rest h = (refl, h)
met_by false f rest h = cc

-- where there is no first fault, each check is met, and the other way round
pub all_met : (cs : List Check) → first_fault cs ≡ None → AllMet cs
all_met [] h = tt
all_met (c ∷ cs) h =
    let m = met_by c.0 c.1 (first_fault cs) h in
    (m.0, all_met cs m.1)

no_fault : (cs : List Check) → AllMet cs → first_fault cs ≡ None
no_fault [] m = refl
no_fault (c ∷ cs) m = ap (λ b. cond b (first_fault cs) (Some c.1)) m.0 ∙ no_fault cs m.1

has_template : (kind : Kind) (kept : Bool) (d : Data) → HasTemplate kind → AllMet (checks_of kind kept d) → is_template_valid d ≡ true
has_template ConfigMap kept d (inl e) m = cc
has_template ConfigMap kept d (inr e) m = cc
has_template Pod kept d (inl e) m = cc
has_template Pod kept d (inr e) m = cc
has_template ReplicaSet kept d is m = m.1.1.0
has_template Deployment kept d is m = m.1.1.0

selects : (d : Data) → is_template_valid d ≡ true → SelectsItsTemplate d
selects d h s t rs selector template said =
    let reads : requirements d ≡ Some rs = ap (option_and_then (λ x. result_ok (selector_of_value x))) selector ∙ ap result_ok said in
    let both_true : is_some_and (is_selected rs) (Some t) ≡ true = sym (ap (λ o. is_some_and (λ (rs : List Requirement). is_some_and (is_selected rs) (in_spec (codes "template") d)) o) reads ∙ ap (is_some_and (is_selected rs)) template) ∙ h in
    right_true (are_labels_valid t) (meets_all rs (labels_of t)) both_true

pub created_select : CreatedSelectTheirTemplates
created_select k made present d is h = selects d (has_template k true d is (all_met (checks k made present true true d) h).1.1.1.1.1)

pub updated_select : UpdatedSelectTheirTemplates
updated_select k made present stored d is h =
    let kept = is_selector_kept stored d in
    selects d (has_template k kept d is (all_met (checks k made present (adds_no_finalizer stored d) kept d) h).1.1.1.1.1)

-- ---- what is stored

-- a uid that is not of the future is not of it later
known_at : (n a b c : Bool) → (c ≡ true → b ≡ true) → (n && not (a && b)) ≡ true → (n && not (a && c)) ≡ true
known_at false a b c f h = h
known_at true false b c f h = refl
known_at true true true true f h = h
known_at true true true false f h = refl
known_at true true false true f h = f refl
known_at true true false false f h = refl

later_below : (present later r : ℕ) → present ≤ later → nat_lt later r ≡ true → nat_lt present r ≡ true
later_below present later r le h = grind (arith, nat_tests)

and_first : (u v w : Bool) → (u ≡ true → v ≡ true) → (u && w) ≡ true → (v && w) ≡ true
and_first true v w f h = rw (f refl) h
and_first false v w f h = cc

and_last : (u v w : Bool) → (v ≡ true → w ≡ true) → (u && v) ≡ true → (u && w) ≡ true
and_last true v w f h = f h
and_last false v w f h = h

module _ (present later : ℕ) (le : present ≤ later) where
  known : (t : List ℕ) → is_possible_uid present t ≡ true → is_possible_uid later t ≡ true
  known t h =
      known_at (is_not_empty t) (bytes_eq t (uid_text cluster_word (uid_revision t)) && nat_lt (uid_revision t) (2 ^ 62)) (nat_lt present (uid_revision t)) (nat_lt later (uid_revision t))
      (later_below present later (uid_revision t) le) h

  known_if : (o : Option (List ℕ)) → is_some_and (is_possible_uid present) o ≡ true → is_some_and (is_possible_uid later) o ≡ true
  known_if None h = h
  known_if (Some t) h = known t h

  owner_later : (o : Owner) → is_owner present o ≡ true → is_owner later o ≡ true
  owner_later o h =
      and_last (is_some_and is_not_empty o.api_version && is_some_and is_not_empty o.kind && is_some_and is_not_empty o.name) (is_some_and (is_possible_uid present) o.uid) (is_some_and (is_possible_uid later) o.uid)
      (known_if o.uid) h

  owners_later : (os : List Owner) → list_all (is_owner present) os ≡ true → list_all (is_owner later) os ≡ true
  owners_later [] h = refl
  owners_later (o ∷ os) h =
      let p = both_true (is_owner present o) (list_all (is_owner present) os) h in
      and_true (is_owner later o) (list_all (is_owner later) os) (owner_later o p.0) (owners_later os p.1)

  owned_later : (d : Data) → are_owners_valid present d ≡ true → are_owners_valid later d ≡ true
  owned_later d h = and_first (list_all (is_owner present) (owners d)) (list_all (is_owner later) (owners d)) (nat_le (controllers (owners d)) 1) (owners_later (owners d)) h

-- the name under which it is created is valid
by_generated : (under : List ℕ) (g : Option (List ℕ)) → is_some g ≡ true → passes_if_there (generates under) g ≡ true → is_subdomain under ≡ true
by_generated under None h p = cc
by_generated under (Some t) h p = right_true (list_all is_generating_byte t) (is_subdomain under) p

by_name : (under : List ℕ) (o : Option (List ℕ)) (d : Data) → IfSome o (λ n. n ≡ under) → unwrap_or (option_map is_subdomain o) (is_some (generate_name d)) ≡ true → (is_some o || passes_if_there (generates under) (generate_name d)) ≡ true
    → is_subdomain under ≡ true
by_name under None d is valid made = by_generated under (generate_name d) valid made
by_name under (Some n) d is valid made = subst (λ t. is_subdomain t ≡ true) is valid

get-generation : (q : List ℕ) (b : Bool) (ms : Members) → bytes_eq q (codes "generation") ≡ false → get_member q (cond b (put (codes "generation") (unsigned_value 1) ms) ms) ≡ get_member q ms
get-generation q true ms other = get_member-put_other q (codes "generation") (unsigned_value 1) ms (apart q (codes "generation") other)
get-generation q false ms other = refl

module _ (k : Kind) (r : ℕ) (ns under moment : List ℕ) (d : Data) where
  -- what is checked of what is stored, and what was checked before
  abbrev made_of : Data
  made_of = with_first_status k (created k r ns under moment d)

  abbrev first : Data
  first = with_first_status k d

  -- a member of the metadata that the server does not set
  same : (q : List ℕ) → bytes_eq q (codes "resourceVersion") ≡ false → bytes_eq q (codes "uid") ≡ false → bytes_eq q (codes "creationTimestamp") ≡ false
      → bytes_eq q (codes "namespace") ≡ false → bytes_eq q (codes "name") ≡ false → bytes_eq q (codes "generation") ≡ false → bytes_eq q (codes "deletionTimestamp") ≡ false
      → metadata q made_of ≡ metadata q first
  same q a b c e f g h =
      let m1 = without (codes "deletionTimestamp") (metadata_of d) in
      let m2 = with_generation k m1 in
      let m3 = put (codes "name") (string under) m2 in
      let m4 = put (codes "namespace") (string ns) m3 in
      let m5 = put (codes "creationTimestamp") (string moment) m4 in
      let m6 = put (codes "uid") (string (uid_text cluster_word r)) m5 in
      let m7 = put (codes "resourceVersion") (string (decimal r)) m6 in
      ap (get_member q) (metadata_of-first k (created k r ns under moment d)) ∙ ap (get_member q) (metadata_of-with m7 (object (with_status (first_status k) (members_of d))))
      ∙ get_member-put_other q (codes "resourceVersion") (string (decimal r)) m6 (apart q (codes "resourceVersion") a)
      ∙ get_member-put_other q (codes "uid") (string (uid_text cluster_word r)) m5 (apart q (codes "uid") b)
      ∙ get_member-put_other q (codes "creationTimestamp") (string moment) m4 (apart q (codes "creationTimestamp") c)
      ∙ get_member-put_other q (codes "namespace") (string ns) m3 (apart q (codes "namespace") e) ∙ get_member-put_other q (codes "name") (string under) m2 (apart q (codes "name") f)
      ∙ get-generation q (has_generation k) m1 g ∙ get_member-without_other q (codes "deletionTimestamp") (metadata_of d) h
      ∙ ap (get_member q) (sym (metadata_of-first k d))

  -- the name that is set
  name_is : name made_of ≡ Some under
  name_is =
      ap (text_in (codes "name")) (metadata_of-first k (created k r ns under moment d))
      ∙ text-at_revision (codes "name") r (new_metadata k r ns under moment (metadata_of d)) (object (with_status (first_status k) (members_of d))) refl
      ∙ name-new_metadata k r ns under moment (metadata_of d)

  -- what is not metadata, nor a status
  same_part : (q : List ℕ) → bytes_eq q (codes "metadata") ≡ false → bytes_eq q (codes "status") ≡ false → get q made_of ≡ get q first
  same_part q a b =
      get-first q k (created k r ns under moment d) b ∙ get_member-put_other q (codes "metadata") _ (with_status (first_status k) (members_of d)) (apart q (codes "metadata") a)

  names : is_subdomain under ≡ true → is_name_valid made_of ≡ true
  names valid = ap (λ o. unwrap_or (option_map is_subdomain o) (is_some (generate_name made_of))) name_is ∙ valid

  generated : is_generate_name_valid under made_of ≡ true
  generated = ap (λ o. is_some o || passes_if_there (generates under) (generate_name made_of)) name_is

  labels : are_labels_valid made_of ≡ are_labels_valid first
  labels = ap (λ m. are_labels (inner_of m)) (same (codes "labels") refl refl refl refl refl refl refl)

  ends : (are_finalizers_valid made_of && true) ≡ (are_finalizers_valid first && true)
  ends = ap (λ m. all_items (text_is is_finalizer) (items_in m) && true) (same (codes "finalizers") refl refl refl refl refl refl refl)

  owned : (present : ℕ) → are_owners_valid present made_of ≡ are_owners_valid present first
  owned present =
      ap (λ m. let os = owners_in (unwrap_or (option_and_then as_array m) no_items) in list_all (is_owner present) os && nat_le (controllers os) 1)
      (same (codes "ownerReferences") refl refl refl refl refl refl refl)

  in_spec_same : (q : List ℕ) → in_spec q made_of ≡ in_spec q first
  in_spec_same q = ap (option_and_then (get q)) (same_part (codes "spec") refl refl)

  said_same : requirements made_of ≡ requirements first
  said_same = ap (option_and_then (λ s. result_ok (selector_of_value s))) (in_spec_same (codes "selector"))

  selector : (is_selector_valid made_of && true) ≡ (is_selector_valid first && true)
  selector = ap (λ (o : Option (List Requirement)). is_some_and (λ (rs : List Requirement). nat_lt 0 (length rs)) o && true) said_same

  template : is_template_valid made_of ≡ is_template_valid first
  template =
      ap (λ o. is_some_and (λ (rs : List Requirement). is_some_and (is_selected rs) (in_spec (codes "template") made_of)) o) said_same
      ∙ ap (λ t. is_some_and (λ (rs : List Requirement). is_some_and (is_selected rs) t) (requirements first)) (in_spec_same (codes "template"))

-- the first status counts nothing below 0
status_is : (k : Kind) (s : Data) (d : Data) → first_status k ≡ Some s → get (codes "status") (with_first_status k d) ≡ Some s
status_is k s d is = ap (λ o. get_member (codes "status") (with_status o (members_of d))) is ∙ get_member-put (codes "status") s (members_of d)

kind_met : (k : Kind) (r : ℕ) (ns under moment : List ℕ) (d : Data) → AllMet (checks_of k true (with_first_status k d)) → AllMet (checks_of k true (with_first_status k (created k r ns under moment d)))
kind_met ConfigMap r ns under moment d m = tt
kind_met Pod r ns under moment d m = tt
kind_met ReplicaSet r ns under moment d m =
    let status = ap (λ o. list_all (λ count. is_not_negative (option_and_then (get count) o)) (counts ReplicaSet)) (status_is ReplicaSet _ (created ReplicaSet r ns under moment d) refl) in (
      ap is_not_negative (in_spec_same ReplicaSet r ns under moment d (codes "replicas")) ∙ m.0,
      (selector ReplicaSet r ns under moment d ∙ m.1.0, (template ReplicaSet r ns under moment d ∙ m.1.1.0, (status, tt))),
    )
kind_met Deployment r ns under moment d m =
    let status = ap (λ o. list_all (λ count. is_not_negative (option_and_then (get count) o)) (counts Deployment)) (status_is Deployment _ (created Deployment r ns under moment d) refl) in
    let in_made = in_spec_same Deployment r ns under moment d in (
      ap is_not_negative (in_made (codes "replicas")) ∙ m.0,
      (
        selector Deployment r ns under moment d ∙ m.1.0,
        (
          template Deployment r ns under moment d ∙ m.1.1.0,
          (
            ap (is_some_and is_strategy) (in_made (codes "strategy")) ∙ m.1.1.1.0,
            (ap is_not_negative (in_made (codes "revisionHistoryLimit")) ∙ m.1.1.1.1.0, (status, tt)),
          ),
        ),
      ),
    )

pub stored_pass : StoredPassAgain
stored_pass k under present later r ns moment d le is h =
    let first = with_first_status k d in
    let m = all_met (checks k under present true true first) h in
    let named : name d ≡ name first = ap (text_in (codes "name")) (sym (metadata_of-first k d)) in
    let valid = by_name under (name first) first (subst (λ o. IfSome o (λ n. n ≡ under)) named is) m.0 m.1.0 in
    no_fault (checks k under later true true (with_first_status k (created k r ns under moment d))) (
      names k r ns under moment d valid,
      (
        generated k r ns under moment d,
        (
          labels k r ns under moment d ∙ m.1.1.0,
          (
            ends k r ns under moment d ∙ m.1.1.1.0,
            (owned k r ns under moment d later ∙ owned_later present later le first m.1.1.1.1.0, kind_met k r ns under moment d m.1.1.1.1.1),
          ),
        ),
      ),
    )
