-- What an object has to be before it is stored: eleven checks in their order, and the first field that fails its check.
use Rattle.std.specs.Prelude.{ℕ, suc, ℤ, pos, int_le, List, [], ◌∷◌, ◌++◌, Bool, true, false, not, ◌&&◌, ◌||◌, ◌==◌, ◌^◌, length, nat_le, nat_lt, Option, Some, None, option_and_then, option_map, unwrap_or, is_some, codes, if◌then◌else◌}
use Rattle.std.specs.List.{list_all, list_any, before_first, after_first}
use Rattle.std.specs.Option.{option_or}
use Rattle.std.specs.Result.{result_ok}
use Rattle.std.specs.Str.{bytes_eq}
use Rattle.std.specs.Str.Parse.{digits_value}
use Rattle.spec_api.specs.Texts.Values.{Data, Items, no_items, item, Members, no_members, member, get, as_str, as_number, as_i64, compact_text}
use Rattle.spec_api.specs.declared.amounts.Amount.{Amount}
use Rattle.spec_api.specs.declared.amounts.Amount.TheVariants.{Pods, Percent}
use Rattle.spec_api.specs.declared.kinds.Kind.{Kind}
use Rattle.spec_api.specs.declared.kinds.Kind.TheVariants.{ReplicaSet, Deployment}
use Rattle.spec_api.specs.declared.refusals.Field.{Field}
use Rattle.spec_api.specs.declared.refusals.Field.TheVariants as field
use Rattle.spec_api.specs.Texts.Labels.{is_label_key, is_label_value}
use Rattle.spec_api.specs.Objects.Metadata.{labels_of, Owner, metadata, metadata_text, name, is_being_deleted, owners, text_at}
use Rattle.spec_api.specs.Texts.Moments.{is_digit}
use Rattle.spec_api.specs.Texts.Keys.{is_letter_or_digit, is_subdomain}
use Rattle.spec_api.specs.Texts.Selectors.{Requirement, meets_all}
use Rattle.spec_api.specs.Objects.SelectorValues.{all_items, items_in, is_some_and, selector_of_value}
use Rattle.spec_api.specs.Texts.Uids.{uid_text, uid_revision, cluster_word}

-- the test of what is there; what is absent passes none
abbrev pub passes_if_there : {A : Type 0} → (A → Bool) → Option A → Bool
passes_if_there test None = true
passes_if_there test (Some a) = test a

abbrev pub in_spec : List ℕ → Data → Option Data
in_spec k d = option_and_then (get k) (get (codes "spec") d)

abbrev pub in_status : List ℕ → Data → Option Data
in_status k d = option_and_then (get k) (get (codes "status") d)

abbrev pub generate_name : Data → Option (List ℕ)
generate_name d = metadata_text (codes "generateName") d

-- metadata.name: a DNS subdomain, or none where one is made (Kubernetes, Object Names and IDs)
abbrev pub is_name_valid : Data → Bool
is_name_valid d = unwrap_or (option_map is_subdomain (name d)) (is_some (generate_name d))

-- lower-case letters, digits, `-` and `.`
abbrev pub is_generating_byte : ℕ → Bool
is_generating_byte b = is_letter_or_digit b || (b == 45) || (b == 46)

abbrev pub generates : List ℕ → List ℕ → Bool
generates made g = list_all is_generating_byte g && is_subdomain made

-- metadata.generateName: where no name is given, one was made of it that is valid (Kubernetes API Conventions, Metadata)
abbrev pub is_generate_name_valid : List ℕ → Data → Bool
is_generate_name_valid made d = is_some (name d) || passes_if_there (generates made) (generate_name d)

abbrev pub text_is : (List ℕ → Bool) → Data → Bool
text_is test d = is_some_and test (as_str d)

abbrev pub are_labels : Members → Bool
are_labels no_members = true
are_labels (member k d ms) = is_label_key k && text_is is_label_value d && are_labels ms

-- metadata.labels (Kubernetes, Labels and Selectors, Syntax and character set)
abbrev pub are_labels_valid : Data → Bool
are_labels_valid d = are_labels (labels_of d)

abbrev pub finalizers : Data → Items
finalizers d = items_in (metadata (codes "finalizers") d)

-- 1 to 253 bytes
abbrev pub is_finalizer : List ℕ → Bool
is_finalizer t = nat_lt 0 (length t) && nat_le (length t) 253

-- metadata.finalizers (Kubernetes, Finalizers)
abbrev pub are_finalizers_valid : Data → Bool
are_finalizers_valid d = all_items (text_is is_finalizer) (finalizers d)

abbrev pub has_text : Items → List ℕ → Bool
has_text no_items t = false
has_text (item d ds) t = text_is (bytes_eq t) d || has_text ds t

-- none is added to an object that is being deleted
abbrev pub adds_no_finalizer : Data → Data → Bool
adds_no_finalizer stored d = not (is_being_deleted stored) || all_items (text_is (has_text (finalizers stored))) (finalizers d)

abbrev pub is_not_empty : List ℕ → Bool
is_not_empty t = nat_lt 0 (length t)

-- the uid of an object that this server has not created yet: it encodes a revision above the present one
abbrev pub is_of_the_future : ℕ → List ℕ → Bool
is_of_the_future present t =
    bytes_eq t (uid_text cluster_word (uid_revision t)) && nat_lt (uid_revision t) (2 ^ 62) && nat_lt present (uid_revision t)

abbrev pub is_possible_uid : ℕ → List ℕ → Bool
is_possible_uid present t = is_not_empty t && not (is_of_the_future present t)

abbrev pub is_owner : ℕ → Owner → Bool
is_owner present o = is_some_and is_not_empty o.api_version && is_some_and is_not_empty o.kind && is_some_and is_not_empty o.name && is_some_and (is_possible_uid present) o.uid

abbrev pub controllers : List Owner → ℕ
controllers [] = 0
controllers (o ∷ os) = if o.is_controller then suc (controllers os) else controllers os

-- metadata.ownerReferences: each owner is named whole, and at most one is a controller (Kubernetes, Owners and Dependents)
abbrev pub are_owners_valid : ℕ → Data → Bool
are_owners_valid present d = list_all (is_owner present) (owners d) && nat_le (controllers (owners d)) 1

abbrev pub whole_of : Option Data → Option ℤ
whole_of found = option_and_then as_i64 (option_and_then as_number found)

-- spec.replicas, spec.revisionHistoryLimit and the counts of a status: none is below 0
abbrev pub is_not_negative : Option Data → Bool
is_not_negative found = passes_if_there (int_le (pos 0)) (whole_of found)

abbrev pub are_replicas_valid : Data → Bool
are_replicas_valid d = is_not_negative (in_spec (codes "replicas") d)

abbrev pub is_history_limit_valid : Data → Bool
is_history_limit_valid d = is_not_negative (in_spec (codes "revisionHistoryLimit") d)

-- the counts of the kinds that have some
abbrev pub counts : Kind → List (List ℕ)
counts ReplicaSet = codes "replicas" ∷ codes "readyReplicas" ∷ codes "availableReplicas" ∷ []
counts Deployment = codes "replicas" ∷ codes "readyReplicas" ∷ codes "availableReplicas" ∷ codes "updatedReplicas" ∷ codes "unavailableReplicas" ∷ codes "collisionCount" ∷ []
counts k = []

abbrev pub is_status_valid : Kind → Data → Bool
is_status_valid k d = list_all (λ count. is_not_negative (in_status count d)) (counts k)

-- the requirements of spec.selector, where it is a selector (Kubernetes API reference, LabelSelector)
abbrev pub requirements : Data → Option (List Requirement)
requirements d = option_and_then (λ s. result_ok (selector_of_value s)) (in_spec (codes "selector") d)

-- spec.selector: a selector with at least one requirement
abbrev pub is_selector_valid : Data → Bool
is_selector_valid d = is_some_and (λ (rs : List Requirement). nat_lt 0 (length rs)) (requirements d)

-- the text of what is there
abbrev pub text_or_empty : Option Data → List ℕ
text_or_empty found = unwrap_or (option_map compact_text found) []

-- spec.selector stays as it was stored
abbrev pub is_selector_kept : Data → Data → Bool
is_selector_kept stored d = bytes_eq (text_or_empty (in_spec (codes "selector") stored)) (text_or_empty (in_spec (codes "selector") d))

abbrev pub is_selected : List Requirement → Data → Bool
is_selected rs t = are_labels_valid t && meets_all rs (labels_of t)

-- spec.template: there, with valid labels that the selector matches (Kubernetes API reference, PodTemplateSpec)
abbrev pub is_template_valid : Data → Bool
is_template_valid d = is_some_and (λ rs. is_some_and (is_selected rs) (in_spec (codes "template") d)) (requirements d)

abbrev pub is_percent_sign : ℕ → Bool
is_percent_sign b = b == 37

-- 1 to 9 digits and `%`
abbrev pub is_percentage : List ℕ → Bool
is_percentage t =
    list_any is_percent_sign t && (length (after_first is_percent_sign t) == 0) && nat_lt 0 (length (before_first is_percent_sign t))
    && nat_le (length (before_first is_percent_sign t)) 9 && list_all is_digit (before_first is_percent_sign t)

abbrev pub percentage : List ℕ → Option Amount
percentage t = if is_percentage t then Some (Percent (digits_value 10 (before_first is_percent_sign t))) else None

-- a number of 32 bits, not below 0
abbrev pub pods : ℤ → Option Amount
pods z = if int_le (pos 0) z && int_le z (pos 2147483647) then Some (Pods z) else None

abbrev pub amount : Data → Option Amount
amount d = option_or (option_and_then pods (whole_of (Some d))) (option_and_then percentage (as_str d))

abbrev pub is_zero : Amount → Bool
is_zero (Pods z) = int_le z (pos 0)
is_zero (Percent n) = n == 0

-- a number of pods is no percentage, whatever the replicas
abbrev pub is_at_most_all : Amount → Bool
is_at_most_all (Pods z) = true
is_at_most_all (Percent n) = nat_le n 100

-- a rolling update can go on: not both amounts are 0
abbrev pub are_amounts : Option Amount → Option Amount → Bool
are_amounts (Some surge) (Some unavailable) = is_at_most_all unavailable && not (is_zero surge && is_zero unavailable)
are_amounts surge unavailable = false

abbrev pub is_rolling : Data → Bool
is_rolling d = are_amounts (option_and_then amount (get (codes "maxSurge") d)) (option_and_then amount (get (codes "maxUnavailable") d))

abbrev pub is_strategy_of : Data → List ℕ → Bool
is_strategy_of d t =
    if bytes_eq t (codes "RollingUpdate") then is_some_and is_rolling (get (codes "rollingUpdate") d)
    else bytes_eq t (codes "Recreate") && not (is_some (get (codes "rollingUpdate") d))

abbrev pub is_strategy : Data → Bool
is_strategy d = is_some_and (is_strategy_of d) (text_at (codes "type") d)

-- spec.strategy: `RollingUpdate` with its amounts, or `Recreate` without any (Kubernetes API reference, DeploymentStrategy)
abbrev pub is_strategy_valid : Data → Bool
is_strategy_valid d = is_some_and is_strategy (in_spec (codes "strategy") d)

-- a check: whether it passes, and the field that it is of
abbrev pub Check : Type 0
Check = Bool × Field

-- the field of the first check that does not pass
abbrev pub first_fault : List Check → Option Field
first_fault [] = None
first_fault (c ∷ cs) = if c.0 then first_fault cs else Some c.1

-- the checks of the spec of a kind that runs a number of pods
abbrev pub replica_checks : Bool → Data → List Check
replica_checks is_kept d = (are_replicas_valid d, field.Replicas) ∷ (is_selector_valid d && is_kept, field.Selector) ∷ (is_template_valid d, field.Template) ∷ []

-- the checks of the spec and the status, by kind
abbrev pub checks_of : Kind → Bool → Data → List Check
checks_of ReplicaSet is_kept d = replica_checks is_kept d ++ (is_status_valid ReplicaSet d, field.Status) ∷ []
checks_of Deployment is_kept d =
    replica_checks is_kept d
    ++ (is_strategy_valid d, field.Strategy) ∷ (is_history_limit_valid d, field.RevisionHistoryLimit) ∷ (is_status_valid Deployment d, field.Status) ∷ []
checks_of k is_kept d = []

-- all checks of an object: those of its metadata, and then these
abbrev pub checks : Kind → List ℕ → ℕ → Bool → Bool → Data → List Check
checks kind made present adds_none is_kept d =
    (is_name_valid d, field.Name)
    ∷ (is_generate_name_valid made d, field.GenerateName)
    ∷ (are_labels_valid d, field.Labels)
    ∷ (are_finalizers_valid d && adds_none, field.Finalizers)
    ∷ (are_owners_valid present d, field.OwnerReferences)
    ∷ checks_of kind is_kept d

-- the first fault of an object that is created under a name, given or made, after a revision
abbrev pub create_fault : Kind → List ℕ → ℕ → Data → Option Field
create_fault kind made present d = first_fault (checks kind made present true true d)

-- the first fault of an object in the place of a stored one
abbrev pub update_fault : Kind → List ℕ → ℕ → Data → Data → Option Field
update_fault kind made present stored d = first_fault (checks kind made present (adds_no_finalizer stored d) (is_selector_kept stored d) d)
