-- The verbs by steps: what is left of each once its first checks are passed. By the definitions, each verb is its first step.
use Rattle.std.specs.Prelude.{ℕ, ◌+◌, List, not, ◌||◌, length, Result, Ok, is_some, nat_le, if◌then◌else◌}
use Rattle.std.specs.Result.{result_map_both}
use Rattle.serde_json.specs.Data.{Data}
use Rattle.spec_api.specs.declared.kinds.Kind.{Kind}
use Rattle.spec_api.specs.declared.refusals.Part.{Part}
use Rattle.spec_api.specs.declared.refusals.Part.TheVariants as part
use Rattle.spec_api.specs.declared.refusals.Field.TheVariants as field
use Rattle.spec_api.specs.Checks.{create_fault, update_fault, is_status_valid}
use Rattle.spec_api.specs.Defaults.{defaulted}
use Rattle.spec_api.specs.DeleteOptions.{Options}
use Rattle.spec_api.specs.Deletion.{Fate, decided, kept_code}
use Rattle.spec_api.specs.History as history
use Rattle.spec_api.specs.History.{found}
use Rattle.spec_api.specs.Kinds.{has_status}
use Rattle.spec_api.specs.Metadata.{metadata_of, at_revision}
use Rattle.spec_api.specs.Keys.{Key}
use Rattle.spec_api.specs.NewObjects.{created, with_first_status}
use Rattle.spec_api.specs.Reading.{is_body}
use Rattle.spec_api.specs.Refusals.{bad_request, not_found, already_exists, invalid, too_large, storage_full}
use Rattle.spec_api.specs.Replacements.{is_finalized, says_the_same, updated}
use Rattle.spec_api.specs.Values.{merged}
use Rattle.spec_api.specs.Verbs.{Outcome, refuse_if, refuse_field, if_read, if_named, or_not_found, shown, stored, is_too_large, is_past_greatest, most_objects, object_in, create, take_out, put_in_place, replace, replace_status, by_decision}

abbrev pub with_defaults : Kind → Result Data Part → Result Data Part
with_defaults k read = result_map_both (defaulted k) (λ p. p) read

-- ---- create

abbrev pub create_as : Key → Data → history.Entries → ℕ → Outcome
create_as k d ms r =
    refuse_if (is_too_large d) too_large
    (refuse_if (is_some (found k ms)) (already_exists k) (refuse_if (nat_le most_objects (length ms) || is_past_greatest (r + 1)) storage_full (stored 201 k d)))

abbrev pub create_checked : Key → Data → history.Entries → ℕ → List ℕ → Outcome
create_checked k o ms r moment = refuse_field k (create_fault k.kind k.name r (with_first_status k.kind o)) (create_as k (created k.kind (r + 1) k.namespace k.name moment o) ms r)

abbrev pub create_read : Kind → List ℕ → Result Data Part → history.Entries → ℕ → List ℕ → Outcome
create_read kind ns read ms r moment = if_read read (λ o. create kind ns o ms r moment)

-- ---- update

abbrev pub replace_changed : Key → Data → Data → ℕ → Outcome
replace_changed k old d r =
    let new = updated k.kind (r + 1) old d in
    if says_the_same old d then shown old else (if is_finalized old new then take_out k new r else put_in_place k new r)

abbrev pub replace_with : Key → Data → Data → ℕ → Outcome
replace_with k old d r = refuse_field k (update_fault k.kind k.name r old d) (replace_changed k old d r)

abbrev pub update_read : Key → Result Data Part → history.Entries → ℕ → Outcome
update_read k read ms r = if_named k read (λ o. or_not_found k (replace k o r) (found k ms))

-- ---- update of the status

abbrev pub restate : Key → Data → Data → ℕ → Outcome
restate k old d r =
    refuse_if (not (is_status_valid k.kind d)) (invalid k field.Status) (if says_the_same old d then shown old else put_in_place k (at_revision (r + 1) (metadata_of d) d) r)

abbrev pub status_put : Key → Result Data Part → history.Entries → ℕ → Outcome
status_put k read ms r = if_named k read (λ o. or_not_found k (replace_status k o r) (found k ms))

abbrev pub status_read : Key → Result Data Part → history.Entries → ℕ → Outcome
status_read k read ms r = refuse_if (not (has_status k.kind)) (not_found k) (status_put k read ms r)

-- ---- patch

abbrev pub patch_read : Key → ℕ → Data → Result Data Part → Outcome
patch_read k r old read = if_named k read (λ o. replace k o r old)

abbrev pub patch : Key → Data → history.Entries → ℕ → Outcome
patch k d ms r = refuse_if (not (is_body d)) (bad_request part.Body) (or_not_found k (λ old. patch_read k r old (object_in k.kind (merged old d))) (found k ms))

-- ---- delete

abbrev pub put_mark : ℕ → Key → Data → ℕ → Outcome
put_mark code k d r = refuse_if (is_past_greatest (r + 1)) storage_full (stored code k (at_revision (r + 1) (metadata_of d) d))

abbrev pub by_fate : Key → ℕ → Data → ℕ → Fate → Outcome
by_fate k code old r f = by_decision k code old r (Ok f)

abbrev pub delete : Key → Options → history.Entries → ℕ → List ℕ → Outcome
delete k o ms r moment = or_not_found k (λ old. by_decision k (kept_code o.policy) old r (decided k.kind o moment old)) (found k ms)
