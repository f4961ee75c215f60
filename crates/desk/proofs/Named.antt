-- A request writes only objects of the kind that it names.
use Rattle.std.proofs.Common.{◌≡◌, ℕ, List, Bool, true, false, Result, Ok, Err, refl, length, ◌+◌, not, ◌||◌}
use Rattle.std.specs.Prelude.{Option, Some, None, IfSome, is_some, nat_le, if◌then◌else◌}
use Rattle.serde_json.specs.Data.{Data}
use Rattle.spec_api.specs.Checks.{create_fault, update_fault, is_status_valid}
use Rattle.spec_api.specs.Deletion.{Fate, remove, mark, keep, decided, removal_of, kept_code}
use Rattle.spec_api.specs.History as history
use Rattle.spec_api.specs.History.{found}
use Rattle.spec_api.specs.Keys.{Key}
use Rattle.spec_api.specs.Kinds.{has_status}
use Rattle.spec_api.specs.Metadata.{metadata_of, at_revision, namespace, uid, version, is_other, differs}
use Rattle.spec_api.specs.NewObjects.{created, with_first_status}
use Rattle.spec_api.specs.ObjectRequests.{Request, get_object, list_objects, create_object, update_object, update_status, patch_object, delete_object}
use Rattle.spec_api.specs.Reading.{is_body, reading}
use Rattle.spec_api.specs.Refusals.{Refusal}
use Rattle.spec_api.specs.Replacements.{in_place, is_finalized, says_the_same, updated, with_status_in}
use Rattle.spec_api.specs.Values.{merged}
use Rattle.spec_api.specs.Verbs
use Rattle.spec_api.specs.Verbs.{Outcome, write_of, refuse_if, refuse_field, if_read, or_not_found, if_named, if_same, names_path, put_in_place, take_out, replace, replace_status, by_decision, create, accept_at}
use Rattle.spec_api.specs.declared.kinds.Kind.{Kind}
use Rattle.spec_api.specs.declared.refusals.Field.{Field}
use Rattle.spec_api.specs.declared.refusals.Mismatch.{Mismatch}
use Rattle.spec_api.specs.declared.refusals.Part.{Part}
use Rattle.request_parts.specs.Requests.{kind_named}

-- whether an outcome writes an object of this kind, if any
abbrev pub WritesOnly : Kind → Outcome → Type 0
WritesOnly kind o = IfSome (write_of o) (λ w. w.key.kind ≡ kind)

module _ (kind : Kind) where
  or_refused : (b : Bool) (f : Refusal) (o : Outcome) → WritesOnly kind o → WritesOnly kind (refuse_if b f o)
  or_refused true f o so = tt
  or_refused false f o so = so

  either : (b : Bool) (o p : Outcome) → WritesOnly kind o → WritesOnly kind p → WritesOnly kind (if b then o else p)
  either true o p one other = one
  either false o p one other = other

  without_fault : (k : Key) (f : Option Field) (o : Outcome) → WritesOnly kind o → WritesOnly kind (refuse_field k f o)
  without_fault k None o so = so
  without_fault k (Some f) o so = tt

  read_so : (read : Result Data Part) (next : Data → Outcome) → ((o : Data) → WritesOnly kind (next o)) → WritesOnly kind (if_read read next)
  read_so (Err p) next so = tt
  read_so (Ok o) next so = so o

  there : (k : Key) (next : Data → Outcome) (d : Option Data) → ((o : Data) → WritesOnly kind (next o)) → WritesOnly kind (or_not_found k next d)
  there k next None so = tt
  there k next (Some d) so = so d

  named_so : (k : Key) (read : Result Data Part) (next : Data → Outcome) → ((o : Data) → WritesOnly kind (next o)) → WritesOnly kind (if_named k read next)
  named_so k read next so = read_so read _ (λ o. or_refused (not (names_path k o)) _ (next o) (so o))

  same_so : (k : Key) (o old : Data) (next : Outcome) → WritesOnly kind next → WritesOnly kind (if_same k o old next)
  same_so k o old next so = or_refused (differs (uid o) (uid old)) _ _ (or_refused (differs (version o) (version old)) _ next so)

module _ (k : Key) (r : ℕ) where
  put_so : (d : Data) → WritesOnly k.kind (put_in_place k d r)
  put_so d = or_refused k.kind (Verbs.is_too_large d) _ _ (or_refused k.kind (Verbs.is_past_greatest (r + 1)) _ _ refl)

  out_so : (d : Data) → WritesOnly k.kind (take_out k d r)
  out_so d = or_refused k.kind (Verbs.is_past_greatest (r + 1)) _ _ refl

  replaced : (o old : Data) → WritesOnly k.kind (replace k o r old)
  replaced o old =
      let d = in_place k.kind old o in
      let new = updated k.kind (r + 1) old d in
      same_so k.kind k o old _ (without_fault k.kind k (update_fault k.kind k.name r old d) _
      (either k.kind (says_the_same old d) _ _ tt (either k.kind (is_finalized old new) _ _ (out_so new) (put_so new))))

  status_replaced : (o old : Data) → WritesOnly k.kind (replace_status k o r old)
  status_replaced o old =
      let d = with_status_in k.kind old o in
      same_so k.kind k o old _ (or_refused k.kind (not (is_status_valid k.kind d)) _ _
      (either k.kind (says_the_same old d) _ _ tt (put_so (at_revision (r + 1) (metadata_of d) d))))

  decided_so : (code : ℕ) (old : Data) (fate : Result Fate Mismatch) → WritesOnly k.kind (by_decision k code old r fate)
  decided_so code old (Err why) = tt
  decided_so code old (Ok remove) = out_so (removal_of k.kind k (r + 1) old)
  decided_so code old (Ok (mark d)) = or_refused k.kind (Verbs.is_past_greatest (r + 1)) _ _ refl
  decided_so code old (Ok keep) = tt

created_so : (kind : Kind) (ns : List ℕ) (o : Data) (ms : history.Entries) (r : ℕ) (moment : List ℕ) → WritesOnly kind (create kind ns o ms r moment)
created_so kind ns o ms r moment =
    let k = Verbs.new_name kind ns o ms r in
    let new = created kind (r + 1) ns k.name moment o in
    or_refused kind (is_other (namespace o) ns || is_some (version o)) _ _
    (without_fault kind k (create_fault kind k.name r (with_first_status kind o)) _
    (or_refused kind (Verbs.is_too_large new) _ _
    (or_refused kind (is_some (found k ms)) _ _ (or_refused kind (nat_le Verbs.most_objects (length ms) || Verbs.is_past_greatest (r + 1)) _ _ refl))))

pub writes_only : (q : Request) (ms : history.Entries) (r : ℕ) (moment : List ℕ) → WritesOnly (kind_named q) (accept_at q ms r moment)
writes_only (get_object k) ms r moment = there k.kind k _ (found k ms) (λ o. tt)
writes_only (list_objects v) ms r moment = tt
writes_only (create_object kind ns d) ms r moment = read_so kind (Verbs.object_in kind d) _ (λ o. created_so kind ns o ms r moment)
writes_only (update_object k d) ms r moment = named_so k.kind k (Verbs.object_in k.kind d) _ (λ o. there k.kind k _ (found k ms) (replaced k r o))
writes_only (update_status k d) ms r moment =
    or_refused k.kind (not (has_status k.kind)) _ _ (named_so k.kind k (reading k.kind d) _ (λ o. there k.kind k _ (found k ms) (status_replaced k r o)))
writes_only (patch_object k d) ms r moment =
    or_refused k.kind (not (is_body d)) _ _ (there k.kind k _ (found k ms) (λ old. named_so k.kind k (Verbs.object_in k.kind (merged old d)) _ (λ o. replaced k r o old)))
writes_only (delete_object k o) ms r moment =
    there k.kind k _ (found k ms) (λ old. decided_so k r (kept_code o.policy) old (decided k.kind o moment old))
