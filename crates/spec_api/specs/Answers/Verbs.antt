-- What each request is answered, and what it writes, by cases over what is there at the present revision.
use Rattle.std.specs.Prelude.{ℕ, ◌+◌, List, [], ◌∷◌, ◌++◌, Bool, not, ◌||◌, length, map, Option, Some, None, Result, Ok, Err, codes, decimal, nat_le, nat_lt, is_some, ◌&&◌, if◌then◌else◌}
use Rattle.std.specs.Result.{result_map_both}
use Rattle.serde_json.specs.Data.{Data, string, array, object, Members, no_members, member}
use Rattle.serde_json.specs.View.{items_of}
use Rattle.serde_json.specs.Written.{compact_text}
use Rattle.spec_api.specs.declared.kinds.Kind.{Kind}
use Rattle.spec_api.specs.declared.refusals.Part.{Part}
use Rattle.spec_api.specs.declared.refusals.Part.TheVariants as part
use Rattle.spec_api.specs.declared.refusals.Mismatch.{Mismatch}
use Rattle.spec_api.specs.declared.refusals.Mismatch.TheVariants as mismatch
use Rattle.spec_api.specs.declared.refusals.Field.{Field}
use Rattle.spec_api.specs.declared.refusals.Field.TheVariants as field
use Rattle.spec_api.specs.Objects.Checks.{generate_name, create_fault, update_fault, is_status_valid}
use Rattle.spec_api.specs.Objects.Defaults.{defaulted}
use Rattle.spec_api.specs.Texts.GeneratedNames.{name_from}
use Rattle.spec_api.specs.Texts.Kinds.{api_version, kind_text, has_status}
use Rattle.spec_api.specs.Texts.Keys.{Key}
use Rattle.spec_api.specs.State.History as history
use Rattle.spec_api.specs.State.History.{History, Write, write, View, viewed, entries_at, found, present}
use Rattle.spec_api.specs.Requests.ObjectRequests.{Request, get_object, list_objects, create_object, update_object, update_status, patch_object, delete_object}
use Rattle.spec_api.specs.Answers.Deletion.{Fate, remove, mark, keep, decided, removal_of, kept_code}
use Rattle.spec_api.specs.Objects.Metadata.{metadata_of, at_revision, name, namespace, uid, version, is_other, differs}
use Rattle.spec_api.specs.Objects.Reading.{is_body, reading}
use Rattle.spec_api.specs.Objects.Refusals.{Refusal, bad_request, not_found, already_exists, conflict, invalid, too_large, storage_full, code, status_body}
use Rattle.spec_api.specs.Objects.NewObjects.{created, with_first_status}
use Rattle.spec_api.specs.Objects.Replacements.{in_place, is_finalized, says_the_same, updated, with_status_in}
use Rattle.spec_api.specs.Texts.Revisions.{greatest_revision}
use Rattle.spec_api.specs.Texts.Values.{members_of, merged, without}

-- ---- outcomes

-- an answer: its HTTP status code, its body, and the write that it makes, if any
pub record Answer : Type 0 where
  pub code : ℕ
  pub body : Data
  pub write : Option Write

-- an answer, or a refusal, which writes nothing
pub data Outcome : Type 0 where
  answered : Answer → Outcome
  refused : Refusal → Outcome

abbrev pub outcome_code : Outcome → ℕ
outcome_code (answered a) = a.code
outcome_code (refused f) = code f

abbrev pub outcome_body : Outcome → Data
outcome_body (answered a) = a.body
outcome_body (refused f) = status_body f

abbrev pub write_of : Outcome → Option Write
write_of (answered a) = a.write
write_of (refused f) = None

abbrev pub with_write : History → Option Write → History
with_write h None = h
with_write h (Some w) = h ++ write w ∷ []

-- what has happened after the request
abbrev pub history_after : History → Outcome → History
history_after h o = with_write h (write_of o)

-- ---- limits

abbrev pub most_objects : ℕ
most_objects = 262144

abbrev pub longest_object : ℕ
longest_object = 1572864

-- ---- what the verbs share

abbrev pub refuse_if : Bool → Refusal → Outcome → Outcome
refuse_if b f o = if b then refused f else o

-- an object under this key is refused for the field that is at fault, if one is
abbrev pub refuse_field : Key → Option Field → Outcome → Outcome
refuse_field k None o = o
refuse_field k (Some f) o = refused (invalid k f)

-- what is done with a body, if it can be read
abbrev pub if_read : Result Data Part → (Data → Outcome) → Outcome
if_read (Err p) next = refused (bad_request p)
if_read (Ok o) next = next o

-- what is done with the object that is there, if there is one
abbrev pub or_not_found : Key → (Data → Outcome) → Option Data → Outcome
or_not_found k next None = refused (not_found k)
or_not_found k next (Some d) = next d

-- an object is answered as it stands (Kubernetes API Concepts, GET)
abbrev pub shown : Data → Outcome
shown d = answered (record { code = 200; body = d; write = None })

-- an object is stored under its key, and answered
abbrev pub stored : ℕ → Key → Data → Outcome
stored code k d = answered (record { code = code; body = d; write = Some (record { key = k; put = Some d }) })

-- the object under a key is removed, and this is answered
abbrev pub removed : Key → Data → Outcome
removed k d = answered (record { code = 200; body = d; write = Some (record { key = k; put = None }) })

abbrev pub is_too_large : Data → Bool
is_too_large d = nat_lt longest_object (length (compact_text d))

abbrev pub is_past_greatest : ℕ → Bool
is_past_greatest r = nat_lt greatest_revision r

-- whether a write after revision r makes more objects than there may be, or has a revision past the greatest
abbrev pub overflows : history.Entries → ℕ → Write → Bool
overflows ms r w = (nat_le most_objects (length ms) && is_some w.put && not (is_some (found w.key ms))) || is_past_greatest (r + 1)

-- a body read as an object of a kind, with the defaults of its spec
abbrev pub object_in : Kind → Data → Result Data Part
object_in k d = result_map_both (defaulted k) (λ p. p) (reading k d)

-- ---- list

-- an object as an item of a list, which names the kind once for all (Kubernetes API Concepts, Collections)
abbrev pub as_item : Data → Data
as_item d = object (without (codes "kind") (without (codes "apiVersion") (members_of d)))

-- a list with this metadata (Kubernetes API Concepts, Collections)
abbrev pub list_with : Kind → Members → history.Entries → Data
list_with k metadata ms =
    object
    (member (codes "apiVersion") (string (api_version k))
    (member (codes "items") (array (items_of (map (λ m. as_item m.1) ms)))
    (member (codes "kind") (string (kind_text k ++ codes "List")) (member (codes "metadata") (object metadata) no_members))))

abbrev pub at_version : ℕ → Members
at_version r = member (codes "resourceVersion") (string (decimal r)) no_members

-- a list at a revision
abbrev pub list_body : Kind → ℕ → history.Entries → Data
list_body k r ms = list_with k (at_version r) ms

-- ---- create

abbrev pub is_free : Kind → List ℕ → history.Entries → List ℕ → Bool
is_free kind ns ms name = not (is_some (found (record { kind = kind; namespace = ns; name = name }) ms))

-- the key of a new object: its name is the one that it gives, or one that is made
abbrev pub new_name : Kind → List ℕ → Data → history.Entries → ℕ → Key
new_name kind ns o ms r = record { kind = kind; namespace = ns; name = name_from (is_free kind ns ms) (name o) (generate_name o) (r + 1) }

-- a new object, with its first status, is stored if no object has its key and its fields are valid (Kubernetes API Concepts, POST)
abbrev pub create : Kind → List ℕ → Data → history.Entries → ℕ → List ℕ → Outcome
create kind ns o ms r moment =
    let k = new_name kind ns o ms r in
    let new = created kind (r + 1) ns k.name moment o in
    refuse_if (is_other (namespace o) ns || is_some (version o)) (bad_request part.Object)
    (refuse_field k (create_fault kind k.name r (with_first_status kind o))
    (refuse_if (is_too_large new) too_large
    (refuse_if (is_some (found k ms)) (already_exists k) (refuse_if (nat_le most_objects (length ms) || is_past_greatest (r + 1)) storage_full (stored 201 k new)))))

-- ---- update

-- whether an object has the name of the one in the path, and no other namespace
abbrev pub names_path : Key → Data → Bool
names_path k o = not (is_other (namespace o) k.namespace) && not (differs (Some k.name) (name o))

-- what is done with a body that can be read, and names the object of the path
abbrev pub if_named : Key → Result Data Part → (Data → Outcome) → Outcome
if_named k read next = if_read read (λ o. refuse_if (not (names_path k o)) (bad_request part.Object) (next o))

-- what is done where the stored object has the uid and the resourceVersion that the new one names, if it names them (Kubernetes API Conventions, Concurrency Control and Consistency)
abbrev pub if_same : Key → Data → Data → Outcome → Outcome
if_same k o old next =
    refuse_if (differs (uid o) (uid old)) (conflict k mismatch.Uid) (refuse_if (differs (version o) (version old)) (conflict k mismatch.Modified) next)

-- an object is stored in the place of another
abbrev pub put_in_place : Key → Data → ℕ → Outcome
put_in_place k d r = refuse_if (is_too_large d) too_large (refuse_if (is_past_greatest (r + 1)) storage_full (stored 200 k d))

-- the object under a key is removed, and this is answered, if a revision is left for the removal
abbrev pub take_out : Key → Data → ℕ → Outcome
take_out k d r = refuse_if (is_past_greatest (r + 1)) storage_full (removed k d)

-- an object replaces the stored one, which is removed if its last finalizer is; one that says the same writes nothing (Kubernetes API Concepts, PUT; Kubernetes, Finalizers)
abbrev pub replace : Key → Data → ℕ → Data → Outcome
replace k o r old =
    let d = in_place k.kind old o in
    let new = updated k.kind (r + 1) old d in
    if_same k o old
    (refuse_field k (update_fault k.kind k.name r old d) (if says_the_same old d then shown old else (if is_finalized old new then take_out k new r else put_in_place k new r)))

-- the status of an object replaces that of the stored one, and nothing else of it counts (Kubernetes API Conventions, Spec and Status)
abbrev pub replace_status : Key → Data → ℕ → Data → Outcome
replace_status k o r old =
    let d = with_status_in k.kind old o in
    if_same k o old
    (refuse_if (not (is_status_valid k.kind d)) (invalid k field.Status) (if says_the_same old d then shown old else put_in_place k (at_revision (r + 1) (metadata_of d) d) r))

-- ---- delete

-- the stored object is removed, or its deletionTimestamp is set, however large it is then (Kubernetes API Concepts, DELETE)
abbrev pub by_decision : Key → ℕ → Data → ℕ → Result Fate Mismatch → Outcome
by_decision k code old r (Err why) = refused (conflict k why)
by_decision k code old r (Ok remove) = take_out k (removal_of k.kind k (r + 1) old) r
by_decision k code old r (Ok (mark d)) = refuse_if (is_past_greatest (r + 1)) storage_full (stored code k (at_revision (r + 1) (metadata_of d) d))
by_decision k code old r (Ok keep) = answered (record { code = code; body = old; write = None })

-- ---- the verbs

-- what a request is answered and writes, over what is there at revision r; a merge patch (RFC 7396) updates by the object that it makes (Kubernetes API Concepts, PATCH)
abbrev pub accept_at : Request → history.Entries → ℕ → List ℕ → Outcome
accept_at (get_object k) ms r moment = or_not_found k shown (found k ms)
accept_at (list_objects v) ms r moment = shown (list_body v.kind r (viewed v ms))
accept_at (create_object kind ns d) ms r moment = if_read (object_in kind d) (λ o. create kind ns o ms r moment)
accept_at (update_object k d) ms r moment = if_named k (object_in k.kind d) (λ o. or_not_found k (replace k o r) (found k ms))
accept_at (update_status k d) ms r moment =
    refuse_if (not (has_status k.kind)) (not_found k) (if_named k (reading k.kind d) (λ o. or_not_found k (replace_status k o r) (found k ms)))
accept_at (patch_object k d) ms r moment =
    refuse_if (not (is_body d)) (bad_request part.Body) (or_not_found k (λ old. if_named k (object_in k.kind (merged old d)) (λ o. replace k o r old)) (found k ms))
accept_at (delete_object k o) ms r moment = or_not_found k (λ old. by_decision k (kept_code o.policy) old r (decided k.kind o moment old)) (found k ms)

-- the answer to a request at a moment, after all that has happened
abbrev pub accept : Request → History → List ℕ → Outcome
accept q h moment = accept_at q (entries_at h (present h)) (present h) moment
