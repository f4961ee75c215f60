-- Why a request is refused, and what the client is told.
use Rattle.std.specs.Prelude.{ℕ, List, [], ◌∷◌, ◌++◌, Option, Some, None, option_map, codes, decimal, length, if◌then◌else◌, ◌==◌}
use Rattle.serde_json.specs.Data.{Data, number, unsigned, string, object, Members, no_members, member}
use Rattle.spec_api.specs.declared.refusals.Part.{Part}
use Rattle.spec_api.specs.declared.refusals.Part.TheVariants as part
use Rattle.spec_api.specs.declared.refusals.Mismatch.{Mismatch}
use Rattle.spec_api.specs.declared.refusals.Mismatch.TheVariants as mismatch
use Rattle.spec_api.specs.declared.refusals.Field.{Field}
use Rattle.spec_api.specs.declared.refusals.Field.TheVariants as field
use Rattle.spec_api.specs.Texts.Kinds.{plural, group_name, resource}
use Rattle.spec_api.specs.Texts.Keys.{Key}

-- the refusals; of two revisions the first is the one asked for, the second the floor or the present one
pub data Refusal : Type 0 where
  bad_request : Part → Refusal
  not_found : Key → Refusal
  no_such_path : Refusal
  method_not_allowed : Refusal
  already_exists : Key → Refusal
  conflict : Key → Mismatch → Refusal
  expired : ℕ → ℕ → Refusal
  length_required : Refusal
  too_large : Refusal
  unsupported_media_type : Refusal
  invalid : Key → Field → Refusal
  no_memory : Refusal
  too_new : ℕ → ℕ → Refusal
  storage_full : Refusal

abbrev pub part_text : Part → List ℕ
part_text part.Head = codes "head"
part_text part.Path = codes "path"
part_text part.Query = codes "query"
part_text part.Token = codes "token"
part_text part.Body = codes "body"
part_text part.Object = codes "object"
part_text part.Options = codes "options"

abbrev pub mismatch_text : Mismatch → List ℕ
mismatch_text mismatch.Modified = codes "the object has been modified; please apply your changes to the latest version and try again"
mismatch_text mismatch.Uid = codes "the precondition on uid is not met"
mismatch_text mismatch.ResourceVersion = codes "the precondition on resourceVersion is not met"

abbrev pub field_text : Field → List ℕ
field_text field.Name = codes "metadata.name"
field_text field.GenerateName = codes "metadata.generateName"
field_text field.Labels = codes "metadata.labels"
field_text field.Finalizers = codes "metadata.finalizers"
field_text field.OwnerReferences = codes "metadata.ownerReferences"
field_text field.Replicas = codes "spec.replicas"
field_text field.Selector = codes "spec.selector"
field_text field.Template = codes "spec.template"
field_text field.Strategy = codes "spec.strategy"
field_text field.RevisionHistoryLimit = codes "spec.revisionHistoryLimit"
field_text field.Status = codes "status"

-- a resource and a name in quotes, as `configmaps "a"`
abbrev pub quoted_name : Key → List ℕ
quoted_name k = resource k.kind ++ (32 ∷ 34 ∷ (k.name ++ 34 ∷ []))

-- what a client is told: an HTTP status code (RFC 9110), a word for programs, a sentence for people, and which object it is about, if any (Kubernetes API Conventions, Response Status Kind)
pub record Told : Type 0 where
  pub code : ℕ
  pub reason : List ℕ
  pub message : List ℕ
  pub about : Option Key

-- what it is told of each refusal (Kubernetes API machinery, the errors package; the words `LengthRequired` and `StorageFull` are our own)
abbrev pub told : Refusal → Told
told (bad_request p) = record { code = 400; reason = codes "BadRequest"; message = codes "bad request: " ++ part_text p; about = None }
told (not_found k) = record { code = 404; reason = codes "NotFound"; message = quoted_name k ++ codes " not found"; about = Some k }
told no_such_path = record { code = 404; reason = codes "NotFound"; message = codes "the server could not find the requested resource"; about = None }
told method_not_allowed = record { code = 405; reason = codes "MethodNotAllowed"; message = codes "the server does not allow this method on the requested resource"; about = None }
told (already_exists k) = record { code = 409; reason = codes "AlreadyExists"; message = quoted_name k ++ codes " already exists"; about = Some k }
told (conflict k why) = record { code = 409; reason = codes "Conflict"; message = codes "Operation cannot be fulfilled on " ++ (quoted_name k ++ (codes ": " ++ mismatch_text why)); about = Some k }
told (expired asked floor) = record { code = 410; reason = codes "Expired"; message = codes "too old resource version: " ++ (decimal asked ++ (codes " (" ++ (decimal floor ++ codes ")"))); about = None }
told length_required = record { code = 411; reason = codes "LengthRequired"; message = codes "length required"; about = None }
told too_large = record { code = 413; reason = codes "RequestEntityTooLarge"; message = codes "request entity too large"; about = None }
told unsupported_media_type = record { code = 415; reason = codes "UnsupportedMediaType"; message = codes "unsupported media type"; about = None }
told (invalid k f) = record { code = 422; reason = codes "Invalid"; message = quoted_name k ++ (codes " is invalid: " ++ field_text f); about = None }
told no_memory = record { code = 503; reason = codes "ServiceUnavailable"; message = codes "no memory"; about = None }
told (too_new asked present) = record { code = 504; reason = codes "Timeout"; message = codes "Timeout: Too large resource version: " ++ (decimal asked ++ (codes ", current: " ++ decimal present)); about = None }
told storage_full = record { code = 507; reason = codes "StorageFull"; message = codes "storage is full"; about = None }

abbrev pub code : Refusal → ℕ
code f = (told f).code

abbrev pub message : Refusal → List ℕ
message f = (told f).message

-- a member with this value, if there is one, before the others
abbrev pub with_optional : List ℕ → Option Data → Members → Members
with_optional name None ms = ms
with_optional name (Some d) ms = member name d ms

-- the details that name an object, with its group if its kind has one, and with more after them (Kubernetes API Conventions, Response Status Kind)
abbrev pub details : Key → Members → Data
details k more =
    let ms = member (codes "kind") (string (plural k.kind)) (member (codes "name") (string k.name) more) in
    object (if length (group_name k.kind) == 0 then ms else member (codes "group") (string (group_name k.kind)) ms)

-- the body of a refusal, a Status (Kubernetes API Conventions, Response Status Kind)
abbrev pub status_body : Refusal → Data
status_body f =
    object
    (member (codes "apiVersion") (string (codes "v1"))
    (member (codes "code") (number (unsigned (code f)))
    (with_optional (codes "details") (option_map (λ k. details k no_members) (told f).about)
    (member (codes "kind") (string (codes "Status"))
    (member (codes "message") (string (message f))
    (member (codes "metadata") (object no_members)
    (member (codes "reason") (string (told f).reason) (member (codes "status") (string (codes "Failure")) no_members))))))))

-- the body of a success without an object: of a removal, with the name and the uid of what was removed, or of a compaction, with neither
abbrev pub success_body : Option (Key × List ℕ) → Data
success_body removed =
    object
    (member (codes "apiVersion") (string (codes "v1"))
    (with_optional (codes "details") (option_map (λ k. details k.0 (member (codes "uid") (string k.1) no_members)) removed)
    (member (codes "kind") (string (codes "Status")) (member (codes "metadata") (object no_members) (member (codes "status") (string (codes "Success")) no_members)))))
