-- Requests as the definitions say them.
use Rattle.std.specs.Prelude.{string_bytes}
use Rattle.serde_json.specs.View.{view}
use Rattle.spec_api.specs.declared.kinds.Kind as kinds
use Rattle.spec_api.specs.ObjectRequests as verbs
use Rattle.lifecycle.specs.Options.{options_seen}
use Rattle.object_keys.specs.Keys.{key_of}
use Rattle.selector.specs.Views.{view_of}
use Rattle.request_parts.specs.declared.request.Request.{Request}
use Rattle.request_parts.specs.declared.request.Request.TheVariants.{Get, List, Create, Update, UpdateStatus, Patch, Delete}

abbrev pub request_of : Request → verbs.Request
request_of (Get k) = verbs.get_object (key_of k)
request_of (List v) = verbs.list_objects (view_of v)
request_of (Create kind ns d) = verbs.create_object kind (string_bytes ns) (view d)
request_of (Update k d) = verbs.update_object (key_of k) (view d)
request_of (UpdateStatus k d) = verbs.update_status (key_of k) (view d)
request_of (Patch k d) = verbs.patch_object (key_of k) (view d)
request_of (Delete k o) = verbs.delete_object (key_of k) (options_seen o)

-- the kind of the objects that a request names
abbrev pub kind_named : verbs.Request → kinds.Kind
kind_named (verbs.get_object k) = k.kind
kind_named (verbs.list_objects v) = v.kind
kind_named (verbs.create_object kind ns d) = kind
kind_named (verbs.update_object k d) = k.kind
kind_named (verbs.update_status k d) = k.kind
kind_named (verbs.patch_object k d) = k.kind
kind_named (verbs.delete_object k o) = k.kind
