-- What a request names, and how much is shown of what was sent.
use Rattle.std.specs.Prelude.{ℕ, List, [], length, take, min, unwrap_or}
use Rattle.serde_json.specs.Data.{Data}
use Rattle.spec_api.specs.Checks.{generate_name}
use Rattle.spec_api.specs.Metadata.{name}
use Rattle.spec_api.specs.ObjectRequests.{Request, get_object, list_objects, create_object, update_object, update_status, patch_object, delete_object}

-- none where objects of all namespaces are listed
abbrev pub namespace_named : Request → List ℕ
namespace_named (get_object k) = k.namespace
namespace_named (list_objects v) = unwrap_or v.namespace []
namespace_named (create_object kind ns d) = ns
namespace_named (update_object k d) = k.namespace
namespace_named (update_status k d) = k.namespace
namespace_named (patch_object k d) = k.namespace
namespace_named (delete_object k o) = k.namespace

-- the name of what is to be made, or what its name is to be made of (Kubernetes API Conventions, Metadata)
abbrev pub new_name : Data → List ℕ
new_name d = unwrap_or (name d) (unwrap_or (generate_name d) [])

-- none where objects are listed
abbrev pub name_named : Request → List ℕ
name_named (get_object k) = k.name
name_named (list_objects v) = []
name_named (create_object kind ns d) = new_name d
name_named (update_object k d) = k.name
name_named (update_status k d) = k.name
name_named (patch_object k d) = k.name
name_named (delete_object k o) = k.name

-- 400 bytes at most
abbrev pub first_shown : List ℕ → List ℕ
first_shown bytes = take (min (length bytes) 400) bytes
