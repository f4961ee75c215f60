-- The requests of objects: one for each verb.
use Rattle.std.specs.Prelude.{ℕ, List}
use Rattle.serde_json.specs.Data.{Data}
use Rattle.spec_api.specs.declared.kinds.Kind.{Kind}
use Rattle.spec_api.specs.Texts.Keys.{Key}
use Rattle.spec_api.specs.State.History.{View}
use Rattle.spec_api.specs.Requests.DeleteOptions.{Options}

-- the verbs of the API, each with what it names (Kubernetes API Concepts, API terminology); the body of an object is JSON data, not yet read
pub data Request : Type 0 where
  get_object : Key → Request
  list_objects : View → Request
  create_object : Kind → List ℕ → Data → Request
  update_object : Key → Data → Request
  update_status : Key → Data → Request
  patch_object : Key → Data → Request
  delete_object : Key → Options → Request
