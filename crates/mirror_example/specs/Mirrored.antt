-- What is asked for a Pod: that there is a ConfigMap of its name, which it owns, and which says its phase.
use Rattle.std.specs.Prelude.{◌∷◌, [], ◌&&◌, ℕ, List, Bool, not, codes, Option, Some, None, Result, Ok, option_and_then, unwrap_or, if◌then◌else◌}
use Rattle.std.specs.List.{list_any}
use Rattle.std.specs.Str.{bytes_eq}
use Rattle.serde_json.specs.Data.{Data, array, item, no_items, member, no_members, object, string}
use Rattle.serde_json.specs.Find.{get}
use Rattle.spec_api.specs.Checks.{in_status}
use Rattle.spec_api.specs.History.{found}
use Rattle.spec_api.specs.Keys.{Key, is_same_key}
use Rattle.spec_api.specs.Metadata.{is_being_deleted, uid, version}
use Rattle.spec_api.specs.ObjectRequests as words
use Rattle.spec_api.specs.SelectorValues.{text_in}
use Rattle.spec_api.specs.declared.kinds.Kind.TheVariants.{ConfigMap, Pod}
use Rattle.spec_client_go.specs.OwnerReferences.{controller_keys, is_controlled_by}
use Rattle.spec_reconcile.specs.MetadataEdits.{controller_reference}
use Rattle.spec_server.specs.Snapshots.{Snapshot}
use Rattle.object_keys.specs.declared.per_kind.PerKind.{PerKind}
use Rattle.keyed_board.specs.declared.failure.Failure.{Failure}
use Rattle.reconciler.specs.Asked.{deletes}
use Rattle.reconciler.specs.Guarded.{guarded}

-- the ConfigMap of a Pod is called as the Pod is
abbrev pub map_key : Key → Key
map_key k = record k { kind = ConfigMap }

-- the phase of a Pod, and the one that a ConfigMap says; the empty text where there is none
abbrev pub phase : Data → List ℕ
phase pod = text_in (in_status (codes "phase") pod)

abbrev pub said_phase : Data → List ℕ
said_phase map = text_in (option_and_then (get (codes "phase")) (get (codes "data") map))

-- a ConfigMap that a Pod owns says another phase than the Pod's
abbrev pub is_behind : Data → Data → Bool
is_behind pod map = is_controlled_by (unwrap_or (uid pod) []) map && not (bytes_eq (said_phase map) (phase pod))

-- a ConfigMap is of a Pod that was called so and is not shown any more, whether or not another is called so now
abbrev pub is_left : Key → Option Data → Data → Bool
is_left k pod map = not (is_controlled_by (unwrap_or (option_and_then uid pod) []) map) && list_any (λ o. is_same_key o k) (controller_keys Pod map)

abbrev pub saying : List ℕ → Data
saying t = object (member (codes "phase") (string t) no_members)

-- a ConfigMap, or a patch of one, that says a phase, with this metadata
abbrev pub saying_with : Data → List ℕ → Data
saying_with metadata t = object (member (codes "data") (saying t) (member (codes "metadata") metadata no_members))

-- it is called as the Pod is, and the Pod owns it
abbrev pub naming : Key → Data → Data
naming k pod = object (member (codes "name") (string k.name) (member (codes "ownerReferences") (array (item (controller_reference k pod) no_items)) no_members))

-- what makes the ConfigMap of a Pod
abbrev pub creates : Key → Data → words.Request
creates k pod = words.create_object ConfigMap k.namespace (saying_with (naming k pod) (phase pod))

-- what has a ConfigMap say the phase of its Pod, and nothing else, where it is still as it was seen
abbrev pub changes : Key → Data → Data → words.Request
changes k pod map =
    words.patch_object (map_key k) (saying_with (object (member (codes "resourceVersion") (string (unwrap_or (version map) [])) no_members)) (phase pod))

-- what is asked for a Pod where it has a ConfigMap
abbrev pub brought_up : Key → Option Data → Data → Result (Option words.Request) Failure
brought_up k None map = Ok None
brought_up k (Some pod) map = if is_behind pod map then guarded map (Some (changes k pod map)) else Ok None

-- what is asked for a Pod, by the Pod and the ConfigMap that are shown: one is made for a Pod that is not being deleted; one that is left is deleted; one
-- that is behind is changed; and nothing else is asked
abbrev pub decided : Key → Option Data → Option Data → Result (Option words.Request) Failure
decided k None None = Ok None
decided k (Some pod) None = Ok (if is_being_deleted pod then None else Some (creates k pod))
decided k pod (Some map) = if is_left k pod map then Ok (Some (deletes (map_key k) map)) else brought_up k pod map

abbrev pub wanted : Key → PerKind Snapshot → Result (Option words.Request) Failure
wanted k shown = decided k (found k shown.pods.members) (found (map_key k) shown.config_maps.members)
