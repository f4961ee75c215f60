-- Pods as the ReplicaSet controller sees them: active, ready, owned, orphans (Kubernetes, ReplicaSet, How a ReplicaSet works).
use Rattle.std.specs.Prelude.{ℕ, ◌&&◌, ◌||◌, List, Bool, false, not, codes}
use Rattle.std.specs.Str.{bytes_eq}
use Rattle.serde_json.specs.Data.{Data, Items, no_items, item}
use Rattle.spec_api.specs.Checks.{requirements, in_status}
use Rattle.spec_api.specs.Metadata.{labels_of, is_being_deleted, uid, text_at}
use Rattle.spec_api.specs.Selectors.{meets_all}
use Rattle.spec_api.specs.SelectorValues.{items_in, is_some_and, text_in}
use Rattle.spec_client_go.specs.OwnerReferences.{has_controller, is_controlled_by, is_text}

-- ---- what a pod says (Kubernetes, Pod Lifecycle)

abbrev pub phase : Data → List ℕ
phase pod = text_in (in_status (codes "phase") pod)

-- a pod is active if it is neither finished nor being deleted
abbrev pub is_active : Data → Bool
is_active pod = not (bytes_eq (phase pod) (codes "Succeeded")) && not (bytes_eq (phase pod) (codes "Failed")) && not (is_being_deleted pod)

abbrev pub is_ready_condition : Data → Bool
is_ready_condition c = is_text (codes "Ready") (text_at (codes "type") c) && is_text (codes "True") (text_at (codes "status") c)

abbrev pub any_item : (Data → Bool) → Items → Bool
any_item test no_items = false
any_item test (item d ds) = test d || any_item test ds

-- a pod is ready if one of its conditions says so
abbrev pub is_ready : Data → Bool
is_ready pod = any_item is_ready_condition (items_in (in_status (codes "conditions") pod))

-- ---- what it is to a ReplicaSet

-- whether the set's selector matches the pod's labels
abbrev pub matches : Data → Data → Bool
matches set pod = is_some_and (λ rs. meets_all rs (labels_of pod)) (requirements set)

-- a set owns an active pod whose controller reference has the set's uid
abbrev pub is_owned : Data → Data → Bool
is_owned set pod = is_active pod && is_some_and (λ u. is_controlled_by u pod) (uid set)

-- an orphan is an active pod without a controller
abbrev pub is_orphan : Data → Bool
is_orphan pod = is_active pod && not (has_controller pod)
