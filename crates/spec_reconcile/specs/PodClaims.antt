-- Claims: which pods a ReplicaSet releases and adopts, and which are its own (Kubernetes, ReplicaSet, Non-Template Pod acquisitions).
use Rattle.std.specs.Prelude.{◌&&◌, ◌||◌, List, [], ◌∷◌, filter, flat_map, Bool, not, Option, if◌then◌else◌}
use Rattle.serde_json.specs.Data.{Data}
use Rattle.spec_api.specs.History.{Entries}
use Rattle.spec_api.specs.Keys.{Key}
use Rattle.spec_api.specs.Metadata.{Owner, is_being_deleted, uid}
use Rattle.spec_api.specs.SelectorValues.{is_some_and}
use Rattle.spec_client_go.specs.Commands.{Command, update}
use Rattle.spec_client_go.specs.OwnerReferences.{is_text}
use Rattle.spec_reconcile.specs.MetadataEdits.{keeping_owners, with_controller}
use Rattle.spec_reconcile.specs.Pods.{is_owned, is_orphan, matches}

-- ---- which pods

-- a pod that is owned and does not match is released
abbrev pub is_released : Data → Data → Bool
is_released set pod = not (is_being_deleted set) && is_owned set pod && not (matches set pod)

-- an orphan that matches is adopted, if the set may adopt
abbrev pub is_adoptable : Data → Data → Bool
is_adoptable set pod = not (is_being_deleted set) && is_orphan pod && matches set pod

abbrev pub have_one_uid : Data → Data → Bool
have_one_uid a b = is_some_and (λ u. is_text u (uid b)) (uid a)

-- a set may adopt if a live read found it, with the same uid, and not being deleted
abbrev pub may_adopt : Data → Option Data → Bool
may_adopt set live = is_some_and (λ d. have_one_uid set d && not (is_being_deleted d)) live

-- the set's own pods: those that it owns and that match, and those that it adopts
abbrev pub is_own : Data → Bool → Data → Bool
is_own set may pod = (is_owned set pod && matches set pod) || (may && is_adoptable set pod)

abbrev pub own_pods : Data → Bool → Entries → Entries
own_pods set may pods = filter (λ p. is_own set may p.1) pods

-- ---- their references (Kubernetes, Owners and Dependents)

-- whether a reference is to the set as the controller
abbrev pub is_to_controller : Data → Owner → Bool
is_to_controller set o = o.is_controller && is_some_and (λ u. is_text u o.uid) (uid set)

-- the pod without its reference to the set
abbrev pub released : Data → Data → Data
released set pod = keeping_owners (λ o. not (is_to_controller set o)) pod

-- the pod with a reference to the set, as the last
abbrev pub adopted : Key → Data → Data → Data
adopted k set pod = with_controller k set pod

-- ---- the commands

-- each names the version that was looked at, as the pod does
abbrev pub claim : Key → Data → Bool → Key × Data → List Command
claim k set may p =
    if is_released set p.1 then update p.0 (released set p.1) ∷ []
    else (if may && is_adoptable set p.1 then update p.0 (adopted k set p.1) ∷ [] else [])

-- pod by pod, in the order of keys
abbrev pub claims : Key → Data → Bool → Entries → List Command
claims k set may pods = flat_map (claim k set may) pods
