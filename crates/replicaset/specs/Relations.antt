-- What a pod is to a ReplicaSet, and what the set does with it.
use Rattle.std.specs.Prelude.{List, [], ◌∷◌, Bool, true, false, if◌then◌else◌}
use Rattle.serde_json.specs.Data.{Data}
use Rattle.spec_api.specs.History.{Entries}
use Rattle.spec_api.specs.Keys.{Key}
use Rattle.spec_api.specs.Metadata.{is_being_deleted}
use Rattle.spec_client_go.specs.Commands.{Command, update}
use Rattle.spec_reconcile.specs.PodClaims as claims
use Rattle.spec_reconcile.specs.Pods.{is_owned, matches}
use Rattle.replicaset.specs.declared.relations.Relation.{Relation}
use Rattle.replicaset.specs.declared.relations.Relation.TheVariants.{Own, Released, Adoptable, Other}

abbrev pub relation : Data → Data → Relation
relation set pod =
    if is_owned set pod then (if matches set pod then Own else (if is_being_deleted set then Other else Released))
    else (if claims.is_adoptable set pod then Adoptable else Other)

-- whether it is the set's own pod, where the set may adopt or may not
abbrev pub is_own_as : Bool → Relation → Bool
is_own_as may Own = true
is_own_as may Released = false
is_own_as may Adoptable = may
is_own_as may Other = false

abbrev pub own_as : Bool → Relation → Key × Data → Entries
own_as may r p = if is_own_as may r then p ∷ [] else []

abbrev pub claim_as : Key → Data → Bool → Key × Data → Relation → List Command
claim_as k set may p Own = []
claim_as k set may p Released = update p.0 (claims.released set p.1) ∷ []
claim_as k set may p Adoptable = if may then update p.0 (claims.adopted k set p.1) ∷ [] else []
claim_as k set may p Other = []
