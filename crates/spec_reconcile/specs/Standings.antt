-- How the owners of an object stand, and what depends on it (Kubernetes, Owners and Dependents; Garbage Collection).
use Rattle.std.specs.Prelude.{ℕ, List, [], ◌++◌, map, Bool, true, false, ◌&&◌, Option, Some, None, if◌then◌else◌}
use Rattle.std.specs.List.{list_any}
use Rattle.serde_json.specs.Data.{Data}
use Rattle.spec_api.specs.Checks.{finalizers, has_text}
use Rattle.spec_api.specs.Deletion.{foreground}
use Rattle.spec_api.specs.History.{Entries}
use Rattle.spec_api.specs.Keys.{Key}
use Rattle.spec_api.specs.Metadata.{Owner, owners, uid, is_being_deleted}
use Rattle.spec_api.specs.SelectorValues.{is_some_and}
use Rattle.spec_client_go.specs.Hands.{Read, live}
use Rattle.spec_client_go.specs.Informers.{Looks, of_owner}
use Rattle.spec_client_go.specs.OwnerReferences.{is_text, owner_key, namespace_of}
use Rattle.spec_reconcile.specs.declared.standing.Standing.{Standing}
use Rattle.spec_reconcile.specs.declared.standing.Standing.TheVariants.{Solid, Waiting, Dangling}

-- whether a reference is to this object, by its uid
abbrev pub is_to : Data → Owner → Bool
is_to d o = is_some_and (λ u. is_text u o.uid) (uid d)

-- ---- owners

-- whether an object is being deleted, and waits until its dependents are gone (Kubernetes, Foreground cascading deletion)
abbrev pub waits_for_dependents : Data → Bool
waits_for_dependents d = is_being_deleted d && has_text (finalizers d) foreground

-- how an owner stands, by what was found under its key: one with another uid is another object
abbrev pub standing_of : Owner → Option Data → Standing
standing_of o None = Dangling
standing_of o (Some d) = if is_to d o then (if waits_for_dependents d then Waiting else Solid) else Dangling

-- how an owner stands, by the live read of its key; one of a kind that is not served is solid
abbrev pub standing_at : List Read → Owner → Option Key → Standing
standing_at reads o None = Solid
standing_at reads o (Some k) = standing_of o (live reads k)

-- how an owner of what is in a namespace stands, by the live reads
abbrev pub standing : List Read → List ℕ → Owner → Standing
standing reads ns o = standing_at reads o (owner_key ns o)

-- how the owners of an object stand, in the order of its references
abbrev pub standings : List Read → Data → List Standing
standings reads d = map (standing reads (namespace_of d)) (owners d)

abbrev pub is_solid : Standing → Bool
is_solid Solid = true
is_solid Waiting = false
is_solid Dangling = false

abbrev pub is_waiting : Standing → Bool
is_waiting Solid = false
is_waiting Waiting = true
is_waiting Dangling = false

-- ---- dependents

-- the objects of all kinds with an owner of this uid
abbrev pub with_owner : Looks → List ℕ → Entries
with_owner l u = of_owner u l.config_maps ++ (of_owner u l.pods ++ (of_owner u l.replica_sets ++ of_owner u l.deployments))

-- those with the owner of this uid, where one is given
abbrev pub with_owner_if : Looks → Option (List ℕ) → Entries
with_owner_if l None = []
with_owner_if l (Some u) = with_owner l u

-- the dependents of an object
abbrev pub dependents : Looks → Data → Entries
dependents l d = with_owner_if l (uid d)

-- whether an object blocks the deletion of this owner (Kubernetes, Foreground cascading deletion)
abbrev pub blocks : Data → Data → Bool
blocks owner d = list_any (λ o. is_to owner o && o.blocks_deletion) (owners d)
