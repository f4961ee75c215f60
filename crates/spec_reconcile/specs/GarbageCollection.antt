-- The garbage collector: what it reads live, and what it asks of the server (Kubernetes, Garbage Collection; Use Cascading Deletion in a Cluster).
use Rattle.std.specs.Prelude.{List, [], ◌∷◌, ◌++◌, map, not, ◌&&◌, Bool, length, nat_lt, Option, Some, None, option_map, if◌then◌else◌}
use Rattle.std.specs.List.{list_all, list_any}
use Rattle.serde_json.specs.Data.{Data}
use Rattle.spec_api.specs.declared.policies.Policy.{Policy}
use Rattle.spec_api.specs.declared.policies.Policy.TheVariants.{Orphan, Foreground, Background}
use Rattle.spec_api.specs.Checks.{finalizers, has_text}
use Rattle.spec_api.specs.Deletion.{orphan, foreground}
use Rattle.spec_api.specs.History.{Entries}
use Rattle.spec_api.specs.Keys.{Key}
use Rattle.spec_api.specs.Metadata.{uid, version, is_being_deleted}
use Rattle.spec_client_go.specs.Commands.{Command, update, delete, seen, answered}
use Rattle.spec_client_go.specs.Hands.{Hand, Read, live, unread}
use Rattle.spec_client_go.specs.OwnerReferences.{namespace_of, owner_keys}
use Rattle.spec_reconcile.specs.MetadataEdits.{without_finalizer, keeping_owners, blocking_nobody}
use Rattle.spec_reconcile.specs.declared.standing.Standing.{Standing}
use Rattle.spec_reconcile.specs.Standings.{standing, standings, is_solid, is_waiting, is_to, waits_for_dependents, blocks, dependents}

-- ---- what is read live

abbrev pub owner_keys_if : Option Data → List Key
owner_keys_if None = []
owner_keys_if (Some d) = owner_keys d

-- the object, then its owners of served kinds, as it names them live
abbrev pub asks : Hand → List Key
asks h = unread h.reads (h.key ∷ owner_keys_if (live h.reads h.key))

-- ---- an object that is being deleted

-- its dependents are updated without their references to it (Kubernetes, Orphaned dependents)
abbrev pub orphaned : Data → Entries → List Command
orphaned d ms = map (λ m. update m.0 (keeping_owners (λ o. not (is_to d o)) m.1)) ms

-- whether a dependent blocks its deletion
abbrev pub is_blocked : Data → Entries → Bool
is_blocked d ms = list_any (λ m. blocks d m.1) ms

-- with `orphan` its dependents lose their references to it, and then it loses that finalizer; with `foregroundDeletion` it loses this one once no dependent blocks it
abbrev pub finish : Key → Data → Entries → List Command
finish k d ms =
    if has_text (finalizers d) orphan then orphaned d ms ++ update k (without_finalizer orphan d) ∷ []
    else (if has_text (finalizers d) foreground && not (is_blocked d ms) then update k (without_finalizer foreground d) ∷ [] else [])

-- ---- an object that is not being deleted

-- the policy that an object's finalizers stand for
abbrev pub own_policy : Data → Policy
own_policy d = if has_text (finalizers d) orphan then Orphan else (if has_text (finalizers d) foreground then Foreground else Background)

-- it is deleted, if it is still the object that was read, at the version that was read
abbrev pub remove : Key → Data → Policy → List Command
remove k d p = delete k (uid d) (option_map seen (version d)) (Some p) ∷ []

-- it is deleted after its dependents; where one of these waits for its own, no owner waits for it any more first, so that no circle of owners waits for ever
abbrev pub remove_after : Key → Data → Entries → List Command
remove_after k d ms =
    if list_any (λ m. waits_for_dependents m.1) ms then update k (blocking_nobody d) ∷ delete k (uid d) (Some answered) (Some Foreground) ∷ []
    else remove k d Foreground

-- whether one of its owners waits, and something depends on it
abbrev pub is_between : List Standing → Entries → Bool
is_between found ms = list_any is_waiting found && nat_lt 0 (length ms)

-- it stays where all its owners are solid; where some are, it keeps these alone; with none it is deleted
abbrev pub collect : List Read → Key → Data → Entries → List Command
collect reads k d ms =
    let found = standings reads d in
    if list_all is_solid found then []
    else (if list_any is_solid found then update k (keeping_owners (λ o. is_solid (standing reads (namespace_of d) o)) d) ∷ []
    else (if is_between found ms then remove_after k d ms else remove k d (own_policy d)))

-- ---- the plan

-- of an object that is absent nothing is asked
abbrev pub plan_for : Hand → Option Data → List Command
plan_for h None = []
plan_for h (Some d) = if is_being_deleted d then finish h.key d (dependents h.looks d) else collect h.reads h.key d (dependents h.looks d)

-- what the collector asks of the server, one after another, once all that it asks for was read
abbrev pub plan : Hand → List Command
plan h = plan_for h (live h.reads h.key)
