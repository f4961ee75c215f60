-- Worked facts of the garbage collector, computed from the definitions: what it commands in a whole turn, how each command is answered, and what is there then, each object with its owners.
use Rattle.std.specs.Prelude.{◌≡◌, ℕ, List, [], ◌∷◌, ◌++◌, map, flat_map, codes, decimal, true, Option, Some, None, unwrap_or}
use Rattle.spec_api.specs.declared.kinds.Kind.{Kind}
use Rattle.spec_api.specs.declared.kinds.Kind.TheVariants.{ConfigMap, Pod, ReplicaSet, Deployment}
use Rattle.spec_api.specs.declared.policies.Policy.{Policy}
use Rattle.spec_api.specs.declared.policies.Policy.TheVariants.{Orphan, Foreground, Background}
use Rattle.spec_api.specs.History.{History, Entries, entries_at, present, state, list, unfiltered}
use Rattle.spec_api.specs.Keys.{Key}
use Rattle.spec_api.specs.Metadata.{Owner, owners, version}
use Rattle.spec_api.specs.Verbs.{accept, outcome_code, outcome_body, history_after}
use Rattle.spec_line_protocol.specs.Lines.{history_of, lines_of}
use Rattle.spec_client_go.specs.Commands.{Command, create, update, update_status, delete, request_of, Version, seen, answered}
use Rattle.spec_client_go.specs.Hands.{Read, Hand}
use Rattle.spec_reconcile.specs.GarbageCollection.{asks, plan}

-- ---- a whole turn, while nobody else writes

abbrev now : History → Kind → Entries
now h k = list h (unfiltered k None) (present h)

abbrev read_now : History → Key → Read
read_now h k = record { key = k; found = state h (present h) k }

-- with the object read, and then all that is asked
abbrev with_item : History → Key → Hand
with_item h k =
    record {
      key = k;
      looks = record { config_maps = now h ConfigMap; pods = now h Pod; replica_sets = now h ReplicaSet; deployments = now h Deployment };
      is_satisfied = true;
      reads = read_now h k ∷ [];
    }

abbrev with_owners : History → Hand → Hand
with_owners h x = record x { reads = x.reads ++ map (read_now h) (asks x) }

-- ---- what is shown of it

abbrev policy_text : Option Policy → List ℕ
policy_text None = codes "no policy"
policy_text (Some Orphan) = codes "Orphan"
policy_text (Some Foreground) = codes "Foreground"
policy_text (Some Background) = codes "Background"

abbrev version_text : Option Version → List ℕ
version_text None = codes "any version"
version_text (Some (seen v)) = v
version_text (Some answered) = codes "the answer's"

abbrev command_text : Command → List ℕ
command_text (create k ns d) = codes "create"
command_text (update k d) = codes "update " ++ (k.name ++ (codes " at " ++ unwrap_or (version d) []))
command_text (update_status k d) = codes "update the status of " ++ k.name
command_text (delete k u v p) =
    codes "delete " ++ (k.name ++ (codes " " ++ (unwrap_or u [] ++ (codes " at " ++ (version_text v ++ (codes " by " ++ policy_text p))))))

abbrev owners_text : List Owner → List ℕ
owners_text [] = codes "\n"
owners_text (o ∷ os) = codes " " ++ (unwrap_or o.name [] ++ owners_text os)

abbrev members_text : Entries → List ℕ
members_text [] = []
members_text (m ∷ ms) = m.0.name ++ (owners_text (owners m.1) ++ members_text ms)

abbrev pub moment : List ℕ
moment = codes "2026-01-01T00:00:00Z"

-- the commands one after another, each with the code that it is answered, and what is there after all
abbrev issued : History → Option (List ℕ) → List Command → List ℕ
issued h before [] = codes "then\n" ++ members_text (entries_at h (present h))
issued h before (c ∷ cs) =
    let o = accept (request_of before c) h moment in
    command_text c ++ (codes ": " ++ (decimal (outcome_code o) ++ (codes "\n" ++ issued (history_after h o) (version (outcome_body o)) cs)))

abbrev turn_at : History → Key → List ℕ
turn_at h k = issued h None (plan (with_owners h (with_item h k)))

abbrev key : Kind → List ℕ → Key
key kind name = record { kind = kind; namespace = codes "d"; name = name }

-- a turn for an object, after these lines
abbrev turn : Kind → List ℕ → List ℕ → List ℕ
turn kind name bytes = turn_at (history_of (lines_of bytes)) (key kind name)

-- the names that are asked for, once the object was read
abbrev asked_after : Kind → List ℕ → List ℕ → List ℕ
asked_after kind name bytes = flat_map (λ k. k.name ++ codes "\n") (asks (with_item (history_of (lines_of bytes)) (key kind name)))

-- ---- lines

-- a reference to what was created at a revision below 10
abbrev reference : List ℕ → List ℕ → List ℕ → List ℕ → List ℕ → List ℕ
reference group kind name r blocks =
    codes "{\"apiVersion\":\"" ++ (group ++ (codes "\",\"kind\":\"" ++ (kind ++ (codes "\",\"name\":\"" ++ (name
    ++ (codes "\",\"uid\":\"00000000-0000-8000-8000-00000000000" ++ (r ++ (codes "\",\"blockOwnerDeletion\":" ++ (blocks ++ codes "}")))))))))

abbrev to_config_map : List ℕ → List ℕ → List ℕ
to_config_map name r = reference (codes "v1") (codes "ConfigMap") name r (codes "false")

abbrev to_set : List ℕ → List ℕ → List ℕ → List ℕ
to_set name r blocks = reference (codes "apps/v1") (codes "ReplicaSet") name r blocks

-- a create of an object with these references
abbrev owned : List ℕ → List ℕ → List ℕ → List ℕ
owned plural name refs =
    codes "POST /api/v1/namespaces/d/" ++ (plural ++ (codes " {\"metadata\":{\"name\":\"" ++ (name ++ (codes "\",\"ownerReferences\":[" ++ (refs ++ codes "]}}\n")))))

abbrev config_map : List ℕ → List ℕ
config_map name = owned (codes "configmaps") name []

abbrev pod : List ℕ → List ℕ → List ℕ
pod name refs = owned (codes "pods") name refs

-- a create of a Pod with a finalizer
abbrev pod_with : List ℕ → List ℕ → List ℕ → List ℕ
pod_with finalizer name refs =
    codes "POST /api/v1/namespaces/d/pods {\"metadata\":{\"finalizers\":[\"" ++ (finalizer ++ (codes "\"],\"name\":\"" ++ (name ++ (codes "\",\"ownerReferences\":[" ++ (refs ++ codes "]}}\n")))))

abbrev set : List ℕ → List ℕ
set name =
    codes "POST /apis/apps/v1/namespaces/d/replicasets {\"metadata\":{\"name\":\""
    ++ (name ++ codes "\"},\"spec\":{\"selector\":{\"matchLabels\":{\"app\":\"r\"}},\"template\":{\"metadata\":{\"labels\":{\"app\":\"r\"}},\"spec\":{}}}}\n")

abbrev delete_set : List ℕ → List ℕ → List ℕ
delete_set name policy = codes "DELETE /apis/apps/v1/namespaces/d/replicasets/" ++ (name ++ (codes "?propagationPolicy=" ++ (policy ++ codes "\n")))

abbrev delete_config_map : List ℕ → List ℕ
delete_config_map name = codes "DELETE /api/v1/namespaces/d/configmaps/" ++ (name ++ codes "\n")

-- ---- what is read

-- owners of served kinds are asked for, each key once
abbrev pub OwnersAreAskedOnce : Type 0
OwnersAreAskedOnce =
    asked_after Pod (codes "p")
    (config_map (codes "a") ++ pod (codes "p")
    (to_config_map (codes "a") (codes "2")
    ++ (codes "," ++ (reference (codes "batch/v1") (codes "Job") (codes "j") (codes "1") (codes "true") ++ (codes "," ++ (to_config_map (codes "b") (codes "1") ++ (codes "," ++ to_config_map (codes "a") (codes "1"))))))))
    ≡ codes "a\nb\n"

-- ---- owners

-- of an absent object nothing is asked
abbrev pub NothingIsDoneToNothing : Type 0
NothingIsDoneToNothing = turn Pod (codes "p") (config_map (codes "a")) ≡ codes "then\na\n"

-- of a live owner and one that is gone the live one is kept
abbrev pub LiveOwnersAreKept : Type 0
LiveOwnersAreKept =
    turn Pod (codes "p")
    (config_map (codes "a") ++ (config_map (codes "b") ++ (pod (codes "p") (to_config_map (codes "a") (codes "2") ++ (codes "," ++ to_config_map (codes "b") (codes "3"))) ++ delete_config_map (codes "b"))))
    ≡ codes "update p at 4: 200\nthen\na\np a\n"

-- of a live owner and one that waits the live one is kept, so that the other waits no more
abbrev pub LiveOwnersGoFirst : Type 0
LiveOwnersGoFirst =
    turn Pod (codes "p")
    (config_map (codes "a") ++ (set (codes "s") ++ (pod (codes "p") (to_config_map (codes "a") (codes "2") ++ (codes "," ++ to_set (codes "s") (codes "3") (codes "true"))) ++ delete_set (codes "s") (codes "Foreground"))))
    ≡ codes "update p at 4: 200\nthen\na\np a\ns\n"

-- an owner of a kind that is not served stands
abbrev pub OtherKindsStand : Type 0
OtherKindsStand = turn Pod (codes "p") (pod (codes "p") (reference (codes "batch/v1") (codes "Job") (codes "j") (codes "1") (codes "true"))) ≡ codes "then\np j\n"

-- so does one that is being deleted and does not wait for its dependents
abbrev pub DeletionsAloneStand : Type 0
DeletionsAloneStand =
    turn Pod (codes "p")
    (pod_with (codes "example.com/f") (codes "o") [] ++ (pod (codes "p") (reference (codes "v1") (codes "Pod") (codes "o") (codes "2") (codes "true")) ++ codes "DELETE /api/v1/namespaces/d/pods/o?propagationPolicy=Background\n"))
    ≡ codes "then\no\np o\n"

-- an owner that is made again under its name is another
abbrev pub NamesakesOwnNothing : Type 0
NamesakesOwnNothing =
    turn Pod (codes "p") (config_map (codes "a") ++ (pod (codes "p") (to_config_map (codes "a") (codes "2")) ++ (delete_config_map (codes "a") ++ config_map (codes "a"))))
    ≡ codes "delete p 00000000-0000-8000-8000-000000000003 at 3 by Background: 200\nthen\na\n"

-- ---- garbage

-- what has dependents itself, and no owner any more, goes at once
abbrev pub GarbageGoesAtOnce : Type 0
GarbageGoesAtOnce =
    turn ConfigMap (codes "c")
    (config_map (codes "a") ++ (owned (codes "configmaps") (codes "c") (to_config_map (codes "a") (codes "2")) ++ (pod (codes "p") (to_config_map (codes "c") (codes "3")) ++ delete_config_map (codes "a"))))
    ≡ codes "delete c 00000000-0000-8000-8000-000000000003 at 3 by Background: 200\nthen\np c\n"

-- it goes by the policy of its finalizers
abbrev pub PoliciesAreKept : Type 0
PoliciesAreKept =
    (turn Pod (codes "p") (config_map (codes "a") ++ (pod_with (codes "orphan") (codes "p") (to_config_map (codes "a") (codes "2")) ++ delete_config_map (codes "a")))
    ≡ codes "delete p 00000000-0000-8000-8000-000000000003 at 3 by Orphan: 200\nthen\np a\n")
    × (turn Pod (codes "p") (config_map (codes "a") ++ (pod_with (codes "foregroundDeletion") (codes "p") (to_config_map (codes "a") (codes "2")) ++ delete_config_map (codes "a")))
    ≡ codes "delete p 00000000-0000-8000-8000-000000000003 at 3 by Foreground: 202\nthen\np a\n")

-- a dependent for which its only owner waits goes
abbrev pub DependentsGoFirst : Type 0
DependentsGoFirst =
    turn Pod (codes "p") (set (codes "s") ++ (pod (codes "p") (to_set (codes "s") (codes "2") (codes "true")) ++ delete_set (codes "s") (codes "Foreground")))
    ≡ codes "delete p 00000000-0000-8000-8000-000000000003 at 3 by Background: 200\nthen\ns\n"

-- after its own dependents, if it has some
abbrev pub TheirsGoBeforeThem : Type 0
TheirsGoBeforeThem =
    turn ConfigMap (codes "c")
    (set (codes "s") ++ (owned (codes "configmaps") (codes "c") (to_set (codes "s") (codes "2") (codes "true")) ++ (pod (codes "p") (to_config_map (codes "c") (codes "3")) ++ delete_set (codes "s") (codes "Foreground"))))
    ≡ codes "delete c 00000000-0000-8000-8000-000000000003 at 3 by Foreground: 202\nthen\nc s\np c\ns\n"

-- where one of these waits too, no owner waits for it any more
abbrev pub ChainsAreCut : Type 0
ChainsAreCut =
    turn ConfigMap (codes "c")
    (set (codes "s") ++ (owned (codes "configmaps") (codes "c") (to_set (codes "s") (codes "2") (codes "true")) ++ (pod (codes "p") (to_config_map (codes "c") (codes "3"))
    ++ (delete_set (codes "s") (codes "Foreground") ++ codes "DELETE /api/v1/namespaces/d/pods/p?propagationPolicy=Foreground\n"))))
    ≡ codes "update c at 3: 200\ndelete c 00000000-0000-8000-8000-000000000003 at the answer's by Foreground: 202\nthen\nc s\np c\ns\n"

-- ---- what is being deleted

-- what is deleted with `Orphan` lets its dependents go, and is removed when it loses its last finalizer
abbrev pub OrphansAreLetGo : Type 0
OrphansAreLetGo =
    turn ReplicaSet (codes "s")
    (set (codes "s") ++ (pod (codes "p") (to_set (codes "s") (codes "2") (codes "true")) ++ (pod (codes "q") (to_set (codes "s") (codes "2") (codes "true")) ++ delete_set (codes "s") (codes "Orphan"))))
    ≡ codes "update p at 3: 200\nupdate q at 4: 200\nupdate s at 5: 200\nthen\np\nq\n"

-- what is deleted with `Foreground` stays while a dependent blocks it
abbrev pub BlockedOwnersWait : Type 0
BlockedOwnersWait =
    turn ReplicaSet (codes "s") (set (codes "s") ++ (pod (codes "p") (to_set (codes "s") (codes "2") (codes "true")) ++ delete_set (codes "s") (codes "Foreground")))
    ≡ codes "then\np s\ns\n"

-- and goes where none does
abbrev pub OthersGo : Type 0
OthersGo =
    turn ReplicaSet (codes "s") (set (codes "s") ++ (pod (codes "p") (to_set (codes "s") (codes "2") (codes "false")) ++ delete_set (codes "s") (codes "Foreground")))
    ≡ codes "update s at 4: 200\nthen\np s\n"

-- what is being deleted by neither is left to others, whatever its owners
abbrev pub OtherFinalizersAreLeft : Type 0
OtherFinalizersAreLeft =
    turn Pod (codes "p")
    (config_map (codes "a") ++ (pod_with (codes "example.com/f") (codes "p") (to_config_map (codes "a") (codes "2")) ++ (codes "DELETE /api/v1/namespaces/d/pods/p\n" ++ delete_config_map (codes "a"))))
    ≡ codes "then\np a\n"
