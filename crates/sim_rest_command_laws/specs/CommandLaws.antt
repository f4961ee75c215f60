-- What commands write, where all else has come to rest: it owes the key of their turn.
use Rattle.std.specs.Prelude.{◌≡◌, ◌⊎◌, ℕ, List, [], ◌∷◌, ◌++◌, true, false, Option, Some, None}
use Rattle.std.specs.List.{AllByRecursion}
use Rattle.serde_json.specs.Data.{Num, Data, number, object, Members, put}
use Rattle.spec_api.specs.declared.kinds.Kind.TheVariants.{Pod, ReplicaSet, Deployment}
use Rattle.spec_api.specs.declared.policies.Policy.{Policy}
use Rattle.spec_api.specs.DeleteOptions.{Options}
use Rattle.spec_api.specs.History.{History, Write, present, state}
use Rattle.spec_api.specs.Keys.{Key}
use Rattle.spec_api.specs.Metadata.{Owner, owners, uid, is_being_deleted}
use Rattle.spec_api.specs.ObjectRequests.{Request, update_object, update_status, delete_object}
use Rattle.spec_api.specs.Reached.{IsParsed, IsReached}
use Rattle.spec_api.specs.Replacements.{says_the_same}
use Rattle.spec_api.specs.Verbs.{Outcome, accept, write_of}
use Rattle.spec_client_go.specs.declared.controller.Controller.TheVariants as controller
use Rattle.spec_client_go.specs.Commands.{Command, update, delete, answered, request_of}
use Rattle.spec_client_go.specs.Hands.{Read}
use Rattle.spec_client_go.specs.Informers.{Looks}
use Rattle.spec_client_go.specs.OwedKeys.{keys_of}
use Rattle.spec_client_go.specs.OwnerReferences.{owner_key, namespace_of, is_controlled_by}
use Rattle.spec_client_go.specs.Shifts.{Shift}
use Rattle.spec_client_go.specs.WorkQueues.{WorkKey}
use Rattle.spec_reconcile.specs.PodClaims.{is_released, released}
use Rattle.spec_reconcile.specs.Standings.{is_to}
use Rattle.spec_reconcile.specs.Statuses.{status, with_status}
use Rattle.spec_sim.specs.ControlPlanes.{ControlPlane, Step, change_of}
use Rattle.spec_sim.specs.Managers.{answer_of}
use Rattle.spec_sim.specs.Turns.{Turn, commands, is_accepted}
use Rattle.sim_worker_laws.specs.IssuedLaws.{IsSeen}
use Rattle.sim_worker_laws.specs.OwedLaws.{IsAmong}
use Rattle.sim_rest_laws.specs.OwedObjectLaws.{LooksAfter}
use Rattle.sim_rest_laws.specs.ShiftRunLaws.{Lead}
use Rattle.sim_rest_laws.specs.StillLaws.{OwedNothing, IsLookOf, ShownIn}
use Rattle.sim_rest_laws.specs.WholeLaws.{ReferencesAreTrue, AreServerLists}

-- changes that owed a key nothing lead under another from one object to another
abbrev pub Unowed : WorkKey → (Looks → Type 0) → Key → Option Data → Option Data → Type 0
Unowed j Shown x a b = (ss : List Shift) × Lead x a ss b × AllByRecursion (OwedNothing j Shown) ss

-- what an outcome wrote after some history: such changes lead from what was there to what it put, and from that to what is there in the end
abbrev pub WasUnowed : WorkKey → (Looks → Type 0) → History → History → Outcome → Type 0
WasUnowed j Shown h g o =
    (w : Write) → write_of o ≡ Some w → Unowed j Shown w.key (state g (present g) w.key) w.put × Unowed j Shown w.key w.put (state h (present h) w.key)

-- each change of what was there owes the key
abbrev pub EachChangeOwes : WorkKey → Key → Data → Type 0
EachChangeOwes j x d = (s : Shift) (l : Looks) → s.key ≡ x → s.old ≡ Some d → IsAmong j (keys_of (change_of s) l)

-- what is written under the key of a turn owes it, where an object is there in the end
abbrev pub OwnWritesOwe : Type 0
OwnWritesOwe =
    (h g more : History) (moment : List ℕ) (j : WorkKey) (r : Request) (d : Data) (q : ControlPlane) (since : List Step) (w : Write)
    → h ≡ g ++ more → IsReached h → LooksAfter j.controller j.key.kind → state h (present h) j.key ≡ Some d
    → WasUnowed j (ShownIn q since) h g (accept r g moment) → write_of (accept r g moment) ≡ Some w → w.key ≡ j.key → ⊥

-- an accepted delete of an object that was not being deleted when it was looked at, and each change of which owes the key, owes it
abbrev pub DeletesOwe : Type 0
DeletesOwe =
    (h g more : History) (moment : List ℕ) (j : WorkKey) (x : Key) (o : Options) (d : Data) (q : ControlPlane) (since : List Step)
    → h ≡ g ++ more → IsReached h → EachChangeOwes j x d → Unowed j (ShownIn q since) x (Some d) (state g (present g) x) → is_being_deleted d ≡ false
    → is_accepted (answer_of (accept (delete_object x o) g moment)) ≡ true → WasUnowed j (ShownIn q since) h g (accept (delete_object x o) g moment) → ⊥

-- ---- first commands

-- an update of an object that is not being deleted, and then its delete, by its uid, at the version that the update is answered
abbrev pub IsCut : Key → Data → Command → List Command → Type 0
IsCut k d x rest = (e : Data) × (p : Option Policy) × (x ≡ update k e) × (rest ≡ delete k (uid d) (Some answered) p ∷ []) × (is_being_deleted d ≡ false)

-- the first command of a plan of the collector, of what it had looked at and read, cannot be accepted without its key being owed, unless it writes nothing and is an update before a
-- delete of the object: it looked at server lists; each live read leads to what is there by changes that owed its key nothing, and so does what the command wrote; and an object
-- is there under the key in the end
abbrev pub CollectorsFirstCommandsOwe : Type 0
CollectorsFirstCommandsOwe =
    (h g more : History) (moment : List ℕ) (answer : Option (List ℕ)) (j : WorkKey) (t : Turn) (x : Command) (rest : List Command) (d : Data) (q : ControlPlane) (since : List Step)
    → (let Shown = ShownIn q since in
    let o = accept (request_of answer x) g moment in
    h ≡ g ++ more → IsReached h → ReferencesAreTrue h → AreServerLists h Shown → t.work_key ≡ j → j.controller ≡ controller.Collector → state h (present h) j.key ≡ Some d
    → AllByRecursion (IsSeen (IsLookOf Shown)) t.sights → AllByRecursion (λ (r : Read). Unowed j Shown r.key r.found (state h (present h) r.key)) t.reads
    → commands t ≡ x ∷ rest → is_accepted (answer_of o) ≡ true → WasUnowed j Shown h g o → (write_of o ≡ None) × IsCut j.key d x rest)

-- and whichever accepted command of a plan deletes the object by its uid, where it is there in the end and is not being deleted, owes its key: so does that delete
abbrev pub CollectorsDeletesOwe : Type 0
CollectorsDeletesOwe =
    (h g more : History) (moment : List ℕ) (j : WorkKey) (o : Options) (d : Data) (q : ControlPlane) (since : List Step)
    → h ≡ g ++ more → IsReached h → j.controller ≡ controller.Collector → state h (present h) j.key ≡ Some d → is_being_deleted d ≡ false → o.uid ≡ uid d
    → is_accepted (answer_of (accept (delete_object j.key o) g moment)) ≡ true → WasUnowed j (ShownIn q since) h g (accept (delete_object j.key o) g moment) → ⊥

-- ---- statuses

-- a status with some numbers set
pub data IsCounted (was : Members) : Members → Type 0 where
  as_it_was : IsCounted was was
  counts : (q : List ℕ) (n : Num) (ms : Members) → IsCounted was ms → IsCounted was (put q (number n) ms)

-- an accepted update of the status of a ReplicaSet or a Deployment, of what was looked at, that says another status than that has, owes its key
abbrev pub ReportsOwe : Type 0
ReportsOwe =
    (h g more : History) (moment : List ℕ) (j : WorkKey) (d now : Data) (ms : Members) (q : ControlPlane) (since : List Step)
    → h ≡ g ++ more → IsReached h → LooksAfter j.controller j.key.kind → (j.key.kind ≡ ReplicaSet) ⊎ (j.key.kind ≡ Deployment) → state h (present h) j.key ≡ Some now
    → Unowed j (ShownIn q since) j.key (Some d) (state h (present h) j.key) → IsCounted (status d) ms → IsParsed (with_status ms d) → says_the_same (object (status d)) (object ms) ≡ false
    → is_accepted (answer_of (accept (update_status j.key (with_status ms d)) g moment)) ≡ true → WasUnowed j (ShownIn q since) h g (accept (update_status j.key (with_status ms d)) g moment) → ⊥

-- ---- what a ReplicaSet or a Deployment controls

-- what a controller looks after, and what that controls
abbrev pub Controls : WorkKey → Key → Type 0
Controls j x =
    ((j.controller ≡ controller.ReplicaSet) × (j.key.kind ≡ ReplicaSet) × (x.kind ≡ Pod)) ⊎ ((j.controller ≡ controller.Deployment) × (j.key.kind ≡ Deployment) × (x.kind ≡ ReplicaSet))

-- references to an object with its uid name this key
abbrev pub NamesTruly : Key → Data → Data → Type 0
NamesTruly k d e = AllByRecursion (λ (o : Owner). is_to d o ≡ true → owner_key (namespace_of e) o ≡ Some k) (owners e)

-- each change of a Pod that a ReplicaSet controls, and of a ReplicaSet that a Deployment controls, owes the key of that
abbrev pub ControlledOwe : Type 0
ControlledOwe = (j : WorkKey) (x : Key) (d e : Data) (u : List ℕ) → Controls j x → NamesTruly j.key d e → uid d ≡ Some u → is_controlled_by u e ≡ true → EachChangeOwes j x e

-- an accepted update by which a ReplicaSet releases a pod that was there at some revision owes its key
abbrev pub ReleasesOwe : Type 0
ReleasesOwe =
    (h g more : History) (moment : List ℕ) (j : WorkKey) (x : Key) (d e : Data) (s : ℕ) (q : ControlPlane) (since : List Step)
    → h ≡ g ++ more → IsReached h → Controls j x → NamesTruly j.key d e → state h s x ≡ Some e → is_released d e ≡ true
    → is_accepted (answer_of (accept (update_object x (released d e)) g moment)) ≡ true → WasUnowed j (ShownIn q since) h g (accept (update_object x (released d e)) g moment) → ⊥
