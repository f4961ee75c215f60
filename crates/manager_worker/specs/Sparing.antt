-- What stands behind a delete of the garbage collector: what the server answered in that turn, of the object and of each of its owners (Kubernetes, Garbage
-- Collection).
use Rattle.std.specs.Prelude.{◌≡◌, ◌⊎◌, ◌++◌, ℕ, List, [], ◌∷◌, false, Option, None, Some, option_map, slice_get}
use Rattle.object_keys.specs.declared.per_kind.PerKind.{PerKind}
use Rattle.serde_json.specs.Data.{Data}
use Rattle.spec_api.specs.Keys.{Key}
use Rattle.spec_api.specs.Metadata.{Owner, owners, uid, version}
use Rattle.spec_api.specs.ObjectRequests as words
use Rattle.spec_api.specs.declared.kinds.Kind.{Kind}
use Rattle.spec_client_go.specs.Commands.{Command, delete, seen, answered}
use Rattle.spec_client_go.specs.Hands.{Read}
use Rattle.spec_client_go.specs.OwnerReferences.{owner_key, namespace_of}
use Rattle.spec_client_go.specs.declared.controller.Controller.TheVariants.{Collector}
use Rattle.spec_laws.specs.CollectorLaws.{IsGone}
use Rattle.spec_laws.specs.IdentityLaws.{Each}
use Rattle.spec_server.specs.Snapshots.{Snapshot}
use Rattle.spec_sim.specs.NextSteps.{next, issue}
use Rattle.spec_sim.specs.Turns.{begun}
use Rattle.http_client.specs.declared.answer.Answer as client
use Rattle.live_reads.specs.Finding.{FindsOf, can_be}
use Rattle.live_reads.specs.declared.found.FoundObject.{FoundObject}
use Rattle.live_reads.specs.declared.found.FoundObject.TheVariants as object
use Rattle.manager_worker.specs.Stepping.{InTurn, Reaches}

-- what a live read finds, where it finds that an object is there, or that none is
abbrev pub found_in : FoundObject → Option (Option Data)
found_in (object.Present o) = Some (Some o.value)
found_in object.Absent = Some None
found_in object.Refused = None
found_in object.Unanswered = None

module _ {A : Type 0} (answers : A → words.Request → client.Answer → A → Type 0) where
  -- A server is asked one request after another, from one state of it to another, and these live reads, in their order, found what it answered to a GET of
  -- their keys, each to one of its own. What can be no object's key it was not asked for, and nothing is there.
  pub data AreAnswered (first : A) : List Read → A → Type 0 where
    begins : AreAnswered first [] first
    asked : (reads : List Read) (before after : A) (q : words.Request) (a : client.Answer) → AreAnswered first reads before → answers before q a after → AreAnswered first reads after
    found : (reads : List Read) (before after : A) (r : Read) (a : client.Answer) (f : FoundObject) → AreAnswered first reads before → answers before (words.get_object r.key) a after
        → FindsOf r.key a f → found_in f ≡ Some r.found → AreAnswered first (reads ++ r ∷ []) after
    unasked : (reads : List Read) (last : A) (r : Read) → AreAnswered first reads last → can_be r.key ≡ false → r.found ≡ None → AreAnswered first (reads ++ r ∷ []) last

-- one of the live reads is of this key, and found this
abbrev pub WasFound : List Read → Key → Option Data → Type 0
WasFound reads k o = (r : Read) × ((n : ℕ) × (slice_get reads n ≡ Some r)) × (r.key ≡ k) × (r.found ≡ o)

-- an owner is of a served kind, and was asked for: nothing was there with its uid, or it was being deleted
abbrev pub OwnerWasGone : List Read → List ℕ → Owner → Type 0
OwnerWasGone reads ns o = (k : Key) × (owner_key ns o ≡ Some k) × ((there : Option Data) × WasFound reads k there × IsGone o there)

-- a delete is of the object of the turn, as it was found there: by its uid, and at the version that it had or that the update before was answered; it names an
-- owner, and each owner that it names was gone
abbrev pub DeletesGarbage : Key → List Read → Command → Type 0
DeletesGarbage key reads (delete k u v p) =
    (k ≡ key) × ((d : Data) × WasFound reads key (Some d) × (u ≡ uid d) × ((v ≡ option_map seen (version d)) ⊎ (v ≡ Some answered)) × (owners d ≡ [] → ⊥)
    × Each (OwnerWasGone reads (namespace_of d)) (owners d))
DeletesGarbage key reads c = Unit {0}

module _ {L A : Type 0} (shows : L → Kind → Option Snapshot → L → Type 0) (answers : A → words.Request → client.Answer → A → Type 0) where
  -- whatever steps a turn has come by from its beginning, its live reads are what the server answered in these steps; and where a delete of the collector comes
  -- next, it is of garbage, by those
  pub record SparesLiveOwners : Type 0 where
    pub answered : (handled : PerKind ℕ) (s z : InTurn L A) → s.turn ≡ begun s.turn.work_key → Reaches shows answers handled s z → AreAnswered answers s.server.api z.turn.reads z.server.api
    pub spares :
        (handled : PerKind ℕ) (s z : InTurn L A) (x : Command) → s.turn ≡ begun s.turn.work_key → s.turn.work_key.controller ≡ Collector
        → Reaches shows answers handled s z → next z.turn ≡ issue x → DeletesGarbage s.turn.work_key.key z.turn.reads x
