-- What a controller's author may rely on while pods that it had deleted are still to be seen gone.
use Rattle.std.specs.Prelude.{◌≡◌, ◌≤◌, ◌+◌, ℕ, Bool, true, false, List, [], ◌∷◌, Option, Some, None}
use Rattle.std.specs.List.{list_any, list_all}
use Rattle.std.specs.Str.{bytes_eq}
use Rattle.std.specs.FinMap as map
use Rattle.std.specs.FinSet as set
use Rattle.spec_client_go.specs.Expectations.{Owner, Expectation, Table, Uids, deletions_expected, deleted, satisfied}
use Rattle.spec_laws.specs.ExpectationLaws.{Change, after_all, sets_none}

abbrev pub deletions_of : Option Expectation → Uids
deletions_of None = set.empty
deletions_of (Some e) = e.deletions

-- how many pods a ReplicaSet is still to see deleted
abbrev pub deletions_left : Owner → Table → ℕ
deletions_left o t = set.len (deletions_of (map.get t o))

-- whether the pod of a uid is one of them
abbrev pub is_awaited : Owner → List ℕ → Table → Bool
is_awaited o pod t = set.contains (deletions_of (map.get t o)) pod

-- pods that were seen deleted, one after another
abbrev pub all_deleted : Owner → List (List ℕ) → Table → Table
all_deleted o [] t = t
all_deleted o (pod ∷ pods) t = all_deleted o pods (deleted o pod t)

abbrev pub is_among : List (List ℕ) → List ℕ → Bool
is_among pods pod = list_any (bytes_eq pod) pods

-- whether each of these is among those
abbrev pub are_among : List (List ℕ) → List (List ℕ) → Bool
are_among pods uids = list_all (is_among pods) uids

-- a pod that was seen deleted is waited for no more, and the others as before
pub record SeenIsAwaitedNoMore : Type 0 where
  pub it_is_not : (o : Owner) (pod : List ℕ) (t : Table) → is_awaited o pod (deleted o pod t) ≡ false
  pub others_are : (o : Owner) (pod other : List ℕ) (t : Table) → bytes_eq other pod ≡ false → is_awaited o other (deleted o pod t) ≡ is_awaited o other t

-- one that was not waited for changes nothing
abbrev pub StrangersChangeNothing : Type 0
StrangersChangeNothing = (o : Owner) (pod : List ℕ) (t : Table) → is_awaited o pod t ≡ false → deleted o pod t ≡ t

-- the pods of these uids are waited for, whatever was expected before; the wait is over once each of them was seen deleted, in whatever
-- order, as often as may be, and others among them, and before that it lasts for 300,000 ms
pub record WaitsForEach : Type 0 where
  pub is_over : (o : Owner) (t : Table) (uids pods : List (List ℕ)) (then now : ℕ) → are_among pods uids ≡ true → satisfied o now (all_deleted o pods (deletions_expected o uids then t)) ≡ true
  pub lasts : (o : Owner) (t : Table) (uids pods : List (List ℕ)) (then now : ℕ) → are_among pods uids ≡ false → now ≤ then + 300000 → satisfied o now (all_deleted o pods (deletions_expected o uids then t)) ≡ false

-- whatever is called, no more pods are waited for, and none that was not, unless deletions are set again
abbrev pub DeletionsOnlyFall : Type 0
DeletionsOnlyFall =
    (o : Owner) (t : Table) (cs : List Change) → sets_none o cs ≡ true
    → (deletions_left o (after_all t cs) ≤ deletions_left o t) × ((pod : List ℕ) → is_awaited o pod (after_all t cs) ≡ true → is_awaited o pod t ≡ true)
