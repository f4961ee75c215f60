-- Worked facts of informers, computed from the definitions: what deltas make of the objects that are there, and what they change.
use Rattle.std.specs.Prelude.{◌≡◌, ℕ, List, [], ◌∷◌, Some, None, codes}
use Rattle.serde_json.specs.Data.{string, no_members, member}
use Rattle.spec_api.specs.declared.kinds.Kind.TheVariants.{Pod}
use Rattle.spec_api.specs.Keys.{Key}
use Rattle.spec_api.specs.Objects.{Object}
use Rattle.spec_server.specs.Snapshots.{Snapshot}
use Rattle.spec_client_go.specs.Informers.{applied}
use Rattle.spec_client_go.specs.Reflectors.{replace, put, remove, mark}
use Rattle.spec_client_go.specs.Shifts.{shifts_between, shifts_of}
use Rattle.spec_examples.specs.OwedExamples.{named, pod, free, controlled}

abbrev at : List ℕ → Key
at n = named Pod n

-- a list shifts what differs, by key: one object goes, one comes, one changes, and one stays
abbrev pub ListsShift : Type 0
ListsShift =
    shifts_between ((at (codes "a"), free) ∷ (at (codes "c"), free) ∷ (at (codes "d"), free) ∷ [])
    ((at (codes "b"), free) ∷ (at (codes "c"), controlled) ∷ (at (codes "d"), free) ∷ [])
    ≡ record { key = at (codes "a"); old = Some free; new = None } ∷ record { key = at (codes "b"); old = None; new = Some free }
    ∷ record { key = at (codes "c"); old = Some free; new = Some controlled } ∷ []

-- the Pod `p`, as it was and at version 7
abbrev before : Snapshot
before = record { members = (at (codes "p"), free) ∷ []; revision = 3 }

abbrev later : Object
later = record { kind = Pod; value = pod (member (codes "resourceVersion") (string (codes "7")) no_members) }

-- an object that is put shifts alone, and the revision is its own
abbrev pub PutsShift : Type 0
PutsShift =
    (shifts_of before.members (put later) ≡ record { key = at (codes "p"); old = Some free; new = Some later.value } ∷ [])
    × (applied before (put later) ≡ record { members = (at (codes "p"), later.value) ∷ []; revision = 7 })

-- one that is removed shifts alone; what is not there does not
abbrev pub RemovalsShift : Type 0
RemovalsShift =
    (shifts_of before.members (remove 9 (at (codes "p"))) ≡ record { key = at (codes "p"); old = Some free; new = None } ∷ [])
    × (applied before (remove 9 (at (codes "p"))) ≡ record { members = []; revision = 9 })
    × (shifts_of before.members (remove 9 (at (codes "q"))) ≡ [])
    × (applied before (remove 9 (at (codes "q"))) ≡ record { members = before.members; revision = 9 })

-- a mark moves the revision alone
abbrev pub MarksShiftNothing : Type 0
MarksShiftNothing = (shifts_of before.members (mark 5) ≡ []) × (applied before (mark 5) ≡ record { members = before.members; revision = 5 })

-- a list takes out what it does not have
abbrev pub ListsReplace : Type 0
ListsReplace =
    (shifts_of ((at (codes "a"), free) ∷ []) (replace 8 (later ∷ []))
    ≡ record { key = at (codes "a"); old = Some free; new = None } ∷ record { key = at (codes "p"); old = None; new = Some later.value } ∷ [])
    × (applied (record { members = (at (codes "a"), free) ∷ []; revision = 3 }) (replace 8 (later ∷ [])) ≡ record { members = (at (codes "p"), later.value) ∷ []; revision = 8 })
