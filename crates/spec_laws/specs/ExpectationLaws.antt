-- What a controller's author may rely on.
use Rattle.std.specs.Prelude.{◌≡◌, ◌≤◌, ◌&&◌, ℕ, Bool, true, false, not, List, [], ◌∷◌, Option, Some, None}
use Rattle.std.specs.Ordering.{is_eq}
use Rattle.std.specs.FinMap as map
use Rattle.spec_api.specs.Keys.{Key}
use Rattle.spec_client_go.specs.Expectations.{Owner, owner_cmp, Expectation, Table, creations_expected, deletions_expected, created, deleted, satisfied, forgotten}

-- the calls that change a table of expectations
pub data Change : Type 0 where
  expect_creations : Owner → ℕ → ℕ → Change
  expect_deletions : Owner → List (List ℕ) → ℕ → Change
  see_created : Owner → Change
  see_deleted : Owner → List ℕ → Change
  forget : Key → Change

abbrev pub after : Table → Change → Table
after t (expect_creations o n now) = creations_expected o n now t
after t (expect_deletions o uids now) = deletions_expected o uids now t
after t (see_created o) = created o t
after t (see_deleted o pod) = deleted o pod t
after t (forget k) = forgotten k t

abbrev pub after_all : Table → List Change → Table
after_all t [] = t
after_all t (c ∷ cs) = after_all (after t c) cs

-- whether a call sets what a ReplicaSet expects
abbrev pub sets : Owner → Change → Bool
sets o (expect_creations p n now) = is_eq (owner_cmp o p)
sets o (expect_deletions p uids now) = is_eq (owner_cmp o p)
sets o (see_created p) = false
sets o (see_deleted p pod) = false
sets o (forget k) = false

-- none of these calls does
abbrev pub sets_none : Owner → List Change → Bool
sets_none o [] = true
sets_none o (c ∷ cs) = not (sets o c) && sets_none o cs

abbrev pub creations_of : Option Expectation → ℕ
creations_of None = 0
creations_of (Some e) = e.creations

-- how many pods a ReplicaSet is still to see created
abbrev pub creations_left : Owner → Table → ℕ
creations_left o t = creations_of (map.get t o)

-- of two creations, after the first is seen the wait lasts 300,000 ms and no longer, and after the second it is over
pub record WaitsForBoth : Type 0 where
  pub waits : (o : Owner) (t : Table) → satisfied o 300000 (created o (creations_expected o 2 0 t)) ≡ false
  pub is_patient : (o : Owner) (t : Table) → satisfied o 300001 (created o (creations_expected o 2 0 t)) ≡ true
  pub is_over : (o : Owner) (now : ℕ) (t : Table) → satisfied o now (created o (created o (creations_expected o 2 0 t))) ≡ true

-- a ReplicaSet that was forgotten waits for nothing, whatever the uid
abbrev pub ForgetsAll : Type 0
ForgetsAll = (o : Owner) (now : ℕ) (t : Table) → satisfied o now (forgotten o.key t) ≡ true

-- where no creation is left, one that is seen changes nothing
abbrev pub NoneBelowZero : Type 0
NoneBelowZero = (o : Owner) (t : Table) → creations_left o t ≡ 0 → created o t ≡ t

-- whatever is called, the creations that are left do not rise unless they are set again
abbrev pub OnlyFalls : Type 0
OnlyFalls = (o : Owner) (t : Table) (cs : List Change) → sets_none o cs ≡ true → creations_left o (after_all t cs) ≤ creations_left o t

-- a wait that is over stays over, whatever is called and whenever one looks again, unless it is set again
abbrev pub StaysOver : Type 0
StaysOver =
    (o : Owner) (t : Table) (cs : List Change) (now later : ℕ) → sets_none o cs ≡ true → now ≤ later → satisfied o now t ≡ true → satisfied o later (after_all t cs) ≡ true
