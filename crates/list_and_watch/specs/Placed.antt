-- The uids that changes put in place, as a set has them.
use Rattle.std.specs.Prelude.{ℕ, List, Bool, true, Option, Some, None, ◌≡◌}
use Rattle.std.specs.List.{list_any}
use Rattle.std.specs.Cmp.Lexicographic.{slice_cmp}
use Rattle.std.specs.Ordering.{nat_cmp}
use Rattle.std.specs.BTreeSet.{BTreeSet, contains_by}
use denote.Ref.{Bor}
use Rattle.spec_client_go.specs.Shifts.{Shift}
use Rattle.list_and_watch.specs.Recognized.{is_same_text, uid_in}

-- a uid is in the set
abbrev pub is_placed : BTreeSet (Bor (List ℕ)) → List ℕ → Bool
is_placed us u = contains_by (λ k. slice_cmp nat_cmp u k.now) us

-- a change puts this uid in place
abbrev pub places : List ℕ → Shift → Bool
places u t = is_same_text (Some u) (uid_in t.new)

-- the set has the uids that changes put in place, and no other
abbrev pub AreAllPlaced : BTreeSet (Bor (List ℕ)) → List Shift → Type 0
AreAllPlaced us ts = (u : List ℕ) → is_placed us u ≡ list_any (places u) ts

-- a uid may be put in place, as far as the set shows; without a set each may
abbrev pub may_be_placed : Option (BTreeSet (Bor (List ℕ))) → List ℕ → Bool
may_be_placed None u = true
may_be_placed (Some us) u = is_placed us u
