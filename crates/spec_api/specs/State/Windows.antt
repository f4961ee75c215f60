-- The window of a kind: its last changes, the revision from which it answers, and what it answers.
use Rattle.std.specs.Prelude.{◌<◌, ℕ, ◌+◌, ◌-◌, ◌==◌, Bool, List, [], ◌∷◌, ◌++◌, length, take, drop, max, nat_lt, Option, None, Result, Ok, Err, if◌then◌else◌}
use Rattle.serde_json.specs.Data.{Data}
use Rattle.spec_api.specs.declared.kinds.Kind.{Kind}
use Rattle.spec_api.specs.Texts.Kinds.{rank}
use Rattle.spec_api.specs.Texts.Keys.{Key}
use Rattle.spec_api.specs.State.History.{History, Write, write, compaction, View, Entries, writes, present, last_of, list}
use Rattle.spec_api.specs.Objects.Refusals.{Refusal, expired, too_new}
use Rattle.spec_api.specs.State.Events.{Event, events}

-- what a write did under its key: its revision, the object before it and the object after it
pub record Change : Type 0 where
  pub revision : ℕ
  pub key : Key
  pub old : Option Data
  pub new : Option Data

-- whether a key is one of the kind
abbrev pub is_of : Kind → Key → Bool
is_of kind key = rank kind == rank key.kind

-- the change of a write after these
abbrev pub change_of : List Write → Write → Change
change_of before w = record { revision = length before + 2; key = w.key; old = last_of None w.key before; new = w.put }

-- that change, if it is of the kind
abbrev pub change_one : Kind → List Write → Write → List Change
change_one kind before w = if is_of kind w.key then change_of before w ∷ [] else []

-- the changes of the kind among the writes after these, in order
abbrev pub changes_after : Kind → List Write → List Write → List Change
changes_after kind before [] = []
changes_after kind before (w ∷ ws) = change_one kind before w ++ changes_after kind (before ++ w ∷ []) ws

-- all changes of the kind, the oldest first
abbrev pub changes_of : Kind → History → List Change
changes_of kind h = changes_after kind [] (writes h)

-- the last n of these
abbrev pub last_n : ℕ → List Change → List Change
last_n n ks = drop (length ks - n) ks

-- and those before them
abbrev pub all_but : ℕ → List Change → List Change
all_but n ks = take (length ks - n) ks

-- the revision of the last of these, or r if there is none
abbrev pub last_revision : ℕ → List Change → ℕ
last_revision r [] = r
last_revision r (k ∷ ks) = last_revision k.revision ks

-- each revision is above the one before it, the first above r
abbrev pub IsRising : ℕ → List Change → Type 0
IsRising r [] = Unit {0}
IsRising r (k ∷ ks) = (r < k.revision) × IsRising k.revision ks

-- the greatest revision that a compaction names, 0 if there is none (etcd API, Compact)
abbrev pub compacted : History → ℕ
compacted [] = 0
compacted (write w ∷ h) = compacted h
compacted (compaction r ∷ h) = max r (compacted h)

-- the revision from which a window of this size answers: that of the last change that it has no room for, 1 if there is none,
-- or where more is compacted, that revision (Kubernetes API Concepts, Efficient detection of changes)
abbrev pub floor : Kind → ℕ → History → ℕ
floor kind size h = max (last_revision 1 (all_but size (changes_of kind h))) (compacted h)

-- ---- what it answers

-- what is answered at revision r, or the refusal of one below the floor or above the present (Kubernetes API Concepts, Unavailable resource versions)
abbrev pub within : {X : Type 0} → ℕ → ℕ → ℕ → X → Result X Refusal
within floor now r x = if nat_lt r floor then Err (expired r floor) else (if nat_lt now r then Err (too_new r now) else Ok x)

-- the first n events of the view after a
abbrev pub since : ℕ → History → View → ℕ → ℕ → Result (List Event) Refusal
since size h v a n = within (floor v.kind size h) (present h) a (take n (events h v a (present h)))

-- the list of the view at r
abbrev pub list_within : ℕ → History → View → ℕ → Result Entries Refusal
list_within size h v r = within (floor v.kind size h) (present h) r (list h v r)
