-- What follows from the definitions of windows.
use Rattle.std.specs.Prelude.{◌≡◌, ◌≤◌, ◌↔◌, ℕ, [], ◌∷◌, ◌++◌, length, take, true, false, Ok, IsOk}
use Rattle.spec_api.specs.declared.kinds.Kind.{Kind}
use Rattle.spec_api.specs.Keys.{Key}
use Rattle.spec_api.specs.History.{History, Write, write, compaction, View, writes, present, state, list}
use Rattle.spec_api.specs.Events.{events}
use Rattle.spec_api.specs.Windows.{is_of, change_of, changes_of, last_revision, compacted, floor, since, list_within}
use Rattle.spec_server.specs.Recorded.{Window, recorded_since, recorded_list, opened, recorded, compacted_to, IsWindowAfter}

-- a new window follows the empty history
abbrev pub WindowsOpen : Type 0
WindowsOpen = (kind : Kind) (size : ℕ) → IsWindowAfter (opened kind size) []

-- a window that records each write of its kind goes on following
abbrev pub WindowsRecord : Type 0
WindowsRecord = (s : Window) (h : History) (w : Write) → IsWindowAfter s h → is_of s.kind w.key ≡ true → IsWindowAfter (recorded s (change_of (writes h) w)) (h ++ write w ∷ [])

-- one that records no write of another kind goes on following
abbrev pub WindowsStay : Type 0
WindowsStay = (s : Window) (h : History) (w : Write) → IsWindowAfter s h → is_of s.kind w.key ≡ false → IsWindowAfter s (h ++ write w ∷ [])

-- one that is compacted with the history goes on following
abbrev pub WindowsCompact : Type 0
WindowsCompact = (s : Window) (h : History) (r : ℕ) → IsWindowAfter s h → IsWindowAfter (compacted_to s r) (h ++ compaction r ∷ [])

-- the writes that such a window keeps are no later than the present revision, so the next write comes after them all
abbrev pub RecordedChangesArePast : Type 0
RecordedChangesArePast = (s : Window) (h : History) → IsWindowAfter s h → last_revision 0 s.kept ≤ present h

-- what a window that follows gives to a watch is what the history says
abbrev pub WatchesAreServed : Type 0
WatchesAreServed = (s : Window) (h : History) (v : View) (a n : ℕ) → IsWindowAfter s h → v.kind ≡ s.kind → recorded_since s (present h) v a n ≡ since s.size h v a n

-- the present list, with the recorded changes above r undone, is the list at r
abbrev pub ListsAreUndone : Type 0
ListsAreUndone =
    (s : Window) (h : History) (v : View) (r : ℕ) → IsWindowAfter s h → v.kind ≡ s.kind → recorded_list s (present h) (list h v (present h)) v r ≡ list_within s.size h v r

-- watches and lists are served from the floor up to the present revision, and at no other
abbrev pub RevisionsAreServed : Type 0
RevisionsAreServed =
    (size : ℕ) (h : History) (v : View) (r n : ℕ)
    → (IsOk (since size h v r n) ↔ ((floor v.kind size h ≤ r) × (r ≤ present h))) × (IsOk (list_within size h v r) ↔ ((floor v.kind size h ≤ r) × (r ≤ present h)))

-- what is there at each revision is there without the compaction too
abbrev pub CompactionsChangeNothing : Type 0
CompactionsChangeNothing =
    (h more : History) (c r : ℕ) (k : Key) (v : View)
    → (present (h ++ compaction c ∷ more) ≡ present (h ++ more))
    × (state (h ++ compaction c ∷ more) r k ≡ state (h ++ more) r k)
    × (list (h ++ compaction c ∷ more) v r ≡ list (h ++ more) v r)

-- where there is room for all writes of the kind, and nothing is compacted, each revision from the first is served
abbrev pub WideWindowsServeAll : Type 0
WideWindowsServeAll =
    (size : ℕ) (h : History) (v : View) (r n : ℕ)
    → length (changes_of v.kind h) ≤ size
    → compacted h ≡ 0
    → 1 ≤ r
    → r ≤ present h
    → (since size h v r n ≡ Ok (take n (events h v r (present h)))) × (list_within size h v r ≡ Ok (list h v r))
