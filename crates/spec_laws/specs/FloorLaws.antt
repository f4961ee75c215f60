-- The floor of a window in a user's words.
use Rattle.std.specs.Prelude.{◌≤◌, ◌↔◌, ℕ, [], ◌∷◌, length, IsOk}
use Rattle.spec_api.specs.History.{History, write, compaction, View, present}
use Rattle.spec_api.specs.Windows.{since, list_within, changes_of}
use Rattle.spec_server.specs.Recorded.{above}

-- no compaction among these passed r: each is at most r
abbrev pub NonePassed : ℕ → History → Type 0
NonePassed r [] = Unit {0}
NonePassed r (write w ∷ h) = NonePassed r h
NonePassed r (compaction c ∷ h) = (c ≤ r) × NonePassed r h

-- a revision has happened, no compaction passed it, and there is room for the writes of the kind that are above it
pub record IsRemembered (size : ℕ) (h : History) (v : View) (r : ℕ) : Type 0 where
  pub is_one : 1 ≤ r
  pub has_happened : r ≤ present h
  pub is_compacted_no_further : NonePassed r h
  pub has_room : length (above r (changes_of v.kind h)) ≤ size

-- a watch from a revision, and a list at it, are answered just if it is remembered
abbrev pub RememberedAreServed : Type 0
RememberedAreServed =
    (size : ℕ) (h : History) (v : View) (r n : ℕ)
    → (IsOk (since size h v r n) ↔ IsRemembered size h v r) × (IsOk (list_within size h v r) ↔ IsRemembered size h v r)
