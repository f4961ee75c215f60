-- Which texts are uids of objects that are not created yet.
use Rattle.std.specs.Prelude.{◌≡◌, ◌↔◌, ◌<◌, ◌^◌, ℕ, List, true}
use Rattle.spec_api.specs.Checks.{is_of_the_future}
use Rattle.spec_api.specs.Uids.{uid_text, cluster_word}

-- the uid of an object that is created at a revision above this one (RFC 9562, UUID Version 8)
abbrev pub IsUidAbove : ℕ → List ℕ → Type 0
IsUidAbove present t = (r : ℕ) × (present < r) × (r < 2 ^ 62) × (t ≡ uid_text cluster_word r)

-- a text is a uid of the future exactly if a create at a later revision gives it
abbrev pub FutureUidsAreLater : Type 0
FutureUidsAreLater = (present : ℕ) (t : List ℕ) → (is_of_the_future present t ≡ true) ↔ IsUidAbove present t
