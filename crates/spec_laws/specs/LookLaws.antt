-- What follows for a watch that looks again and again, and for one that begins with what is there.
use Rattle.std.specs.Prelude.{◌≡◌, ◌≤◌, ◌<◌, ◌↔◌, ℕ, Bool, List, [], ◌∷◌, ◌++◌, length, map, Option, unwrap_or, Ok, IsOk}
use Rattle.spec_api.specs.declared.frames.FrameKind.TheVariants.{Added}
use Rattle.spec_api.specs.History.{History, View, present, list}
use Rattle.spec_api.specs.ListQueries.{plain_start}
use Rattle.spec_api.specs.Streams.{Line, frame_of, IsStream, applied_lines}
use Rattle.spec_api.specs.Versions.{Watched, watched_from}
use Rattle.spec_api.specs.WatchReplies.{lines_from, watch_lines}
use Rattle.spec_api.specs.Windows.{floor}

-- a look of a watch: all that has happened by then, how many events it asks for, and what it is given
pub record Look : Type 0 where
  pub history : History
  pub most : ℕ
  pub given : Watched

-- looks one after another, the first from a: by each one what happened before it has happened, and maybe more, and each is
-- answered from where the one before it left the watch
abbrev pub AreLooks : ℕ → View → History → ℕ → List Look → Type 0
AreLooks size v h a [] = Unit {0}
AreLooks size v h a (l ∷ ls) =
    ((more : History) × (l.history ≡ h ++ more)) × (watched_from size l.history v a l.most ≡ Ok l.given) × AreLooks size v l.history l.given.stands ls

-- what has happened by the last look
abbrev pub last_history : History → List Look → History
last_history h [] = h
last_history h (l ∷ ls) = last_history l.history ls

-- where the last look leaves the watch
abbrev pub last_stand : ℕ → List Look → ℕ
last_stand a [] = a
last_stand a (l ∷ ls) = last_stand l.given.stands ls

-- the lines of the looks, one after another
abbrev pub look_lines : ℕ → List Look → List Line
look_lines a [] = []
look_lines a (l ∷ ls) = lines_from a l.given ++ look_lines l.given.stands ls

-- the lines of all looks are one stream of all that has happened, from where the first began to where the last stands
abbrev pub LooksAreOneStream : Type 0
LooksAreOneStream =
    (size : ℕ) (h : History) (v : View) (a : ℕ) (ls : List Look) → AreLooks size v h a ls
    → (a ≤ last_stand a ls)
    × IsStream (last_history h ls) v a (last_stand a ls) (look_lines a ls)
    × (applied_lines (list (last_history h ls) v a) (look_lines a ls) ≡ list (last_history h ls) v (last_stand a ls))

-- whether a look is answered does not depend on how many events it asks for, and 0 may be asked: it is given no more than these,
-- its lines are a stream to where it stands, and where it is given fewer it stands at the present revision
abbrev pub LooksAskForAnyNumber : Type 0
LooksAskForAnyNumber =
    (size : ℕ) (h : History) (v : View) (a n : ℕ)
    → (IsOk (watched_from size h v a n) ↔ ((floor v.kind size h ≤ a) × (a ≤ present h)))
    × ((w : Watched) → watched_from size h v a n ≡ Ok w
    → (length w.events ≤ n) × IsStream h v a w.stands (lines_from a w) × (length w.events < n → w.stands ≡ present h))

-- a watch from no revision, or from 0, is shown the list as it is at present: each of its objects in order as added, and these alone
abbrev pub WatchesBeginWithTheList : Type 0
WatchesBeginWithTheList =
    (size : ℕ) (h : History) (v : View) (version : Option ℕ) (bookmarks : Bool) → unwrap_or version 0 ≡ 0
    → (ls : List Line)
    × (watch_lines size h v (record { start = plain_start version; bookmarks = bookmarks }) ≡ Ok ls)
    × (map (frame_of v.kind) ls ≡ map (λ m. record { kind = Added; object = m.1 }) (list h v (present h)))
    × (applied_lines [] ls ≡ list h v (present h))
