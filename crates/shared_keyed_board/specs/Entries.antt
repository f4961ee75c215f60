-- What the entries of a board's history tell.
use Rattle.std.specs.Prelude.{◌≡◌, ℕ, List, [], ◌∷◌, ◌++◌, map as list_map, Option, Some, None, IfSome, option_map}
use Rattle.std.specs.declared.cmp.Ordering.{Ordering}
use Rattle.baton.specs.Marks.{marked, entries}
use Rattle.keyed_board.specs.Boards.{KeyBoard, begun}
use Rattle.keyed_board.specs.Said.{Parts, said}
use Rattle.keyed_board.specs.Steps.{Step, add, add_after, take, finish, tick, shut_down, after}
use Rattle.shared_keyed_board.specs.Histories.{History, board, MayFollow}
use Rattle.shared_keyed_board.specs.declared.entries.BoardEntry.{BoardEntry}
use Rattle.shared_keyed_board.specs.declared.entries.BoardStep.{BoardStep}
use Rattle.shared_keyed_board.specs.declared.entries.BoardStep.TheVariants.{Add, AddAfter, Take, Finish, Tick, ShutDown}

-- a step, by what its keys say
abbrev pub step_said : {K N : Type 0} → (K → N) → BoardStep K → Step N
step_said say (Add ks) = add (list_map say ks)
step_said say (AddAfter k milliseconds) = add_after (say k) milliseconds
step_said say (Take k) = take (say k)
step_said say (Finish k outcome) = finish (say k) outcome
step_said say (Tick now) = tick now
step_said say ShutDown = shut_down

-- the step of an entry, if it has one
abbrev pub step_told : {K N : Type 0} → (K → N) → BoardEntry K → Option (Step N)
step_told say e = option_map (step_said say) e.step

-- the history that entries tell
abbrev pub told : {K N : Type 0} → (K → N) → List (ℕ × BoardEntry K) → History N
told say [] = []
told say (e ∷ es) = marked e.0 (step_told say e.1) ++ told say es

-- the steps that entries tell, without the names
abbrev pub steps_told : {K N : Type 0} → (K → N) → List (BoardEntry K) → List (Step N)
steps_told say [] = []
steps_told say (e ∷ es) = entries (marked 0 (step_told say e)) ++ steps_told say es

-- ---- the boards

-- the board that the last entry leaves
abbrev pub latest : {K : Type 0} → Parts K → List (BoardEntry K) → Parts K
latest p [] = p
latest p (e ∷ es) = latest e.board es

abbrev pub IsBegun : {K N : Type 0} (R : N → N → Ordering) → (K → N) → Parts K → Type 0
IsBegun R say p = said R say p ≡ begun

-- a call that makes no step leaves the board as it was
abbrev pub left_by : {N : Type 0} {R : N → N → Ordering} → KeyBoard R → Option (Step N) → KeyBoard R
left_by b None = b
left_by b (Some e) = after b e

-- an entry may follow whose step may, and whose board is the one that the step leaves
pub record Follows {K N : Type 0} (R : N → N → Ordering) (say : K → N) (h : List (ℕ × BoardEntry K)) (name : ℕ) (e : BoardEntry K) : Type 0 where
  pub may : IfSome (step_told say e) (λ s. MayFollow R (told say h) name s)
  pub board : said R say e.board ≡ left_by (board R (told say h)) (step_told say e)
