-- A board that threads share, and its passes.
use Rattle.std.specs.Prelude.{◌≡◌, [], true, Option, Some}
use Rattle.std.specs.declared.cmp.Ordering.{Ordering}
use Rattle.crossbeam_queue.specs.Passes.{Pass, view}
use Rattle.baton.specs.Batons.{IsOf, IsFree}
use Rattle.baton.specs.Marks.{entries, made_by, CanHappen}
use Rattle.baton.specs.declared.views.Known.{Known}
use Rattle.baton.specs.declared.views.PassView.{PassView}
use Rattle.keyed_board.specs.Said.{Parts, said}
use Rattle.shared_keyed_board.specs.Histories.{board, in_hand}
use Rattle.shared_keyed_board.specs.Entries.{told, steps_told, latest, Follows}
use Rattle.shared_keyed_board.specs.Calls.{Sight}
use Rattle.shared_keyed_board.specs.declared.boards.SharedKeyedBoard.{SharedKeyedBoard}
use Rattle.shared_keyed_board.specs.declared.entries.BoardEntry.{BoardEntry}

abbrev pub AnyPass : Type 0 → Type 0
AnyPass K = Pass (Parts K) (PassView (Parts K) (BoardEntry K))

abbrev pub known : {K : Type 0} → AnyPass K → Known (Parts K) (BoardEntry K)
known p = (view p).own

-- what a pass has seen and made
abbrev pub sight_of : {K N : Type 0} → (K → N) → Known (Parts K) (BoardEntry K) → Sight N
sight_of say k = record { name = k.name; seen = told say k.seen; made = steps_told say k.made }

abbrev pub sight : {K N : Type 0} → (K → N) → AnyPass K → Sight N
sight say p = sight_of say (known p)

-- the key in a pass's hands
abbrev pub key_in_hand : {K N : Type 0} → (K → N) → AnyPass K → Option N
key_in_hand say p = in_hand (sight say p).made

-- a pass of this board
abbrev pub IsPassAt : {K : Type 0} → SharedKeyedBoard K → AnyPass K → Type 0
IsPassAt d p = IsFree d.baton p

-- which has seen nothing and made nothing
abbrev pub IsNewAt : {K : Type 0} → SharedKeyedBoard K → AnyPass K → Type 0
IsNewAt d p = IsPassAt d p × ((known p).seen ≡ []) × ((known p).made ≡ [])

-- a pass that has the board, and has seen all that happened to it
pub record HasBoard {K N : Type 0} (R : N → N → Ordering) (say : K → N) (d : SharedKeyedBoard K) (p : AnyPass K) : Type 0 where
  pub pass : IsOf d.baton p
  pub holds : (known p).holds ≡ true
  pub made : made_by (known p).name (known p).seen ≡ (known p).made
  pub happened : CanHappen (Follows R say) (known p).seen

-- this is the board, as the history gives it
pub record IsBoard {K N : Type 0} (R : N → N → Ordering) (say : K → N) (p : AnyPass K) (b : Parts K) : Type 0 where
  pub said : said R say b ≡ board R (sight say p).seen
  pub latest : (opening : Parts K) → (known p).opening ≡ Some opening → b ≡ latest opening (entries (known p).seen)
