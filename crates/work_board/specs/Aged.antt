-- Whose expectations aged out, by the board.
use Rattle.std.specs.Prelude.{◌≡◌, ℕ, List}
use Rattle.spec_client_go.specs.Boards.{Board}
use Rattle.spec_client_go.specs.WorkQueues.{WorkKey}
use Rattle.expectations.specs.Aged.{AreAgedOut}

-- these are the keys of those that aged out from a moment until now, the board's time
pub record HaveAgedOut (before now : ℕ) (ks : List WorkKey) (b : Board) : Type 0 where
  pub keys : AreAgedOut before now b.expected ks
  pub moment : now ≡ b.time
