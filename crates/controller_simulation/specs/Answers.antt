-- What came of a request.
use Rattle.std.specs.Prelude.{ℕ, List, Option}
use Rattle.http_client.specs.declared.answer.Answer.{Answer}
use Rattle.http_client.specs.declared.answer.Answer.TheVariants as answer

-- a reply with its code, for how many seconds it asks to be left alone, and its body; that it was not sent; or that nothing came back
pub data Came : Type 0 where
  replied : ℕ → Option ℕ → List ℕ → Came
  not_sent : Came
  lost : Came

abbrev pub came_of : Answer → Came
came_of (answer.Replied r) = replied r.code r.retry_after r.body.items
came_of answer.NotSent = not_sent
came_of answer.Lost = lost
