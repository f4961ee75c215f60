-- What is answered to a line is answered to each that says the same.
use Rattle.std.proofs.Common.{◌≡◌, ℕ, ◌⊎◌, ◌∙◌, true, true≢false, inl, inr, sym, String, string_bytes}
use Rattle.std.specs.Global.{Global}
use Rattle.std.proofs.lemmas.Slice.Eq.{bytes_eq-Decides}
use Rattle.spec_api.specs.declared.kinds.Kind.{Kind}
use Rattle.spec_api.specs.ObjectRequests.{Request}
use Rattle.http_client.specs.declared.answer.Answer.{Answer}
use Rattle.controller_simulation.specs.Playing.{Is, IsNotSent, LineOf, ListLine, PageLine, Plays, Repeats, Stops, is_repeating}
use Rattle.controller_simulation.specs.declared.playback.Playback.{Playback}
use Rattle.controller_simulation.specs.declared.playback.Reached.{Reached}
use Rattle.controller_simulation.specs.declared.playback.Reached.TheVariants.{Repeating, Asks, Differs, NoMemory}

-- a line that says the same is the same request's
pub line_of_same : (q : Request) (line other : String Global) → LineOf q line → Is line other → LineOf q other
line_of_same q line other t e = (t.0, t.1, (bytes_eq-Decides (string_bytes other) (string_bytes line)).0 e ∙ t.2)

pub list_of_same : (k : Kind) (line other : String Global) → ListLine k line → Is line other → ListLine k other
list_of_same k line other t e = (bytes_eq-Decides (string_bytes other) (string_bytes line)).0 e ∙ t

pub page_of_same : (k : Kind) (r : ℕ) (line other : String Global) → PageLine k r line → Is line other → PageLine k r other
page_of_same k r line other t e = (bytes_eq-Decides (string_bytes other) (string_bytes line)).0 e ∙ t

module _ (Line : String Global → Type 0) (NoLine : Type 0) (line : String Global) (as_said : (l : String Global) → Is line l → Line l) where
  -- where it stops
  stops : (p : Playback) (r : Reached) → Stops (Is line) ⊥ p r → Stops Line NoLine p r
  stops p Repeating s = absurd s
  stops p (Asks l) s = (as_said l s.0, s.1)
  stops p Differs s = (s.0, s.1, as_said s.0 s.2, s.3, s.4)
  stops p NoMemory s = s

  lifted :
      (before : Playback) (came : Answer) (after : Playback) → Repeats (Is line) before came after ⊎ IsNotSent (Is line) ⊥ before came after
      → Repeats Line before came after ⊎ IsNotSent Line NoLine before came after
  lifted before came after (inl r) =
      inl (record { note = r.note; next = r.next; asked = as_said r.note.line r.asked; came_again = r.came_again; played = r.played; goes_on = r.goes_on })
  lifted before came after (inr s) = inr (s.0, s.1, stops before after.reached s.2)

  pub answered :
      (before : Playback) (came : Answer) (after : Playback) → is_repeating before.reached ≡ true → after.past.now ≡ before.past.now
      → (is_repeating before.reached ≡ true → Repeats (Is line) before came after ⊎ IsNotSent (Is line) ⊥ before came after) → Plays Line NoLine before came after
  answered before came after going same plays =
      record { same = same; plays = λ t. lifted before came after (plays t); over = λ f. absurd (true≢false (sym going ∙ f)) }
