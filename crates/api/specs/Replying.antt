-- What is written for an answer.
use Rattle.std.specs.Prelude.{◌≡◌, ◌⊎◌, ℕ, List, Option, true, false, Result, Ok, Err}
use Rattle.std.specs.Io.KnownBytes.{Appends}
use Rattle.spec_api.specs.Refusals.{no_memory}
use Rattle.spec_api.specs.Replies.{outcome}
use Rattle.spec_api.specs.Verbs.{Outcome, answered, refused}
use Rattle.chunked.specs.Devices.{AppendsBeginning, device_of, has_failed}
use Rattle.chunked.specs.declared.watched.Watched.{Watched}
use Rattle.spec_http.specs.Replies.{reply_text}
use Rattle.api.specs.declared.fault.ServeFault.{ServeFault}
use Rattle.api.specs.declared.fault.ServeFault.TheVariants as fault

module _ {D : Type 0} (contents : D → Option (List ℕ)) (old new : Watched D) where
  -- the text was written; or the writer has failed, and a beginning of it was
  abbrev pub Sends : List ℕ → Result (Unit {0}) ServeFault → Type 0
  Sends text (Ok u) = (has_failed new ≡ false) × Appends (contents (device_of old)) (contents (device_of new)) text
  Sends text (Err fault.Write) = (has_failed new ≡ true) × AppendsBeginning (contents (device_of old)) (contents (device_of new)) text
  Sends text (Err fault.Read) = ⊥
  Sends text (Err fault.NoMemory) = ⊥

  -- the reply to an outcome was written; where there is no memory to say why a request is refused, that
  abbrev pub Replies : Outcome → Result (Unit {0}) ServeFault → Type 0
  Replies (answered a) result = Sends (reply_text (outcome (answered a))) result
  Replies (refused f) result = Sends (reply_text (outcome (refused f))) result ⊎ Sends (reply_text (outcome (refused no_memory))) result
