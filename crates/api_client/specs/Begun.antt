-- What becomes of the request for a watch.
use Rattle.std.specs.Prelude.{◌⊎◌, ℕ, List, Option}
use Rattle.chunked.specs.declared.watched.Watched.{Watched}
use Rattle.http_client.specs.Calls as calls
use Rattle.http_client.specs.Calls.{IsWritten}
use Rattle.http_client.specs.Watches.{IsOpening}
use Rattle.http_client.specs.declared.opening.WatchAnswer.TheVariants as opening
use Rattle.api_client.specs.declared.opened.Opened.{Opened}
use Rattle.api_client.specs.declared.opened.Opened.TheVariants as opened

-- the whole text was written, and a head was read and nothing beyond it, which says this; or what was answered is lost, after the whole text was
-- written or as the writer failed
abbrev pub IsBegun : {W : Type 0} → (W → Option (List ℕ)) → List ℕ → Option (List ℕ) → Option (List ℕ) → Watched W → Watched W → Opened → Type 0
IsBegun contents text before after old new opened.Open = IsWritten contents text old new × IsOpening before after opening.Open
IsBegun contents text before after old new opened.Expired = IsWritten contents text old new × IsOpening before after opening.Expired
IsBegun contents text before after old new (opened.Refused code wait) = IsWritten contents text old new × IsOpening before after (opening.Refused code wait)
IsBegun contents text before after old new opened.Lost = IsWritten contents text old new ⊎ calls.IsBegun contents text old new
