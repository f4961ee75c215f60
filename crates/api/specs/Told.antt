-- What a site answers, as the definitions say it.
use Rattle.std.specs.Prelude.{◌≡◌, ℕ, List, Result, Ok, Err}
use Rattle.serde_json.specs.Written.{compact_text}
use Rattle.spec_api.specs.Verbs.{Answer, Outcome, answered, refused}
use Rattle.server.specs.Replies.{Says}
use Rattle.object_keys.specs.Faults.{refusal_of}
use Rattle.object_keys.specs.declared.fault.Fault.{Fault}
use Rattle.reply.specs.declared.reply.Reply.{Reply}

-- the result says an outcome that is so
abbrev pub Tells : (Outcome → Type 0) → Result Reply Fault → Type 0
Tells is_so (Ok r) = (a : Answer) × Says a r × is_so (answered a)
Tells is_so (Err e) = is_so (refused (refusal_of e))

-- the same of the text of a list that is answered
abbrev pub TellsText : (Outcome → Type 0) → Result (List ℕ) Fault → Type 0
TellsText is_so (Ok text) = (a : Answer) × ((a.code ≡ 200) × (text ≡ compact_text a.body)) × is_so (answered a)
TellsText is_so (Err e) = is_so (refused (refusal_of e))
