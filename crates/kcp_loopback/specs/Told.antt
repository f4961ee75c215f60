-- What a client is told of an outcome.
use Rattle.std.specs.Prelude.{◌≡◌, None, Result, Ok, Err, string_bytes}
use Rattle.serde_json.specs.Written.{compact_text}
use Rattle.http_client.specs.declared.answer.Answer.{Answer}
use Rattle.http_client.specs.declared.answer.Answer.TheVariants.{Replied, NotSent, Lost}
use Rattle.http_client.specs.declared.reply.HttpReply as client
use Rattle.spec_api.specs.Verbs.{Outcome, refused, outcome_code, outcome_body, write_of}
use Rattle.object_keys.specs.Faults.{refusal_of}
use Rattle.object_keys.specs.declared.fault.Fault.{Fault}
use Rattle.object_keys.specs.declared.fault.Fault.TheVariants as fault
use Rattle.reply.specs.declared.reply.Reply.{Reply}

-- the reply has the code of the outcome, and its body as compact text, and asks for no patience
abbrev pub Says : Outcome → client.HttpReply → Type 0
Says o p = (p.code ≡ outcome_code o) × (p.body.items ≡ compact_text (outcome_body o)) × (p.retry_after ≡ None)

-- a client is told of an outcome by a reply that says it; or, where there is no memory for a reply, that nothing was sent, and then nothing was written
abbrev pub Tells : Outcome → Answer → Type 0
Tells o (Replied p) = Says o p
Tells o NotSent = write_of o ≡ None
Tells o Lost = ⊥

-- a client is told of a reply by its code and text; of a fault as of its refusal, but of one for want of memory that nothing was sent
abbrev pub TellsResult : Result Reply Fault → Answer → Type 0
TellsResult (Ok r) (Replied p) = (p.code ≡ r.code) × (p.body.items ≡ string_bytes r.text) × (p.retry_after ≡ None)
TellsResult (Ok r) NotSent = ⊥
TellsResult (Ok r) Lost = ⊥
TellsResult (Err e) a = Tells (refused (refusal_of e)) a × (e ≡ fault.NoMemory → a ≡ NotSent)
