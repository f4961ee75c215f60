-- Replies and faults as the definitions say them.
use Rattle.std.specs.Prelude.{◌≡◌, ◌⊎◌, Option, option_map, Result, Ok, Err, string_bytes}
use Rattle.serde_json.specs.Written.{compact_text}
use Rattle.spec_api.specs.Verbs.{Answer, Outcome, answered, refused}
use Rattle.object_keys.specs.Faults.{refusal_of}
use Rattle.meta.specs.Writes.{write_of}
use Rattle.object_keys.specs.declared.fault.Fault.{Fault}
use Rattle.object_keys.specs.declared.fault.Fault.TheVariants as fault
use Rattle.meta.specs.declared.writes.Write.{Write}
use Rattle.reply.specs.declared.reply.Reply.{Reply}

-- the reply has the code and the body of the answer, and what is written is what the answer writes
pub record Answers (a : Answer) (r : Reply) (w : Option Write) : Type 0 where
  pub code : a.code ≡ r.code
  pub text : string_bytes r.text ≡ compact_text a.body
  pub write : option_map write_of w ≡ a.write

-- the result is the outcome, or running out of memory
abbrev pub Serves : Outcome → Result (Reply × Option Write) Fault → Type 0
Serves (answered a) (Ok p) = Answers a p.0 p.1
Serves (refused f) (Ok p) = ⊥
Serves o (Err e) = (e ≡ fault.NoMemory) ⊎ (o ≡ refused (refusal_of e))
