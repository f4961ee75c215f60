-- Replies as the definitions say them.
use Rattle.std.specs.Prelude.{◌≡◌, ◌⊎◌, ℕ, List, Result, Ok, Err, string_bytes}
use Rattle.serde_json.specs.Written.{compact_text}
use Rattle.spec_api.specs.Verbs.{Answer, Outcome, answered, refused}
use Rattle.object_keys.specs.Faults.{refusal_of}
use Rattle.object_keys.specs.declared.fault.Fault.{Fault}
use Rattle.object_keys.specs.declared.fault.Fault.TheVariants as fault
use Rattle.reply.specs.declared.reply.Reply.{Reply}

-- the reply has the code and the body of the answer
pub record Says (a : Answer) (r : Reply) : Type 0 where
  pub code : a.code ≡ r.code
  pub text : string_bytes r.text ≡ compact_text a.body

-- the result is the outcome, or running out of memory
abbrev pub Replies : Outcome → Result Reply Fault → Type 0
Replies (answered a) (Ok r) = Says a r
Replies (refused f) (Ok r) = ⊥
Replies o (Err e) = (e ≡ fault.NoMemory) ⊎ (o ≡ refused (refusal_of e))

-- the result is the outcome, or running out of memory for an answer; a refusal takes none
abbrev pub Lists : Outcome → Result Reply Fault → Type 0
Lists (answered a) (Ok r) = Says a r
Lists (answered a) (Err e) = e ≡ fault.NoMemory
Lists (refused f) (Ok r) = ⊥
Lists (refused f) (Err e) = f ≡ refusal_of e

-- the same, with no reply made: it is to have the text, and code 200
abbrev pub Finds : Outcome → Result (List ℕ) Fault → Type 0
Finds (answered a) (Ok text) = (a.code ≡ 200) × (text ≡ compact_text a.body)
Finds (answered a) (Err e) = e ≡ fault.NoMemory
Finds (refused f) (Ok text) = ⊥
Finds (refused f) (Err e) = f ≡ refusal_of e
