-- What was written.
use Rattle.std.proofs.Common.{◌≡◌, inl, inr, false, ℕ, List, [], Option, Some, None, Result, Ok, Err, refl, sym, ap, subst, ◌∙◌, append-nil, string_bytes}
use Rattle.std.specs.Io.KnownBytes.{Appends}
use Rattle.spec_api.specs.Replies.{outcome}
use Rattle.spec_api.specs.Verbs.{Outcome, answered, refused}
use Rattle.chunked.specs.Devices.{device_of, has_failed}
use Rattle.chunked.specs.Writing.{WritesInPlace}
use Rattle.chunked.specs.declared.fault.ChunkFault.{ChunkFault}
use Rattle.chunked.specs.declared.fault.ChunkFault.TheVariants as chunk
use Rattle.chunked.specs.declared.watched.Watched.{Watched}
use Rattle.spec_http.specs.Replies.{response_text, reply_text}
use Rattle.object_keys.specs.Faults.{refusal_of}
use Rattle.object_keys.specs.declared.fault.Fault.{Fault}
use Rattle.reply.specs.declared.reply.Reply as replies
use Rattle.api.specs.Told.{Tells, TellsText}
use Rattle.api.specs.Replying.{Sends, Replies}
use Rattle.api.specs.Responding.{IsReplyTo, IsReplyOf}
use Rattle.api.specs.Serving.{has_reader_failed}
use Rattle.api.specs.declared.fault.ServeFault.{ServeFault}
use Rattle.api.specs.declared.fault.ServeFault.TheVariants as fault

appends_none : (known : Option (List ℕ)) → Appends known known []
appends_none None = tt
appends_none (Some xs) = sym (append-nil xs)

-- what a server tells is replied to
pub told_then : (IsSo : Outcome → Type 0) (answer : Result replies.Reply Fault) (bytes : List ℕ) → Tells IsSo answer → IsReplyOf answer bytes → (o : Outcome) × IsSo o × IsReplyTo o bytes
told_then IsSo (Ok reply) bytes (a, says, so) is =
    let text : response_text reply.code (string_bytes reply.text) ≡ reply_text (outcome (answered a)) = cc (says.code, says.text) in
    (answered a, so, is ∙ text)
told_then IsSo (Err e) bytes so is = (refused (refusal_of e), so, is)

-- the text that a server tells is the body of the reply
pub text_then : (IsSo : Outcome → Type 0) (text : List ℕ) → TellsText IsSo (Ok text) → (o : Outcome) × IsSo o × IsReplyTo o (response_text 200 text)
text_then IsSo text (a, (code, is), so) =
    let bytes : response_text 200 text ≡ reply_text (outcome (answered a)) = cc (code, is) in
    (answered a, so, bytes)

module _ {D : Type 0} (contents : D → Option (List ℕ)) (old new : Watched D) where
  pub sent : (text : List ℕ) (u : Unit {0}) → WritesInPlace text contents old new (Ok u) → Sends contents old new text (Ok u)
  sent text u w = (w.1, w.2)

  pub not_sent : (text : List ℕ) (f : ChunkFault) → WritesInPlace text contents old new (Err f) → Sends contents old new text (Err fault.Write)
  not_sent text chunk.Device (inl (up, same)) =
      (ap has_failed same ∙ up, ([], text, subst (λ w. Appends (contents (device_of old)) (contents (device_of w)) []) (sym same) (appends_none (contents (device_of old))), refl))
  not_sent text chunk.Device (inr (down, up, begun)) = (up, begun)
  not_sent text chunk.Malformed w = absurd w
  not_sent text chunk.Truncated w = absurd w
  not_sent text chunk.Want w = absurd w

  -- the reply to an outcome, sent
  pub replied : (o : Outcome) (bytes : List ℕ) (r : Result (Unit {0}) ServeFault) → IsReplyTo o bytes → Sends contents old new bytes r → Replies contents old new o r
  replied (answered a) bytes r is sends = subst (λ t. Sends contents old new t r) is sends
  replied (refused f) bytes r (inl is) sends = inl (subst (λ t. Sends contents old new t r) is sends)
  replied (refused f) bytes r (inr is) sends = inr (subst (λ t. Sends contents old new t r) is sends)

  -- the reader is not at fault
  pub sends_fault : (text : List ℕ) (r : Result (Unit {0}) ServeFault) → Sends contents old new text r → has_reader_failed r ≡ false
  sends_fault text (Ok u) w = refl
  sends_fault text (Err fault.Write) w = refl
  sends_fault text (Err fault.Read) w = absurd w
  sends_fault text (Err fault.NoMemory) w = absurd w

  pub replies_fault : (o : Outcome) (r : Result (Unit {0}) ServeFault) → Replies contents old new o r → has_reader_failed r ≡ false
  replies_fault (answered a) r w = sends_fault (reply_text (outcome (answered a))) r w
  replies_fault (refused f) r (inl w) = sends_fault _ r w
  replies_fault (refused f) r (inr w) = sends_fault _ r w
