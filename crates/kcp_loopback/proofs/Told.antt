-- What a client is told.
use Rattle.std.proofs.Common.{Result, Ok, Err, sym, ◌∙◌}
use Rattle.http_client.specs.declared.answer.Answer.{Answer}
use Rattle.http_client.specs.declared.answer.Answer.TheVariants.{Replied, NotSent, Lost}
use Rattle.spec_api.specs.Verbs.{Outcome, answered, refused}
use Rattle.object_keys.specs.Faults.{refusal_of}
use Rattle.object_keys.specs.declared.fault.Fault.{Fault}
use Rattle.reply.specs.declared.reply.Reply.{Reply}
use Rattle.api.specs.Told as sites
use Rattle.kcp_loopback.specs.Told.{Tells, TellsResult}

-- a client that is told of what a site answers is told of an outcome that is so
pub told : (is_so : Outcome → Type 0) (r : Result Reply Fault) (a : Answer) → sites.Tells is_so r → TellsResult r a → (o : Outcome) × is_so o × Tells o a
told is_so (Ok r) (Replied p) (x, says, so) (code, text, patience) = (answered x, so, (code ∙ sym says.code, text ∙ says.text, patience))
told is_so (Ok r) NotSent so tells = absurd tells
told is_so (Ok r) Lost so tells = absurd tells
told is_so (Err e) a so tells = (refused (refusal_of e), so, tells.0)
