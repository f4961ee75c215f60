use Rattle.std.proofs.Common.{Some, Err, inl, inr, refl, ap, sym, subst, ◌∙◌}
use Rattle.spec_http.specs.Connections.{Asks}
use Rattle.object_keys.specs.Faults.{refusal_of}
use Rattle.http_request_reader.specs.Arriving.{AsksSoFar, WaitsFor}
use Rattle.http_request_reader.specs.declared.arrived.Arrived.TheVariants as arrived
use Rattle.http_connection.proofs.receiving.look.Goals as goal

pub awaited_after-awaited-requires : goal.awaited_after-awaited-requires
awaited_after-awaited-requires c =
    let waits : WaitsFor c.deref.result.now c.in-Ok-Part.needs = subst (AsksSoFar c.deref.result.now) c.in-Ok-Part.field-0-is c.in-Ok-Part.ensures.asks in
    subst (λ b. WaitsFor b c.in-Ok-Part.needs) (c.deref.ensures.value ∙ sym c.deref-in-Ok-Part.ensures.value) waits

pub returns-in-Ok-Whole-Refused : goal.returns-in-Ok-Whole-Refused
returns-in-Ok-Whole-Refused c =
    let fault = c.in-Ok-Whole-Refused.fault in
    let whole = c.in-Ok-Whole-Refused.field-0-is ∙ ap arrived.Whole c.in-Ok-Whole-Refused.field-0-0-is in
    let seen = subst (AsksSoFar c.deref.result.now) whole c.in-Ok-Whole-Refused.ensures.asks in
    let asks : Asks c.args.bytes.items (Some (Err (refusal_of fault))) = subst (λ b. Asks b (Some (Err (refusal_of fault)))) c.deref.ensures.value seen.0 in
    c.refused.ensures c.args.bytes.items (inr (refusal_of fault, asks, c.refusal_text.ensures))

pub returns : goal.returns
returns c = c.refused-in-Err.ensures c.args.bytes.items (inl refl)
