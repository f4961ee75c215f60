use Rattle.std.proofs.Common.{◌++◌, decimal, Err, sym, ap, ap₂, ◌∙◌}
use Rattle.http_response.proofs.InTurn.{in_turn, at_first}
use Rattle.http_response.proofs.sending.send_numbered.Goals as goal

pub returns-in-Err : goal.returns-in-Err
returns-in-Err g c =
    at_first g.W.Write.contents c.args.writer.now c.send.new.self (c.args.text.now ++ decimal c.args.number) c.as_bytes.result.now (decimal c.args.number) c.in-Err.fault
    (ap (λ t. t ++ decimal c.args.number) (sym c.as_bytes.ensures.value)) c.in-Err.ensures

pub returns-in-Err-send : goal.returns-in-Err-send
returns-in-Err-send g c =
    in_turn g.W.Write.contents c.args.writer.now c.send.new.self c.send-2.new.self (c.args.text.now ++ decimal c.args.number) c.as_bytes.result.now c.as_bytes-2.result.now c.in-Ok.field-0
    (Err c.in-Err-send.fault) (ap₂ (λ s t. s ++ t) (sym c.as_bytes.ensures.value) (sym (c.as_bytes-2.ensures.value ∙ c.format.ensures.text))) c.in-Ok.ensures c.in-Err-send.ensures
