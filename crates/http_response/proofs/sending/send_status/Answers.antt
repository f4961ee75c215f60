use Rattle.std.proofs.Common.{◌++◌, codes, Ok, Err, refl, sym, ap, ◌∙◌}
use Rattle.spec_http.specs.Replies.{phrase}
use Rattle.http_response.proofs.HeadParts.{numbered, blanked, status, status_parts, status_ends}
use Rattle.http_response.proofs.InTurn.{in_turn, at_first}
use Rattle.http_response.proofs.sending.send_status.Goals as goal

pub returns-in-Err : goal.returns-in-Err
returns-in-Err g c =
    at_first g.W.Write.contents c.args.writer.now c.send_numbered.new.writer (status c.args.code) (numbered c.args.code) (codes " " ++ phrase c.args.code) c.in-Err.fault
    (status_ends c.args.code) c.in-Err.ensures

pub returns-in-Err-send : goal.returns-in-Err-send
returns-in-Err-send g c =
    at_first g.W.Write.contents c.args.writer.now c.send.new.self (status c.args.code) (blanked c.args.code) (phrase c.args.code) c.in-Err-send.fault (status_parts c.args.code)
    (in_turn g.W.Write.contents c.args.writer.now c.send_numbered.new.writer c.send.new.self (blanked c.args.code) (numbered c.args.code) (codes " ") c.in-Ok.field-0 (Err c.in-Err-send.fault) refl
    c.in-Ok.ensures c.in-Err-send.ensures)

pub returns-in-Err-send-2 : goal.returns-in-Err-send-2
returns-in-Err-send-2 g c =
    in_turn g.W.Write.contents c.args.writer.now c.send.new.self c.send-2.new.self (status c.args.code) (blanked c.args.code) c.as_bytes.result.now c.in-Ok-send.field-0 (Err c.in-Err-send-2.fault)
    (status_parts c.args.code ∙ ap (λ t. blanked c.args.code ++ t) (sym (c.as_bytes.ensures.value ∙ c.phrase.ensures)))
    (in_turn g.W.Write.contents c.args.writer.now c.send_numbered.new.writer c.send.new.self (blanked c.args.code) (numbered c.args.code) (codes " ") c.in-Ok.field-0 (Ok c.in-Ok-send.field-0) refl
    c.in-Ok.ensures c.in-Ok-send.ensures)
    c.in-Err-send-2.ensures
