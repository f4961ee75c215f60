use Rattle.std.proofs.Common.{◌++◌, codes, decimal, length, Err, refl, sym, ap}
use Rattle.spec_http.specs.Replies.{head_text, response_text}
use Rattle.http_response.proofs.InTurn.{in_turn, at_first}
use Rattle.http_response.proofs.sending.send_in_parts.Goals as goal

pub returns-in-Err : goal.returns-in-Err
returns-in-Err g c =
    at_first g.W.Write.contents c.args.writer.now c.send_head.new.writer (response_text c.args.code c.args.body.now)
    (head_text c.args.code (codes "Content-Length: " ++ decimal (length c.args.body.now))) c.args.body.now c.in-Err.fault refl c.in-Err.ensures

pub returns-in-Err-send : goal.returns-in-Err-send
returns-in-Err-send g c =
    in_turn g.W.Write.contents c.args.writer.now c.send_head.new.writer c.send.new.self (response_text c.args.code c.args.body.now)
    (head_text c.args.code (codes "Content-Length: " ++ decimal (length c.args.body.now))) c.as_bytes.result.now c.in-Ok.field-0 (Err c.in-Err-send.fault)
    (ap (λ t. head_text c.args.code (codes "Content-Length: " ++ decimal (length c.args.body.now)) ++ t) (sym c.as_bytes.ensures.value)) c.in-Ok.ensures c.in-Err-send.ensures
