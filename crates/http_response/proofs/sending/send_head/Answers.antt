use Rattle.std.proofs.Common.{◌++◌, Ok, Err, refl}
use Rattle.http_response.proofs.HeadParts.{status, length_field, close, head, head_parts, head_ends}
use Rattle.http_response.proofs.InTurn.{in_turn, at_first}
use Rattle.http_response.proofs.sending.send_head.Goals as goal

pub returns-in-Err : goal.returns-in-Err
returns-in-Err g c =
    at_first g.W.Write.contents c.args.writer.now c.send_status.new.writer (head c.args.code c.args.body_length) (status c.args.code) (length_field c.args.body_length ++ close) c.in-Err.fault
    (head_ends c.args.code c.args.body_length) c.in-Err.ensures

pub returns-in-Err-send_numbered : goal.returns-in-Err-send_numbered
returns-in-Err-send_numbered g c =
    at_first g.W.Write.contents c.args.writer.now c.send_numbered.new.writer (head c.args.code c.args.body_length) (status c.args.code ++ length_field c.args.body_length) close
    c.in-Err-send_numbered.fault (head_parts c.args.code c.args.body_length)
    (in_turn g.W.Write.contents c.args.writer.now c.send_status.new.writer c.send_numbered.new.writer (status c.args.code ++ length_field c.args.body_length) (status c.args.code)
    (length_field c.args.body_length) c.in-Ok.field-0 (Err c.in-Err-send_numbered.fault) refl c.in-Ok.ensures c.in-Err-send_numbered.ensures)

pub returns-in-Ok-send : goal.returns-in-Ok-send
returns-in-Ok-send g c =
    in_turn g.W.Write.contents c.args.writer.now c.send_numbered.new.writer c.send.new.self (head c.args.code c.args.body_length) (status c.args.code ++ length_field c.args.body_length) close
    c.in-Ok-send_numbered.field-0 (Ok c.in-Ok-send.field-0) (head_parts c.args.code c.args.body_length)
    (in_turn g.W.Write.contents c.args.writer.now c.send_status.new.writer c.send_numbered.new.writer (status c.args.code ++ length_field c.args.body_length) (status c.args.code)
    (length_field c.args.body_length) c.in-Ok.field-0 (Ok c.in-Ok-send_numbered.field-0) refl c.in-Ok.ensures c.in-Ok-send_numbered.ensures)
    c.in-Ok-send.ensures

pub returns-in-Err-send : goal.returns-in-Err-send
returns-in-Err-send g c =
    in_turn g.W.Write.contents c.args.writer.now c.send_numbered.new.writer c.send.new.self (head c.args.code c.args.body_length) (status c.args.code ++ length_field c.args.body_length) close
    c.in-Ok-send_numbered.field-0 (Err c.in-Err-send.fault) (head_parts c.args.code c.args.body_length)
    (in_turn g.W.Write.contents c.args.writer.now c.send_status.new.writer c.send_numbered.new.writer (status c.args.code ++ length_field c.args.body_length) (status c.args.code)
    (length_field c.args.body_length) c.in-Ok.field-0 (Ok c.in-Ok-send_numbered.field-0) refl c.in-Ok.ensures c.in-Ok-send_numbered.ensures)
    c.in-Err-send.ensures
