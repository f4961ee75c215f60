use Rattle.std.proofs.Common.{Ok, Err, subst}
use Rattle.http_watch.proofs.Pieces.{opening_failed, opening_written}
use Rattle.http_watch.specs.Looked.{Writes}
use Rattle.http_watch.proofs.serving.write_opening.Goals as goal

pub returns-in-Err : goal.returns-in-Err
returns-in-Err g c =
    let contents = g.W.Write.contents in
    let before = c.args.writer.now in
    let after = c.write_text.new.writer in
    opening_failed contents (Unit {0}) before after c.args.text.now c.args.rest
    (subst (λ e. Writes {X = Unit {0}} c.args.text.now contents before after (Err e)) c.in-Err.ensures.memory c.in-Err.ensures.written)

pub returns-in-Ok-write_frames : goal.returns-in-Ok-write_frames
returns-in-Ok-write_frames g c =
    opening_written g.W.Write.contents c.args.writer.now c.write_text.new.writer c.write_frames.new.writer c.args.text.now c.args.rest c.in-Ok.field-0 (Ok c.in-Ok-write_frames.field-0)
    c.in-Ok.ensures.written c.in-Ok-write_frames.ensures

pub returns-in-Err-write_frames : goal.returns-in-Err-write_frames
returns-in-Err-write_frames g c =
    opening_written g.W.Write.contents c.args.writer.now c.write_text.new.writer c.write_frames.new.writer c.args.text.now c.args.rest c.in-Ok.field-0 (Err c.in-Err-write_frames.cut)
    c.in-Ok.ensures.written c.in-Err-write_frames.ensures
