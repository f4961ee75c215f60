use Rattle.std.proofs.Common.{◌≡◌, ◌++◌, Err, sym, ap, subst, ◌∙◌}
use Rattle.http_watch.proofs.Pieces.{part_failed, part_on}
use Rattle.http_watch.specs.Looked.{Writes}
use Rattle.http_watch.proofs.serving.write_frames.Goals as goal

pub returns-in-Err-write_text : goal.returns-in-Err-write_text
returns-in-Err-write_text g c =
    let contents = g.W.Write.contents in
    let now = c.loop.writer in
    let after = c.write_text.new.writer in
    let piece = c.deref.result.now in
    let more = c.push_next.new.self in
    let is : c.loop.frames ≡ piece ++ more =
    ap (λ t. t ++ c.loop.frames) (sym c.new-piece.ensures.items) ∙ c.in-Ok.ensures.made ∙ ap (λ t. t ++ more) (sym c.deref.ensures.value) in
    part_failed contents (Unit {0}) c.args.writer.now now after c.args.frames c.loop.frames piece more c.loop.invariant is
    (subst (λ e. Writes {X = Unit {0}} piece contents now after (Err e)) c.in-Err-write_text.ensures.memory c.in-Err-write_text.ensures.written)

pub loop-preserved : goal.loop-preserved
loop-preserved g c =
    let piece = c.deref.result.now in
    let more = c.push_next.new.self in
    let is : c.loop.frames ≡ piece ++ more =
    ap (λ t. t ++ c.loop.frames) (sym c.new-piece.ensures.items) ∙ c.in-Ok.ensures.made ∙ ap (λ t. t ++ more) (sym c.deref.ensures.value) in
    part_on g.W.Write.contents c.args.writer.now c.loop.writer c.write_text.new.writer c.args.frames c.loop.frames piece more c.in-Ok-write_text.field-0 c.loop.invariant is
    c.in-Ok-write_text.ensures.written
