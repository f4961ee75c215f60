use Rattle.std.proofs.Common.{◌≡◌, ℕ, List, Some, None, option_map, sym, ap, ◌∙◌}
use denote.Ref.{Bor}
use Rattle.api_client.specs.Exchanges.{piece_in}
use Rattle.list_and_watch.specs.Exchanged.{at_piece, watching}
use Rattle.list_and_watch.specs.declared.tries.Piece.TheVariants as piece
use Rattle.list_and_watch.proofs.Dealt.{cuts, moves_both, reads_bytes, reads_none}
use Rattle.list_and_watch.proofs.watching.read_once.Goals as goal

pub returns-in_default-clause-goes : goal.returns-in_default-clause-goes
returns-in_default-clause-goes g c k =
    let none : piece_in c.more-more.result c.more-more.new.buf ≡ None = sym c.piece_in.ensures ∙ ap (option_map (λ (p : Bor (List ℕ)). p.now)) c.in_default.is in
    reads_none g.S.Sink.takes g.S.Sink.refuses g.S.Sink.answers g.S.Sink.hears g.A.Api.exchanges k c.more-more.result c.more-more.new.buf c.args.follower.now c.args.sink.now c.args.api.now c.more-more.new.self none c.more-more.ensures

pub returns-in-Ok-clause-goes : goal.returns-in-Ok-clause-goes
returns-in-Ok-clause-goes g c k =
    let some : piece_in c.more-more.result c.more-more.new.buf ≡ Some c.in-Some.bytes.now = sym c.piece_in.ensures ∙ ap (option_map (λ (p : Bor (List ℕ)). p.now)) c.in-Some.is in
    reads_bytes g.S.Sink.takes g.S.Sink.refuses g.S.Sink.answers g.S.Sink.hears g.A.Api.exchanges k c.more-more.result c.more-more.new.buf c.in-Some.bytes.now c.args.follower.now c.on_piece-piece.new.self c.on_piece-piece.result
    c.args.sink.now c.tell.new.sink c.args.api.now c.more-more.new.self c.tell.new.api some c.more-more.ensures c.on_piece-piece.ensures c.tell.ensures.told

pub returns-in-Err-clause-goes : goal.returns-in-Err-clause-goes
returns-in-Err-clause-goes g c k =
    let some : piece_in c.more-more.result c.more-more.new.buf ≡ Some c.in-Some.bytes.now = sym c.piece_in.ensures ∙ ap (option_map (λ (p : Bor (List ℕ)). p.now)) c.in-Some.is in
    let f = c.on_piece-piece.new.self in
    let s = c.on_piece-piece.result in
    moves_both g.S.Sink.takes g.S.Sink.refuses g.S.Sink.answers g.S.Sink.hears g.A.Api.exchanges k c.args.follower.now f c.on_cut.new.self watching (at_piece s None) (at_piece piece.Dropped None) (c.args.sink.now, c.args.api.now) (c.tell.new.sink, c.tell.new.api) (c.tell.new.sink, c.tell.new.api)
    (reads_bytes g.S.Sink.takes g.S.Sink.refuses g.S.Sink.answers g.S.Sink.hears g.A.Api.exchanges k c.more-more.result c.more-more.new.buf c.in-Some.bytes.now c.args.follower.now f s
    c.args.sink.now c.tell.new.sink c.args.api.now c.more-more.new.self c.tell.new.api some c.more-more.ensures c.on_piece-piece.ensures c.tell.ensures.told)
    (cuts g.S.Sink.takes g.S.Sink.refuses g.S.Sink.answers g.S.Sink.hears g.A.Api.exchanges k f c.on_cut.new.self (at_piece s None) (c.tell.new.sink, c.tell.new.api) c.on_cut.ensures)
