use Rattle.std.proofs.Common.{rules, ◌≡◌, [], false, sym, subst}
use Rattle.chunked.specs.Reading.{Reaches, place_of, left_of}
use Rattle.chunked.specs.declared.place.BodyPlace.{BodyPlace}
use Rattle.chunked.specs.declared.place.BodyPlace.TheVariants as place
use Rattle.chunked.proofs.Passing.{reaches_stay}
use Rattle.http_client.proofs.WholeBodies.{reaches_more, stopped, longer_there}
use Rattle.http_client.proofs.chunks.read_chunks.Goals as goal

pub loop-init : goal.loop-init
loop-init g c =
    let left = left_of g.R.Read.remaining c.args.chunks.now in
    let here : Reaches place.Line left [] (place_of c.args.chunks.now) left = subst (λ p. Reaches place.Line left [] p left) (sym c.requires.start) (reaches_stay left place.Line) in
    (subst (λ t. Reaches place.Line left t (place_of c.args.chunks.now) left) (sym c.new-body.ensures.items) here, c.requires.sound)

pub returns-in-Ok-false-clause-read : goal.returns-in-Ok-false-clause-read
returns-in-Ok-false-clause-read g c =
    let first = left_of g.R.Read.remaining c.args.chunks.now in
    let mid = left_of g.R.Read.remaining c.loop.chunks in
    let last = left_of g.R.Read.remaining c.read_piece.new.chunks in
    let more = c.in-Ok-false.ensures.read in
    let none : c.in-Ok-false.field-0 ≡ false = search rules in
    let ended : place_of c.read_piece.new.chunks ≡ place.Ended = c.in-Ok-false.ensures.end none in
    subst (λ (p : BodyPlace). Reaches place.Line first c.read_piece.new.body.items p last) ended
    (reaches_more first mid last place.Line (place_of c.loop.chunks) (place_of c.read_piece.new.chunks) c.loop.body.items more.0 c.read_piece.new.body.items c.loop.invariant.0 more.2 more.1)

pub returns-in-Err-clause-none : goal.returns-in-Err-clause-none
returns-in-Err-clause-none g c = λ is.
    stopped (left_of g.R.Read.remaining c.args.chunks.now) (left_of g.R.Read.remaining c.loop.chunks) (left_of g.R.Read.remaining c.read_piece.new.chunks)
    (place_of c.loop.chunks) c.loop.body.items c.loop.invariant.0 (c.in-Err.ensures.stops is)

pub loop-preserved : goal.loop-preserved
loop-preserved g c =
    let first = left_of g.R.Read.remaining c.args.chunks.now in
    let mid = left_of g.R.Read.remaining c.loop.chunks in
    let last = left_of g.R.Read.remaining c.read_piece.new.chunks in
    let more = c.in-Ok-true.ensures.read in (
      reaches_more first mid last place.Line (place_of c.loop.chunks) (place_of c.read_piece.new.chunks) c.loop.body.items more.0 c.read_piece.new.body.items c.loop.invariant.0 more.2 more.1,
      c.in-Ok-true.ensures.sound,
    )

pub returns-in-Err-clause-long : goal.returns-in-Err-clause-long
returns-in-Err-clause-long g c = λ is.
    let first = left_of g.R.Read.remaining c.args.chunks.now in
    let mid = left_of g.R.Read.remaining c.loop.chunks in
    let last = left_of g.R.Read.remaining c.read_piece.new.chunks in
    let long = c.in-Err.ensures.long is in
    let more = long.0 in
    longer_there c.args.most first last (place_of c.read_piece.new.chunks) c.read_piece.new.body.items
    (reaches_more first mid last place.Line (place_of c.loop.chunks) (place_of c.read_piece.new.chunks) c.loop.body.items more.0 c.read_piece.new.body.items c.loop.invariant.0 more.2 more.1)
    long.1
