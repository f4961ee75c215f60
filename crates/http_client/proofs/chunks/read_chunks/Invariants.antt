use Rattle.std.proofs.Common.{◌≡◌, None}
use Rattle.chunked.specs.Reading.{Reaches, place_of, answered_fault, left_of}
use Rattle.chunked.specs.declared.place.BodyPlace.TheVariants as place
use Rattle.http_client.proofs.chunks.read_chunks.Given as goal

-- what was read so far is bytes of the chunks, and there is no fault
abbrev pub invariant-loop : goal.invariant-loop
invariant-loop g l =
    Reaches place.Line (left_of g.R.Read.remaining l.fn.chunks) l.body.items (place_of l.chunks) (left_of g.R.Read.remaining l.chunks) × (answered_fault l.chunks ≡ None)
