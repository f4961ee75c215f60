use Rattle.http_request_reader.proofs.SoFar.{place_fits}
use Rattle.http_request_reader.proofs.requests.with_head.Goals as goal

pub with_opening-requires : goal.with_opening-requires
with_opening-requires c = record {
  place = place_fits c.args.bytes.now c.args.front.now c.requires.front c.args.found.len c.requires.found.1.section.len_fits;
}
