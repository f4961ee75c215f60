use Rattle.std.proofs.Common.{length, refl}
use Rattle.http_request_reader.proofs.SoFar.{front_fits, by_head, ill_formed, too_large_head, half_a_head}
use Rattle.http_request_reader.proofs.requests.look_at.Goals as goal

pub find_head-requires-clause-limit : goal.find_head-requires-clause-limit
find_head-requires-clause-limit c = front_fits c.args.bytes.now c.front_of-front.result.now c.front_of-front.ensures

pub returns-in-Whole-clause-asks : goal.returns-in-Whole-clause-asks
returns-in-Whole-clause-asks c =
    by_head c.args.bytes.now c.front_of-front.result.now c.front_of-front.ensures c.find_head.new.fields c.in-Whole.found c.with_head.result c.in-Whole.ensures c.with_head.ensures.after

pub returns-in-IllFormed-clause-asks : goal.returns-in-IllFormed-clause-asks
returns-in-IllFormed-clause-asks c =
    (ill_formed c.args.bytes.now c.front_of-front.result.now c.front_of-front.ensures c.find_head.new.fields c.in-IllFormed.ensures, λ none. absurd (cc))

pub returns-in-TooLarge-clause-asks : goal.returns-in-TooLarge-clause-asks
returns-in-TooLarge-clause-asks c =
    (too_large_head c.args.bytes.now c.front_of-front.result.now c.front_of-front.ensures c.find_head.new.fields c.in-TooLarge.ensures, λ none. absurd (cc))

pub returns-in-Cut-clause-asks : goal.returns-in-Cut-clause-asks
returns-in-Cut-clause-asks c =
    half_a_head c.args.bytes.now c.front_of-front.result.now c.front_of-front.ensures c.find_head.new.fields (length c.front_of-front.result.now) refl c.in-Cut.ensures
