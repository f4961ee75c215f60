use Rattle.std.proofs.Common.{◌≡◌}
use Rattle.form_urlencoded.specs.Form.{raw_pairs}
use Rattle.form_urlencoded.specs.Parse.{pairs_left}
use Rattle.spec_api.specs.Queries.{has_any}
use Rattle.request_parts.specs.Queried.{names_seen}
use Rattle.request_parts.proofs.members.has_any.Given as goal

abbrev pub invariant-loop-pair : goal.invariant-loop-pair
invariant-loop-pair l = has_any (names_seen l.names) (raw_pairs l.query) ≡ has_any (names_seen l.names) (pairs_left l.pair-iterator)
