use Rattle.std.proofs.Common.{◌≡◌}
use Rattle.form_urlencoded.specs.Form.{raw_pairs}
use Rattle.form_urlencoded.specs.Parse.{pairs_left}
use Rattle.spec_api.specs.Queries.{parameter}
use Rattle.request_parts.proofs.members.parameter.Given as goal

abbrev pub invariant-loop-pair : goal.invariant-loop-pair
invariant-loop-pair l = parameter l.name (raw_pairs l.query) ≡ parameter l.name (pairs_left l.pair-iterator)
