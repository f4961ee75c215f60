use Rattle.std.proofs.Common.{◌≡◌, map, string_bytes, Some, rules}
use Rattle.kcp_options.specs.Options.{row, value_after}
use Rattle.kcp_options.proofs.words.said.Goals as goal

pub returns-in-Some-clause-value : goal.returns-in-Some-clause-value
returns-in-Some-clause-value c =
    let after : value_after (row c.args.setting).name (map string_bytes c.args.words.now) ≡ Some c.in-Some.value.now = search rules in
    rw after c.take.ensures.value
