use Rattle.std.proofs.Common.{sym, ◌∙◌}
use Rattle.kcp_options.proofs.Pairs.{no_value}
use Rattle.kcp_options.proofs.words.value_after.Goals as goal

pub returns : goal.returns
returns c = sym (no_value c.args.name.now c.loop-rest.rest.now c.in_default.len_below) ∙ c.loop-rest.invariant
