use Rattle.std.proofs.Common.{sym, ◌∙◌}
use Rattle.kcp_options.proofs.Strange.{strange_pair}
use Rattle.kcp_options.proofs.mistake.not_understood.Goals as goal

pub returns-in-Some : goal.returns-in-Some
returns-in-Some c =
    let p = strange_pair c.args.settings.now c.loop-rest.rest.now c.name-item.result c.value-item.result _ _ _ c.in-len2-up.len_at_least c.name-item.is c.value-item.is c.as_str.ensures.value c.as_str-in-len2-up.ensures.value c.strange_of.ensures in
    sym (rw c.in-Some.is at p) ∙ c.loop-rest.invariant

pub loop-rest-preserved : goal.loop-rest-preserved
loop-rest-preserved c =
    let p = strange_pair c.args.settings.now c.loop-rest.rest.now c.name-item.result c.value-item.result _ _ _ c.in-len2-up.len_at_least c.name-item.is c.value-item.is c.as_str.ensures.value c.as_str-in-len2-up.ensures.value c.strange_of.ensures in
    sym (rw c.in-None.is at p) ∙ c.loop-rest.invariant
