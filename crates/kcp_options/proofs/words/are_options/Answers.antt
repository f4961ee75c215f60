use Rattle.std.proofs.Common.{sym, ◌∙◌}
use Rattle.kcp_options.proofs.Pairs.{few, pair}
use Rattle.kcp_options.proofs.words.are_options.Goals as goal

pub returns : goal.returns
returns c =
    c.is_empty.ensures ∙ sym (few c.args.settings.now c.loop-rest.rest.now c.in_default.len_below) ∙ c.loop-rest.invariant

pub returns-then-not-is_option : goal.returns-then-not-is_option
returns-then-not-is_option c =
    let p = pair c.args.settings.now c.loop-rest.rest.now c.name-item.result c.value-item.result _ _ _ c.in-len2-up.len_at_least c.name-item.is c.value-item.is c.as_str.ensures.value c.as_str-in-len2-up.ensures.value c.is_option.ensures in
    let no = c.if-not-is_option.true in
    sym (rw no at p) ∙ c.loop-rest.invariant

pub loop-rest-preserved : goal.loop-rest-preserved
loop-rest-preserved c =
    let p = pair c.args.settings.now c.loop-rest.rest.now c.name-item.result c.value-item.result _ _ _ c.in-len2-up.len_at_least c.name-item.is c.value-item.is c.as_str.ensures.value c.as_str-in-len2-up.ensures.value c.is_option.ensures in
    let yes = c.if-not-is_option.false in
    sym (rw yes at p) ∙ c.loop-rest.invariant
