use Rattle.std.proofs.Common.{◌-◌, length, map, take, sym, ap, ◌∙◌}
use Rattle.std.proofs.lemmas.List.{take-map, length-map}
use Rattle.spec_reconcile.specs.Deployments.{all_but_last}
use Rattle.reconcile_types.specs.Entries.{entry_of}
use Rattle.deployment.proofs.cleaning.earlier_ones.Goals as goal

pub returns : goal.returns
returns c =
    let all = c.in_ok-history.history.items in
    let limit = c.args.limit in
    let count = ap (λ n. n - limit) (ap length c.as_slice.ensures.value ∙ sym (length-map all entry_of)) in
    ap (map entry_of) c.truncate.ensures.items ∙ sym (take-map entry_of c.saturating_sub-count.result all) ∙ ap (λ n. take n (map entry_of all)) (c.saturating_sub-count.ensures ∙ count)
    ∙ ap (all_but_last limit) c.in_ok-history.ensures
