use Rattle.std.proofs.Common.{◌==◌, sym, ap, ◌∙◌}
use Rattle.serde_json.proofs.Views.{items_len-items_view}
use Rattle.lifecycle.proofs.fates.is_none.Goals as goal

pub returns : goal.returns
returns c = c.is_empty.ensures ∙ ap (λ n. n == 0) (sym (items_len-items_view c.args.items.now))
