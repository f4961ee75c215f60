use Rattle.std.proofs.Common.{ap, ◌∙◌}
use Rattle.std.specs.Prelude.{option_map}
use Rattle.revisions.proofs.SeenMaps.{seen-lookup}
use Rattle.revisions.proofs.changes.found_in.Goals as goal

pub returns : goal.returns
returns c = ap (option_map (λ o. o.now.value)) (c.copied.ensures ∙ c.get.ensures.value) ∙ seen-lookup c.args.state.now.entries c.args.key.now
