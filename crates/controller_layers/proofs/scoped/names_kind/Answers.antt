use Rattle.std.proofs.Common.{◌∙◌, ◌==◌, sym}
use Rattle.controller_layers.proofs.AnyMapped.{any_mapped}
use Rattle.spec_api.specs.Kinds.{rank}
use Rattle.selector.specs.Views.{view_of}
use Rattle.controller_layers.proofs.scoped.names_kind.Goals as goal

pub returns : goal.returns
returns c = c.any_is_of.ensures ∙ sym (any_mapped (λ v. rank v.kind == rank c.args.kind) view_of c.args.views.now)
