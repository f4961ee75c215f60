use Rattle.std.proofs.Common.{ap, ◌∙◌}
use Rattle.spec_client_go.specs.Expectations.{forgotten}
use Rattle.object_keys.specs.Keys.{key_of}
use Rattle.expectations.proofs.Steps.{forgot}
use Rattle.expectations.proofs.table.Table.forget.Goals as goal

pub returns : goal.returns
returns c = forgot c.args.key.now c.self.inside.by_key.entries c.remove.new.self.entries c.remove.ensures.updates.1 c.remove.ensures.updates.3 ∙ ap (forgotten (key_of c.args.key.now)) c.self.view_is
