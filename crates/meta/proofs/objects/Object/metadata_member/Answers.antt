use Rattle.std.proofs.Common.{sym, subst}
use Rattle.serde_json.specs.View.{view}
use Rattle.json_values.proofs.NoFloats.{no_float, metadata-no_float, found-no_float}
use Rattle.meta.proofs.objects.Object.metadata_member.Goals as goal

pub returns-clause-no_float : goal.returns-clause-no_float
returns-clause-no_float c = found-no_float c.metadata_member.result (subst no_float (sym c.metadata_member.ensures) (metadata-no_float c.args.name.now (view c.self.inside.value) c.self.invariant.0))
