use Rattle.reconciler.proofs.Joined.{traces_join}
use Rattle.reconciler.proofs.trace_laws.traces_join.Goals as goal

pub returns : goal.returns
returns g c = traces_join g.A.Api.answers
