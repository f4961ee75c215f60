use Rattle.sim_cluster_laws.proofs.Asking.{cuts_drop}
use Rattle.sim_cluster_laws.proofs.streaming_laws.cuts_drop_initial_events.Goals as goal

pub returns : goal.returns
returns c = cuts_drop
