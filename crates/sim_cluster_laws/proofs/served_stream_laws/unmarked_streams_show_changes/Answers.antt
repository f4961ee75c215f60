use Rattle.sim_cluster_laws.proofs.ToldLooks.{unmarked_streams}
use Rattle.sim_cluster_laws.proofs.served_stream_laws.unmarked_streams_show_changes.Goals as goal

pub returns : goal.returns
returns c = unmarked_streams
