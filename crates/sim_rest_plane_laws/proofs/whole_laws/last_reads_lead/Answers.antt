use Rattle.sim_rest_plane_laws.proofs.ReadsLead.{reads_lead}
use Rattle.sim_rest_plane_laws.proofs.whole_laws.last_reads_lead.Goals as goal

pub returns : goal.returns
returns c = reads_lead
