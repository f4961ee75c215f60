use Rattle.std.proofs.Common.{subst}
use Rattle.request_parts.specs.Requests.{request_of}
use Rattle.sim_cluster.specs.Standing.{Stands}
use Rattle.sim_cluster.proofs.Requests.{answer_read}
use Rattle.sim_cluster.proofs.clusters.Cluster.answer_request.Goals as goal

pub returns-clause-read : goal.returns-clause-read
returns-clause-read c =
    answer_read c.args.self.now (request_of c.args.request) c.requires.readable c.requires.object (subst Stands c.self.view_is c.self.invariant)
