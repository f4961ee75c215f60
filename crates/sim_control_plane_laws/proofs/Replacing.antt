-- What a worker's request that names a version replaces.
use Rattle.std.proofs.Common.{◌≡◌, Some, ap}
use Rattle.spec_api.specs.Replies.{outcome}
use Rattle.spec_api.specs.Verbs.{accept, history_after}
use Rattle.spec_line_protocol.specs.Lines.{reply_text}
use Rattle.spec_sim.specs.Clusters.{history, request}
use Rattle.spec_sim.specs.Moves.{replied}
use Rattle.sim_cluster_laws.proofs.Requests as clients
use Rattle.sim_cluster_laws.proofs.Requests.{replaces}
use Rattle.spec_sim.specs.ControlPlanes.{after_request, step_in, in_cluster, works}
use Rattle.spec_sim.specs.Outcomes.{of_cluster}
use Rattle.sim_worker_laws.proofs.Counting.{by_counted}
use Rattle.sim_control_plane_laws.specs.PlaneLaws.{NamedVersionsAreReplaced, IssuedVersionsAreReplaced}

pub replaced : IssuedVersionsAreReplaced
replaced p w a q k named is names = (
  by_counted (λ c m o. history c ≡ history (after_request (Some q) p.cluster)) (step_in p (works w a)) (ap (λ o. history (after_request o p.cluster)) is),
  replaces (history p.cluster) k named q p.cluster.session.moment names,
)

pub named_replaced : NamedVersionsAreReplaced
named_replaced p t q k named asks names =
    let here = clients.named_replaced p.cluster t q k named asks names in
    let o = accept q (history p.cluster) p.cluster.session.moment in
    let both =
    by_counted (λ c m x. (x ≡ of_cluster (replied (reply_text (outcome o)))) × (history c ≡ history_after (history p.cluster) o)) (step_in p (in_cluster (request t))) (ap of_cluster here.0, here.1) in
    (both.0, both.1, here.2)
