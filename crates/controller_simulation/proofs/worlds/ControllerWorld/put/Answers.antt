use Rattle.std.proofs.Common.{◌≡◌, ◌∙◌, ap, subst, string_bytes}
use Rattle.request_parts.specs.Requests.{request_of}
use Rattle.scripted_api.specs.Played.{IsLineOf}
use Rattle.sim_cluster.specs.ClusterStates.{step}
use Rattle.spec_sim.specs.Clusters.{request}
use Rattle.controller_simulation.specs.Answers.{came_of}
use Rattle.controller_simulation.specs.Requests.{IsReply}
use Rattle.controller_simulation.proofs.worlds.ControllerWorld.put.Goals as goal

pub returns-clause-puts : goal.returns-clause-puts
returns-clause-puts g c =
    let line = c.in-Some.line in
    let w = c.args.self.now.cluster in
    let bytes : c.as_bytes.result.now ≡ string_bytes line = c.as_bytes.ensures.value ∙ c.as_str.ensures.value in (
      line,
      subst (IsLineOf (request_of c.args.request.now)) c.in-Some.is c.in_ok-line.ensures,
      c.in_ok-answer.ensures.cluster ∙ ap (λ b. (step w (request b)).cluster) bytes,
      subst (λ b. IsReply (step w (request b)).outcome (came_of c.in_ok-answer.answer)) bytes c.in_ok-answer.ensures.came,
    )
