-- What other clients do at the server of a world.
use Rattle.std.specs.Prelude.{◌≡◌, Option, Some, None, String, string_bytes, false}
use Rattle.std.specs.Global.{Global}
use Rattle.spec_api.specs.ObjectRequests.{Request}
use Rattle.http_client.specs.declared.answer.Answer.{Answer}
use Rattle.request_encoding.specs.Texts.{can_be_told}
use Rattle.scripted_api.specs.Played.{IsLineOf}
use Rattle.sim_cluster.specs.ClusterStates.{ClusterState}
use Rattle.sim_steps.specs.declared.actions.Delivery.TheVariants.{Delivered}
use Rattle.controller_simulation.specs.Answers.{came_of}
use Rattle.controller_simulation.specs.Requests.{Comes, after_request}
use Rattle.controller_simulation.specs.declared.fates.Fate.TheVariants.{Sent}

-- the server was asked the request's line, and this came of it; one that cannot be told over HTTP was not asked
abbrev pub Puts : Request → ClusterState → ClusterState → Option Answer → Type 0
Puts q w v None = (can_be_told q ≡ false) × (v ≡ w)
Puts q w v (Some answer) =
    (line : String Global) × IsLineOf q (Some line) × (v ≡ after_request (Sent Delivered) (string_bytes line) w) × Comes (Sent Delivered) (string_bytes line) w (came_of answer)
