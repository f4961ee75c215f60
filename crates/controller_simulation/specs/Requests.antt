-- Requests of workers, as the simulated server is asked them.
use Rattle.std.specs.Prelude.{◌≡◌, ◌⊎◌, ◌++◌, ◌∷◌, ℕ, List, None, codes, decimal}
use Rattle.spec_sim.specs.Clusters.{request}
use Rattle.spec_sim.specs.Moves.{Outcome, replied}
use Rattle.sim_cluster.specs.ClusterStates.{ClusterState, step}
use Rattle.sim_steps.specs.declared.actions.Delivery.{Delivery}
use Rattle.sim_steps.specs.declared.actions.Delivery.TheVariants.{Delivered, AnswerLost, Dropped}
use Rattle.controller_simulation.specs.Answers as answers
use Rattle.controller_simulation.specs.Answers.{Came, not_sent, lost}
use Rattle.controller_simulation.specs.declared.fates.Fate.{Fate}
use Rattle.controller_simulation.specs.declared.fates.Fate.TheVariants.{Sent, Refused}

-- the cluster once a line was sent: what is dropped does not come
abbrev pub after_sent : Delivery → List ℕ → ClusterState → ClusterState
after_sent Delivered l w = (step w (request l)).cluster
after_sent AnswerLost l w = (step w (request l)).cluster
after_sent Dropped l w = w

-- the cluster once a line was asked: what is refused does not come either
abbrev pub after_request : Fate → List ℕ → ClusterState → ClusterState
after_request (Sent d) l w = after_sent d l w
after_request (Refused code) l w = w

-- what a reply line says that came: its code, and what stands after the blank; or it is lost
abbrev pub IsSaid : List ℕ → Came → Type 0
IsSaid line came = (came ≡ lost) ⊎ ((code : ℕ) × (body : List ℕ) × (came ≡ answers.replied code None body) × (line ≡ decimal code ++ (32 ∷ body)))

-- what comes back of what is told: what a reply line says
abbrev pub IsReply : Outcome → Came → Type 0
IsReply o came = (came ≡ lost) ⊎ ((line : List ℕ) × (o ≡ replied line) × IsSaid line came)

-- what comes of a line that was sent
abbrev pub ComesOfSent : Delivery → List ℕ → ClusterState → Came → Type 0
ComesOfSent Delivered l w came = IsReply (step w (request l)).outcome came
ComesOfSent AnswerLost l w came = came ≡ lost
ComesOfSent Dropped l w came = came ≡ not_sent

-- a reply with this code that says no more
abbrev pub refusal_of : ℕ → Came
refusal_of code = answers.replied code None (codes "{}")

-- what comes of a line
abbrev pub Comes : Fate → List ℕ → ClusterState → Came → Type 0
Comes (Sent d) l w came = ComesOfSent d l w came
Comes (Refused code) l w came = came ≡ refusal_of code

-- it was asked some line, or what was to be asked did not come
abbrev pub MayAsk : ClusterState → ClusterState → Type 0
MayAsk w v = (f : Fate) × (line : List ℕ) × (v ≡ after_request f line w)
