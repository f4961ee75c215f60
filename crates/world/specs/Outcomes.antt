-- What comes of a step, as the definitions have it.
use Rattle.sim_followers.specs.Outcomes as followers
use Rattle.sim_manager.specs.Outcomes as managers
use Rattle.spec_sim.specs.Outcomes as outcomes
use Rattle.world.specs.declared.outcomes.Outcome.{Outcome}
use Rattle.world.specs.declared.outcomes.Outcome.TheVariants.{InCluster, Work}

abbrev pub outcome_of : Outcome → outcomes.Outcome
outcome_of (InCluster o) = outcomes.of_cluster (followers.outcome_of o)
outcome_of (Work t) = managers.outcome_of t.outcome
