-- Outcomes as code has them.
use Rattle.spec_sim.specs.Moves as moves
use Rattle.sim_followers.specs.declared.outcomes.ClusterOutcome.{ClusterOutcome}
use Rattle.sim_followers.specs.declared.outcomes.ClusterOutcome.TheVariants as code

abbrev pub outcome_of : ClusterOutcome → moves.Outcome
outcome_of (code.Replied text) = moves.replied text.items
outcome_of code.NoStep = moves.no_step
outcome_of (code.Listed k r n) = moves.listed k r n
outcome_of (code.Opened k r) = moves.opened k r
outcome_of (code.Streaming k r) = moves.streaming k r
outcome_of (code.Expired k) = moves.expired k
outcome_of (code.Sent k n) = moves.sent k n
outcome_of (code.Fed k r e) = moves.fed k r e
outcome_of (code.Cut k r) = moves.was_cut k r
outcome_of (code.Published k r n) = moves.published k r n
outcome_of code.Restarted = moves.restarted
