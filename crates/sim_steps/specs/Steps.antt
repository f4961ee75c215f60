-- Steps as code has them.
use Rattle.spec_sim.specs.Clusters as clusters
use Rattle.spec_sim.specs.Clusters.{ClusterStep}
use Rattle.spec_sim.specs.Moves as moves
use Rattle.sim_steps.specs.declared.moves.Move.{Move}
use Rattle.sim_steps.specs.declared.moves.Move.TheVariants as code
use Rattle.sim_steps.specs.declared.steps.Step.{Step}
use Rattle.sim_steps.specs.declared.steps.Step.TheVariants as step

abbrev pub move_of : Move → moves.Move
move_of code.List = moves.list
move_of code.Watch = moves.watch
move_of code.Stream = moves.stream
move_of (code.Send n) = moves.send n
move_of code.SendBookmark = moves.send_bookmark
move_of (code.Deliver n) = moves.deliver n
move_of code.DeliverAll = moves.deliver_all
move_of code.Cut = moves.cut
move_of code.Publish = moves.publish

abbrev pub step_of : Step → ClusterStep
step_of (step.Request text) = clusters.request text.now
step_of (step.Compact r) = clusters.compact r
step_of (step.Moves k m) = clusters.moves k (move_of m)
step_of step.Restart = clusters.restart
