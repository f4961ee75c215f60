-- Worked facts of lines, computed from the definitions: which lines ask for which steps.
use Rattle.std.specs.Prelude.{◌≡◌, Some, None, codes}
use Rattle.spec_api.specs.declared.kinds.Kind.TheVariants.{ConfigMap, Pod, ReplicaSet, Deployment}
use Rattle.spec_sim.specs.declared.initial_syncs.InitialSync.TheVariants as sync
use Rattle.spec_sim.specs.Moves.{list, watch, stream, send, send_bookmark, deliver, deliver_all, cut, publish}
use Rattle.spec_sim.specs.Clusters.{request, compact, moves, restart}
use Rattle.spec_sim.specs.StepLines.{step_of_line, config_of_line}

-- a verb, a kind by its plural name, and how much, in one to nine digits
abbrev pub MovesAreRead : Type 0
MovesAreRead =
    (step_of_line (codes "list configmaps") ≡ Some (moves ConfigMap list)) × (step_of_line (codes "watch pods") ≡ Some (moves Pod watch))
    × (step_of_line (codes "stream pods") ≡ Some (moves Pod stream))
    × (step_of_line (codes "send replicasets 0012") ≡ Some (moves ReplicaSet (send 12))) × (step_of_line (codes "send deployments bookmark") ≡ Some (moves Deployment send_bookmark))
    × (step_of_line (codes "deliver pods 999999999") ≡ Some (moves Pod (deliver 999999999))) × (step_of_line (codes "deliver pods all") ≡ Some (moves Pod deliver_all))
    × (step_of_line (codes "cut pods") ≡ Some (moves Pod cut)) × (step_of_line (codes "publish pods") ≡ Some (moves Pod publish))
    × (step_of_line (codes "restart") ≡ Some restart) × (step_of_line (codes "compact 7") ≡ Some (compact 7))
    × (step_of_line (codes "request COMPACT 7") ≡ Some (request (codes "COMPACT 7")))

-- what has no form of a step
abbrev pub OthersAreNot : Type 0
OthersAreNot =
    (step_of_line (codes "list nodes") ≡ None) × (step_of_line (codes "list  pods") ≡ None) × (step_of_line (codes "list pods ") ≡ None) × (step_of_line (codes "send pods") ≡ None)
    × (step_of_line (codes "send pods all") ≡ None) × (step_of_line (codes "deliver pods bookmark") ≡ None) × (step_of_line (codes "deliver pods 0000000001") ≡ None)
    × (step_of_line (codes "deliver pods -1") ≡ None) × (step_of_line (codes "compact 07") ≡ None) × (step_of_line (codes "restart pods") ≡ None) × (step_of_line (codes "take 0") ≡ None)
    × (step_of_line (codes "request") ≡ None)

-- both sizes are said, in their order and within their limits, and then maybe how followers begin
abbrev pub ConfigurationsAreRead : Type 0
ConfigurationsAreRead =
    (config_of_line (codes "config window=65536 workers=064") ≡ Some (record { window = 65536; workers = 64; initial = sync.List }))
    × (config_of_line (codes "config window=4 workers=1 initial=list") ≡ Some (record { window = 4; workers = 1; initial = sync.List }))
    × (config_of_line (codes "config window=4 workers=1 initial=stream") ≡ Some (record { window = 4; workers = 1; initial = sync.Stream }))
    × (config_of_line (codes "config window=4 workers=1 initial=watch") ≡ None) × (config_of_line (codes "config window=4 workers=1 initial=list ") ≡ None)
    × (config_of_line (codes "config window=4 initial=list workers=1") ≡ None) × (config_of_line (codes "config window=1 workers=65") ≡ None)
    × (config_of_line (codes "config window=0 workers=1") ≡ None) × (config_of_line (codes "config workers=1 window=1") ≡ None) × (config_of_line (codes "config window=1") ≡ None)
