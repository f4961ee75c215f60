-- What commands make of pods.
use Rattle.std.specs.Prelude.{◌||◌, List, [], ◌∷◌, map, Bool, false, is_some}
use Rattle.std.specs.Borrow.{Bor}
use Rattle.spec_client_go.specs.Commands as commands
use Rattle.spec_sim.specs.Turns.{creates_pod, pod_deleted}
use Rattle.reconcile_types.specs.Commands.{command_of}
use Rattle.reconcile_types.specs.declared.commands.Command.{Command}

-- references to commands, as the definitions have them
abbrev pub commands_lent : List (Bor Command) → List commands.Command
commands_lent cs = map (λ c. command_of c.now) cs

-- whether commands create or delete pods
abbrev pub makes_pods : List commands.Command → Bool
makes_pods [] = false
makes_pods (c ∷ cs) = (creates_pod c || is_some (pod_deleted c)) || makes_pods cs
