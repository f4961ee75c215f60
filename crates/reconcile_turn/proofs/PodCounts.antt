-- How many pods commands create and delete.
use Rattle.std.proofs.Common.{◌≡◌, ◌≤◌, List, [], ◌∷◌, length, filter, is_some, Some, refl, arith}
use Rattle.spec_client_go.specs.Commands.{Command, create, update, update_status, delete}
use Rattle.spec_client_go.specs.Expectations.{Owner}
use Rattle.spec_laws.specs.ReplicaSetLaws.{created}
use Rattle.spec_sim.specs.Turns.{creates_pod, expected_by}
use Rattle.reconcile_turn.specs.Pods.{makes_pods}

-- pods are expected just where some are created or deleted
pub expects : (o : Owner) (cs : List Command) → is_some (expected_by (Some o) cs) ≡ makes_pods cs
expects o [] = refl
expects o (c ∷ cs) = grind (arith, expects o cs)

-- no more pods are created than objects
pub creates_fewer : (cs : List Command) → length (filter creates_pod cs) ≤ created cs
creates_fewer [] = omega arith
creates_fewer (create k ns d ∷ cs) = grind (arith, creates_fewer cs)
creates_fewer (update k d ∷ cs) = creates_fewer cs
creates_fewer (update_status k d ∷ cs) = creates_fewer cs
creates_fewer (delete k u v p ∷ cs) = creates_fewer cs
