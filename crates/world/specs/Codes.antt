-- A code by which a ghost may hold what was done.
use Rattle.std.proofs.Common.{◌⊎◌, inl, inr, ◌≡◌, zero, suc}
use Rattle.std.specs.Prelude.{ℕ, List, Bool, true, refl}
use Rattle.std.specs.Coded.{Coded, code_by, coded×, coded⊎, coded_ℕ, coded_bool, coded_list}
use Rattle.spec_api.specs.contracts.kinds.Kind as kind
use Rattle.spec_api.specs.declared.kinds.Kind.{Kind}
use Rattle.model_encodings.specs.Codes.{coded_text}
use Rattle.spec_sim.specs.contracts.initial_syncs.InitialSync as initial_sync
use Rattle.spec_sim.specs.declared.initial_syncs.InitialSync.{InitialSync}
use Rattle.spec_sim.specs.Clusters.{ClusterStep, request, compact, moves, restart}
use Rattle.spec_sim.specs.Moves as move
use Rattle.spec_sim.specs.Moves.{Move}
use Rattle.spec_sim.specs.ControlPlanes.{Step, in_cluster, handle, works, tick}
use Rattle.spec_sim.specs.Managers as action
use Rattle.spec_sim.specs.Managers.{Action, Delivery, delivered, answer_lost, dropped}
use Rattle.world.specs.Taken.{Taken}

-- ---- actions

abbrev pub delivery_number : Delivery → ℕ
delivery_number delivered = 0
delivery_number answer_lost = 1
delivery_number dropped = 2

abbrev pub delivery_numbered : ℕ → Delivery
delivery_numbered zero = delivered
delivery_numbered (suc zero) = answer_lost
delivery_numbered (suc (suc n)) = dropped

pub delivery_back : (d : Delivery) → delivery_numbered (delivery_number d) ≡ d
delivery_back delivered = refl
delivery_back answer_lost = refl
delivery_back dropped = refl

abbrev pub coded_delivery : Coded Delivery
coded_delivery = code_by ℕ coded_ℕ delivery_number delivery_numbered delivery_back

abbrev pub ActionParts : Type 0
ActionParts = ℕ ⊎ (Kind ⊎ Delivery)

abbrev pub action_parts : Action → ActionParts
action_parts action.take = inl 0
action_parts action.ask_satisfied = inl 1
action_parts action.read_live = inl 2
action_parts action.expect = inl 3
action_parts action.finish = inl 4
action_parts (action.look k) = inr (inl k)
action_parts (action.issue d) = inr (inr d)

abbrev pub action_from : ActionParts → Action
action_from (inl zero) = action.take
action_from (inl (suc zero)) = action.ask_satisfied
action_from (inl (suc (suc zero))) = action.read_live
action_from (inl (suc (suc (suc zero)))) = action.expect
action_from (inl (suc (suc (suc (suc n))))) = action.finish
action_from (inr (inl k)) = action.look k
action_from (inr (inr d)) = action.issue d

pub action_back : (a : Action) → action_from (action_parts a) ≡ a
action_back action.take = refl
action_back action.ask_satisfied = refl
action_back action.read_live = refl
action_back action.expect = refl
action_back action.finish = refl
action_back (action.look k) = refl
action_back (action.issue d) = refl

abbrev pub coded_action : Coded Action
coded_action = code_by ActionParts (coded⊎ coded_ℕ (coded⊎ kind.the_row.coded coded_delivery)) action_parts action_from action_back

-- ---- steps of the cluster

abbrev pub MoveParts : Type 0
MoveParts = ℕ ⊎ (ℕ ⊎ ℕ)

abbrev pub move_parts : Move → MoveParts
move_parts move.list = inl 0
move_parts move.watch = inl 1
move_parts move.stream = inl 2
move_parts move.send_bookmark = inl 3
move_parts move.deliver_all = inl 4
move_parts move.cut = inl 5
move_parts move.publish = inl 6
move_parts (move.send n) = inr (inl n)
move_parts (move.deliver n) = inr (inr n)

abbrev pub move_from : MoveParts → Move
move_from (inl zero) = move.list
move_from (inl (suc zero)) = move.watch
move_from (inl (suc (suc zero))) = move.stream
move_from (inl (suc (suc (suc zero)))) = move.send_bookmark
move_from (inl (suc (suc (suc (suc zero))))) = move.deliver_all
move_from (inl (suc (suc (suc (suc (suc zero)))))) = move.cut
move_from (inl (suc (suc (suc (suc (suc (suc n))))))) = move.publish
move_from (inr (inl n)) = move.send n
move_from (inr (inr n)) = move.deliver n

pub move_back : (m : Move) → move_from (move_parts m) ≡ m
move_back move.list = refl
move_back move.watch = refl
move_back move.stream = refl
move_back move.send_bookmark = refl
move_back move.deliver_all = refl
move_back move.cut = refl
move_back move.publish = refl
move_back (move.send n) = refl
move_back (move.deliver n) = refl

abbrev pub coded_move : Coded Move
coded_move = code_by MoveParts (coded⊎ coded_ℕ (coded⊎ coded_ℕ coded_ℕ)) move_parts move_from move_back

abbrev pub ClusterParts : Type 0
ClusterParts = (List ℕ ⊎ ℕ) ⊎ ((Kind × Move) ⊎ Bool)

abbrev pub cluster_parts : ClusterStep → ClusterParts
cluster_parts (request t) = inl (inl t)
cluster_parts (compact r) = inl (inr r)
cluster_parts (moves k m) = inr (inl (k, m))
cluster_parts restart = inr (inr true)

abbrev pub cluster_from : ClusterParts → ClusterStep
cluster_from (inl (inl t)) = request t
cluster_from (inl (inr r)) = compact r
cluster_from (inr (inl p)) = moves p.0 p.1
cluster_from (inr (inr b)) = restart

pub cluster_back : (s : ClusterStep) → cluster_from (cluster_parts s) ≡ s
cluster_back (request t) = refl
cluster_back (compact r) = refl
cluster_back (moves k m) = refl
cluster_back restart = refl

abbrev pub coded_cluster_step : Coded ClusterStep
coded_cluster_step =
    code_by ClusterParts (coded⊎ (coded⊎ coded_text coded_ℕ) (coded⊎ (coded× kind.the_row.coded coded_move) coded_bool)) cluster_parts cluster_from cluster_back

-- ---- steps

abbrev pub StepParts : Type 0
StepParts = (ClusterStep ⊎ Kind) ⊎ ((ℕ × Action) ⊎ ℕ)

abbrev pub step_parts : Step → StepParts
step_parts (in_cluster s) = inl (inl s)
step_parts (handle k) = inl (inr k)
step_parts (works w a) = inr (inl (w, a))
step_parts (tick n) = inr (inr n)

abbrev pub step_from : StepParts → Step
step_from (inl (inl s)) = in_cluster s
step_from (inl (inr k)) = handle k
step_from (inr (inl p)) = works p.0 p.1
step_from (inr (inr n)) = tick n

pub step_back : (s : Step) → step_from (step_parts s) ≡ s
step_back (in_cluster s) = refl
step_back (handle k) = refl
step_back (works w a) = refl
step_back (tick n) = refl

abbrev pub coded_step : Coded Step
coded_step = code_by StepParts (coded⊎ (coded⊎ coded_cluster_step kind.the_row.coded) (coded⊎ (coded× coded_ℕ coded_action) coded_ℕ)) step_parts step_from step_back

abbrev pub coded_taken : Coded Taken
coded_taken =
    code_by ((ℕ × ℕ) × (InitialSync × List Step)) (coded× (coded× coded_ℕ coded_ℕ) (coded× initial_sync.the_row.coded (coded_list coded_step))) (λ t. ((t.window, t.workers), (t.initial, t.steps)))
    (λ p. record { window = p.0.0; workers = p.0.1; initial = p.1.0; steps = p.1.1 }) (λ _. refl)
