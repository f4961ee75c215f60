-- The code by which a model may store a step.
use Rattle.std.specs.Prelude.{◌≡◌, ◌⊎◌, ℕ, List, refl}
use Rattle.std.specs.Coded.{Coded, code_by, coded×, coded⊎, coded_ℕ, coded_list}
use mathlib.Core.Logic.{inl, inr}
use Rattle.model_encodings.specs.HistoryCodes.{coded_key}
use Rattle.spec_client_go.specs.Boards.{Observation, creation_observed, deletion_observed}
use Rattle.spec_client_go.specs.Codes.{coded_work_key}
use Rattle.spec_client_go.specs.Expectations.{Owner}
use Rattle.spec_client_go.specs.WorkQueues.{WorkKey}
use Rattle.spec_api.specs.Keys.{Key}
use Rattle.spec_api.specs.contracts.kinds.Kind as kind
use Rattle.spec_api.specs.declared.kinds.Kind.{Kind}
use Rattle.expectations.specs.Seen.{owner_code}
use Rattle.control_desk.specs.Steps.{Step, take, finish, requeue, observe, add, expect_creations, expect_deletions, forget, tick}

abbrev observation_cases : Observation → Owner ⊎ (Owner × List ℕ)
observation_cases (creation_observed o) = inl o
observation_cases (deletion_observed o pod) = inr (o, pod)

abbrev observation_from : Owner ⊎ (Owner × List ℕ) → Observation
observation_from (inl o) = creation_observed o
observation_from (inr p) = deletion_observed p.0 p.1

pub observation_back : (s : Observation) → observation_from (observation_cases s) ≡ s
observation_back (creation_observed o) = refl
observation_back (deletion_observed o pod) = refl

abbrev pub observation_code : Coded Observation
observation_code = code_by (Owner ⊎ (Owner × List ℕ)) (coded⊎ owner_code (coded× owner_code (coded_list coded_ℕ))) observation_cases observation_from observation_back

-- the steps of a worker's turn, and the others
abbrev TurnSteps : Type 0
TurnSteps = WorkKey ⊎ (WorkKey ⊎ (WorkKey × (List Observation × ℕ)))

abbrev HandlingSteps : Type 0
HandlingSteps = ((Kind × ℕ) × (List Observation × List WorkKey)) ⊎ List WorkKey

abbrev OtherSteps : Type 0
OtherSteps = HandlingSteps ⊎ ((Owner × ℕ) ⊎ ((Owner × List (List ℕ)) ⊎ (Key ⊎ ℕ)))

abbrev step_cases : Step → TurnSteps ⊎ OtherSteps
step_cases (take k) = inl (inl k)
step_cases (finish k) = inl (inr (inl k))
step_cases (requeue k ss least) = inl (inr (inr (k, (ss, least))))
step_cases (observe k r ss ks) = inr (inl (inl ((k, r), (ss, ks))))
step_cases (add ks) = inr (inl (inr ks))
step_cases (expect_creations o n) = inr (inr (inl (o, n)))
step_cases (expect_deletions o pods) = inr (inr (inr (inl (o, pods))))
step_cases (forget k) = inr (inr (inr (inr (inl k))))
step_cases (tick n) = inr (inr (inr (inr (inr n))))

abbrev step_from : TurnSteps ⊎ OtherSteps → Step
step_from (inl (inl k)) = take k
step_from (inl (inr (inl k))) = finish k
step_from (inl (inr (inr p))) = requeue p.0 p.1.0 p.1.1
step_from (inr (inl (inl p))) = observe p.0.0 p.0.1 p.1.0 p.1.1
step_from (inr (inl (inr ks))) = add ks
step_from (inr (inr (inl p))) = expect_creations p.0 p.1
step_from (inr (inr (inr (inl p)))) = expect_deletions p.0 p.1
step_from (inr (inr (inr (inr (inl k))))) = forget k
step_from (inr (inr (inr (inr (inr n))))) = tick n

pub step_back : (e : Step) → step_from (step_cases e) ≡ e
step_back (take k) = refl
step_back (finish k) = refl
step_back (requeue k ss least) = refl
step_back (observe k r ss ks) = refl
step_back (add ks) = refl
step_back (expect_creations o n) = refl
step_back (expect_deletions o pods) = refl
step_back (forget k) = refl
step_back (tick n) = refl

abbrev turn_code : Coded TurnSteps
turn_code = coded⊎ coded_work_key (coded⊎ coded_work_key (coded× coded_work_key (coded× (coded_list observation_code) coded_ℕ)))

abbrev other_code : Coded OtherSteps
other_code =
    coded⊎ (coded⊎ (coded× (coded× kind.the_row.coded coded_ℕ) (coded× (coded_list observation_code) (coded_list coded_work_key))) (coded_list coded_work_key))
    (coded⊎ (coded× owner_code coded_ℕ) (coded⊎ (coded× owner_code (coded_list (coded_list coded_ℕ))) (coded⊎ coded_key coded_ℕ)))

abbrev pub step_code : Coded Step
step_code = code_by (TurnSteps ⊎ OtherSteps) (coded⊎ turn_code other_code) step_cases step_from step_back
