-- The lines that ask for steps of a control plane, and what is written for them.
use Rattle.std.specs.Prelude.{ℕ, List, [], ◌∷◌, ◌++◌, Option, Some, None, option_map, option_and_then, unwrap_or, codes, if◌then◌else◌}
use Rattle.std.specs.Option.{option_or}
use Rattle.std.specs.Str.{bytes_eq}
use Rattle.spec_sim.specs.Clusters.{request}
use Rattle.spec_sim.specs.StepLines as cluster_lines
use Rattle.spec_sim.specs.StepLines.{words, number_of, kind_of, Config, default_config, config_of_line, full_lines}
use Rattle.spec_sim.specs.ControlPlanes.{ControlPlane, opened, Step, in_cluster, handle, works, tick, step}
use Rattle.spec_sim.specs.Managers as action
use Rattle.spec_sim.specs.Managers.{Action, Delivery, delivered, answer_lost, dropped}
use Rattle.spec_sim.specs.ControlPlaneOutcomeTexts.{outcome_text}

-- ---- a worker's actions

abbrev pub action_named : List ℕ → Option Action
action_named verb =
    if bytes_eq verb (codes "take") then Some action.take
    else
    (if bytes_eq verb (codes "satisfied") then Some action.ask_satisfied
    else
    (if bytes_eq verb (codes "read") then Some action.read_live
    else
    (if bytes_eq verb (codes "expect") then Some action.expect
    else (if bytes_eq verb (codes "issue") then Some (action.issue delivered) else (if bytes_eq verb (codes "finish") then Some action.finish else None)))))

abbrev pub delivery_named : List ℕ → Option Delivery
delivery_named t = if bytes_eq t (codes "lost") then Some answer_lost else (if bytes_eq t (codes "dropped") then Some dropped else None)

-- a look at a kind, or a command that does not come through
abbrev pub action_with : List ℕ → List ℕ → Option Action
action_with verb t =
    if bytes_eq verb (codes "look") then option_map action.look (kind_of t) else (if bytes_eq verb (codes "issue") then option_map action.issue (delivery_named t) else None)

-- ---- steps

abbrev pub works_as : List ℕ → Option Action → Option Step
works_as t a = option_and_then (λ w. option_map (works w) a) (number_of t)

abbrev pub step_named : List ℕ → List ℕ → Option Step
step_named verb t =
    if bytes_eq verb (codes "handle") then option_map handle (kind_of t)
    else (if bytes_eq verb (codes "tick") then option_map tick (number_of t) else works_as t (action_named verb))

-- `handle` with the plural name of a kind, `tick` with milliseconds, or an action with the number of a worker, the first being 0
abbrev pub step_in_words : List (List ℕ) → Option Step
step_in_words (verb ∷ t ∷ []) = step_named verb t
step_in_words (verb ∷ t ∷ u ∷ []) = works_as t (action_with verb u)
step_in_words ws = None

-- the step that a line asks for, if it has the form of one: a step of the cluster, or one of these
abbrev pub step_of_line : List ℕ → Option Step
step_of_line t = option_or (option_map in_cluster (cluster_lines.step_of_line t)) (step_in_words (words t))

-- ---- the whole run

-- a line of no form is answered as a request that says nothing is
abbrev pub step_asked : List ℕ → Step
step_asked t = unwrap_or (step_of_line t) (in_cluster (request []))

abbrev pub outcome_lines : ControlPlane → List (List ℕ) → List ℕ
outcome_lines p [] = []
outcome_lines p (t ∷ ts) = outcome_text (step p (step_asked t)).outcome ++ outcome_lines (step p (step_asked t)).plane ts

abbrev pub opened_with : Config → ControlPlane
opened_with c = opened c.window c.workers c.initial

abbrev pub run_from : List ℕ → List (List ℕ) → Option Config → List ℕ
run_from t ts (Some c) = outcome_lines (opened_with c) ts
run_from t ts None = outcome_lines (opened_with default_config) (t ∷ ts)

-- the first line may be a configuration
abbrev pub simulate_lines : List (List ℕ) → List ℕ
simulate_lines [] = []
simulate_lines (t ∷ ts) = run_from t ts (config_of_line t)

-- all that is written for all that is read
abbrev pub simulate : List ℕ → List ℕ
simulate bytes = simulate_lines (full_lines bytes)
