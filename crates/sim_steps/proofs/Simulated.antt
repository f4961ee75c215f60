-- What is written for all lines is what the definitions say of all that is read.
use Rattle.std.proofs.Common.{◌≡◌, ℕ, List, [], ◌∷◌, ◌++◌, Bool, not, ◌==◌, length, Option, Some, None, refl, sym, ap, ◌∙◌}
use Rattle.std.specs.List.{filter}
use Rattle.line_service.proofs.Splitting.{replies-split}
use Rattle.line_service.specs.Replies as service
use Rattle.line_service.specs.Replies.{replies}
use Rattle.spec_line_protocol.specs.Lines as lines
use Rattle.spec_sim.specs.ControlPlanes as planes
use Rattle.spec_sim.specs.ControlPlanes.{ControlPlane}
use Rattle.spec_sim.specs.ControlPlaneOutcomeTexts.{outcome_text}
use Rattle.spec_sim.specs.ControlPlaneStepLines.{opened_with, step_asked, outcome_lines, run_from, simulate_lines, simulate}
use Rattle.spec_sim.specs.StepLines.{Config, default_config, config_of_line}
use Rattle.sim_steps.proofs.Following.{not-empty}
use Rattle.sim_steps.specs.Planes.{reply_by_plane, next_plane}

abbrev is_full : List ℕ → Bool
is_full t = not (length t == 0)

-- of a control plane that has begun
begun-text : (c : ControlPlane) (ts : List (List ℕ)) → replies reply_by_plane next_plane (Some c) ts ≡ outcome_lines c (filter is_full ts)
begun-text c [] = refl
begun-text c ([] ∷ ts) = begun-text c ts
begun-text c ((x ∷ t) ∷ ts) =
    rw (not-empty x t) (ap (λ r. outcome_text (planes.step c (step_asked (x ∷ t))).outcome ++ r) (begun-text (planes.step c (step_asked (x ∷ t))).plane ts))

first-text : (x : ℕ) (t : List ℕ) (ts : List (List ℕ)) (said : Option Config) → config_of_line (x ∷ t) ≡ said
    → replies reply_by_plane next_plane None ((x ∷ t) ∷ ts) ≡ run_from (x ∷ t) (filter is_full ts) said
first-text x t ts (Some c) e = rw (not-empty x t, e) (begun-text (opened_with c) ts)
first-text x t ts None e =
    let c = opened_with default_config in
    rw (not-empty x t, e) (ap (λ r. outcome_text (planes.step c (step_asked (x ∷ t))).outcome ++ r) (begun-text (planes.step c (step_asked (x ∷ t))).plane ts))

all-text : (ts : List (List ℕ)) → replies reply_by_plane next_plane None ts ≡ simulate_lines (filter is_full ts)
all-text [] = refl
all-text ([] ∷ ts) = all-text ts
all-text ((x ∷ t) ∷ ts) =
    let full : filter is_full ((x ∷ t) ∷ ts) ≡ (x ∷ t) ∷ filter is_full ts = rw (not-empty x t) refl in
    first-text x t ts (config_of_line (x ∷ t)) refl ∙ ap simulate_lines (sym full)

pub simulated : (input : List ℕ) → replies reply_by_plane next_plane None (service.lines_of input) ≡ simulate input
simulated input = sym (replies-split reply_by_plane next_plane (λ s. refl) None input) ∙ all-text (lines.lines_of input)
