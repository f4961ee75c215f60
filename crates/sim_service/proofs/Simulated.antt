-- A simulation that is stored, and one as the definitions have it.
use Rattle.std.proofs.Common.{◌≡◌, ℕ, List, [], ◌∷◌, ◌++◌, Option, None, IfSome, Result, OnOk, IfErr, refl, ap, ◌∙◌}
use Rattle.line_service.specs.Replies as service
use Rattle.line_service.proofs.Alongside.{all-run, some-run}
use Rattle.line_service.specs.Replies.{replies, none_refused, reply_or_refusal, next_or_same}
use Rattle.line_service.specs.declared.fault.RunFault.{RunFault}
use Rattle.spec_sim.specs.ControlPlanes as planes
use Rattle.spec_sim.specs.ControlPlanes.{ControlPlane, Step}
use Rattle.spec_sim.specs.ControlPlaneOutcomeTexts.{outcome_text}
use Rattle.spec_sim.specs.ControlPlaneStepLines.{opened_with}
use Rattle.sim_steps.proofs.Following as following
use Rattle.sim_steps.proofs.Simulated.{simulated}
use Rattle.sim_steps.specs.Planes.{plane_after, told_by_plane, reply_by_plane, next_plane}
use Rattle.sim_service.specs.Laws.{Follows, AnswersAll, AnswersSome, RepliesAreSimulated}
use Rattle.sim_service.specs.Refusals.{refusal}
use Rattle.sim_service.specs.SimulationStates.{opened_stored, stored_after, told_by_stored, reply_by_stored, next_stored}
use Rattle.world.proofs.Stood.{stands_for_begun, step_follows}
use Rattle.world.specs.Standing.{StandsFor}
use Rattle.world.specs.WorldStates.{WorldState}

-- ---- step by step

told_same : (w : WorldState) (p : ControlPlane) (s : Step) → StandsFor w p → told_by_stored w s ≡ outcome_text (planes.step p s).outcome
unfolding told_by_stored
told_same w p s is = ap outcome_text (step_follows w p s is).1

after_same : (w : WorldState) (p : ControlPlane) (s : Step) → StandsFor w p → StandsFor (stored_after w s) (planes.step p s).plane
unfolding stored_after
after_same w p s is = (step_follows w p s is).0

-- ---- line by line

pub follows : (s : Option WorldState) (c : Option ControlPlane) (line : List ℕ) → Follows s c → (reply_by_stored s line ≡ reply_by_plane c line) × Follows (next_stored s line) (next_plane c line)
follows =
    following.follows opened_stored stored_after told_by_stored opened_with plane_after told_by_plane StandsFor (λ c. stands_for_begun c.window c.workers c.initial) told_same after_same

-- ---- where no line is refused

none-of : (s : Option ControlPlane) (ts : List (List ℕ)) → replies (reply_or_refusal reply_by_plane refusal) (next_or_same next_plane) s (none_refused ts) ≡ replies reply_by_plane next_plane s ts
none-of s [] = refl
none-of s (t ∷ ts) = ap (λ r. reply_by_plane s t ++ r) (none-of (next_plane s t) ts)

pub replies_simulated : RepliesAreSimulated
replies_simulated input = none-of None (service.lines_of input) ∙ simulated input

-- ---- what is true of a run of a simulation that is stored is true of one as the definitions have it

pub all-simulated : {X E : Type 0} (r : Result X E) (s last : Option WorldState) → s ≡ None → (input old new : Option (List ℕ))
    → OnOk r (IfSome input (service.AnswersAll reply_by_stored next_stored refusal s last old new)) → OnOk r (IfSome input (AnswersAll old new))
all-simulated r s last is input old new h = all-run reply_by_stored next_stored reply_by_plane next_plane refusal Follows follows r s None last None is tt input old new h

pub some-simulated : {X : Type 0} (r : Result X RunFault) (s last : Option WorldState) → s ≡ None → (input old new : Option (List ℕ))
    → IfErr r (λ why. IfSome input (service.AnswersSome reply_by_stored next_stored refusal why s last old new)) → IfErr r (λ why. IfSome input (AnswersSome why old new))
some-simulated r s last is input old new h = some-run reply_by_stored next_stored reply_by_plane next_plane refusal Follows follows r s None last None is tt input old new h
