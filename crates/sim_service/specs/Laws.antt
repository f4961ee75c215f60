-- What follows for simulations: one whose world stands for a control plane answers as that does, and what is written for all lines is
-- what the definitions say.
use Rattle.std.specs.Prelude.{◌≡◌, ℕ, List, Option, None}
use Rattle.line_service.specs.Replies as service
use Rattle.line_service.specs.Replies.{lines_of, replies, none_refused, reply_or_refusal, next_or_same}
use Rattle.line_service.specs.declared.fault.RunFault.{RunFault}
use Rattle.spec_sim.specs.ControlPlanes.{ControlPlane}
use Rattle.spec_sim.specs.ControlPlaneStepLines.{simulate}
use Rattle.sim_steps.specs.Lines.{FollowsBy}
use Rattle.sim_steps.specs.Planes.{reply_by_plane, next_plane}
use Rattle.sim_service.specs.Refusals.{refusal}
use Rattle.sim_service.specs.SimulationStates.{reply_by_stored, next_stored}
use Rattle.world.specs.Standing.{StandsFor}
use Rattle.world.specs.WorldStates.{WorldState}

-- neither has begun, or the world stands for the control plane
abbrev pub Follows : Option WorldState → Option ControlPlane → Type 0
Follows s p = FollowsBy StandsFor s p

-- a simulation that follows the definitions replies to a line as they say, and goes on so
abbrev pub SimulationsFollow : Type 0
SimulationsFollow =
    (s : Option WorldState) (p : Option ControlPlane) (line : List ℕ) → Follows s p → (reply_by_stored s line ≡ reply_by_plane p line) × Follows (next_stored s line) (next_plane p line)

-- where no line is refused, the replies are what the definitions say of all that is read
abbrev pub RepliesAreSimulated : Type 0
RepliesAreSimulated = (input : List ℕ) → replies (reply_or_refusal reply_by_plane refusal) (next_or_same next_plane) None (none_refused (lines_of input)) ≡ simulate input

-- a simulation has answered all lines of the input: what was appended is the reply to each, or for some requests that there was no memory,
-- and these changed nothing
abbrev pub AnswersAll : Option (List ℕ) → Option (List ℕ) → List ℕ → Type 0
AnswersAll old new input = (last : Option ControlPlane) × service.AnswersAll reply_by_plane next_plane refusal None last old new input

-- it has answered so some of them, from the first on, and no others: all of that was appended, unless writing failed, and then all but the
-- last one's and a beginning of that
abbrev pub AnswersSome : RunFault → Option (List ℕ) → Option (List ℕ) → List ℕ → Type 0
AnswersSome why old new input = (last : Option ControlPlane) × service.AnswersSome reply_by_plane next_plane refusal why None last old new input
