-- Where a turn is, and what of it is issued.
use Rattle.std.specs.Prelude.{◌≡◌, ◌≤◌, List, [], ◌∷◌, length, Bool, true, false, is_some, Some}
use Rattle.std.specs.Arc.{arc_value}
use Rattle.spec_client_go.specs.Commands.{Command}
use Rattle.spec_client_go.specs.Hands.{Read}
use Rattle.spec_client_go.specs.WorkQueues.{WorkKey}
use Rattle.spec_api.specs.Keys.{Key}
use Rattle.object_keys.specs.Keys.{key_of}
use Rattle.spec_sim.specs.NextSteps.{first, unseen}
use Rattle.spec_sim.specs.Turns.{Sight, Answer, Issue, Turn, all_accepted, asks, commands, expected}
use Rattle.reconcile_types.specs.Commands.{commands_of}
use Rattle.reconcile_turn.specs.declared.stages.Stage.{Stage}
use Rattle.reconcile_turn.specs.declared.stages.Stage.TheVariants.{Seeing, Reading, Planned}

-- something is still to be seen; all was seen, and a key is to be read live; or these are the commands, of which pods are expected or are not
pub data Phase : Type 0 where
  seeing : Phase
  reading : Key → Phase
  planned : List Command → Bool → Phase

abbrev pub phase_of : Stage → Phase
phase_of Seeing = seeing
phase_of (Reading k) = reading (key_of k)
phase_of (Planned p b) = planned (commands_of (arc_value p)) b

-- a turn in which nothing is issued
abbrev pub turn_of : WorkKey → List Sight → List Read → Turn
turn_of k ss rs = record { work_key = k; sights = ss; reads = rs; has_expected = false; issues = [] }

-- all was seen, nothing is to be read live, these are the commands, and this is whether pods are expected of them
pub record IsPlanned (t : Turn) (cs : List Command) (expects_pods : Bool) : Type 0 where
  pub seen : unseen t ≡ []
  pub asked : asks t ≡ []
  pub commands : commands t ≡ cs
  pub pods : is_some (expected t) ≡ expects_pods

abbrev pub IsIn : Phase → Turn → Type 0
IsIn seeing t = is_some (first (unseen t)) ≡ true
IsIn (reading k) t = (unseen t ≡ []) × (first (asks t) ≡ Some k)
IsIn (planned cs b) t = IsPlanned t cs b

-- the commands of a plan that is made
abbrev pub commands_in : Phase → List Command
commands_in seeing = []
commands_in (reading k) = []
commands_in (planned cs b) = cs

-- the first commands, with their answers
abbrev pub issued : List Command → List Answer → List Issue
issued cs [] = []
issued [] (a ∷ as') = []
issued (c ∷ cs) (a ∷ as') = record { command = c; answer = a } ∷ issued cs as'

-- the turn is in this phase, each answer is to a command of the plan, and this is whether all were accepted
pub record IsTurn (p : Phase) (t : Turn) (answers : List Answer) (is_accepted : Bool) : Type 0 where
  pub is_in : IsIn p t
  pub fits : length answers ≤ length (commands_in p)
  pub accepted : all_accepted (issued (commands_in p) answers) ≡ is_accepted
