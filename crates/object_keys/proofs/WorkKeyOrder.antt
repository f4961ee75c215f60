-- The derived order of keys of work is that of what they say.
use Rattle.std.proofs.Common.{◌≡◌, nat_cmp, rules, Ordering}
use Rattle.spec_client_go.specs.contracts.controller.ControllerOrd.TheImpl as controller_ord
use Rattle.spec_client_go.specs.declared.controller.Controller.{Controller}
use Rattle.spec_client_go.specs.WorkQueues.{work_key_cmp as task_cmp, turn}
use Rattle.object_keys.proofs.KeyOrder.{key_cmp-name_cmp}
use Rattle.object_keys.specs.contracts.work_key.WorkKeyOrd.TheImpl as work_key_ord
use Rattle.object_keys.specs.declared.work_key.WorkKey.{WorkKey}
use Rattle.object_keys.specs.WorkKeys.{work_key_of}

-- controllers go by their turns
pub controller_cmp-turn : (a b : Controller) → (controller_ord.ghosts).cmp a b ≡ nat_cmp (turn a) (turn b)
controller_cmp-turn a b = search rules

-- the derived order
abbrev pub work_key_cmp : WorkKey → WorkKey → Ordering
work_key_cmp = (work_key_ord.ghosts).cmp

-- work keys are ordered as the definitions order them
pub work_key_cmp-task_cmp : (a b : WorkKey) → work_key_cmp a b ≡ task_cmp (work_key_of a) (work_key_of b)
work_key_cmp-task_cmp a b = search (rules, controller_cmp-turn, key_cmp-name_cmp)
