use Rattle.std.proofs.Common.{◌≡◌, map, take}
use Rattle.sim_steps.specs.PlaneSteps.{plane_step_of}
use Rattle.world.specs.WorldStates.{run}
use Rattle.world.proofs.worlds.World.take_all.Given as goal

-- the steps so far were taken
abbrev pub invariant-loop-taken : goal.invariant-loop-taken
invariant-loop-taken l = l.self ≡ run l.fn.self (map plane_step_of (take l.taken l.steps))
