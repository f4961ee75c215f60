-- The first command of a plan, where all else has come to rest: it owes the key of its turn, so that the plan of a last turn had none.
use Rattle.std.specs.Prelude.{◌≡◌, ℕ, List, [], ◌∷◌, ◌++◌, map, true, Some}
use Rattle.std.specs.List.{AllByRecursion}
use Rattle.serde_json.specs.Data.{Data}
use Rattle.spec_api.specs.declared.kinds.Kind.{Kind}
use Rattle.spec_api.specs.History.{History, present, state, found}
use Rattle.spec_api.specs.Keys.{Key}
use Rattle.spec_api.specs.Reached.{IsReached}
use Rattle.spec_api.specs.Verbs.{accept}
use Rattle.spec_server.specs.Snapshots.{Snapshot}
use Rattle.spec_client_go.specs.declared.controller.Controller.{Controller}
use Rattle.spec_client_go.specs.Commands.{Command}
use Rattle.spec_client_go.specs.Hands.{Read}
use Rattle.spec_client_go.specs.Informers.{Looks}
use Rattle.spec_client_go.specs.WorkQueues.{WorkKey}
use Rattle.spec_sim.specs.ControlPlanes.{ControlPlane, Step}
use Rattle.spec_sim.specs.Managers.{answer_of, requested}
use Rattle.spec_sim.specs.NextSteps.{order}
use Rattle.spec_sim.specs.Turns.{Turn, asks, commands, is_accepted}
use Rattle.sim_worker_laws.specs.IssuedLaws.{WasThere, IsSeen, sighting_of}
use Rattle.sim_rest_laws.specs.OwedObjectLaws.{LooksAfter}
use Rattle.sim_rest_laws.specs.StillLaws.{present_looks, IsStill, IsLookOf, ShownIn}
use Rattle.sim_rest_laws.specs.WholeLaws.{ReferencesAreTrue, AreServerLists}
use Rattle.sim_rest_command_laws.specs.CommandLaws.{Unowed, WasUnowed}

-- a look is one of these, and under each key of its kind changes that owed nothing lead from it to what was there after some of what has happened, and from there to what is there
abbrev pub PassesBy : History → History → WorkKey → (Looks → Type 0) → Kind → Snapshot → Type 0
PassesBy h g j Shown k s =
    IsLookOf Shown k s × ((x : Key) → x.kind ≡ k → Unowed j Shown x (found x s.members) (state h (present g) x) × Unowed j Shown x (state h (present g) x) (state h (present h) x))

-- a turn of a controller that has seen and read all, and issued nothing, cannot have its first command accepted without its key being owed. It is said as a refutation: all
-- that it had looked at and read leads to what is there by changes that owed its key nothing, through what was there when the command was issued; so does what the command
-- wrote; an object is there under the key in the end; and this is absurd. Last turns are such (`last_plans_follow` of sim_rest_plane_laws)
abbrev pub FirstCommandsOweOf : Controller → Type 0
FirstCommandsOweOf c =
    (h g more : History) (moment : List ℕ) (j : WorkKey) (t : Turn) (x : Command) (rest : List Command) (d : Data) (q : ControlPlane) (since : List Step)
    → (let Shown = ShownIn q since in
    let o = accept (requested t x) g moment in
    h ≡ g ++ more → IsReached h → ReferencesAreTrue h → AreServerLists h Shown → IsStill j Shown (present_looks h)
    → j.controller ≡ c → LooksAfter c j.key.kind → t.work_key ≡ j → state h (present h) j.key ≡ Some d
    → map sighting_of t.sights ≡ order j.controller → AllByRecursion (IsSeen (PassesBy h g j Shown)) t.sights
    → AllByRecursion (λ (r : Read). Unowed j Shown r.key r.found (state h (present h) r.key)) t.reads → AllByRecursion (WasThere g) t.reads
    → asks t ≡ [] → commands t ≡ x ∷ rest → t.issues ≡ [] → is_accepted (answer_of o) ≡ true → WasUnowed j Shown h g o
    → ⊥)
