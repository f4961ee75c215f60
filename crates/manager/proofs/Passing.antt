-- How much time the steps of a pass let pass.
use Rattle.std.proofs.Common.{◌≡◌, ◌≤◌, ◌+◌, ◌++◌, ℕ, List, [], ◌∷◌, Bool, true, false, None, Some, if◌then◌else◌, ap, arith}
use Rattle.baton.specs.Marks.{entries, marked}
use Rattle.baton.specs.declared.views.Known.{Known}
use Rattle.control_desk.specs.Calls.{IsCall}
use Rattle.control_desk.specs.Hands.{state}
use Rattle.control_desk.specs.Steps.{Step, next_state, changing, is_same}
use Rattle.control_desk.specs.declared.states.WorkState.{WorkState}
use Rattle.manager.specs.Handled.{HasWaited}
use Rattle.manager.specs.Passed.{milliseconds_of, passed_in}

passed_append : (es fs : List Step) → passed_in (es ++ fs) ≡ passed_in es + passed_in fs
passed_append [] fs = omega arith
passed_append (e ∷ es) fs = let more = passed_append es fs in omega arith

passed_if : (same : Bool) (e : Step) (name : ℕ) → passed_in (entries (marked name (if same then None else Some e))) ≤ milliseconds_of e
passed_if true e name = omega arith
passed_if false e name = omega arith

-- a step lets its milliseconds pass, and no more
pub passed_by : {Says : WorkState → Type 0} → (e : Step) (v w : Known WorkState Step) → IsCall v (changing e) Says w → passed_in w.made ≤ passed_in v.made + milliseconds_of e
passed_by e v w c =
    let made = ap (λ k. passed_in k.made) c.knows in
    let parts = passed_append v.made (entries (marked v.name (changing e (state c.history)))) in
    let one = passed_if (is_same (next_state (state c.history) e) (state c.history)) e v.name in
    omega arith

pub passed_by_none : (v w : Known WorkState Step) → HasWaited v w → passed_in w.made ≡ passed_in v.made
passed_by_none v w h = ap passed_in h.1
