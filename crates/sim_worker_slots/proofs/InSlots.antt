-- Turns in slots.
use Rattle.std.proofs.Common.{◌≡◌, ◌∙◌, ◌≤◌, ℕ, length, map, replicate, take, Option, None, sym, arith}
use Rattle.std.proofs.lemmas.List.{take_all}
use Rattle.std.proofs.lemmas.Simd.{splat_is_map}
use Rattle.sim_worker_slots.specs.Slots.{Slots}
use Rattle.spec_sim.specs.Turns.{Turn}

-- where all up to the end are none, all are
pub all_ended : (olds ts : Slots) (i : ℕ) → length ts ≡ length olds → length ts ≤ i → i ≤ length olds → take i ts ≡ replicate i None → ts ≡ map (λ (t : Option Turn). None) olds
all_ended olds ts i same past within ended =
    let e : length olds ≡ i = omega arith in
    sym (take_all i ts past) ∙ ended ∙ splat_is_map olds i None e
