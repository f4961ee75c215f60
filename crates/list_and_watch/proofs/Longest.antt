-- The longest pause.
use Rattle.std.proofs.Common.{arith, ◌≡◌, ◌≤◌, ◌*◌, ◌^◌, ℕ}
use Rattle.std.proofs.Math.Pow.{pow_mono}
use Rattle.list_and_watch.specs.Pauses.{pause_after}

above : (f : ℕ) → 6 ≤ f → 30000 ≤ 800 * 2 ^ f
above f h =
    let large : 2 ^ 6 ≤ 2 ^ f = pow_mono {i = 6} {j = f} h in
    omega (arith, large)

pub longest : (f : ℕ) → 6 ≤ f → 30000 ≡ pause_after f
longest f h = let high = above f h in grind (arith, high)
