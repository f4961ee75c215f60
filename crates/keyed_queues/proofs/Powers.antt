-- The powers of two among delays.
use Rattle.std.proofs.Common.{◌≡◌, ℕ, ◌*◌, ◌^◌, ◌≤◌, ◌<◌, arith}
use Rattle.std.proofs.Math.Pow.{pow_mono}
use Rattle.spec_client_go.specs.Delays.{delay_after}

below_ceiling : (f : ℕ) → f < 18 → 5 * 2 ^ f ≤ 1000000
below_ceiling f h =
    let small : 2 ^ f ≤ 2 ^ 17 = pow_mono {i = f} {j = 17} (omega arith) in
    omega (arith, small)

above_ceiling : (f : ℕ) → 18 ≤ f → 1000000 ≤ 5 * 2 ^ f
above_ceiling f h =
    let large : 2 ^ 18 ≤ 2 ^ f = pow_mono {i = 18} {j = f} h in
    omega (arith, large)

pub doubled : (f p : ℕ) → f < 18 → p ≡ 2 ^ f → 5 * p ≡ delay_after f
doubled f p h is = let low = below_ceiling f h in grind (arith, is, low)

pub capped : (f : ℕ) → 18 ≤ f → 1000000 ≡ delay_after f
capped f h = let high = above_ceiling f h in grind (arith, high)
