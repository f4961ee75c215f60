-- How many threads there are, and passes that are left.
use Rattle.std.proofs.Common.{◌≡◌, ◌+◌, ℕ, arith}

-- one more than the others, who took what so many passes and kinds gave them
pub all_counted : (all others left ticking kinds asking passes : ℕ) → all ≡ others + 1 → others + left ≡ ticking + kinds → ticking ≡ asking + 1 → kinds ≡ 4 → passes ≡ asking + 6 → all + left ≡ passes
all_counted all others left ticking kinds asking passes more rest first four enough = omega (arith, more, rest, first, four, enough)
