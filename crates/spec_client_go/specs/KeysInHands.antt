-- Keys in hands: which keys are in process, and who has them (client-go, workqueue).
use Rattle.std.specs.Prelude.{◌≡◌, ℕ, Option, Some, true}
use Rattle.std.specs.FinSet as set
use Rattle.std.specs.declared.cmp.Ordering.{Ordering}

-- the keys in process are just those in hands, and no key is in the hands of two
pub record AreHands {N : Type 0} {R : N → N → Ordering} (hands : ℕ → Option N) (processing : set.FinSet R) : Type 0 where
  pub taken : (k : N) → set.contains processing k ≡ true → (name : ℕ) × (hands name ≡ Some k)
  pub processed : (name : ℕ) (k : N) → hands name ≡ Some k → set.contains processing k ≡ true
  pub apart : (one other : ℕ) (k : N) → hands one ≡ Some k → hands other ≡ Some k → one ≡ other
