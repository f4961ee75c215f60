-- What is set where there is something in it.
use Rattle.std.proofs.Common.{◌≡◌, ℕ, List, refl, sym}
use Rattle.serde_json.specs.Data.{Members, no_members, member, object, put}
use Rattle.serde_json.specs.Events.{members_len}
use Rattle.spec_reconcile.specs.Templates.{with_filled}

pub filled : (k : List ℕ) (inner ms : Members) (n : ℕ) → members_len inner ≡ n → (n ≡ 0 → ⊥) → with_filled k inner ms ≡ put k (object inner) ms
filled k no_members ms n e h = absurd (h (sym e))
filled k (member l d inner) ms n e h = refl
