-- Requirements that do not begin with `!`.
use Rattle.std.proofs.Common.{◌≡◌, ℕ, ◌<◌, List, [], ◌∷◌, length, false, get_or, refl, arith, ◌==◌}
use Rattle.std.proofs.lemmas.Bool.Decides.{nat_tests}
use Rattle.spec_api.specs.SelectorTexts.{plain_requirement, unblanked_requirement}

no-length : 0 < length {A = ℕ} [] → ⊥
no-length l = omega (arith, l)

pub not-marked : (t : List ℕ) → 0 < length t → (get_or t 0 0 ≡ 33 → ⊥) → plain_requirement t ≡ unblanked_requirement t
not-marked [] l n = absurd (no-length l)
not-marked (b ∷ t) l n =
    let m : b ≡ 33 → ⊥ = n in
    let e : (b == 33) ≡ false = grind (arith, nat_tests) in
    rw e refl
