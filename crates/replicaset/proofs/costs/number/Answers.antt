use Rattle.std.proofs.Common.{refl, FitsSigned, w32}
use Rattle.std.specs.Str.Parse.{IsNumeral, signed_digits_value, without_leading_sign}
use Rattle.replicaset.proofs.Decimals.{unsigned, not_of_32_bits}
use Rattle.replicaset.proofs.costs.number.Goals as goal

pub returns-in-Err : goal.returns-in-Err
returns-in-Err c =
    let t = c.args.text.now in
    let out : IsNumeral 10 (without_leading_sign t) × FitsSigned w32 (signed_digits_value 10 t) → ⊥ = c.in-Err.ensures.value.0 in
    let large = not_of_32_bits (signed_digits_value 10 t) (λ f. out (unsigned t c.requires, f)) in
    rw large refl
