-- What two truth values say together.
use Rattle.std.proofs.Common.{◌≡◌, Bool, true, false, ◌&&◌, ◌||◌, refl}

pub both_true : (a b : Bool) → (a && b) ≡ true → (a ≡ true) × (b ≡ true)
both_true true b h = (refl, h)
both_true false b h = cc

pub left_true : (a b : Bool) → (a && b) ≡ true → a ≡ true
left_true a b h = (both_true a b h).0

pub right_true : (a b : Bool) → (a && b) ≡ true → b ≡ true
right_true a b h = (both_true a b h).1

pub and_true : (a b : Bool) → a ≡ true → b ≡ true → (a && b) ≡ true
and_true true b h k = k
and_true false b h k = h

pub both_false : (a b : Bool) → (a || b) ≡ false → (a ≡ false) × (b ≡ false)
both_false true b h = cc
both_false false b h = (refl, h)

pub left_false : (a b : Bool) → (a || b) ≡ false → a ≡ false
left_false a b h = (both_false a b h).0

pub right_false : (a b : Bool) → (a || b) ≡ false → b ≡ false
right_false a b h = (both_false a b h).1

-- no truth value is true and false
pub not_both : (a : Bool) → a ≡ true → a ≡ false → ⊥
not_both true h k = cc
not_both false h k = cc
