-- A number that is read of a text is as a parser gives it: an integer of 64 bits, or a float.
use Rattle.std.proofs.Common.{zero, suc, ◌≡◌, ◌^◌, ◌&&◌, ℕ, List, Bool, true, false, cond, Option, Some, None, IfSome, option_map, Float, refl, arith}
use Rattle.std.specs.Prelude.{nat_lt, nat_le, pos}
use Rattle.std.proofs.Math.IntN.{neg_ℤ}
use Rattle.std.proofs.lemmas.Bool.{ltb-true, leb-true}
use Rattle.serde_json.specs.Data.{Num, unsigned, negative, float, number}
use Rattle.serde_json.specs.Read.{number_of}
use Rattle.spec_api.specs.Reached.{IsInRange, IsParsed}

-- where there is a number, it is in range
record Ranges (o : Option Num) : Type 0 where
  in_range : IfSome o IsInRange

either_ranges : (b : Bool) (x y : Option Num) → Ranges x → Ranges y → Ranges (cond b x y)
either_ranges true x y p q = p
either_ranges false x y p q = q

float_ranges : (b : Bool) (x : Float) → Ranges (cond b (Some (float x)) None)
float_ranges true x = record { in_range = tt }
float_ranges false x = record { in_range = tt }

unsigned_at : (b c : Bool) (n : ℕ) (o : Option Num) → nat_lt n (2 ^ 64) ≡ c → Ranges o → Ranges (cond (b && c) (Some (unsigned n)) o)
unsigned_at true true n o is h = record { in_range = ltb-true n (2 ^ 64) is }
unsigned_at true false n o is h = h
unsigned_at false c n o is h = h

unsigned_ranges : (b : Bool) (n : ℕ) (o : Option Num) → Ranges o → Ranges (cond (b && nat_lt n (2 ^ 64)) (Some (unsigned n)) o)
unsigned_ranges b n o h = unsigned_at b (nat_lt n (2 ^ 64)) n o refl h

negative_at : (b c d : Bool) (n : ℕ) (o : Option Num) → nat_lt 0 n ≡ c → nat_le n (2 ^ 63) ≡ d → Ranges o → Ranges (cond (b && c && d) (Some (negative (neg_ℤ (pos n)))) o)
negative_at true true true zero o is at h = absurd (let none = ltb-true 0 0 is in omega (arith, none))
negative_at true true true (suc n) o is at h = let low = leb-true (suc n) (2 ^ 63) at in record { in_range = omega (arith, low) }
negative_at true true false n o is at h = h
negative_at true false d n o is at h = h
negative_at false c d n o is at h = h

negative_ranges : (b : Bool) (n : ℕ) (o : Option Num) → Ranges o → Ranges (cond (b && nat_lt 0 n && nat_le n (2 ^ 63)) (Some (negative (neg_ℤ (pos n)))) o)
negative_ranges b n o h = negative_at b (nat_lt 0 n) (nat_le n (2 ^ 63)) n o refl refl h

number_ranges : (s : List ℕ) → Ranges (number_of s)
unfolding number_of
number_ranges s = search (either_ranges, negative_ranges, unsigned_ranges, float_ranges) depth 7

of_some : (o : Option Num) → IfSome o IsInRange → IfSome (option_map number o) IsParsed
of_some None h = tt
of_some (Some n) h = h

pub number_read : (s : List ℕ) → IfSome (option_map number (number_of s)) IsParsed
number_read s = of_some (number_of s) (number_ranges s).in_range
