-- A revision's text: `0`, or digits without a leading zero, of a number below 2^53 (Kubernetes API Concepts, Resource versions).
use Rattle.std.specs.Prelude.{ℕ, List, Bool, ◌&&◌, ◌||◌, not, nat_lt, ◌==◌, length, slice_index, Option, Some, None, if◌then◌else◌}
use Rattle.std.specs.List.{list_all}
use Rattle.std.specs.Str.Parse.{digits_value}
use Rattle.spec_api.specs.Texts.Moments.{is_digit}

abbrev pub is_revision : List ℕ → Bool
is_revision t = nat_lt 0 (length t) && list_all is_digit t && ((length t == 1) || not (slice_index t 0 == 48)) && nat_lt (digits_value 10 t) 9007199254740992

-- the revision that a text names
abbrev pub revision_of : List ℕ → Option ℕ
revision_of t = if is_revision t then Some (digits_value 10 t) else None

-- the greatest number that every JSON reader represents exactly (RFC 8259, Numbers)
abbrev pub greatest_revision : ℕ
greatest_revision = 9007199254740991
