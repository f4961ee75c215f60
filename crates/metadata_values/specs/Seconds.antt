-- The text of a second, as a clock at UTC shows it (RFC 3339, Internet Date/Time Format).
use Rattle.std.specs.Prelude.{◌≡◌, ℕ, ℤ, pos, ◌≤ℤ◌, List, ◌++◌, codes, false, Option, Some, None, if◌then◌else◌}
use Rattle.std.specs.Int.{int_div_euclid}
use Rattle.jiff_core.specs.declared.civil.datetime.DateTime.{DateTime}
use Rattle.jiff_core.specs.DateTime.{civil_nanos}
use Rattle.jiff_core.specs.Timestamp.{nanos_of_seconds}
use Rattle.jiff_fmt.specs.Text.{datetime_text}
use Rattle.spec_api.specs.Moments.{is_moment}

-- the date and the time of the second since 1970, with a T between them and a Z after them
abbrev pub IsTextOf : ℤ → List ℕ → Type 0
IsTextOf second text =
    (shown : DateTime) × (civil_nanos shown ≡ nanos_of_seconds second) × (text ≡ datetime_text false 84 None shown ++ codes "Z")

-- the moment of the second: its text, where that is a moment; the years before 0 have none
abbrev pub IsMomentOf : ℤ → Option (List ℕ) → Type 0
IsMomentOf second moment = (text : List ℕ) × IsTextOf second text × (moment ≡ (if is_moment text then Some text else None))

-- the text of the second in which an instant lies that is not before 1970
abbrev pub IsTextSince1970 : List ℕ → Type 0
IsTextSince1970 text = (nanosecond : ℤ) × (pos 0 ≤ℤ nanosecond) × IsTextOf (int_div_euclid nanosecond (pos 1000000000)) text
