-- What is printed of a second.
use Rattle.std.proofs.Common.{◌≡◌, ℕ, ℤ, pos, ◌≤ℤ◌, List, Bool, true, false, Option, Some, None, IfSome, if◌then◌else◌, ap}
use Rattle.std.specs.Int.{int_div_euclid}
use Rattle.jiff_core.specs.declared.timestamp.Timestamp.{Timestamp}
use Rattle.jiff_core.specs.Timestamp.{nanos_of_seconds}
use Rattle.jiff_fmt.specs.declared.temporal.printer.DateTimePrinter.{DateTimePrinter}
use Rattle.jiff_fmt.specs.Printer.{options, IsTimestampText}
use Rattle.spec_api.specs.Moments.{is_moment}
use Rattle.metadata_values.specs.Seconds.{IsTextOf, IsTextSince1970}

-- the plain printer writes the text of the second
pub printed : (p : DateTimePrinter) (t : Timestamp) (text : List ℕ) (second : ℤ) → options p ≡ (false, 84, None)
    → t.nanosecond ≡ nanos_of_seconds second → IsTimestampText p t text → IsTextOf second text
printed p t text second o n (shown, at, is) =
    let low : p.lowercase ≡ false = ap (λ x. x.0) o in
    let mark : p.separator ≡ 84 = ap (λ x. x.1) o in
    let places : p.precision ≡ None = ap (λ x. x.2) o in
    (shown, rw n at at, rw (low, mark, places) at is)

-- what is stored of a text is that text
pub kept : (P : List ℕ → Type 0) (text : List ℕ) (moment : Option (List ℕ)) → P text
    → moment ≡ (if is_moment text then Some text else None) → IfSome moment P
kept P text moment p e = rw e (by (is_moment text))
  where
    by : (b : Bool) → IfSome (if b then Some text else None) P
    by true = p
    by false = tt

-- the text of an instant's second
pub since : (second nanosecond : ℤ) (moment : Option (List ℕ)) → second ≡ int_div_euclid nanosecond (pos 1000000000) → pos 0 ≤ℤ nanosecond
    → IfSome moment (IsTextOf second) → IfSome moment IsTextSince1970
since second nanosecond None e n h = tt
since second nanosecond (Some text) e n h = (nanosecond, n, rw e at h)
