use Rattle.std.proofs.Common.{◌≡◌, ◌<◌, ◌^◌, drop}
use Rattle.std.specs.Str.Parse.{digits_value, digits_value_after}
use Rattle.metadata_values.proofs.moments.number.Given as goal

abbrev pub invariant-loop-digit : goal.invariant-loop-digit
invariant-loop-digit l = record { spelled : digits_value_after 10 l.number (drop l.digit-index l.digits) ≡ digits_value 10 l.digits; small : l.number < 10 ^ l.digit-index }
