use Rattle.std.proofs.Common.{◌≡◌, rules}
use Rattle.jiff_core.specs.Timestamp.{nanos_of_seconds}
use Rattle.metadata_values.specs.Seconds.{IsTextOf}
use Rattle.metadata_values.proofs.Texts.{printed, kept}
use Rattle.metadata_values.proofs.clock_moments.moment_of.Goals as goal

pub returns-in-Ok-clause-fits : goal.returns-in-Ok-clause-fits
returns-in-Ok-clause-fits c = λ fits.
    let at : c.to_plain.result.nanosecond ≡ nanos_of_seconds c.args.second = search rules in
    let same : c.as_bytes.result.now ≡ c.timestamp_text-text.result.bytes = search rules in (
      c.as_bytes.result.now,
      printed c.new.result c.to_plain.result c.as_bytes.result.now c.args.second c.new.ensures at (rw same c.timestamp_text-text.ensures),
      c.parse.ensures,
    )

pub returns-in-Ok-clause-text : goal.returns-in-Ok-clause-text
returns-in-Ok-clause-text c =
    let at : c.to_plain.result.nanosecond ≡ nanos_of_seconds c.args.second = search rules in
    let same : c.as_bytes.result.now ≡ c.timestamp_text-text.result.bytes = search rules in
    kept (IsTextOf c.args.second) c.as_bytes.result.now c.parse.result
    (printed c.new.result c.to_plain.result c.as_bytes.result.now c.args.second c.new.ensures at (rw same c.timestamp_text-text.ensures)) c.parse.ensures
