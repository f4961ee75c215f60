use Rattle.std.proofs.Common.{◌≡◌, pos, ◌≤ℤ◌, IfSome, FitsSigned, w64, rules}
use Rattle.std.specs.Int.{int_div_euclid}
use Rattle.std.proofs.lemmas.Int.{to_z-of_z}
use Rattle.metadata_values.specs.Seconds.{IsTextOf}
use Rattle.metadata_values.proofs.Texts.{since}
use Rattle.metadata_values.proofs.clock_moments.moment.Goals as goal

pub returns-in-Ok : goal.returns-in-Ok
returns-in-Ok g c =
    let fits : FitsSigned w64 c.floor_second.result = search rules in
    let text : IfSome c.moment_of.result (IsTextOf c.floor_second.result) = rw (to_z-of_z w64 c.floor_second.result fits) at c.moment_of.ensures.text in
    let floor : c.floor_second.result ≡ int_div_euclid c.in-Ok.instant.nanosecond (pos 1000000000) = search rules in
    let after : pos 0 ≤ℤ c.in-Ok.instant.nanosecond = search rules in
    since c.floor_second.result c.in-Ok.instant.nanosecond c.moment_of.result floor after text
