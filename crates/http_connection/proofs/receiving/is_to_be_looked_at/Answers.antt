use Rattle.std.proofs.Common.{◌<◌, ◌++◌, length, sym, subst, arith}
use Rattle.std.proofs.lemmas.Bool.{leb-false}
use Rattle.http_connection.proofs.Reading.{waits_on}
use Rattle.http_connection.specs.Arriving.{Awaits}
use Rattle.http_connection.proofs.receiving.is_to_be_looked_at.Goals as goal

pub returns-in-Bytes : goal.returns-in-Bytes
returns-in-Bytes c short before piece size waits =
    let few : length (before ++ piece) < c.in-Bytes.needs = omega (arith, size, leb-false c.in-Bytes.needs c.args.len short) in
    subst (λ a. Awaits a (before ++ piece)) (sym c.in-Bytes.is) (waits_on before piece c.in-Bytes.needs (subst (λ a. Awaits a before) c.in-Bytes.is waits) few)
