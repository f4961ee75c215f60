use Rattle.std.proofs.Common.{◌≡◌, ◌-◌, length, take, drop, Ok, Err, arith, length-drop, take_all, sym, ap, ◌∙◌, subst}
use Rattle.chunked.specs.Devices.{device_of}
use Rattle.spec_http.specs.Heads.{head_of}
use Rattle.spec_http.specs.Checks.{checked}
use Rattle.http_request_reader.specs.Openings.{Opens, opening_seen}
use Rattle.http_request_reader.specs.Receiving.{Tells}
use Rattle.http_request_reader.proofs.ReadHeads.{refused_tells, result_tells}
use Rattle.http_request_reader.proofs.reading.after_head.Goals as goal

pub returns-in_err-head-clause-tells : goal.returns-in_err-head-clause-tells
returns-in_err-head-clause-tells g c = λ h at.
    let before = g.R.Read.remaining (device_of c.args.reader.now) in
    let follows = drop c.args.found.len c.args.bytes.now in
    result_tells (checked (head_of h)) follows before c.from_residual.result c.from_residual.ensures.1

pub returns-in-Ok-clause-tells : goal.returns-in-Ok-clause-tells
returns-in-Ok-clause-tells g c = λ h at.
    let before = g.R.Read.remaining (device_of c.args.reader.now) in
    let after = g.R.Read.remaining (device_of c.after_opening.new.reader) in
    let bytes = c.args.bytes.now in
    let place = c.args.found.len in
    let follows : take (length bytes - place) (drop place bytes) ≡ drop place bytes = take_all (length bytes - place) (drop place bytes) (omega (arith, length-drop place bytes)) in
    let opens : Ok (opening_seen c.in-Ok.opening) ≡ checked (head_of h) = sym c.in-Ok.ensures ∙ ap checked (c.in_ok-head.ensures h at) in
    subst (λ x. Tells x (drop place bytes) before after c.after_opening.result) opens
    (subst (λ f. Tells (Ok (opening_seen c.in-Ok.opening)) f before after c.after_opening.result) follows c.after_opening.ensures.tells)

pub returns-clause-tells : goal.returns-clause-tells
returns-clause-tells g c = λ h at.
    refused_tells (checked (head_of h)) (drop c.args.found.len c.args.bytes.now) (g.R.Read.remaining (device_of c.args.reader.now)) c.in-Err.fault c.refused.result
    (subst (λ x. Opens (checked x) (Err c.in-Err.fault)) (c.in_ok-head.ensures h at) c.in-Err.ensures) c.refused.ensures.refuses
