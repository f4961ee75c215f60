use Rattle.std.proofs.Common.{◌++◌, ◌∙◌, ap, codes, List, ℕ}
use Rattle.chunked.specs.Bodies.{crlf}
use Rattle.spec_http.specs.Replies.{line}
use Rattle.spec_http.proofs.Printed.{grown}
use Rattle.spec_http.proofs.request.push_fields.Goals as goal

pub returns : goal.returns
returns c =
    let t = c.args.text.now.items in
    let a : List ℕ = line (codes "Host: " ++ c.args.host.now) in
    let b : List ℕ = line (codes "Content-Type: " ++ c.args.media_type.now) in
    let l : List ℕ = line (codes "Content-Length: " ++ c.args.digits.now) in
    let k : List ℕ = line (codes "Connection: close") in
    let one = ap (λ x. x ++ b) c.in_ok-push_field.ensures in
    let two = c.in_ok-push_field-2.ensures ∙ one in
    let three = c.in_ok-push_field-3.ensures ∙ ap (λ x. x ++ l) two in
    let four = c.in_ok-push_line.ensures ∙ ap (λ x. x ++ k) three in
    c.in_ok-extend_from_slice.ensures.items ∙ ap (λ x. x ++ crlf) four ∙ grown t a b l k crlf
