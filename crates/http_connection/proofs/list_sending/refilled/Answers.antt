use Rattle.std.proofs.Common.{ℕ, List, ◌++◌, drop, sym, ap, ◌∙◌}
use Rattle.std.proofs.Math.ListN.{drop_of_length-le}
use Rattle.http_connection.proofs.list_sending.refilled.Goals as goal

pub returns-in-Ok : goal.returns-in-Ok
returns-in-Ok c =
    let l = c.args.listing in
    (sym c.in-Ok.ensures.made ∙ ap (λ t. t ++ l.rest) (sym (drop_of_length-le l.out.items c.requires.written)), c.in-Ok.ensures.some)

pub returns-in-Err : goal.returns-in-Err
returns-in-Err c =
    let l = c.args.listing in
    ap (λ (t : List ℕ). drop l.taken l.out.items ++ t) c.in-Err.ensures.kept
