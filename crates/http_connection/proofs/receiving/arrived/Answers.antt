use Rattle.std.proofs.Common.{◌++◌, inl, refl}
use Rattle.http_connection.proofs.receiving.arrived.Goals as goal

pub returns-then-is_err : goal.returns-then-is_err
returns-then-is_err c read is = c.refused.ensures (read ++ c.args.piece.now) (inl refl)
