use Rattle.std.proofs.Common.{◌≡◌, ◌+◌, length, rules}
use Rattle.kcp_lines.proofs.Relayed.{some_read}
use Rattle.kcp_lines.proofs.relaying.relay_line.Goals as goal

pub returns-clause-was : goal.returns-clause-was
returns-clause-was g c =
    let count : length c.read_through.new.buf.items ≡ length c.make_ready.new.line.items + c.in-Ok.field-0 = search rules in
    let some : c.in-Ok.field-0 ≡ 0 → ⊥ = search rules in
    some_read _ c.read_through.new.buf.items c.make_ready.new.line.items c.in-Ok.field-0 c.make_ready.ensures.empty count some c.in-Ok.ensures.bytes
