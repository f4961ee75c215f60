use Rattle.std.proofs.Common.{length, sym, ap, string_bytes}
use Rattle.server.proofs.AddedItems.{over}
use Rattle.server.proofs.list_texts.ListText.end.Goals as goal

pub invariant_of-self : goal.invariant_of-self
invariant_of-self c = ap length (sym (over (string_bytes c.new.result) (string_bytes c.new-2.result) c.self.inside.later c.none.result c.new.ensures.bytes c.new-2.ensures.bytes))

pub returns : goal.returns
returns c = over (string_bytes c.new.result) (string_bytes c.new-2.result) c.self.inside.later c.none.result c.new.ensures.bytes c.new-2.ensures.bytes
