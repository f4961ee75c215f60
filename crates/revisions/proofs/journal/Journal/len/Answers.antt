use Rattle.std.proofs.Common.{length, sym, ap, ◌∙◌}
use Rattle.spec_api.specs.History.{History, writes}
use Rattle.revisions.proofs.Histories.{length-writes}
use Rattle.revisions.proofs.journal.Journal.len.Goals as goal

pub returns : goal.returns
returns c = ap length c.as_slice.ensures.value ∙ sym (length-writes c.self.inside.writes.items) ∙ ap (λ (h : History). length (writes h)) c.self.view_is
