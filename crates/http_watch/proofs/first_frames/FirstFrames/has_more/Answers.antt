use Rattle.std.proofs.Common.{◌||◌, nat_lt, length, sym, ap, ◌∙◌}
use Rattle.http_watch.proofs.Pieces.{any_left}
use Rattle.http_watch.proofs.first_frames.FirstFrames.has_more.Goals as goal

pub returns-then-self : goal.returns-then-self
returns-then-self c =
    let f = c.self.inside in
    let some = sym c.self.invariant ∙ c.if-self.true in
    c.if-self.true ∙ sym (ap (λ b. b || f.closing) some) ∙ any_left f.kind f.closing f.revision f.objects ∙ ap (λ v. nat_lt 0 (length v)) c.self.view_is
