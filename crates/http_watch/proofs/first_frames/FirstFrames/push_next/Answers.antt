use Rattle.std.proofs.Common.{◌++◌, IfSome, sym, ap, subst, ◌∙◌}
use Rattle.object_keys.specs.Keys.{key_of}
use Rattle.http_watch.specs.FirstFrames.{StopsAt}
use Rattle.http_watch.proofs.Pieces.{piece_made}
use Rattle.http_watch.proofs.first_frames.FirstFrames.push_next.Goals as goal

pub returns-in-Some-clause-made : goal.returns-in-Some-clause-made
returns-in-Some-clause-made c =
    let f = c.self.inside in
    let old = c.args.text.now.items in
    let new = c.push_some.new.text.items in
    let stops = subst (λ o. IfSome o (λ k. StopsAt f.objects old new (key_of k))) c.in-Some.is c.in_ok-last.ensures.some in
    ap (λ t. old ++ t) (sym c.self.view_is) ∙ piece_made f.objects c.go_past.new.self old new (key_of c.in-Some.last) stops c.go_past.ensures f.kind f.closing f.revision
