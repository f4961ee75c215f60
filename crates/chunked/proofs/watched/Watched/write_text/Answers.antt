use Rattle.std.proofs.Common.{rules, ◌++◌, take, ap, ◌∙◌, append_assoc}
use Rattle.std.proofs.lemmas.List.{take-append-drop}
use Rattle.std.proofs.KnownBytes.{Appends-trans, Appends-kept}
use Rattle.chunked.proofs.watched.Watched.write_text.Goals as goal
use Rattle.chunked.proofs.watched.Watched.write_text.Goals.{in-Ok, in-Err+else-self}

pub loop-preserved : goal.loop-preserved
loop-preserved g c =
    let h = c.loop.invariant in
    elim c.match-write.branch [
      | in-Ok w ↦ (
        h.0 ++ take w.in-Ok.n c.loop.rest.now,
        Appends-trans _ _ _ h.0 (take w.in-Ok.n c.loop.rest.now) h.1 w.in-Ok.ensures.bytes,
        append_assoc h.0 (take w.in-Ok.n c.loop.rest.now) c.match-write.rest.now
            ∙ ap (λ r. h.0 ++ (take w.in-Ok.n c.loop.rest.now ++ r.now)) w.rest-is
            ∙ ap (λ r. h.0 ++ (take w.in-Ok.n c.loop.rest.now ++ r)) w.split_at.ensures.back
            ∙ ap (λ r. h.0 ++ r) (take-append-drop w.in-Ok.n c.loop.rest.now)
            ∙ h.2,
        search rules,
      )
      | in-Err+else-self w ↦ (h.0, Appends-kept _ _ _ h.0 h.1 w.in-Err.ensures.bytes, ap (λ r. h.0 ++ r.now) w.rest-is ∙ h.2, search rules)
    ]
