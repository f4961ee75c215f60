use Rattle.std.proofs.Common.{rules, ◌≡◌, ◌∙◌, ◌++◌, ◌≤◌, ap, sym, subst, length, append-nil}
use Rattle.shared_map.specs.Parts.{parts, IsSound}
use Rattle.shared_map.proofs.Joined.{drop_done}
use Rattle.shared_map.proofs.map.SharedMap.try_copy.Goals as goal

pub invariant_of-result : goal.invariant_of-result
invariant_of-result g c =
    let cs = c.deref-chunk-items.result.now in
    let passed : length cs ≤ c.loop-chunk.chunk-index = search rules in
    let all : parts c.loop-chunk.chunks.items ≡ parts cs =
    sym (append-nil (parts c.loop-chunk.chunks.items)) ∙ ap (λ l. parts c.loop-chunk.chunks.items ++ parts l) (sym (drop_done cs c.loop-chunk.chunk-index passed)) ∙ c.loop-chunk.invariant in
    subst (λ ps. IsSound g.K.Ord.cmp ps c.self.inside.len) (sym (all ∙ ap parts c.deref-chunk-items.ensures.value)) c.self.invariant
