use Rattle.std.proofs.Common.{◌≡◌, ◌≤◌, [], map, drop, take, length, ◌-◌, ◌∙◌, ap, sym, arith}
use Rattle.std.proofs.lemmas.List.{drop_all, take-map}
use Rattle.meta.specs.Writes.{write_of}
use Rattle.spec_api.specs.History.{after_all}
use Rattle.revisions.specs.Seen.{seen}
use Rattle.revisions.proofs.Histories.{writes-history_of}
use Rattle.revisions.proofs.past.state_at.Goals as goal

pub returns : goal.returns
returns c =
    let items = c.up_to-write-items.result.now in
    let past : length items ≤ c.loop-write.write-index = omega arith in
    let none : drop c.loop-write.write-index items ≡ [] = drop_all c.loop-write.write-index items past in
    ap (λ ws. after_all (seen c.loop-write.state.entries) (map write_of ws)) (sym none) ∙ c.loop-write.invariant
    ∙ ap (λ ws. after_all [] (map write_of ws)) c.up_to-write-items.ensures
    ∙ ap (after_all []) (sym (take-map write_of (c.args.revision - 1) c.args.writes.now))
    ∙ ap (λ ws. after_all [] (take (c.args.revision - 1) ws)) (sym (writes-history_of c.args.writes.now))
