use Rattle.std.proofs.Common.{◌≡◌, ◌==◌, ◌<◌, length, take, drop, get_or, true, Some, sym, ap, ◌∙◌, rules}
use Rattle.spec_line_protocol.proofs.Cuts.{cut-here, cut-nowhere}
use Rattle.sim_steps.proofs.words.cut.Goals as goal

pub returns-then-byte-eq32 : goal.returns-then-byte-eq32
returns-then-byte-eq32 c =
    let t = c.args.text.now in
    let l : c.loop-i.i < length t = search rules in
    let here : (get_or t c.loop-i.i 0 == 32) ≡ true = search rules in
    let front : c.split_at.result.0.now ≡ take c.loop-i.i t = c.split_at.ensures.front in
    let back : c.split_at-then-byte-eq32.result.1.now ≡ drop 1 (drop c.loop-i.i t) =
    c.split_at-then-byte-eq32.ensures.back ∙ ap (drop 1) c.split_at.ensures.back in
    (λ i. Some (front i, back i)) ∙ sym (cut-here t c.loop-i.i l c.loop-i.invariant here)

pub returns : goal.returns
returns c = sym (cut-nowhere c.args.text.now c.loop-i.i (search rules) c.loop-i.invariant)
