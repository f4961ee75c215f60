use Rattle.std.proofs.Common.{◌≡◌, ◌<◌, ℕ, Bool, ◌∷◌, length, take, drop, get_or, true, sym, ap, ap₂, ◌∙◌, rules}
use Rattle.std.specs.List.{slice_split}
use Rattle.spec_api.specs.SelectorTexts.{is_blank}
use Rattle.selector.proofs.Cutting.{cut-here, cut-nowhere}
use Rattle.selector.proofs.cuts.cut_at_blank.Goals as goal

pub returns-then-is_blank : goal.returns-then-is_blank
returns-then-is_blank c =
    let t = c.args.text.now in
    let p : ℕ → Bool = is_blank in
    let l : c.loop-i.i < length t = search rules in
    let here : p (get_or t c.loop-i.i 0) ≡ true = search rules in
    let h = cut-here p t c.loop-i.i l c.loop-i.invariant here in
    let front : c.split_at.result.0.now ≡ take c.loop-i.i t = c.split_at.ensures.front in
    let back : c.split_at-then-is_blank.result.1.now ≡ drop 1 (drop c.loop-i.i t) =
    c.split_at-then-is_blank.ensures.back ∙ ap (drop 1) c.split_at.ensures.back in
    (h.0 ∙ ap₂ (λ a b. a ∷ slice_split p b) (sym front) (sym back), h.1, front ∙ h.2, back ∙ h.3, rw back h.4)

pub returns : goal.returns
returns c = let p : ℕ → Bool = is_blank in cut-nowhere p c.args.text.now c.loop-i.i (search rules) c.loop-i.invariant
