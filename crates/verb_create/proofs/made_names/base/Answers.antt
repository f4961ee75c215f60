use Rattle.std.proofs.Common.{◌≡◌, ◌≤◌, IfOk, length, string_bytes, sym, subst, ◌∙◌, arith}
use Rattle.std.proofs.lemmas.List.{length-take-le, take_all}
use Rattle.std.specs.Str.Lossy.{utf8_lossy}
use Rattle.verb_create.proofs.made_names.base.Goals as goal

pub returns-then-bytes-le-LONGEST_BASE : goal.returns-then-bytes-le-LONGEST_BASE
returns-then-bytes-le-LONGEST_BASE c =
    let given = c.args.given.now in
    let few : length given ≤ 58 = subst (λ t. length t ≤ 58) c.as_bytes-bytes.ensures.value c.if-bytes-le-LONGEST_BASE.true in
    subst (λ t. IfOk c.from_utf8_lossy.result (λ b. string_bytes b ≡ utf8_lossy t)) (c.as_bytes-bytes.ensures.value ∙ sym (take_all 58 given few)) c.from_utf8_lossy.ensures.lossy

pub slice_bounds-from_utf8_lossy-end : goal.slice_bounds-from_utf8_lossy-end
slice_bounds-from_utf8_lossy-end c = sym (length-take-le 58 c.as_bytes-bytes.result.now (omega (arith, c.if-bytes-le-LONGEST_BASE.false)))
