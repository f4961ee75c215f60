use Rattle.std.proofs.Common.{inr, sym, subst}
use Rattle.spec_api.specs.Replacements.{in_place}
use Rattle.spec_api.proofs.VerbSteps.{replace_with}
use Rattle.object_keys.specs.Keys.{key_of}
use Rattle.verb_parts.specs.Serves.{Serves}
use Rattle.verb_parts.proofs.Replacing.{if_same-other, if_same-same}
use Rattle.verb_update.proofs.update.replace_existing.Goals as goal

pub returns-in-Some : goal.returns-in-Some
returns-in-Some c =
    let k = key_of c.args.key in
    let o = c.args.object.value in
    let existing = c.args.existing.now.object.value in
    inr (if_same-other k o existing (replace_with k existing (in_place k.kind existing o) c.args.before) c.mismatch.result c.in-Some.why c.mismatch.ensures c.in-Some.is)

pub returns-in_ok-object-in-None : goal.returns-in_ok-object-in-None
returns-in_ok-object-in-None c =
    let k = key_of c.args.key in
    let o = c.args.object.value in
    let existing = c.args.existing.now.object.value in
    let same = if_same-same k o existing (replace_with k existing (in_place k.kind existing o) c.args.before) c.mismatch.result c.mismatch.ensures c.in-None.is in
    subst (λ next. Serves next c.replace_with.result) (sym same)
    (subst (λ kind. Serves (replace_with k existing (in_place kind existing o) c.args.before) c.replace_with.result) c.requires.kind
    (subst (λ d. Serves (replace_with k existing d c.args.before) c.replace_with.result) c.in_ok-object-in-None.ensures.value c.replace_with.ensures))
