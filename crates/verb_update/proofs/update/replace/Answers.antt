use Rattle.std.proofs.Common.{subst}
use Rattle.spec_api.specs.Verbs.{replace}
use Rattle.object_keys.specs.Keys.{key_of}
use Rattle.verb_parts.specs.Serves.{Serves}
use Rattle.verb_update.proofs.update.replace.Goals as goal

pub returns : goal.returns
returns c =
    subst (λ existing. Serves (replace (key_of c.args.key) c.args.object.value c.args.before existing) c.replace_existing.result) c.in_ok-existing.ensures c.replace_existing.ensures
