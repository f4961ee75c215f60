use Rattle.std.proofs.Common.{◌<◌, ◌%◌, sym, subst}
use Rattle.std.proofs.lemmas.Option.{unwrap_or-slice_get}
use Rattle.spec_api.specs.GeneratedNames.{alphabet}
use Rattle.verb_create.proofs.MadeNames.{small}
use Rattle.verb_create.proofs.made_names.letter.Goals as goal

pub returns-clause-value : goal.returns-clause-value
returns-clause-value c = sym (unwrap_or-slice_get alphabet (c.args.number % 27) 0)

pub returns-clause-ascii : goal.returns-clause-ascii
returns-clause-ascii c = subst (λ n. n < 128) (unwrap_or-slice_get alphabet (c.args.number % 27) 0) (small (c.args.number % 27))
