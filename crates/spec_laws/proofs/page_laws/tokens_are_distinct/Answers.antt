use Rattle.spec_api.proofs.TokenTexts.{one_token}
use Rattle.spec_laws.proofs.page_laws.tokens_are_distinct.Goals as goal

pub returns : goal.returns
returns c = one_token
