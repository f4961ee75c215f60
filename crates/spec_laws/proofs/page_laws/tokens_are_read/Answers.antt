use Rattle.spec_api.proofs.TokensRead.{token_is_read, read_is_token}
use Rattle.spec_laws.proofs.page_laws.tokens_are_read.Goals as goal

pub returns : goal.returns
returns c = λ text t. (token_is_read text t, read_is_token text t)
