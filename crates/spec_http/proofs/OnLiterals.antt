-- What an answer unfolds to compute the definitions on literals.
use Rattle.std.specs.Prelude.{⊤}
use Rattle.spec_api.proofs.OnLiterals.{on_literals}
use Rattle.httparse.proofs.OnLiterals.{httparse_on_literals}

unfoldable pub http_on_literals : ⊤
unfolding on_literals httparse_on_literals
http_on_literals = tt
