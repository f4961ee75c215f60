use Rattle.std.proofs.Common.{refl}
use Rattle.spec_api.proofs.OnLiterals.{on_literals}
use Rattle.line_service.proofs.constants.no_memory_line.Goals as goal

pub returns : goal.returns
unfolding on_literals
returns c = refl
