use Rattle.std.proofs.Common.{◌++◌}
use Rattle.chunked.specs.Bodies.{chunks_text, last_chunk}
use Rattle.chunked.proofs.Bodies.{written}
use Rattle.chunked.proofs.Runs.{read_as}
use Rattle.chunked.proofs.laws.written_is_read.Goals as goal

pub returns : goal.returns
returns c = λ chunks rest h. read_as chunks (chunks_text chunks ++ (last_chunk ++ rest)) rest (written chunks rest h)
