use Rattle.spec_http.proofs.Pieces.{read_in_pieces}
use Rattle.spec_http.proofs.reply_laws.watches_are_read_in_pieces.Goals as goal

pub returns : goal.returns
returns c = read_in_pieces
