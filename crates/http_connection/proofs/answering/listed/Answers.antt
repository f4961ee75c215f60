use Rattle.std.proofs.Common.{refl, false}
use Rattle.http_connection.specs.declared.listing.Listing.{Listing}
use Rattle.http_connection.proofs.answering.listed.Goals as goal

pub returns : goal.returns
returns c =
    let l : Listing = record { out = c.new.result; taken = 0; rest = c.args.reply; pieces = 0; is_paused = false } in
    (l, refl, c.new.ensures.items, refl, refl)
