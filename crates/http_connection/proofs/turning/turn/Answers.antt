use Rattle.std.proofs.Common.{sym, subst}
use Rattle.http_connection.proofs.Reading.{reads_led}
use Rattle.http_connection.proofs.Standing.{replies_stand, lists_stand, watches_stand, nothing_read, nothing_done, no_reply, refuses, request_read}
use Rattle.http_connection.specs.Arriving.{Arrives, MayStand}
use Rattle.http_connection.specs.Phases.{Turns}
use Rattle.http_connection.specs.Stopping.{device_in, has_stopped}
use Rattle.http_connection.specs.declared.phase.ConnectionPhase.TheVariants as phase
use Rattle.http_connection.proofs.turning.turn.Goals as goal

pub returns-in-Replying-read_on-clause-turns : goal.returns-in-Replying-read_on-clause-turns
returns-in-Replying-read_on-clause-turns g c =
    let calls = g.S.Site.Calls in
    let lists = g.S.Site.Lists in
    let begins = g.S.WatchSource.Begins in
    let watches = g.S.WatchSource.Watches in
    let no_more = has_stopped c.read_on.new.reader in
    let no_room = has_stopped c.reply_on.new.writer in
    let unread = g.R.Read.remaining (device_in c.args.reader.now) in
    let left = g.R.Read.remaining (device_in c.read_on.new.reader) in
    let held = g.W.Write.contents (device_in c.args.writer.now) in
    let holds = g.W.Write.contents (device_in c.reply_on.new.writer) in
    subst (λ p. Turns calls lists begins watches no_more no_room unread left held holds p c.reply_on.result) (sym c.in-Reading.is)
    (request_read calls lists begins watches no_more no_room unread left held holds c.in-Reading.arriving c.read_on.result c.reply_on.result c.read_on.ensures
    (λ read arrives.
    refuses calls lists begins watches no_more no_room held holds c.in-Replying-read_on.refusal c.reply_on.result read c.reply_on.ensures
    (subst (Arrives no_more read) c.in-Replying-read_on.is arrives)))

pub returns-in_default-clause-turns : goal.returns-in_default-clause-turns
returns-in_default-clause-turns g c =
    let calls = g.S.Site.Calls in
    let lists = g.S.Site.Lists in
    let begins = g.S.WatchSource.Begins in
    let watches = g.S.WatchSource.Watches in
    let no_more = has_stopped c.read_on.new.reader in
    let no_room = has_stopped c.args.writer.now in
    let unread = g.R.Read.remaining (device_in c.args.reader.now) in
    let left = g.R.Read.remaining (device_in c.read_on.new.reader) in
    let held = g.W.Write.contents (device_in c.args.writer.now) in
    subst (λ p. Turns calls lists begins watches no_more no_room unread left held held p c.read_on.result) (sym c.in-Reading.is)
    (request_read calls lists begins watches no_more no_room unread left held held c.in-Reading.arriving c.read_on.result c.read_on.result c.read_on.ensures
    (λ read arrives. no_reply calls lists begins watches no_more no_room held c.read_on.result read arrives))

pub returns-in_default-clause-led : goal.returns-in_default-clause-led
returns-in_default-clause-led g c led =
    let unread = g.R.Read.remaining (device_in c.args.reader.now) in
    let left = g.R.Read.remaining (device_in c.read_on.new.reader) in
    reads_led (has_stopped c.read_on.new.reader) unread left c.in-Reading.arriving c.read_on.result c.read_on.ensures (subst MayStand c.in-Reading.is led)

pub returns-in-Replying-clause-turns : goal.returns-in-Replying-clause-turns
returns-in-Replying-clause-turns g c =
    let calls = g.S.Site.Calls in
    let lists = g.S.Site.Lists in
    let begins = g.S.WatchSource.Begins in
    let watches = g.S.WatchSource.Watches in
    let no_more = has_stopped c.args.reader.now in
    let no_room = has_stopped c.reply_on-in-Replying.new.writer in
    let unread = g.R.Read.remaining (device_in c.args.reader.now) in
    let held = g.W.Write.contents (device_in c.args.writer.now) in
    let holds = g.W.Write.contents (device_in c.reply_on-in-Replying.new.writer) in
    let result = c.reply_on-in-Replying.result in
    subst (λ p. Turns calls lists begins watches no_more no_room unread unread held holds p result) (sym c.in-Replying.is)
    (nothing_read calls lists begins watches no_more no_room unread held holds (phase.Replying c.in-Replying.replying) result
    (λ read written d stands. replies_stand calls lists begins watches no_room held holds c.in-Replying.replying result read written d c.reply_on-in-Replying.ensures stands))

pub returns-in-Listing-clause-turns : goal.returns-in-Listing-clause-turns
returns-in-Listing-clause-turns g c =
    let calls = g.S.Site.Calls in
    let lists = g.S.Site.Lists in
    let begins = g.S.WatchSource.Begins in
    let watches = g.S.WatchSource.Watches in
    let no_more = has_stopped c.args.reader.now in
    let no_room = has_stopped c.list_on.new.writer in
    let unread = g.R.Read.remaining (device_in c.args.reader.now) in
    let held = g.W.Write.contents (device_in c.args.writer.now) in
    let holds = g.W.Write.contents (device_in c.list_on.new.writer) in
    let result = c.list_on.result in
    subst (λ p. Turns calls lists begins watches no_more no_room unread unread held holds p result) (sym c.in-Listing.is)
    (nothing_read calls lists begins watches no_more no_room unread held holds (phase.Listing c.in-Listing.listing) result
    (λ read written d stands. lists_stand calls lists begins watches no_room held holds c.in-Listing.listing result read written d c.list_on.ensures stands))

pub returns-in-Watching-clause-turns : goal.returns-in-Watching-clause-turns
returns-in-Watching-clause-turns g c =
    let calls = g.S.Site.Calls in
    let lists = g.S.Site.Lists in
    let begins = g.S.WatchSource.Begins in
    let watches = g.S.WatchSource.Watches in
    let no_more = has_stopped c.args.reader.now in
    let no_room = has_stopped c.watch_on.new.writer in
    let unread = g.R.Read.remaining (device_in c.args.reader.now) in
    let held = g.W.Write.contents (device_in c.args.writer.now) in
    let holds = g.W.Write.contents (device_in c.watch_on.new.writer) in
    let result = c.watch_on.result in
    subst (λ p. Turns calls lists begins watches no_more no_room unread unread held holds p result) (sym c.in-Watching.is)
    (nothing_read calls lists begins watches no_more no_room unread held holds (phase.Watching c.in-Watching.watching) result
    (λ read written d stands. watches_stand calls lists begins watches no_room held holds c.in-Watching.watching result read written d c.watch_on.ensures stands))

pub returns-in-Asked-clause-turns : goal.returns-in-Asked-clause-turns
returns-in-Asked-clause-turns g c =
    let calls = g.S.Site.Calls in
    let lists = g.S.Site.Lists in
    let begins = g.S.WatchSource.Begins in
    let watches = g.S.WatchSource.Watches in
    let no_more = has_stopped c.args.reader.now in
    let no_room = has_stopped c.args.writer.now in
    let unread = g.R.Read.remaining (device_in c.args.reader.now) in
    let held = g.W.Write.contents (device_in c.args.writer.now) in
    subst (λ p. Turns calls lists begins watches no_more no_room unread unread held held p (phase.Asked c.in-Asked.asked)) (sym c.in-Asked.is)
    (nothing_done calls lists begins watches no_more no_room unread held (phase.Asked c.in-Asked.asked) (λ read written d. tt))

pub returns-in-Answering-clause-turns : goal.returns-in-Answering-clause-turns
returns-in-Answering-clause-turns g c =
    let calls = g.S.Site.Calls in
    let lists = g.S.Site.Lists in
    let begins = g.S.WatchSource.Begins in
    let watches = g.S.WatchSource.Watches in
    let no_more = has_stopped c.args.reader.now in
    let no_room = has_stopped c.args.writer.now in
    let unread = g.R.Read.remaining (device_in c.args.reader.now) in
    let held = g.W.Write.contents (device_in c.args.writer.now) in
    subst (λ p. Turns calls lists begins watches no_more no_room unread unread held held p phase.Answering) (sym c.in-Answering.is)
    (nothing_done calls lists begins watches no_more no_room unread held phase.Answering (λ read written d. tt))

pub returns-in-Closing-clause-turns : goal.returns-in-Closing-clause-turns
returns-in-Closing-clause-turns g c =
    let calls = g.S.Site.Calls in
    let lists = g.S.Site.Lists in
    let begins = g.S.WatchSource.Begins in
    let watches = g.S.WatchSource.Watches in
    let no_more = has_stopped c.args.reader.now in
    let no_room = has_stopped c.args.writer.now in
    let unread = g.R.Read.remaining (device_in c.args.reader.now) in
    let held = g.W.Write.contents (device_in c.args.writer.now) in
    subst (λ p. Turns calls lists begins watches no_more no_room unread unread held held p (phase.Closing c.in-Closing.served)) (sym c.in-Closing.is)
    (nothing_done calls lists begins watches no_more no_room unread held (phase.Closing c.in-Closing.served) (λ read written d. tt))
