use Rattle.api_client.proofs.Sent.{watched_from}
use Rattle.api_client.proofs.asking.watch_from.Goals as goal

pub returns-in-Open : goal.returns-in-Open
returns-in-Open g c =
    watched_from g.R.Read.remaining c.args.reader c.new.result c.args.opened c.in-Open.is c.requires c.new.ensures.device c.new.ensures.place c.new.ensures.fault
