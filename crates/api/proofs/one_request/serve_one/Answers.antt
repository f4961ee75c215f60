use Rattle.std.proofs.Common.{inl, Ok, Err}
use Rattle.chunked.specs.Devices.{device_of}
use Rattle.http_request_reader.specs.Receiving.{said}
use Rattle.api.proofs.Delivered.{delivered}
use Rattle.api.proofs.Done.{asks_said, asked_whole}
use Rattle.api.proofs.one_request.serve_one.Goals as goal

pub returns-in-Ok-deliver-clause-serves : goal.returns-in-Ok-deliver-clause-serves
returns-in-Ok-deliver-clause-serves g c =
    inl (
      said c.in-Ok.received,
      asks_said (g.R.Read.remaining (device_of c.args.reader.now)) c.in-Ok.received c.in-Ok.ensures.asks,
      delivered g.S.Site.Calls g.S.Site.Lists g.S.WatchSource.Begins g.S.WatchSource.Watches g.W.Write.contents c.args.moment c.args.site.now c.respond-response.new.site c.deliver.new.site
          c.args.writer.now c.deliver.new.writer (said c.in-Ok.received) c.respond-response.result (Ok c.in-Ok-deliver.field-0) c.respond-response.ensures.responds c.in-Ok-deliver.ensures,
    )

pub returns-in-Err-clause-serves : goal.returns-in-Err-clause-serves
returns-in-Err-clause-serves g c =
    inl (
      said c.in-Ok.received,
      asks_said (g.R.Read.remaining (device_of c.args.reader.now)) c.in-Ok.received c.in-Ok.ensures.asks,
      delivered g.S.Site.Calls g.S.Site.Lists g.S.WatchSource.Begins g.S.WatchSource.Watches g.W.Write.contents c.args.moment c.args.site.now c.respond-response.new.site c.deliver.new.site
          c.args.writer.now c.deliver.new.writer (said c.in-Ok.received) c.respond-response.result (Err c.in-Err.fault) c.respond-response.ensures.responds c.in-Err.ensures,
    )

pub returns-in-Ok-deliver-clause-asked : goal.returns-in-Ok-deliver-clause-asked
returns-in-Ok-deliver-clause-asked g c is =
    let input = g.R.Read.remaining (device_of c.args.reader.now) in
    asked_whole input (said c.in-Ok.received) c.served_by-served.result (asks_said input c.in-Ok.received c.in-Ok.ensures.asks) c.served_by-served.ensures is
