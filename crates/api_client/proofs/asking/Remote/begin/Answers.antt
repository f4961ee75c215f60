use Rattle.chunked.specs.Devices.{device_of}
use Rattle.api_client.specs.Asked.{connector_at}
use Rattle.api_client.proofs.Sent.{opened_over}
use Rattle.api_client.proofs.asking.Remote.begin.Goals as goal

pub returns-clause-opened : goal.returns-clause-opened
returns-clause-opened g c =
    opened_over g.C.Connect.connects_to_watch g.C.Reader.Read.remaining g.C.Writer.Write.contents c.args.text.now (connector_at c.args.self.now) c.connect_to_watch.new.self c.in-Ok.ends
    c.new-reader.result c.new-writer.result c.begin_watch-opened.new.writer (g.C.Reader.Read.remaining (device_of c.begin_watch-opened.new.reader)) c.begin_watch-opened.result c.watch_from.result
    c.in-Ok.ensures.made c.new-reader.ensures.device c.new-writer.ensures.device c.new-writer.ensures.failed c.begin_watch-opened.ensures.begun c.watch_from.ensures
