use Rattle.api_client.specs.Asked.{connector_at}
use Rattle.api_client.proofs.Sent.{sent_over}
use Rattle.api_client.proofs.asking.Remote.send_text.Goals as goal

pub returns-in-Ok-clause-sent : goal.returns-in-Ok-clause-sent
returns-in-Ok-clause-sent g c =
    sent_over g.C.Connect.connects g.C.Reader.Read.remaining g.C.Writer.Write.contents c.args.most c.args.text.now (connector_at c.args.self.now) c.connect.new.self (c.in-Ok.reader, c.in-Ok.writer)
    c.new.result c.new-writer.result c.send_and_read.new.writer c.send_and_read.result c.in-Ok.ensures.made c.new.ensures.device c.new-writer.ensures.device c.new-writer.ensures.failed
    c.send_and_read.ensures
