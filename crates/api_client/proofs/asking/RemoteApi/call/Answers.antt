use Rattle.std.proofs.Common.{rules, ◌≡◌, true}
use Rattle.http_client.specs.Calls.{text_of}
use Rattle.request_parts.specs.Requests.{request_of}
use Rattle.request_encoding.specs.Texts.{can_be_told}
use Rattle.api_client.proofs.Sent.{called_by}
use Rattle.api_client.specs.Asked.{connector_at, limits_of}
use Rattle.api_client.proofs.asking.RemoteApi.call.Goals as goal

pub returns-in-Ok : goal.returns-in-Ok
returns-in-Ok g c =
    let told : can_be_told (request_of c.args.request.now) ≡ true = search rules in (
      called_by g.C.Connect.connects g.C.Reader.Read.remaining g.C.Writer.Write.contents (limits_of c.args.self.now).object (text_of c.outgoing.result) (request_of c.args.request.now) c.in-Ok.text
          (connector_at c.args.self.now) (connector_at c.send.new.self) c.send.result told c.in-Ok.ensures.asks c.outgoing.ensures c.send.ensures.sent,
      c.send.ensures.keeps,
    )
