use Rattle.std.proofs.Common.{subst, ◌∙◌}
use Rattle.api_client.specs.Asked.{IsOpened, connector_at, watch_at}
use Rattle.api_client.specs.Outgoing.{get_text}
use Rattle.api_client.proofs.asking.RemoteApi.open_stream.Goals as goal

pub returns-in-Ok : goal.returns-in-Ok
returns-in-Ok g c =
    let after = c.open.new.self in (
      subst (λ t. IsOpened g.C.Connect.connects_to_watch g.C.Reader.Read.remaining g.C.Writer.Write.contents (get_text t) (connector_at c.args.self.now) c.open.result (connector_at after) (watch_at after))
          (c.as_str.ensures.value ∙ c.in-Ok.ensures.target) c.open.ensures.opened,
      c.open.ensures.stays,
    )
