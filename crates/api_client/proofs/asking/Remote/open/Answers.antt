use Rattle.std.proofs.Common.{subst, ◌∙◌}
use Rattle.api_client.specs.Asked.{IsOpened, connector_at, watch_at}
use Rattle.api_client.proofs.asking.Remote.open.Goals as goal

pub returns-in-Ok-clause-opened : goal.returns-in-Ok-clause-opened
returns-in-Ok-clause-opened g c =
    let after = c.begin.new.self in
    subst (λ t. IsOpened g.C.Connect.connects_to_watch g.C.Reader.Read.remaining g.C.Writer.Write.contents t (connector_at c.args.self.now) c.begin.result (connector_at after) (watch_at after))
    (c.deref.ensures.value ∙ c.in-Ok.ensures ∙ c.get.ensures) c.begin.ensures.opened
