use Rattle.std.proofs.Common.{inl, refl, sym, subst, Some}
use Rattle.api_client.specs.Asked.{IsReadOn}
use Rattle.api_client.proofs.asking.RemoteApi.more.Goals as goal

pub returns-in-Some : goal.returns-in-Some
returns-in-Some g c =
    let new = c.read_more.new.watch in (
      subst (λ w. IsReadOn g.C.Reader.Read.remaining w c.read_more.result c.read_more.new.buf (Some new)) (sym c.in-Some.is) (inl (new, refl, c.read_more.ensures.more)),
      refl,
      (refl, refl),
    )
