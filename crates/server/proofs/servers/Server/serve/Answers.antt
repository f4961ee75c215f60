use Rattle.std.proofs.Common.{◌≡◌, false, subst}
use Rattle.spec_server.specs.Servers.{Server}
use Rattle.spec_api.specs.Verbs.{overflows}
use Rattle.meta.specs.Writes.{write_of}
use Rattle.request_parts.specs.Requests.{request_of}
use Rattle.server.proofs.Served.{served_room}
use Rattle.server.proofs.servers.Server.serve.Goals as goal

pub take-requires : goal.take-requires
take-requires c =
    subst (λ (z : Server). overflows z.snapshot.members z.snapshot.revision (write_of c.in-Some.write) ≡ false) c.self.view_is
    (served_room c.self.inside.store.members c.self.inside.store.revision c.args.moment (request_of c.args.request) c.in_ok-reply.reply c.in_ok-reply.write c.in-Some.write c.in_ok-reply.ensures c.in-Some.is)
