use Rattle.spec_server.specs.Servers.{list_served}
use Rattle.request_parts.specs.Collected.{list_seen}
use Rattle.selector.specs.Views.{view_of}
use Rattle.line_session.proofs.Served.{list-refused}
use Rattle.line_session.proofs.sessions.Session.list.Goals as goal

pub returns-in-Err : goal.returns-in-Err
returns-in-Err c =
    list-refused (list_served c.args.self.now.server (view_of c.args.view.now) (list_seen c.args.options.now)) c.in-Err.fault (λ l. l.items) c.fault_line.result c.in-Err.ensures c.fault_line.ensures.text
    c.fault_line.ensures.memory
