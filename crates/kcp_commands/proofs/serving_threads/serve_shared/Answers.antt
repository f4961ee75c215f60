use Rattle.std.proofs.Common.{map, max, refl, ◌∙◌}
use Rattle.kcp_loopback.proofs.Threads.{begun}
use Rattle.kcp_loopback.specs.Serving.{seat_of}
use Rattle.kcp_loopback.specs.Threads.{Begin}
use Rattle.desk.specs.Desks.{known}
use Rattle.desk.specs.Seats.{known_at}
use Rattle.kcp_commands.proofs.Served.{served_all, served_some, said_at}
use Rattle.kcp_commands.proofs.serving_threads.serve_shared.Goals as goal

pub returns-clause-said : goal.returns-clause-said
returns-clause-said g c = said_at _ c.run_loops.result _ c.run_loops.ensures.said

pub returns-clause-ok : goal.returns-clause-ok
returns-clause-ok g c =
    let options = c.args.options in
    let count = max options.threads 1 in
    let row = c.in-Ok-event_loops.row.items in
    let begin : Begin g.row.R.Denot options.window count (map seat_of row) =
    begun known (λ e. known_at (seat_of e)) (λ k. k.name) (λ e. refl) c.args.passes.items row count c.in-Ok-event_loops.ensures.known c.requires.names c.requires.count
    c.args.shared.now.desk.now options.window c.requires.window c.in-Ok-event_loops.ensures.new c.in-Ok-event_loops.ensures.count in
    served_all options.window count row begin options.requests c.run_loops.result c.run_loops.ensures.ok

pub returns-clause-err : goal.returns-clause-err
returns-clause-err g c =
    let options = c.args.options in
    let count = max options.threads 1 in
    let row = c.in-Ok-event_loops.row.items in
    let begin : Begin g.row.R.Denot options.window count (map seat_of row) =
    begun known (λ e. known_at (seat_of e)) (λ k. k.name) (λ e. refl) c.args.passes.items row count c.in-Ok-event_loops.ensures.known c.requires.names c.requires.count
    c.args.shared.now.desk.now options.window c.requires.window c.in-Ok-event_loops.ensures.new c.in-Ok-event_loops.ensures.count in
    served_some options.window count row begin _ options.requests c.run_loops.result c.run_loops.ensures.err
