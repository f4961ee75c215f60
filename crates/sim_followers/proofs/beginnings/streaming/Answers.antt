use Rattle.std.proofs.Common.{◌∙◌, ℕ, List, [], false, ap}
use Rattle.spec_api.specs.History.{viewed}
use Rattle.spec_api.specs.Streams.{Line}
use Rattle.spec_api.specs.WatchReplies.{added_events}
use Rattle.selector.specs.Views.{view_of}
use Rattle.spec_sim.specs.Followers.{Link}
use Rattle.sim_followers.specs.Openings.{initial_lines}
use Rattle.sim_followers.proofs.OpeningLines.{opening_is}
use Rattle.sim_followers.proofs.beginnings.streaming.Goals as goal

abbrev link_at : ℕ → List Line → Link
link_at r ls = record { stands = r; initial = ls; unread = []; is_refused = false }

pub returns : goal.returns
returns c =
    let i = c.in-Ok.initial in
    let given = c.in-Ok.ensures in
    let server = c.args.server.now.snapshot in
    let ms = viewed (view_of c.args.view.now) server.members in
    c.streaming_at.ensures
    ∙ ap (λ cs. link_at i.revision (initial_lines cs i.revision)) c.in_ok-events.ensures
    ∙ ap (λ ns. link_at i.revision (initial_lines (added_events i.revision ns) i.revision)) given.members
    ∙ ap (λ r. link_at r (initial_lines (added_events r ms) r)) given.revision
    ∙ ap (link_at server.revision) (opening_is server.revision ms)
