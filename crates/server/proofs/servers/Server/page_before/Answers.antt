use Rattle.std.proofs.Common.{ap, map, ◌∙◌}
use Rattle.spec_api.specs.History.{viewed}
use Rattle.spec_server.specs.Recorded.{undone}
use Rattle.spec_server.specs.Servers.{Server}
use Rattle.selector.specs.Views.{view_of}
use Rattle.store.specs.Chunks.{after_key}
use Rattle.store.specs.Snapshots.{ViewMembers}
use Rattle.watch_cache.specs.Changes.{change_seen}
use Rattle.server.specs.Pages.{text_at}
use Rattle.server.proofs.servers.Server.page_before.Goals as goal

pub returns : goal.returns
returns c =
    let r = c.args.revision in
    let n = c.args.limit in
    let v = view_of c.args.view.now in
    let ks = map change_seen c.args.changes.items in
    let key = after_key c.in_ok-after.after in
    ap (λ (s : ViewMembers). text_at r s.view (undone s.view s.members ks) n key) c.in_ok-objects.ensures
    ∙ ap (λ (s : Server). text_at r v (undone v (viewed v s.snapshot.members) ks) n key) c.self.view_is
    ∙ ap (λ p. text_at r v (undone v (viewed v c.args.self.now.snapshot.members) ks) n p) c.in_ok-after.ensures
