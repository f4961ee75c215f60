use Rattle.std.proofs.Common.{ap, map, ◌∙◌}
use Rattle.spec_api.specs.Pages.{after_place}
use Rattle.spec_server.specs.Recorded.{undone}
use Rattle.store.specs.Chunks.{after_key}
use Rattle.store.specs.Snapshots.{ViewMembers}
use Rattle.watch_cache.specs.Changes.{change_seen}
use Rattle.server.specs.PageTexts.{first_page_text}
use Rattle.server.proofs.Pages.{text_after}
use Rattle.server.proofs.list_pages.ListPage.shared.Goals as goal

pub returns : goal.returns
returns c =
    let p = c.self.inside in
    let place = after_key p.after in
    let text = λ (s : ViewMembers). first_page_text p.revision p.limit (record { view = s.view; members = after_place place s.members }) in
    ap (first_page_text p.revision p.limit) c.after-objects.ensures ∙ ap text c.in_ok-undone.ensures
    ∙ text_after p.revision p.objects.view (undone p.objects.view p.objects.members (map change_seen p.changes.items)) p.limit place ∙ c.self.view_is
