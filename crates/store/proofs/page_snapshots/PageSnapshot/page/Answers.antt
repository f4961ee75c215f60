use Rattle.std.proofs.Common.{◌≡◌, None, rules, sym, ap, subst, ◌∙◌}
use Rattle.spec_api.specs.History.{viewed}
use Rattle.spec_api.specs.Pages.{after_place}
use Rattle.selector.specs.Views.{view_of}
use Rattle.store.specs.Chunks.{after_key, IsPage}
use Rattle.store.specs.Seen.{members_seen}
use Rattle.store.specs.Snapshots.{ViewMembers}
use Rattle.store.specs.declared.chunks.Chunk.{Chunk}
use Rattle.store.proofs.AskedKeys.{after-none}
use Rattle.store.proofs.PageChunks.{is_page}
use Rattle.store.proofs.page_snapshots.PageSnapshot.page.Goals as goal

pub returns : goal.returns
returns c =
    let s = c.self.inside in
    let v = view_of s.view in
    let place = after_key s.after in
    let shown = viewed v (members_seen s.objects) in
    let rest = after_place place shown in
    let range = viewed v (members_seen c.in_ok-range.range) in
    let left = viewed v (members_seen c.first_members.new.range) in
    let chunk : Chunk = record { members = c.in_ok-members.members; remaining = c.remaining-remaining.result } in
    let same : after_key c.in_ok-after.after ≡ place = search rules in
    let is : range ≡ after_place None rest = c.in_ok-range.ensures.found ∙ ap (λ p. after_place p shown) same ∙ sym (after-none rest) in
    subst (λ (m : ViewMembers). IsPage m.view m.members c.args.limit None chunk) c.self.view_is
    (is_page v rest range c.args.limit None chunk left is c.in_ok-members.ensures.taken c.remaining-remaining.ensures)
