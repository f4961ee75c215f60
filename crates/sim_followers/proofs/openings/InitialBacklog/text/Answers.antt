use Rattle.std.proofs.Common.{◌≡◌, ◌≤◌, ◌<◌, ◌++◌, true, ◌∙◌, ap, map, take, drop, length, string_bytes, rules}
use Rattle.spec_api.specs.Frames.{frame_text, bookmark_frame}
use Rattle.spec_api.specs.Streams.{text_of_lines}
use Rattle.revisions.specs.Events.{event_seen}
use Rattle.sim_followers.specs.Openings.{added_text}
use Rattle.sim_followers.proofs.InitialLines.{few_written, all_written}
use Rattle.sim_followers.proofs.openings.InitialBacklog.text.Goals as goal

pub returns-then-most-left : goal.returns-then-most-left
returns-then-most-left c =
    let o = c.self.inside in
    let rest : c.split_at.result.1.now ≡ drop o.written o.events.items = search rules in
    let le : c.args.most ≤ length (drop o.written o.events.items) = search rules in
    few_written event_seen c.args.kind o.is_closed o.written c.args.most o.events.items o.revision (string_bytes c.in_ok-objects.objects) c.if-self.false le
    (c.in_ok-objects.ensures ∙ ap (λ es. added_text (map event_seen es)) (c.split_at-then-most-left.ensures.front ∙ ap (take c.args.most) rest))
    ∙ ap (λ ls. text_of_lines c.args.kind (take c.args.most ls)) c.self.view_is

pub returns : goal.returns
returns c =
    let o = c.self.inside in
    let rest : c.split_at.result.1.now ≡ drop o.written o.events.items = search rules in
    let many : length (drop o.written o.events.items) < c.args.most = search rules in
    all_written event_seen c.args.kind o.is_closed o.written c.args.most o.events.items o.revision (string_bytes c.in_ok-all.all) c.if-self.false many
    (c.in_ok-all.ensures ∙ ap (λ es. added_text (map event_seen es) ++ frame_text (bookmark_frame c.args.kind true o.revision)) rest)
    ∙ ap (λ ls. text_of_lines c.args.kind (take c.args.most ls)) c.self.view_is
