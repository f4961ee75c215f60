use Rattle.std.proofs.Common.{◌++◌, map, ap, ◌∙◌}
use Rattle.http_response.specs.Frames.{change_frames}
use Rattle.revisions.specs.Events.{event_seen}
use Rattle.http_watch.proofs.LineFrames.{look_none, look_some}
use Rattle.http_watch.proofs.frames.push_look.Goals as goal

pub returns-in-None : goal.returns-in-None
returns-in-None c =
    look_none c.args.kind c.args.text.now.items c.push_changes.new.text.items (map event_seen c.args.watched.now.events.items) c.args.bookmark
    (c.in_ok-push_changes.ensures ∙ ap (λ es. c.args.text.now.items ++ change_frames (map event_seen es)) c.deref.ensures.value) c.in-None.is

pub returns-in-Some : goal.returns-in-Some
returns-in-Some c =
    look_some c.args.kind c.args.text.now.items c.push_changes.new.text.items c.push_bookmark.new.text.items (map event_seen c.args.watched.now.events.items) c.args.bookmark
    c.in-Some.revision c.push_bookmark.result
    (c.in_ok-push_changes.ensures ∙ ap (λ es. c.args.text.now.items ++ change_frames (map event_seen es)) c.deref.ensures.value) c.push_bookmark.ensures c.in-Some.is
