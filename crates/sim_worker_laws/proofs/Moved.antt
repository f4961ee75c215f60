-- What holds of a follower after each move, by what the move can make of it.
use Rattle.std.proofs.Common.{◌≡◌, ◌==◌, ℕ, List, [], ◌∷◌, Bool, true, false, cond, Option, Some, None, Result, Ok, Err, length, map, take, drop, refl}
use Rattle.spec_api.specs.declared.kinds.Kind.{Kind}
use Rattle.spec_api.specs.Refusals.{Refusal}
use Rattle.spec_api.specs.Streams.{Line, event, bookmark}
use Rattle.spec_api.specs.Versions.{Watched}
use Rattle.spec_client_go.specs.declared.reflectors.Phase.{Phase}
use Rattle.spec_client_go.specs.declared.reflectors.Phase.TheVariants.{Listing, Streaming, Watching}
use Rattle.spec_client_go.specs.Reflectors.{Listed, Fed, fed}
use Rattle.spec_sim.specs.Followers.{Link, Follower, streaming_at, after_list, after_open, after_expiry, after_bytes, after_cut, after_publishing}
use Rattle.spec_sim.specs.Moves as moving
use Rattle.spec_sim.specs.Moves.{Moved, Answers, Move, list_in, take_list, listed_of, watch_in, open_by, stream_in, after_lines, after_refusal, after_initial, with_link, write_changes, send_next, send_on, write_bookmark, bookmark_next, bookmark_on, deliver_from, deliver_on, deliver_all_on, cut_on, left_open, publish_now, closed, move_by}

-- ---- one follower

module _ (P : Moved → Type 0) (k : Kind) (a : Answers) (f : Follower) (same : P (closed f)) (list : (l : Listed) → P (take_list k l f)) (opens : P (record { follower = after_open f; outcome = moving.opened k f.reflector.revision })) (streams : (l : Link) (r : ℕ) → P (record { follower = with_link l f; outcome = moving.streaming k r })) (expires : P (record { follower = after_expiry f; outcome = moving.expired k })) (links : (l : Link) (n : ℕ) → P (record { follower = with_link l f; outcome = moving.sent k n })) (takes : (r : Fed) (l : Option Link) → P (record { follower = after_bytes r l f; outcome = moving.fed k r.after.revision r.ended })) (cuts : P (record { follower = after_cut f; outcome = moving.was_cut k f.reflector.revision })) (publishes : P (publish_now k f)) where
  of_list : (p : Phase) → P (list_in k p a f)
  of_list Listing = list (listed_of k a)
  of_list Streaming = same
  of_list Watching = same

  of_open : (o : Result Watched Refusal) → P (open_by k o f)
  of_open (Ok w) = opens
  of_open (Err e) = expires

  of_watch : (p : Phase) (o : Option Link) → P (watch_in k p o a f)
  of_watch Watching None = of_open (a.watched f.reflector.revision 0)
  of_watch Watching (Some l) = same
  of_watch Listing o = same
  of_watch Streaming o = same

  of_stream : (p : Phase) (o : Option Link) → P (stream_in k p o a f)
  of_stream Streaming None = streams (streaming_at a.present a.members) a.present
  of_stream Streaming (Some l) = same
  of_stream Listing o = same
  of_stream Watching o = same

  of_changes : (o : Result Watched Refusal) (l : Link) → P (write_changes k o l f)
  of_changes (Ok w) l = links (after_lines k (map event w.events) w.stands l) (length w.events)
  of_changes (Err e) l = links (after_refusal e l) 1

  unless : (b : Bool) (m : Moved) → P m → P (cond b (closed f) m)
  unless true m is = same
  unless false m is = is

  of_next : (is : List Line) (n : ℕ) (l : Link) → P (send_next k is n a l f)
  of_next [] n l = of_changes (a.watched l.stands n) l
  of_next (i ∷ is) n l = links (after_initial k n l) (length (take n l.initial))

  of_send : (o : Option Link) (n : ℕ) → P (send_on k o n a f)
  of_send None n = same
  of_send (Some l) n = unless l.is_refused (send_next k l.initial n a l f) (of_next l.initial n l)

  mark_if : (b : Bool) (now : ℕ) (l : Link) → P (cond b (record { follower = with_link (after_lines k (bookmark now ∷ []) now l) f; outcome = moving.sent k 1 }) (closed f))
  mark_if true now l = links (after_lines k (bookmark now ∷ []) now l) 1
  mark_if false now l = same

  of_mark : (o : Result Watched Refusal) (now : ℕ) (l : Link) → P (write_bookmark k o now l f)
  of_mark (Ok w) now l = mark_if (w.stands == now) now l
  of_mark (Err e) now l = links (after_refusal e l) 1

  of_mark_next : (is : List Line) (l : Link) → P (bookmark_next k is a l f)
  of_mark_next [] l = of_mark (a.watched l.stands 0) a.present l
  of_mark_next (i ∷ is) l = same

  of_bookmark : (o : Option Link) → P (bookmark_on k o a f)
  of_bookmark None = same
  of_bookmark (Some l) = unless l.is_refused (bookmark_next k l.initial a l f) (of_mark_next l.initial l)

  of_bytes : (n : ℕ) (l : Link) → P (deliver_from k n l f)
  of_bytes n l = let r = fed f.reflector (take n l.unread) in takes r (left_open r.ended (record l { unread = drop n l.unread }))

  of_deliver : (o : Option Link) (n : ℕ) → P (deliver_on k o n f)
  of_deliver None n = same
  of_deliver (Some l) n = of_bytes n l

  of_all : (o : Option Link) → P (deliver_all_on k o f)
  of_all None = same
  of_all (Some l) = of_bytes (length l.unread) l

  of_cut : (o : Option Link) → P (cut_on k o f)
  of_cut None = same
  of_cut (Some l) = cuts

  pub by_moved : (m : Move) → P (move_by k a f m)
  by_moved moving.list = of_list f.reflector.phase
  by_moved moving.watch = of_watch f.reflector.phase f.link
  by_moved moving.stream = of_stream f.reflector.phase f.link
  by_moved (moving.send n) = of_send f.link n
  by_moved moving.send_bookmark = of_bookmark f.link
  by_moved (moving.deliver n) = of_deliver f.link n
  by_moved moving.deliver_all = of_all f.link
  by_moved moving.cut = of_cut f.link
  by_moved moving.publish = unless (f.reflector.revision == 0) (publish_now k f) publishes

-- what holds of the follower alone
pub by_move : (P : Follower → Type 0) (f : Follower) → P f → ((l : Listed) → P (after_list l f)) → P (after_open f) → P (after_expiry f) → ((l : Link) → P (with_link l f)) → ((r : Fed) (l : Option Link) → P (after_bytes r l f)) → P (after_cut f) → P (after_publishing f)
    → (k : Kind) (a : Answers) (m : Move) → P (move_by k a f m).follower
by_move P f same list opens expires links takes cuts publishes k a m = by_moved (λ (x : Moved). P x.follower) k a f same list opens (λ l r. links l) expires (λ l n. links l) takes cuts publishes m
