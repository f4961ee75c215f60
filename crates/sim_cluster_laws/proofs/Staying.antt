-- Moves that take nothing in, and publish nothing.
use Rattle.std.proofs.Common.{◌≡◌, ◌==◌, ℕ, List, [], ◌∷◌, Bool, true, false, cond, Option, Some, None, Result, Ok, Err, refl}
use Rattle.spec_api.specs.declared.kinds.Kind.{Kind}
use Rattle.spec_api.specs.History.{History, present}
use Rattle.spec_api.specs.Refusals.{Refusal}
use Rattle.spec_api.specs.Streams.{Line, bookmark}
use Rattle.spec_api.specs.Versions.{Watched, watched_from}
use Rattle.spec_client_go.specs.declared.reflectors.Phase.{Phase}
use Rattle.spec_client_go.specs.declared.reflectors.Phase.TheVariants.{Listing, Streaming, Watching}
use Rattle.spec_laws.specs.SentLaws.{whole}
use Rattle.spec_sim.specs.Followers.{Link, Follower}
use Rattle.spec_sim.specs.Moves as moving
use Rattle.spec_sim.specs.Moves.{Moved, answers_after, watch_in, open_by, stream_in, after_lines, with_link, write_changes, send_next, send_on, write_bookmark, bookmark_next, bookmark_on, cut_on, closed}

module _ (k : Kind) (h : History) (f : Follower) where
  -- what is published, and what waits, stays
  abbrev pub Stays : Moved → Type 0
  Stays m = m.follower.informer ≡ f.informer

  of_open : (o : Result Watched Refusal) → Stays (open_by k o f)
  of_open (Ok w) = refl
  of_open (Err e) = refl

  pub of_watch : (p : Phase) (o : Option Link) (size : ℕ) → Stays (watch_in k p o (answers_after k size h) f)
  of_watch Watching None size = of_open (watched_from size h (whole k) f.reflector.revision 0)
  of_watch Watching (Some l) size = refl
  of_watch Listing o size = refl
  of_watch Streaming o size = refl

  pub of_stream : (p : Phase) (o : Option Link) (size : ℕ) → Stays (stream_in k p o (answers_after k size h) f)
  of_stream Streaming None size = refl
  of_stream Streaming (Some l) size = refl
  of_stream Listing o size = refl
  of_stream Watching o size = refl

  of_changes : (o : Result Watched Refusal) (l : Link) → Stays (write_changes k o l f)
  of_changes (Ok w) l = refl
  of_changes (Err e) l = refl

  unless : (b : Bool) (m : Moved) → Stays m → Stays (cond b (closed f) m)
  unless true m is = refl
  unless false m is = is

  of_next : (is : List Line) (n size : ℕ) (l : Link) → Stays (send_next k is n (answers_after k size h) l f)
  of_next [] n size l = of_changes (watched_from size h (whole k) l.stands n) l
  of_next (i ∷ is) n size l = refl

  pub of_send : (o : Option Link) (n size : ℕ) → Stays (send_on k o n (answers_after k size h) f)
  of_send None n size = refl
  of_send (Some l) n size = unless l.is_refused (send_next k l.initial n (answers_after k size h) l f) (of_next l.initial n size l)

  mark_if : (b : Bool) (now : ℕ) (l : Link) → Stays (cond b (record { follower = with_link (after_lines k (bookmark now ∷ []) now l) f; outcome = moving.sent k 1 }) (closed f))
  mark_if true now l = refl
  mark_if false now l = refl

  of_mark : (o : Result Watched Refusal) (now : ℕ) (l : Link) → Stays (write_bookmark k o now l f)
  of_mark (Ok w) now l = mark_if (w.stands == now) now l
  of_mark (Err e) now l = refl

  mark_next : (is : List Line) (size : ℕ) (l : Link) → Stays (bookmark_next k is (answers_after k size h) l f)
  mark_next [] size l = of_mark (watched_from size h (whole k) l.stands 0) (present h) l
  mark_next (i ∷ is) size l = refl

  pub of_bookmark : (o : Option Link) (size : ℕ) → Stays (bookmark_on k o (answers_after k size h) f)
  of_bookmark None size = refl
  of_bookmark (Some l) size = unless l.is_refused (bookmark_next k l.initial (answers_after k size h) l f) (mark_next l.initial size l)

  pub of_cut : (o : Option Link) → Stays (cut_on k o f)
  of_cut None = refl
  of_cut (Some l) = refl
