-- Each move leaves a follower that follows the server.
use Rattle.std.proofs.Common.{eqb-true, ◌≡◌, ◌≤◌, ◌==◌, ℕ, List, [], ◌∷◌, ◌++◌, length, map, take, drop, Bool, true, false, cond, is_some, Option, Some, None, Result, Ok, Err, refl, sym, ap, ◌∙◌, subst, arith, append-nil, append_assoc}
use Rattle.std.proofs.lemmas.List.{take-append-drop}
use Rattle.std.specs.List.{AllByRecursion}
use Rattle.spec_api.specs.declared.kinds.Kind.{Kind}
use Rattle.spec_api.specs.Frames.{frame_text, error_frame}
use Rattle.spec_api.specs.History.{History, present, list}
use Rattle.spec_api.specs.Events.{events}
use Rattle.spec_api.specs.Reached.{IsReached}
use Rattle.spec_api.specs.Refusals.{Refusal}
use Rattle.spec_api.specs.Streams.{Line, event, bookmark, AreEventsWithBookmarks, IsStream, text_of_lines}
use Rattle.spec_api.specs.Versions.{Watched, watched_from}
use Rattle.spec_api.specs.WatchReplies.{opening_lines}
use Rattle.spec_server.specs.Snapshots.{Snapshot}
use Rattle.spec_client_go.specs.declared.reflectors.Phase.{Phase}
use Rattle.spec_client_go.specs.declared.reflectors.Phase.TheVariants.{Listing, Streaming, Watching}
use Rattle.spec_client_go.specs.Informers.{all_applied}
use Rattle.spec_client_go.specs.Reflectors.{Fed, list_delta}
use Rattle.informer_laws.proofs.Publishing.{applied_both}
use Rattle.spec_laws.specs.SentLaws.{whole, listed_at}
use Rattle.spec_laws.proofs.Limited.{limited}
use Rattle.spec_laws.proofs.Looks.{streams_join, none_at}
use Rattle.spec_laws.proofs.SentLists.{lists_put}
use Rattle.spec_laws.proofs.StandingWatches.{given_stands}
use Rattle.reflector.specs.Laws.{IsReadBack}
use Rattle.spec_sim.specs.Followers.{Link, Follower}
use Rattle.spec_sim.specs.Moves as moving
use Rattle.spec_sim.specs.Moves.{Move, answers_after, list_in, watch_in, open_by, stream_in, after_lines, after_initial, after_refusal, with_link, write_changes, send_next, send_on, write_bookmark, bookmark_next, bookmark_on, left_open, deliver_from, deliver_on, deliver_all_on, cut_on, publish_by, publish_now, closed}
use Rattle.sim_cluster_laws.specs.FollowerLaws.{list_at, refusal_text, IsRefusalRead, Begins, watching, streaming, IsLinked, IsOpen, IsFollowing, MovesFollow}
use Rattle.sim_cluster_laws.proofs.Appending.{texts, all_two, events_alone}
use Rattle.sim_cluster_laws.proofs.Delivering.{delivers}
use Rattle.sim_cluster_laws.proofs.Feeding.{none_fed}
use Rattle.sim_cluster_laws.proofs.FramesRead.{events_back, bookmark_back}
use Rattle.sim_cluster_laws.proofs.OpeningsRead.{opening_back}
use Rattle.sim_cluster_laws.proofs.RefusalsRead.{refusal_back}

-- no refusal was written, if none is said to have been
none_refused : (o : Option Refusal) → is_some o ≡ false → o ≡ None
none_refused None is = refl
none_refused (Some e) is = cc

module _ (k : Kind) (h : History) (reached : IsReached h) where
  -- ---- lists

  lists : (p : Phase) (size : ℕ) (f : Follower) → IsFollowing h k f → IsFollowing h k (list_in k p (answers_after k size h) f).follower
  lists Watching size f is = is
  lists Streaming size f is = is
  lists Listing size f is =
      let l = listed_at h k (present h) in
      record {
        kind = is.kind;
        reached = omega arith;
        published = is.published;
        passed = omega (arith, is.passed, is.reached);
        pending = applied_both f.informer.published f.informer.pending (list_delta l ∷ []) ∙ (λ i. record { members = lists_put h k (present h) reached i; revision = present h });
        linked = record { holds = refl; initial = refl };
      }

  -- ---- watches

  -- a link on which nothing is written yet
  begins : (f : Follower) (a : ℕ) (opening : List Line) → a ≤ present h → Begins h k a f.reflector opening → AllByRecursion (IsReadBack k) opening → f.reflector.buffered ≡ [] → IsFollowing h k f
      → IsOpen h k f.reflector (record { stands = a; initial = opening; unread = []; is_refused = false })
  begins f a opening le start back empty is =
      let none = none_fed f.reflector empty in
      record {
        from = a;
        start = f.reflector;
        opening = opening;
        lines = [];
        refusal = None;
        read = [];
        kind = is.kind;
        begins = start;
        forward = omega arith;
        reached = le;
        stream = subst (λ cs. AreEventsWithBookmarks a a cs []) (sym (none_at h (whole k) a)) tt;
        lines_read = subst (AllByRecursion (IsReadBack k)) (sym (append-nil opening)) back;
        refusal_read = tt;
        is_refused = refl;
        bytes = ap (text_of_lines k) (sym (append-nil opening)) ∙ sym (append-nil (text_of_lines k (opening ++ [])));
        goes_on = ap (λ (z : Fed). z.ended) none;
        taken = ap (λ (z : Fed). z.after) (sym none);
      }

  opens : (o : Result Watched Refusal) (f : Follower) → f.reflector.phase ≡ Watching → f.link ≡ None → IsFollowing h k f → IsFollowing h k (open_by k o f).follower
  opens (Ok w) f watches none is =
      let clear = subst (IsLinked h k f.reflector) none is.linked in
      record {
        kind = is.kind;
        reached = is.reached;
        published = is.published;
        passed = is.passed;
        pending = is.pending;
        linked = begins f f.reflector.revision [] is.reached (watching (record { watches = watches; revision = refl; holds = clear.holds })) tt clear.holds is;
      }
  opens (Err e) f watches none is =
      record { kind = is.kind; reached = is.reached; published = is.published; passed = is.passed; pending = is.pending; linked = record { holds = refl; initial = refl } }

  watches : (p : Phase) (o : Option Link) (size : ℕ) (f : Follower) → f.reflector.phase ≡ p → f.link ≡ o → IsFollowing h k f → IsFollowing h k (watch_in k p o (answers_after k size h) f).follower
  watches Watching None size f phase none is = opens (watched_from size h (whole k) f.reflector.revision 0) f phase none is
  watches Watching (Some l) size f phase some is = is
  watches Listing o size f phase some is = is
  watches Streaming o size f phase some is = is

  -- ---- streams of initial events

  streams : (p : Phase) (o : Option Link) (size : ℕ) (f : Follower) → f.reflector.phase ≡ p → f.link ≡ o → IsFollowing h k f → IsFollowing h k (stream_in k p o (answers_after k size h) f).follower
  streams Streaming None size f phase none is =
      let clear = subst (IsLinked h k f.reflector) none is.linked in
      let now = present h in
      record {
        kind = is.kind;
        reached = is.reached;
        published = is.published;
        passed = is.passed;
        pending = is.pending;
        linked = begins f now (opening_lines true now (list h (whole k) now)) (omega arith)
            (streaming (record { streams = phase; initial = clear.initial; holds = clear.holds }) is.reached)
            (opening_back h k now reached (omega arith)) clear.holds is;
      }
  streams Streaming (Some l) size f phase some is = is
  streams Listing o size f phase some is = is
  streams Watching o size f phase some is = is

  -- ---- what is written

  -- a follower with another link
  relinked : (f : Follower) (l : Link) → IsFollowing h k f → IsLinked h k f.reflector (Some l) → IsFollowing h k (with_link l f)
  relinked f l is linked = record { kind = is.kind; reached = is.reached; published = is.published; passed = is.passed; pending = is.pending; linked = linked }

  -- all that was written, where no refusal was and no initial line is left
  all_open : (l : Link) (ls : List Line) (o : Option Refusal) (read : List ℕ) → l.initial ≡ [] → o ≡ None → read ++ (l.unread ++ text_of_lines k l.initial) ≡ text_of_lines k ls ++ refusal_text o
      → read ++ l.unread ≡ text_of_lines k ls
  all_open l ls o read none free is =
      ap (λ t. read ++ t) (sym (append-nil l.unread) ∙ ap (λ z. l.unread ++ text_of_lines k z) (sym none)) ∙ is ∙ ap (λ z. text_of_lines k ls ++ refusal_text z) free
      ∙ append-nil (text_of_lines k ls)

  -- and then these bytes are
  more_written : (l : Link) (read t all : List ℕ) → l.initial ≡ [] → read ++ l.unread ≡ all → read ++ ((l.unread ++ t) ++ text_of_lines k l.initial) ≡ all ++ t
  more_written l read t all none is =
      ap (λ z. read ++ ((l.unread ++ t) ++ text_of_lines k z)) none ∙ ap (λ z. read ++ z) (append-nil (l.unread ++ t)) ∙ sym (append_assoc read l.unread t) ∙ ap (λ z. z ++ t) is

  open_link : (l : Link) (f : Follower) → f.link ≡ Some l → IsFollowing h k f → IsOpen h k f.reflector l
  open_link l f some is = subst (IsLinked h k f.reflector) some is.linked

  refuses : (e : Refusal) (l : Link) (f : Follower) → f.link ≡ Some l → l.initial ≡ [] → l.is_refused ≡ false → IsRefusalRead e → IsFollowing h k f → IsFollowing h k (with_link (after_refusal e l) f)
  refuses e l f some none free back is =
      let was = open_link l f some is in
      let ls = was.opening ++ was.lines in
      let all = all_open l ls was.refusal was.read none (none_refused was.refusal (sym was.is_refused ∙ free)) was.bytes in
      relinked f (after_refusal e l) is
      (record {
        from = was.from;
        start = was.start;
        opening = was.opening;
        lines = was.lines;
        refusal = Some e;
        read = was.read;
        kind = was.kind;
        begins = was.begins;
        forward = was.forward;
        reached = was.reached;
        stream = was.stream;
        lines_read = was.lines_read;
        refusal_read = back;
        is_refused = refl;
        bytes = more_written l was.read (frame_text (error_frame e)) (text_of_lines k ls) none all;
        goes_on = was.goes_on;
        taken = was.taken;
      })

  writes : (ms : List Line) (b : ℕ) (l : Link) (f : Follower) → f.link ≡ Some l → l.initial ≡ [] → l.is_refused ≡ false → l.stands ≤ b → b ≤ present h → IsStream h (whole k) l.stands b ms
      → AllByRecursion (IsReadBack k) ms → IsFollowing h k f → IsFollowing h k (with_link (after_lines k ms b l) f)
  writes ms b l f some none free up to stream back is =
      let was = open_link l f some is in
      let ls = was.opening ++ was.lines in
      let joins = append_assoc was.opening was.lines ms in
      let all = all_open l ls was.refusal was.read none (none_refused was.refusal (sym was.is_refused ∙ free)) was.bytes in
      relinked f (after_lines k ms b l) is
      (record {
        from = was.from;
        start = was.start;
        opening = was.opening;
        lines = was.lines ++ ms;
        refusal = None;
        read = was.read;
        kind = was.kind;
        begins = was.begins;
        forward = omega (arith, was.forward, up);
        reached = to;
        stream = streams_join h (whole k) was.from l.stands b was.lines ms was.forward up was.stream stream;
        lines_read = subst (AllByRecursion (IsReadBack k)) joins (all_two (IsReadBack k) ls ms was.lines_read back);
        refusal_read = tt;
        is_refused = free;
        bytes = more_written l was.read (text_of_lines k ms) (text_of_lines k ls) none all ∙ sym (texts k ls ms) ∙ ap (text_of_lines k) joins
            ∙ sym (append-nil (text_of_lines k (was.opening ++ (was.lines ++ ms))));
        goes_on = was.goes_on;
        taken = was.taken;
      })

  -- the next initial lines, which are the next bytes of all
  begins_on : (n : ℕ) (l : Link) (f : Follower) → f.link ≡ Some l → IsFollowing h k f → IsFollowing h k (with_link (after_initial k n l) f)
  begins_on n l f some is =
      let was = open_link l f some is in
      let x = take n l.initial in
      let y = drop n l.initial in
      let parts : text_of_lines k x ++ text_of_lines k y ≡ text_of_lines k l.initial = sym (texts k x y) ∙ ap (text_of_lines k) (take-append-drop n l.initial) in
      relinked f (after_initial k n l) is
      (record {
        from = was.from;
        start = was.start;
        opening = was.opening;
        lines = was.lines;
        refusal = was.refusal;
        read = was.read;
        kind = was.kind;
        begins = was.begins;
        forward = was.forward;
        reached = was.reached;
        stream = was.stream;
        lines_read = was.lines_read;
        refusal_read = was.refusal_read;
        is_refused = was.is_refused;
        bytes = ap (λ t. was.read ++ t) (append_assoc l.unread (text_of_lines k x) (text_of_lines k y) ∙ ap (λ t. l.unread ++ t) parts) ∙ was.bytes;
        goes_on = was.goes_on;
        taken = was.taken;
      })

  stands_low : (l : Link) (f : Follower) → f.link ≡ Some l → IsFollowing h k f → l.stands ≤ present h
  stands_low l f some is = (open_link l f some is).reached

  sends_by : (o : Result Watched Refusal) (size n : ℕ) (l : Link) (f : Follower) → watched_from size h (whole k) l.stands n ≡ o → f.link ≡ Some l → l.initial ≡ [] → l.is_refused ≡ false → IsFollowing h k f
      → IsFollowing h k (write_changes k o l f).follower
  sends_by (Err e) size n l f given some none free is = refuses e l f some none free (refusal_back size h k l.stands n e reached (stands_low l f some is) given) is
  sends_by (Ok w) size n l f given some none free is =
      let s = (given_stands size h (whole k) l.stands n w given).3 in
      writes (map event w.events) w.stands l f some none free s.0 s.1 (subst (λ cs. AreEventsWithBookmarks l.stands w.stands cs (map event w.events)) (sym s.3) (events_alone l.stands w.stands w.events))
      (subst (λ cs. AllByRecursion (IsReadBack k) (map event cs)) s.3 (events_back h k l.stands w.stands reached s.0)) is

  sends_next : (is : List Line) (size n : ℕ) (l : Link) (f : Follower) → l.initial ≡ is → l.is_refused ≡ false → f.link ≡ Some l → IsFollowing h k f
      → IsFollowing h k (send_next k is n (answers_after k size h) l f).follower
  sends_next [] size n l f none free some is = sends_by (watched_from size h (whole k) l.stands n) size n l f refl some none free is
  sends_next (i ∷ more) size n l f left free some is = begins_on n l f some is

  sends_if : (b : Bool) (size n : ℕ) (l : Link) (f : Follower) → l.is_refused ≡ b → f.link ≡ Some l → IsFollowing h k f
      → IsFollowing h k (cond b (closed f) (send_next k l.initial n (answers_after k size h) l f)).follower
  sends_if true size n l f free some is = is
  sends_if false size n l f free some is = sends_next l.initial size n l f refl free some is

  sends : (o : Option Link) (size n : ℕ) (f : Follower) → f.link ≡ o → IsFollowing h k f → IsFollowing h k (send_on k o n (answers_after k size h) f).follower
  sends None size n f some is = is
  sends (Some l) size n f some is = sends_if l.is_refused size n l f refl some is

  -- ---- a bookmark

  marks_at : (b : Bool) (size : ℕ) (w : Watched) (l : Link) (f : Follower) → watched_from size h (whole k) l.stands 0 ≡ Ok w → (w.stands == present h) ≡ b → w.events ≡ [] → f.link ≡ Some l
      → l.initial ≡ [] → l.is_refused ≡ false → IsFollowing h k f
      → IsFollowing h k (cond b (record { follower = with_link (after_lines k (bookmark (present h) ∷ []) (present h) l) f; outcome = moving.sent k 1 }) (closed f)).follower
  marks_at false size w l f given at empty some none free is = is
  marks_at true size w l f given at empty some none free is =
      let s = (given_stands size h (whole k) l.stands 0 w given).3 in
      let here : w.stands ≡ present h = eqb-true w.stands (present h) at in
      let low = stands_low l f some is in
      let few : present h ≤ 9007199254740991 = (limited h reached).1 in
      let nothing : events h (whole k) l.stands (present h) ≡ [] = ap (events h (whole k) l.stands) (sym here) ∙ s.3 ∙ empty in
      writes (bookmark (present h) ∷ []) (present h) l f some none free low (omega arith)
      (subst (λ cs. AreEventsWithBookmarks l.stands (present h) cs (bookmark (present h) ∷ [])) (sym nothing) (low, omega arith, tt)) (bookmark_back k (present h) few, tt) is

  marks_by : (o : Result Watched Refusal) (size : ℕ) (l : Link) (f : Follower) → watched_from size h (whole k) l.stands 0 ≡ o → f.link ≡ Some l → l.initial ≡ [] → l.is_refused ≡ false → IsFollowing h k f
      → IsFollowing h k (write_bookmark k o (present h) l f).follower
  marks_by (Err e) size l f given some none free is = refuses e l f some none free (refusal_back size h k l.stands 0 e reached (stands_low l f some is) given) is
  marks_by (Ok w) size l f given some none free is =
      let first = (given_stands size h (whole k) l.stands 0 w given).2 in
      marks_at (w.stands == present h) size w l f given refl (sym (ap (λ (z : Watched). z.events) first)) some none free is

  marks_next : (is : List Line) (size : ℕ) (l : Link) (f : Follower) → l.initial ≡ is → l.is_refused ≡ false → f.link ≡ Some l → IsFollowing h k f
      → IsFollowing h k (bookmark_next k is (answers_after k size h) l f).follower
  marks_next [] size l f none free some is = marks_by (watched_from size h (whole k) l.stands 0) size l f refl some none free is
  marks_next (i ∷ more) size l f left free some is = is

  marks_if : (b : Bool) (size : ℕ) (l : Link) (f : Follower) → l.is_refused ≡ b → f.link ≡ Some l → IsFollowing h k f
      → IsFollowing h k (cond b (closed f) (bookmark_next k l.initial (answers_after k size h) l f)).follower
  marks_if true size l f free some is = is
  marks_if false size l f free some is = marks_next l.initial size l f refl free some is

  marks : (o : Option Link) (size : ℕ) (f : Follower) → f.link ≡ o → IsFollowing h k f → IsFollowing h k (bookmark_on k o (answers_after k size h) f).follower
  marks None size f some is = is
  marks (Some l) size f some is = marks_if l.is_refused size l f refl some is

  -- ---- what is read

  delivered_by : (o : Option Link) (n : ℕ) (f : Follower) → f.link ≡ o → IsFollowing h k f → IsFollowing h k (deliver_on k o n f).follower
  delivered_by None n f some is = is
  delivered_by (Some l) n f some is = delivers k h reached n l f (open_link l f some is) is

  all_delivered : (o : Option Link) (f : Follower) → f.link ≡ o → IsFollowing h k f → IsFollowing h k (deliver_all_on k o f).follower
  all_delivered None f some is = is
  all_delivered (Some l) f some is = delivered_by (Some l) (length l.unread) f some is

  cuts : (o : Option Link) (f : Follower) → IsFollowing h k f → IsFollowing h k (cut_on k o f).follower
  cuts None f is = is
  cuts (Some l) f is = record { kind = is.kind; reached = is.reached; published = is.published; passed = is.passed; pending = is.pending; linked = record { holds = refl; initial = refl } }

  -- ---- what is published

  publishes : (b : Bool) (f : Follower) → IsFollowing h k f → IsFollowing h k (cond b (closed f) (publish_now k f)).follower
  publishes true f is = is
  publishes false f is =
      let all = all_applied f.informer.published f.informer.pending in
      let named : all.revision ≡ f.reflector.revision = ap (λ (z : Snapshot). z.revision) is.pending in
      record {
        kind = is.kind;
        reached = is.reached;
        published = is.pending ∙ ap (list_at h k) (sym named);
        passed = omega (arith, named);
        pending = is.pending;
        linked = is.linked;
      }

  each : (size : ℕ) (f : Follower) (m : Move) → IsFollowing h k f → IsFollowing h k (moving.move k size h f m).follower
  each size f moving.list is = lists f.reflector.phase size f is
  each size f moving.watch is = watches f.reflector.phase f.link size f refl refl is
  each size f moving.stream is = streams f.reflector.phase f.link size f refl refl is
  each size f (moving.send n) is = sends f.link size n f refl is
  each size f moving.send_bookmark is = marks f.link size f refl is
  each size f (moving.deliver n) is = delivered_by f.link n f refl is
  each size f moving.deliver_all is = all_delivered f.link f refl is
  each size f moving.cut is = cuts f.link f is
  each size f moving.publish is = publishes (f.reflector.revision == 0) f is

pub moves_follow : MovesFollow
moves_follow k size h f m reached is = each k h reached size f m is
