-- Each move leaves deltas that skip nothing.
use Rattle.std.proofs.Common.{◌≡◌, ◌==◌, inl, ℕ, [], ◌∷◌, ◌++◌, length, take, drop, Bool, true, false, cond, Option, Some, None, refl, sym, ap, ◌∙◌, subst, append_assoc}
use Rattle.std.proofs.lemmas.List.{take-append-drop}
use Rattle.spec_api.specs.declared.kinds.Kind.{Kind}
use Rattle.spec_api.specs.History.{History, present}
use Rattle.spec_api.specs.Reached.{IsReached}
use Rattle.spec_api.specs.Streams.{text_of_lines}
use Rattle.spec_client_go.specs.declared.reflectors.Phase.{Phase}
use Rattle.spec_client_go.specs.declared.reflectors.Phase.TheVariants.{Listing, Streaming, Watching}
use Rattle.spec_client_go.specs.Informers.{Informer}
use Rattle.spec_client_go.specs.Reflectors.{Reflector, fed, list_delta}
use Rattle.spec_laws.specs.SentLaws.{listed_at}
use Rattle.spec_sim.specs.Followers.{Link, Follower}
use Rattle.spec_sim.specs.Moves as moving
use Rattle.spec_sim.specs.Moves.{Move, Moved, answers_after, list_in, deliver_from, deliver_on, deliver_all_on, publish_now, closed}
use Rattle.sim_cluster_laws.specs.FollowerLaws.{list_at, IsLinked, IsOpen, IsFollowing}
use Rattle.sim_cluster_laws.specs.PassLaws.{Passes, IsPassed, MovesPass}
use Rattle.sim_cluster_laws.proofs.Delivering.{sendable}
use Rattle.sim_cluster_laws.proofs.Passing.{passes_both, further_passes}
use Rattle.sim_cluster_laws.proofs.Staying.{Stays, of_watch, of_stream, of_send, of_bookmark, of_cut}

-- ---- moves that take nothing in

stays : (k : Kind) (h : History) (f : Follower) (m : Moved) → Stays k h f m → IsPassed h k f → IsPassed h k m.follower
stays k h f m same passed = subst (λ (i : Informer). Passes h k i.published i.pending) (sym same) passed

-- ---- what is taken in, and what is published

module _ (k : Kind) (h : History) (happened : IsReached h) where
  lists : (p : Phase) (size : ℕ) (f : Follower) → IsPassed h k f → IsPassed h k (list_in k p (answers_after k size h) f).follower
  lists Watching size f passed = passed
  lists Streaming size f passed = passed
  lists Listing size f passed = passes_both h k f.informer.published f.informer.pending (list_delta (listed_at h k (present h)) ∷ []) passed (inl tt, tt)

  delivers : (n : ℕ) (l : Link) (f : Follower) → IsOpen h k f.reflector l → IsFollowing h k f → IsPassed h k f → IsPassed h k (deliver_from k n l f).follower
  delivers n l f was is passed =
      let g = fed f.reflector (take n l.unread) in
      passes_both h k f.informer.published f.informer.pending g.deltas passed (subst (λ s. Passes h k s g.deltas) (sym is.pending) (gives_passes f.reflector l n was))
    where
      gives_passes : (s : Reflector) (l : Link) (n : ℕ) → IsOpen h k s l → Passes h k (list_at h k s.revision) (fed s (take n l.unread)).deltas
      gives_passes s l n was =
          let x = take n l.unread in
          let y = drop n l.unread in
          let rest = text_of_lines k l.initial in
          let parts : x ++ (y ++ rest) ≡ l.unread ++ rest = sym (append_assoc x y rest) ∙ ap (λ t. t ++ rest) (take-append-drop n l.unread) in
          subst (λ (t : Reflector). Passes h k (list_at h k t.revision) (fed t x).deltas) (sym was.taken)
          (further_passes h k was.from l.stands was.start was.opening was.lines was.refusal happened was.kind was.begins (sendable k h happened s l was) was.lines_read was.refusal_read was.reached was.read x (y ++ rest)
          was.goes_on (ap (λ t. was.read ++ t) parts ∙ was.bytes))

  delivered_by : (o : Option Link) (n : ℕ) (f : Follower) → f.link ≡ o → IsFollowing h k f → IsPassed h k f → IsPassed h k (deliver_on k o n f).follower
  delivered_by None n f some is passed = passed
  delivered_by (Some l) n f some is passed = delivers n l f (subst (IsLinked h k f.reflector) some is.linked) is passed

  all_delivered : (o : Option Link) (f : Follower) → f.link ≡ o → IsFollowing h k f → IsPassed h k f → IsPassed h k (deliver_all_on k o f).follower
  all_delivered None f some is passed = passed
  all_delivered (Some l) f some is passed = delivered_by (Some l) (length l.unread) f some is passed

  publishes : (b : Bool) (f : Follower) → IsPassed h k f → IsPassed h k (cond b (closed f) (publish_now k f)).follower
  publishes true f passed = passed
  publishes false f passed = tt

  each : (size : ℕ) (f : Follower) (m : Move) → IsFollowing h k f → IsPassed h k f → IsPassed h k (moving.move k size h f m).follower
  each size f moving.list is passed = lists f.reflector.phase size f passed
  each size f moving.watch is passed = stays k h f (moving.move k size h f moving.watch) (of_watch k h f f.reflector.phase f.link size) passed
  each size f moving.stream is passed = stays k h f (moving.move k size h f moving.stream) (of_stream k h f f.reflector.phase f.link size) passed
  each size f (moving.send n) is passed = stays k h f (moving.move k size h f (moving.send n)) (of_send k h f f.link n size) passed
  each size f moving.send_bookmark is passed = stays k h f (moving.move k size h f moving.send_bookmark) (of_bookmark k h f f.link size) passed
  each size f (moving.deliver n) is passed = delivered_by f.link n f refl is passed
  each size f moving.deliver_all is passed = all_delivered f.link f refl is passed
  each size f moving.cut is passed = stays k h f (moving.move k size h f moving.cut) (of_cut k h f f.link) passed
  each size f moving.publish is passed = publishes (f.reflector.revision == 0) f passed

pub moves_pass : MovesPass
moves_pass k size h f m happened is passed = each k h happened size f m is passed
