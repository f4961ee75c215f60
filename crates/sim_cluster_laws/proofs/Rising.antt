-- The revision that is published never falls.
use Rattle.std.proofs.Common.{◌≡◌, ◌≤◌, ◌==◌, ℕ, Bool, true, false, cond, Option, Some, None, refl, ap, arith}
use Rattle.spec_api.specs.declared.kinds.Kind.{Kind}
use Rattle.spec_api.specs.History.{History}
use Rattle.spec_server.specs.Snapshots.{Snapshot}
use Rattle.spec_client_go.specs.declared.reflectors.Phase.{Phase}
use Rattle.spec_client_go.specs.declared.reflectors.Phase.TheVariants.{Listing, Streaming, Watching}
use Rattle.spec_client_go.specs.Informers.{Informer, all_applied}
use Rattle.spec_sim.specs.Followers.{Link, Follower}
use Rattle.spec_sim.specs.Moves as moving
use Rattle.spec_sim.specs.Moves.{Move, Moved, answers_after, list_in, deliver_on, deliver_all_on, publish_now, closed}
use Rattle.sim_cluster_laws.specs.FollowerLaws.{IsFollowing, MovesRise}
use Rattle.sim_cluster_laws.proofs.Staying.{Stays, of_watch, of_stream, of_send, of_bookmark, of_cut}

abbrev named : Follower → ℕ
named f = f.informer.published.revision

module _ (k : Kind) (h : History) (f : Follower) where
  same : (m : Moved) → Stays k h f m → named m.follower ≡ named f
  same m is = ap (λ (i : Informer). i.published.revision) is

  of_list : (p : Phase) (size : ℕ) → named (list_in k p (answers_after k size h) f).follower ≡ named f
  of_list Listing size = refl
  of_list Watching size = refl
  of_list Streaming size = refl

  of_deliver : (o : Option Link) (n : ℕ) → named (deliver_on k o n f).follower ≡ named f
  of_deliver None n = refl
  of_deliver (Some l) n = refl

  of_all : (o : Option Link) → named (deliver_all_on k o f).follower ≡ named f
  of_all None = refl
  of_all (Some l) = refl

  of_publish : (b : Bool) → IsFollowing h k f → named f ≤ named (cond b (closed f) (publish_now k f)).follower
  of_publish true is = omega arith
  of_publish false is =
      let up : (all_applied f.informer.published f.informer.pending).revision ≡ f.reflector.revision = ap (λ (z : Snapshot). z.revision) is.pending in
      omega (arith, up, is.passed)

  each : (size : ℕ) (m : Move) → IsFollowing h k f → named f ≤ named (moving.move k size h f m).follower
  each size moving.list is = omega (arith, of_list f.reflector.phase size)
  each size moving.watch is = omega (arith, same (moving.move k size h f moving.watch) (of_watch k h f f.reflector.phase f.link size))
  each size moving.stream is = omega (arith, same (moving.move k size h f moving.stream) (of_stream k h f f.reflector.phase f.link size))
  each size (moving.send n) is = omega (arith, same (moving.move k size h f (moving.send n)) (of_send k h f f.link n size))
  each size moving.send_bookmark is = omega (arith, same (moving.move k size h f moving.send_bookmark) (of_bookmark k h f f.link size))
  each size (moving.deliver n) is = omega (arith, of_deliver f.link n)
  each size moving.deliver_all is = omega (arith, of_all f.link)
  each size moving.cut is = omega (arith, same (moving.move k size h f moving.cut) (of_cut k h f f.link))
  each size moving.publish is = of_publish (f.reflector.revision == 0) is

pub rise : MovesRise
rise k size h f m is = each k h f size m is
