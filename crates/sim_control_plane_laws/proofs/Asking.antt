-- What workers ask of the server can be read of bytes.
use Rattle.std.proofs.Common.{◌<◌, ◌^◌, ◌==◌, ℕ, List, [], ◌∷◌, ◌++◌, length, Bool, true, false, cond, Option, Some, None, IfSome, sym, subst, arith}
use Rattle.std.specs.List.{AllByRecursion}
use Rattle.spec_api.specs.declared.kinds.Kind.{Kind}
use Rattle.spec_api.specs.declared.kinds.Kind.TheVariants.{ConfigMap, Pod, ReplicaSet, Deployment}
use Rattle.spec_api.specs.Kinds.{rank}
use Rattle.spec_api.specs.Reached.{IsParsed, CanBeRead}
use Rattle.spec_server.specs.Snapshots.{Snapshot}
use Rattle.spec_client_go.specs.declared.controller.Controller.{Controller}
use Rattle.spec_client_go.specs.declared.controller.Controller.TheVariants as controller
use Rattle.spec_client_go.specs.Commands.{Command, create, update, update_status, delete}
use Rattle.spec_client_go.specs.Hands.{Hand, Read}
use Rattle.spec_client_go.specs.WorkQueues.{WorkKey, handed}
use Rattle.spec_laws.specs.AskedLaws.{AreStored, IsOfServer, CanBeAsked, AllCanBeAsked}
use Rattle.spec_laws.proofs.AskedPlans.{plans_asked}
use Rattle.spec_sim.specs.Managers.{Client, Manager, Action, Acted, Delivery, delivered, answer_lost, dropped, take_key, carry_out, act, reaching, requested}
use Rattle.spec_sim.specs.NextSteps.{NextStep, look, ask_satisfied, read, expect, issue, finish, next}
use Rattle.spec_sim.specs.Turns.{Turn, Sight, looked, satisfied, hand, shown, commands, plan_by}
use Rattle.sim_worker_laws.specs.IssuedLaws.{IsSeen, commands_of}
use Rattle.sim_worker_laws.proofs.Acting.{by_act}
use Rattle.sim_worker_laws.proofs.Following.{Follows, AllFollow, at_place}
use Rattle.sim_worker_laws.proofs.Nexts.{Stands, to_look, to_ask, to_read, to_expect, to_issue, to_finish, stands}

-- ---- what was seen is as the server stores it

abbrev pub IsStoredLook : Kind → Snapshot → Type 0
IsStoredLook k s = AreStored s.members × (length s.members < 2 ^ 64)

abbrev pub IsStoredRead : Read → Type 0
IsStoredRead r = IfSome r.found IsParsed

shown_stored : (k : Kind) (ss : List Sight) → AllByRecursion (IsSeen IsStoredLook) ss → AreStored (shown k ss) × (length (shown k ss) < 2 ^ 64)
shown_stored k [] a = (tt, omega arith)
shown_stored k (looked j s ∷ ss) a = by (rank k == rank j) (shown_stored k ss a.1)
  where
    by : (b : Bool) → AreStored (shown k ss) × (length (shown k ss) < 2 ^ 64) → AreStored (cond b s.members (shown k ss)) × (length (cond b s.members (shown k ss)) < 2 ^ 64)
    by true rest = a.0
    by false rest = rest
shown_stored k (satisfied b ∷ ss) a = shown_stored k ss a.1

hand_of_server : (t : Turn) → AllByRecursion (IsSeen IsStoredLook) t.sights → AllByRecursion IsStoredRead t.reads → IsOfServer (hand t)
hand_of_server t looks reads =
    record {
      config_maps = (shown_stored ConfigMap t.sights looks).0;
      pods = (shown_stored Pod t.sights looks).0;
      replica_sets = (shown_stored ReplicaSet t.sights looks).0;
      deployments = (shown_stored Deployment t.sights looks).0;
      few = (shown_stored Pod t.sights looks).1;
      reads = reads;
    }

-- ---- what is asked

all_asked : (c : Controller) (h : Hand) → IsOfServer h → AllCanBeAsked (plan_by c h)
unfolding plan_by
all_asked controller.ReplicaSet h is = plans_asked.of_replica_sets h is
all_asked controller.Deployment h is = plans_asked.of_deployments h is
all_asked controller.Collector h is = plans_asked.of_the_collector h is

one_of : (xs : List Command) (x : Command) (rest : List Command) → AllCanBeAsked (xs ++ x ∷ rest) → CanBeAsked x
one_of [] x rest a = a.0
one_of (y ∷ xs) x rest a = one_of xs x rest a.1

read_of : (t : Turn) (x : Command) → CanBeAsked x → CanBeRead (requested t x)
read_of t (create kind ns d) a = a
read_of t (update k d) a = a
read_of t (update_status k d) a = a
read_of t (delete k u v p) a = tt

reached : (d : Delivery) (t : Turn) (x : Command) → CanBeRead (requested t x) → IfSome (reaching d (requested t x)) CanBeRead
reached delivered t x a = a
reached answer_lost t x a = a
reached dropped t x a = tt

module _ (c : Client) (w : ℕ) (m : Manager) where
  abbrev CanRead : Acted → Type 0
  CanRead a = IfSome a.request CanBeRead

  takes : (o : Option WorkKey) → CanRead (take_key w o m)
  takes None = tt
  takes (Some k) = tt

  goes_on : (t : Turn) (d : Delivery) → Follows IsStoredLook IsStoredRead t → (n : NextStep) → Stands t n → CanRead (carry_out c w t d n m)
  goes_on t d is (look k) (to_look _ rest u) = tt
  goes_on t d is ask_satisfied (to_ask rest u) = tt
  goes_on t d is (read k) (to_read _ rest u a) = tt
  goes_on t d is (expect e) (to_expect _ u a none some) = tt
  goes_on t d is (issue x) (to_issue _ rest u a expects accepted e) =
      let all : AllCanBeAsked (commands t) = all_asked t.work_key.controller (hand t) (hand_of_server t is.looks is.reads) in
      let split : AllCanBeAsked (commands_of t.issues ++ x ∷ rest) = subst (λ cs. AllCanBeAsked (commands_of t.issues ++ cs)) e (subst AllCanBeAsked (sym is.done) all) in
      reached d t x (read_of t x (one_of (commands_of t.issues) x rest split))
  goes_on t d is finish to_finish = tt

pub asks_readable : (c : Client) (w : ℕ) (a : Action) (m : Manager) → AllFollow IsStoredLook IsStoredRead m → IfSome (act c w a m).request CanBeRead
asks_readable c w a m all =
    by_act (CanRead c w m) c w a m tt (λ here synced. takes c w m (handed m.board.work))
    (λ t d here. goes_on c w m t d (at_place (Follows IsStoredLook IsStoredRead) w t m.turns here all.0) (next t) (stands t))
