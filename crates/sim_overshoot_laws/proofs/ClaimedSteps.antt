-- As steps are taken that let a set alone, its pods stay claimed.
use Rattle.std.proofs.Common.{◌≡◌, ◌⊎◌, inl, inr, ℕ, List, [], ◌∷◌, ◌++◌, length, drop, Bool, true, false, IfSome, Option, Some, None, slice_get, refl, sym, ap, ◌∙◌, subst, arith}
use Rattle.std.proofs.lemmas.List.{drop-append-le, drop_all}
use mathlib.Core.Bool.{true≢false}
use Rattle.std.specs.List.{AllByRecursion}
use Rattle.spec_api.specs.declared.kinds.Kind.TheVariants.{Pod}
use Rattle.spec_api.specs.History.{History, Write, write, writes, found, list, unfiltered}
use Rattle.spec_api.specs.Objects.{Object}
use Rattle.spec_api.specs.Reached.{IsReached}
use Rattle.spec_api.specs.Verbs.{accept, write_of, with_write}
use Rattle.spec_laws.proofs.Past.{writes-append}
use Rattle.spec_client_go.specs.declared.controller.Controller.{Controller}
use Rattle.spec_client_go.specs.declared.controller.Controller.TheVariants as controller
use Rattle.spec_client_go.specs.declared.reflectors.Phase.TheVariants.{Listing, Streaming}
use Rattle.spec_client_go.specs.Commands.{Command}
use Rattle.spec_client_go.specs.Expectations.{Owner}
use Rattle.spec_client_go.specs.Reflectors.{Reflector, Delta, replace}
use Rattle.spec_client_go.specs.WorkQueues.{WorkKey, handed}
use Rattle.spec_sim.specs.Clusters.{Cluster, history}
use Rattle.spec_sim.specs.Followers.{Link, Follower}
use Rattle.spec_sim.specs.ControlPlanes.{ControlPlane, Step, in_cluster, handle, works, tick, client, after_request, step_in, step}
use Rattle.spec_sim.specs.Managers.{Acted, Action, Delivery, delivered, answer_lost, dropped, requested, take_key, carry_out, act}
use Rattle.spec_sim.specs.NextSteps.{NextStep, next, look, ask_satisfied, read, expect, issue, finish}
use Rattle.spec_sim.specs.Turns.{Turn, hand, commands, version_answered}
use Rattle.sim_worker_laws.proofs.Acting.{by_act}
use Rattle.sim_worker_laws.proofs.Counting.{by_counted}
use Rattle.sim_worker_laws.proofs.Growing.{step_begins}
use Rattle.sim_worker_laws.proofs.Nexts.{Stands, to_look, to_ask, to_read, to_expect, to_issue, to_finish, stands}
use Rattle.sim_overshoot_laws.specs.Overshoot.{turn_of, written, each_of_pods, keeps_claims, is_replica_sets, LetsAlone}
use Rattle.sim_overshoot_laws.specs.Reserves.{turn_at}
use Rattle.sim_overshoot_laws.proofs.Claimed.{ClaimsIn, IsClaim, Claim, born_in, claims_one, claims_many, born_many, commands_claim}
use Rattle.sim_overshoot_laws.proofs.Finishing.{now_is}
use Rattle.sim_overshoot_laws.proofs.FirstStreams.{Closes}
use Rattle.sim_overshoot_laws.proofs.LookedPods.{IsStanding}
use Rattle.sim_overshoot_laws.proofs.OpenMoves.{coming}
use Rattle.sim_overshoot_laws.proofs.PodWrites.{next_edits}

-- ---- what is kept

module _ (o : Owner) where
  -- what comes on a link replaces all at a revision since which none of the set's pods was created, and each is claimed
  abbrev pub IsComing : List Write → Reflector → Option Link → Type 0
  IsComing ws s None = Unit {0}
  IsComing ws s (Some l) = (r : ℕ) × ClaimsIn o ws r × (born_in o r ws ≡ 0) × Closes r s (coming Pod l)

  -- a list is asked for, or a stream that begins with all pods
  abbrev pub IsAsking : List Write → Reflector → Option Link → Type 0
  IsAsking ws s l = (s.phase ≡ Listing) ⊎ ((s.phase ≡ Streaming) × IsComing ws s l)

  -- until all pods are taken in for the first time nothing waits; from then on none of the set's pods was created since, and each is claimed
  abbrev pub IsBegun : List Write → Follower → Type 0
  IsBegun ws f =
      ((f.informer.pending ≡ []) × (f.reflector.revision ≡ 0) × IsAsking ws f.reflector f.link)
      ⊎ ((r : ℕ) × (os : List Object) × (ds : List Delta) × (f.informer.pending ≡ replace r os ∷ ds) × ClaimsIn o ws r × (born_in o r ws ≡ 0))

-- until pods are published for the first time no worker is in a turn, and nothing waits to be handled
pub record IsWaiting (o : Owner) (ws : List Write) (f : Follower) (ts : List (Option Turn)) : Type 0 where
  pub rests : (w : ℕ) (t : Turn) → slice_get ts w ≡ Some (Some t) → ⊥
  pub has_none : f.unhandled ≡ []
  pub begun : IsBegun o ws f

-- and from then on each write since the revision that is published is claimed
pub record IsSettled (o : Owner) (ws : List Write) (f : Follower) (ts : List (Option Turn)) : Type 0 where
  pub listed : f.has_listed ≡ true → ClaimsIn o ws f.informer.published.revision
  pub waits : f.has_listed ≡ false → IsWaiting o ws f ts

-- ---- as more is written

module _ (o : Owner) (h : History) (f : Follower) (ts : List (Option Turn)) (is : IsSettled o (writes h) f ts) where
  coming_grows : (new : List Write) → each_of_pods (keeps_claims o) h new ≡ true → (s : Reflector) (l : Option Link) → IsComing o (writes h) s l → IsComing o (writes h ++ new) s l
  coming_grows new e s None c = tt
  coming_grows new e s (Some l) (r, claims, none, closes) = (r, claims_many o r h new e claims, born_many o r h new e none, closes)

  asking_grows : (new : List Write) → each_of_pods (keeps_claims o) h new ≡ true → IsAsking o (writes h) f.reflector f.link → IsAsking o (writes h ++ new) f.reflector f.link
  asking_grows new e (inl lists) = inl lists
  asking_grows new e (inr (streams, c)) = inr (streams, coming_grows new e f.reflector f.link c)

  begun_grows : (new : List Write) → each_of_pods (keeps_claims o) h new ≡ true → IsBegun o (writes h) f → IsBegun o (writes h ++ new) f
  begun_grows new e (inl (empty, zero, asks)) = inl (empty, zero, asking_grows new e asks)
  begun_grows new e (inr (r, os, ds, first, claims, none)) = inr (r, os, ds, first, claims_many o r h new e claims, born_many o r h new e none)

  -- by others, where they leave the claims of the set's pods
  others_settle : (new : List Write) → each_of_pods (keeps_claims o) h new ≡ true → IsSettled o (writes h ++ new) f ts
  others_settle new e =
      record {
        listed = λ l. claims_many o f.informer.published.revision h new e (is.listed l);
        waits = λ l. let w = is.waits l in record { rests = w.rests; has_none = w.has_none; begun = begun_grows new e w.begun };
      }

set_turn : (t : Turn) → is_replica_sets (Some t) ≡ true → t.work_key.controller ≡ controller.ReplicaSet
set_turn t e = by t.work_key.controller refl
  where
    of : (j : Controller) → t.work_key.controller ≡ j → is_replica_sets (Some t) ≡ is_replica_sets (Some (record t { work_key = record t.work_key { controller = j } }))
    of j is = ap (λ x. is_replica_sets (Some (record t { work_key = record t.work_key { controller = x } }))) is

    by : (j : Controller) → t.work_key.controller ≡ j → t.work_key.controller ≡ controller.ReplicaSet
    by controller.ReplicaSet is = is
    by controller.Deployment is = absurd (true≢false (sym e ∙ of controller.Deployment is))
    by controller.Collector is = absurd (true≢false (sym e ∙ of controller.Collector is))

module _ (o : Owner) (p : ControlPlane) (reached : IsReached (history p.cluster)) (looks : (w : ℕ) (t : Turn) → slice_get p.manager.turns w ≡ Some (Some t) → AllByRecursion (IsStanding (history p.cluster) p.cluster.pods.informer.published.revision) (hand t).looks.pods) where
  abbrev h : History
  h = history p.cluster

  abbrev c : Cluster
  c = p.cluster

  abbrev at : ℕ
  at = p.cluster.pods.informer.published.revision

  abbrev After : Acted → Type 0
  After x = ClaimsIn o (writes (history (after_request x.request p.cluster))) p.cluster.pods.informer.published.revision

  -- by a command of the ReplicaSet controller
  wrote : (x : Option Write) → IfSome x (IsClaim o h c.session.moment at reached) → ClaimsIn o (writes h) at → ClaimsIn o (writes (with_write h x)) at
  wrote None claim is = is
  wrote (Some w) claim is =
      subst (λ ws. ClaimsIn o ws at) (sym (writes-append h (write w ∷ [])))
      (claims_one o (writes h) w at (λ r low high. subst (λ y. Claim o (found w.key (list h (unfiltered Pod None) r)) y w) (now_is h w.key) (claim r low high)) is)

  module _ (w : ℕ) (a : Action) (is : ClaimsIn o (writes h) at) where
    taken : (k : Option WorkKey) → After (take_key w k p.manager)
    taken None = is
    taken (Some k) = is

    asked : (t : Turn) (x : Command) (rest : List Command) → slice_get p.manager.turns w ≡ Some (Some t) → t.work_key.controller ≡ controller.ReplicaSet → drop (length t.issues) (commands t) ≡ x ∷ rest
        → ClaimsIn o (writes (with_write h (write_of (accept (requested t x) h c.session.moment)))) at
    asked t x rest here set g =
        wrote (write_of (accept (requested t x) h c.session.moment))
        (commands_claim o h c.session.moment at reached (version_answered t.issues) x
        (next_edits (IsStanding h at) t x rest set g (looks w t here))) is

    goes : (t : Turn) (d : Delivery) (n : NextStep) → slice_get p.manager.turns w ≡ Some (Some t) → t.work_key.controller ≡ controller.ReplicaSet → Stands t n → After (carry_out (client c) w t d n p.manager)
    goes t d (look k) here set (to_look _ rest u) = is
    goes t d ask_satisfied here set (to_ask rest u) = is
    goes t d (read k) here set (to_read _ rest u b) = is
    goes t d (expect e) here set (to_expect _ u b x z) = is
    goes t delivered (issue x) here set (to_issue _ rest u b e f g) = asked t x rest here set g
    goes t answer_lost (issue x) here set (to_issue _ rest u b e f g) = asked t x rest here set g
    goes t dropped (issue x) here set (to_issue _ rest u b e f g) = is
    goes t d finish here set to_finish = is

    acted : is_replica_sets (turn_at (slice_get p.manager.turns w)) ≡ true → After (act (client c) w a p.manager)
    acted set =
        by_act After (client c) w a p.manager is (λ here synced. taken (handed p.manager.board.work))
        (λ t d here. goes t d (next t) here (set_turn t (sym (ap (λ u. is_replica_sets (turn_at u)) here) ∙ set)) (stands t))

  -- ---- whatever step is taken

  abbrev Settled : ControlPlane → Type 0
  Settled q = IsSettled o (writes (history q.cluster)) p.cluster.pods p.manager.turns

  claims_kept : (s : Step) → LetsAlone o p s → is_replica_sets (turn_of p s) ≡ false → IsSettled o (writes h) c.pods p.manager.turns → Settled (step p s).plane
  claims_kept s alone other is =
      let b = step_begins p s in
      let all : writes (history (step p s).plane.cluster) ≡ writes h ++ writes b.0 = ap writes b.1 ∙ writes-append h b.0 in
      let new : written p s ≡ writes b.0 =
      ap (drop (length (writes h))) all ∙ drop-append-le (length (writes h)) (writes h) (writes b.0) (omega arith) ∙ ap (λ ws. ws ++ writes b.0) (drop_all (length (writes h)) (writes h) (omega arith)) in
      subst (λ ws. IsSettled o ws c.pods p.manager.turns) (sym all)
      (others_settle o h c.pods p.manager.turns is (writes b.0) (sym (ap (each_of_pods (keeps_claims o) h) new) ∙ alone.claims other))

  worked : (w : ℕ) (a : Action) → is_replica_sets (turn_of p (works w a)) ≡ true → IsSettled o (writes h) c.pods p.manager.turns → Settled (step p (works w a)).plane
  worked w a set is =
      record {
        listed = λ l. by_counted (λ c' m x. ClaimsIn o (writes (history c')) at) (step_in p (works w a)) (acted w a (is.listed l) set);
        waits = λ l. absurd (in_turn (slice_get p.manager.turns w) refl set (is.waits l));
      }
    where
      in_turn : (u : Option (Option Turn)) → slice_get p.manager.turns w ≡ u → is_replica_sets (turn_at u) ≡ true → IsWaiting o (writes h) c.pods p.manager.turns → ⊥
      in_turn None e f i = cc
      in_turn (Some None) e f i = cc
      in_turn (Some (Some t)) e f i = i.rests w t e

  pub grown : (s : Step) → LetsAlone o p s → IsSettled o (writes h) c.pods p.manager.turns → Settled (step p s).plane
  grown s alone is = by (is_replica_sets (turn_of p s)) refl
    where
      of : (s : Step) → is_replica_sets (turn_of p s) ≡ true → Settled (step p s).plane
      of (in_cluster x) e = cc
      of (handle k) e = cc
      of (works w a) e = worked w a e is
      of (tick n) e = cc

      by : (b : Bool) → is_replica_sets (turn_of p s) ≡ b → Settled (step p s).plane
      by true e = of s e
      by false e = claims_kept s alone e is
