-- The first command of a Deployment's plan owes its key.
use Rattle.std.proofs.Common.{◌≡◌, inr, ◌<◌, ◌+◌, ◌-◌, ◌^◌, ◌==◌, ◌&&◌, ◌++◌, ℕ, List, [], ◌∷◌, map, min, Bool, true, false, cond, not, nat_lt, codes, bytes_eq, Option, Some, None, refl, sym, ap, ◌∙◌, subst, arith}
use Rattle.std.proofs.lemmas.Bool.{ltb-true}
use Rattle.std.specs.List.{AllByRecursion}
use Rattle.serde_json.specs.Data.{Data, unsigned, Members, put}
use Rattle.serde_json.proofs.Views.{get_member-put}
use Rattle.spec_api.specs.declared.kinds.Kind.TheVariants.{ReplicaSet, Deployment}
use Rattle.spec_api.specs.Defaults.{unsigned_value}
use Rattle.spec_api.specs.History.{History, Entries, present, state, found}
use Rattle.spec_api.specs.Keys.{Key}
use Rattle.spec_api.specs.Metadata.{uid}
use Rattle.spec_api.specs.Reached.{IsParsed, IsReached}
use Rattle.spec_api.specs.Verbs.{accept}
use Rattle.spec_client_go.specs.declared.controller.Controller.{Controller}
use Rattle.spec_client_go.specs.declared.controller.Controller.TheVariants as controller
use Rattle.spec_client_go.specs.Commands.{Command, update, request_of}
use Rattle.spec_client_go.specs.Hands.{Hand}
use Rattle.spec_client_go.specs.Informers.{Looks, of_namespace}
use Rattle.spec_client_go.specs.WorkQueues.{WorkKey}
use Rattle.spec_laws.proofs.AskedEdits.{replicas_low}
use Rattle.spec_laws.proofs.DeploymentPlans.{all_kept}
use Rattle.spec_laws.proofs.SetLists.{all_sets}
use Rattle.spec_reconcile.specs.Counts.{count_in_status, replicas}
use Rattle.spec_reconcile.specs.Deployments as deployments
use Rattle.spec_reconcile.specs.Deployments.{Rollout, due, is_managed_by, managed, plan_for, plan_of, rollout, sets, summary, with_replicas, with_summary}
use Rattle.spec_reconcile.specs.Revisions.{revision, greatest, raised, with_revision}
use Rattle.spec_reconcile.specs.Statuses.{status}
use Rattle.spec_reconcile.specs.declared.rollouts.Summary.{Summary}
use Rattle.spec_sim.specs.ControlPlanes.{ControlPlane, Step}
use Rattle.spec_sim.specs.Managers.{answer_of}
use Rattle.spec_sim.specs.Turns.{hand, looks, shown, plan_by, version_answered, is_accepted}
use Rattle.reconcile_locality_laws.proofs.Elements.{In, all_in}
use Rattle.reconcile_locality_laws.proofs.Maps.{found_in}
use Rattle.reconcile_locality_laws.proofs.PlainTexts.{counted_in}
use Rattle.sim_worker_laws.proofs.Growing.{state_stands}
use Rattle.sim_rest_laws.specs.OwedObjectLaws.{LooksAfter}
use Rattle.sim_rest_laws.specs.StillLaws.{ShownIn}
use Rattle.sim_rest_laws.specs.WholeLaws.{ReferencesAreTrue, AreServerLists}
use Rattle.sim_rest_command_laws.specs.CommandLaws.{Unowed, WasUnowed, EachChangeOwes, IsCounted, as_it_was, counts}
use Rattle.sim_rest_command_laws.specs.FirstCommandLaws.{FirstCommandsOweOf}
use Rattle.sim_rest_command_laws.proofs.Controlled.{controlled, owned_by}
use Rattle.sim_rest_command_laws.proofs.Deletes.{deletes}
use Rattle.sim_rest_command_laws.proofs.Leads.{before, own_coming}
use Rattle.sim_rest_command_laws.proofs.Listed.{passed}
use Rattle.sim_rest_command_laws.proofs.Reports.{reports, reports_another}
use Rattle.sim_rest_command_laws.proofs.Updates.{held}
use Rattle.sim_rest_deployment_laws.proofs.Looked.{Looked, shown_looked}
use Rattle.sim_rest_deployment_laws.proofs.ParsedSets.{collided_parsed, summary_parsed}
use Rattle.sim_rest_deployment_laws.proofs.Plans as plans
use Rattle.sim_rest_deployment_laws.proofs.Plans.{Planned, of_sets}
use Rattle.sim_rest_deployment_laws.proofs.SetCreates.{set_creates}
use Rattle.sim_rest_deployment_laws.proofs.SetUpdates.{set_updates}

-- ---- numbers

-- a revision that is due has at most 18 digits
capped : (n : ℕ) → min n 999999999999999999 < 10 ^ 18
capped n = omega arith

never : (n : ℕ) → nat_lt n 0 ≡ false
never n = by (nat_lt n 0) refl
  where
    by : (b : Bool) → nat_lt n 0 ≡ b → nat_lt n 0 ≡ false
    by true is = let less = ltb-true n 0 is in absurd (omega (arith, less))
    by false is = is

raised_none : (d : Data) → raised 0 d ≡ d
raised_none d = ap (λ b. cond b (with_revision 0 d) d) (never (revision d))

-- ---- statuses

summary_counted : (c : Summary) (was : Members) → IsCounted was (with_summary c was)
summary_counted c was =
    let a = put (codes "observedGeneration") (deployments.counted c.generation) was in
    let b = put (codes "unavailableReplicas") (deployments.counted c.unavailable) a in
    let e = put (codes "updatedReplicas") (deployments.counted c.updated) b in
    let f = put (codes "availableReplicas") (deployments.counted c.available) e in
    let r = put (codes "readyReplicas") (deployments.counted c.ready) f in
    counts (codes "replicas") (unsigned (min c.replicas (2 ^ 64 - 1))) r
    (counts (codes "readyReplicas") (unsigned (min c.ready (2 ^ 64 - 1))) f
    (counts (codes "availableReplicas") (unsigned (min c.available (2 ^ 64 - 1))) e
    (counts (codes "updatedReplicas") (unsigned (min c.updated (2 ^ 64 - 1))) b
    (counts (codes "unavailableReplicas") (unsigned (min c.unavailable (2 ^ 64 - 1))) a (counts (codes "observedGeneration") (unsigned (min c.generation (2 ^ 64 - 1))) was as_it_was)))))

-- a status that counts one collision more is another
one_more : (d : Data) (n : ℕ) → n ≡ count_in_status (codes "collisionCount") d → n < 2147483647 → status d ≡ put (codes "collisionCount") (unsigned_value (n + 1)) (status d) → ⊥
one_more d n is few same =
    let ms = put (codes "collisionCount") (unsigned_value (n + 1)) (status d) in
    let low : n + 1 < 2 ^ 63 = omega (arith, few) in
    let more : count_in_status (codes "collisionCount") d ≡ n + 1 = counted_in (codes "collisionCount") d ms (n + 1) same (get_member-put (codes "collisionCount") (unsigned_value (n + 1)) (status d)) low in
    let equal : n ≡ n + 1 = is ∙ more in omega (arith, equal)

-- ---- a command

module _ (h g more : History) (moment : List ℕ) (answer : Option (List ℕ)) (j : WorkKey) (d : Data) (q : ControlPlane) (since : List Step) (begins : h ≡ g ++ more) (reached : IsReached h)
    (references : ReferencesAreTrue h) (servers : AreServerLists h (ShownIn q since)) (at_end : state h (present h) j.key ≡ Some d) (of_deployments : j.controller ≡ controller.Deployment) (is_one : j.key.kind ≡ Deployment) where
  abbrev Shown : Looks → Type 0
  Shown = ShownIn q since

  abbrev IsSet : Key × Data → Type 0
  IsSet s = Looked h g Shown j d reached references servers at_end ReplicaSet s × (is_managed_by d s.1 ≡ true)

  -- once accepted it owes the key
  abbrev Owes : Command → Type 0
  Owes c = is_accepted (answer_of (accept (request_of answer c) g moment)) ≡ true → WasUnowed j Shown h g (accept (request_of answer c) g moment) → ⊥

  after : LooksAfter j.controller j.key.kind
  after = subst (λ (c : Controller). LooksAfter c j.key.kind) (sym of_deployments) is_one

  parsed : IsParsed d
  parsed = (held h (present h) j.key d reached at_end).1.parsed

  here : Unowed j Shown j.key (Some d) (state h (present h) j.key)
  here = ([], sym at_end, tt)

  -- each change of a set of the Deployment owes its key
  set_owes : (s : Key × Data) → IsSet s → EachChangeOwes j s.0 s.1
  set_owes s p =
      let z = owned_by d s.1 (uid d) refl p.1 in controlled j s.0 d s.1 z.0 (inr (of_deployments, is_one, p.0.kind)) p.0.names z.1 z.2

  updated : (s : Key × Data) (n due : ℕ) → IsSet s → n < 2 ^ 63 → due < 10 ^ 18 → ((replicas s.1 == n) && not (nat_lt (revision s.1) due)) ≡ false → Owes (update s.0 (with_replicas n (raised due s.1)))
  updated s n due p low few another ok unowed = set_updates h g more moment s.0 s.1 p.0.at.0 n due begins reached p.0.at.1 p.0.kind low few another j Shown (set_owes s p) ok unowed

  set_low : (s : Key × Data) → IsSet s → replicas s.1 < 2 ^ 63
  set_low s p = replicas_low s.1 (held h p.0.at.0 s.0 s.1 reached p.0.at.1).1.parsed

  leads_there : (s : Key × Data) → IsSet s → Unowed j Shown s.0 (Some s.1) (state g (present g) s.0)
  leads_there s p =
      let same : state h (present g) s.0 ≡ state g (present g) s.0 = ap (λ (l : History). state l (present g) s.0) begins ∙ state_stands g more (present g) s.0 (omega arith) in
      subst (λ (o : Option Data). Unowed j Shown s.0 (Some s.1) o) same p.0.leads

  module _ (ms : Entries) where
    abbrev r : Rollout
    r = rollout j.key d ms

    -- ---- by cases

    planned_owes : (c : Command) → Planned IsSet r c → Owes c
    planned_owes _ (plans.makes n) ok unowed = set_creates h g moment j r n Shown of_deployments refl is_one ok unowed
    planned_owes _ (plans.scales s n p le other) ok unowed =
        let low : n < 2 ^ 63 = let all = set_low s p in omega (arith, all, le) in
        subst (λ e. Owes (update s.0 (with_replicas n e))) (raised_none s.1) (updated s n 0 p low (omega arith) (ap (λ b. b && not (nat_lt (revision s.1) 0)) other)) ok unowed
    planned_owes _ (plans.renews s n p le other) ok unowed =
        let low : n < 2 ^ 63 = let all = replicas_low d parsed in omega (arith, all, le) in
        updated s n (due r) p low (capped (greatest (map (λ (s : Key × Data). revision s.1) r.old) + 1)) other ok unowed
    planned_owes _ (plans.deletes s p live) ok unowed = deletes h g more moment j s.0 (record { uid = uid s.1; version = None; policy = None }) s.1 q since begins reached (set_owes s p) (leads_there s p) live ok unowed
    planned_owes _ (plans.collides n is few) ok unowed =
        let less = ltb-true n 2147483647 few in
        let small : n + 1 < 2 ^ 64 = omega (arith, less) in
        reports_another h g more moment j d d (put (codes "collisionCount") (unsigned_value (n + 1)) (status d)) q since begins reached after (inr is_one) at_end here
        (counts (codes "collisionCount") (unsigned (n + 1)) (status d) as_it_was) (collided_parsed (n + 1) d small parsed) (one_more d n is less) ok unowed
    planned_owes _ (plans.reports other) ok unowed =
        reports h g more moment j d d (with_summary (summary r) (status d)) q since begins reached after (inr is_one) at_end here
        (summary_counted (summary r) (status d)) (summary_parsed (summary r) d parsed) other ok unowed

    -- ---- a plan

    plan_owes : (l : Looks) → AllByRecursion (Looked h g Shown j d reached references servers at_end ReplicaSet) ms → (c : Command) (rest : List Command) → plan_for r l ≡ c ∷ rest → Owes c
    plan_owes l all c rest plan =
        let in_namespace = all_kept (Looked h g Shown j d reached references servers at_end ReplicaSet) (λ (m : Key × Data). bytes_eq m.0.namespace j.key.namespace) ms all in
        let its : AllByRecursion IsSet (managed j.key.namespace d ms) =
        passed (Looked h g Shown j d reached references servers at_end ReplicaSet) (λ (m : Key × Data). is_managed_by d m.1) (of_namespace j.key.namespace ms) in_namespace in
        let each : AllByRecursion (Planned IsSet r) (c ∷ rest) = subst (AllByRecursion (Planned IsSet r)) plan (of_sets IsSet r l (all_sets IsSet j.key d ms its)) in
        planned_owes c each.0

-- ---- a turn

deployments_plan : (c : Controller) (x : Hand) → c ≡ controller.Deployment → plan_by c x ≡ deployments.plan x
unfolding plan_by
deployments_plan controller.ReplicaSet x e = cc
deployments_plan controller.Deployment x e = refl
deployments_plan controller.Collector x e = cc

pub first_commands_owe : FirstCommandsOweOf controller.Deployment
first_commands_owe h g more moment j t x rest d q since begins reached references servers still of_deployments after key at_end order_is seen read read_there asked plan fresh =
    by (found j.key (looks t.sights).deployments) refl of_key
  where
    of_key : plan_of j.key (looks t.sights) (found j.key (looks t.sights).deployments) ≡ x ∷ rest
    of_key =
        ap (λ (k : Key). plan_of k (looks t.sights) (found k (looks t.sights).deployments)) (sym (ap (λ (k : WorkKey). k.key) key))
        ∙ sym (deployments_plan t.work_key.controller (hand t) (ap (λ (k : WorkKey). k.controller) key ∙ of_deployments)) ∙ plan

    -- the Deployment that was looked at is there
    is_there : (e : Data) → found j.key (shown Deployment t.sights) ≡ Some e → Some e ≡ Some d
    is_there e at =
        let Shown = ShownIn q since in
        let i : In (shown Deployment t.sights) (j.key, e) = found_in j.key (shown Deployment t.sights) e at in
        let z = all_in (Looked h g Shown j d reached references servers at_end Deployment) (shown Deployment t.sights) (j.key, e) (shown_looked h g Shown j d reached references servers at_end Deployment t.sights seen) i in
        let owes = own_coming j h d reached (subst (λ (c : Controller). LooksAfter c j.key.kind) (sym of_deployments) after) at_end in
        let between : state h (present g) j.key ≡ Some d = before j Shown j.key (state h (present g) j.key) d owes (subst (λ (o : Option Data). Unowed j Shown j.key (state h (present g) j.key) o) at_end z.leads_on) in
        before j Shown j.key (Some e) d owes (subst (λ (o : Option Data). Unowed j Shown j.key (Some e) o) between z.leads)

    by : (o : Option Data) → found j.key (shown Deployment t.sights) ≡ o → plan_of j.key (looks t.sights) o ≡ x ∷ rest
        → is_accepted (answer_of (accept (request_of (version_answered t.issues) x) g moment)) ≡ true → WasUnowed j (ShownIn q since) h g (accept (request_of (version_answered t.issues) x) g moment) → ⊥
    by None at e = cc
    by (Some e) at is =
        let of_d : plan_for (rollout j.key d (shown ReplicaSet t.sights)) (looks t.sights) ≡ x ∷ rest = ap (plan_of j.key (looks t.sights)) (sym (is_there e at)) ∙ is in
        plan_owes h g more moment (version_answered t.issues) j d q since begins reached references servers at_end of_deployments after (shown ReplicaSet t.sights) (looks t.sights)
        (shown_looked h g (ShownIn q since) j d reached references servers at_end ReplicaSet t.sights seen) x rest of_d
