-- What is known of a turn by where it is.
use Rattle.std.proofs.Common.{◌≡◌, ◌∙◌, ◌≤◌, ◌<◌, ◌^◌, ◌&&◌, ℕ, List, [], ◌∷◌, length, map, filter, drop, Option, Some, None, is_some, not, Bool, true, false, refl, sym, ap, subst, arith}
use Rattle.std.specs.List.{slice_get}
use Rattle.spec_client_go.specs.declared.controller.Controller.{Controller}
use Rattle.spec_client_go.specs.declared.controller.Controller.TheVariants.{ReplicaSet, Deployment, Collector}
use Rattle.spec_client_go.specs.Commands.{Command}
use Rattle.spec_client_go.specs.Expectations.{Owner}
use Rattle.spec_client_go.specs.Hands.{Hand, Read}
use Rattle.spec_client_go.specs.Informers.{Looks}
use Rattle.spec_client_go.specs.WorkQueues.{WorkKey}
use Rattle.spec_api.specs.Keys.{Key as Name}
use Rattle.object_keys.specs.Keys.{key_of}
use Rattle.object_keys.specs.declared.key.Key.{Key}
use Rattle.spec_laws.proofs.PlanLaws.{turns_are_bounded}
use Rattle.spec_laws.specs.ReplicaSetLaws.{created}
use Rattle.spec_reconcile.specs.ReplicaSets as replica_sets
use Rattle.spec_sim.specs.NextSteps.{next, expect, first, unseen, expecting, issuing}
use Rattle.spec_sim.specs.Turns.{Turn, Sight, Answer, Issue, Expected, asks, asks_by, plan_by, commands, creates_pod, expected, expected_by, hand, owner, owner_by, looks, was_satisfied, all_accepted, left}
use Rattle.reconcile_turn.specs.NextCommands.{IsCommandNext}
use Rattle.reconcile_turn.specs.Pods.{makes_pods}
use Rattle.reconcile_turn.specs.Seen.{IsNext}
use Rattle.reconcile_turn.specs.Stages as phase
use Rattle.reconcile_turn.specs.Stages.{Phase, IsPlanned, IsIn, IsTurn, commands_in, issued, turn_of}
use Rattle.reconcile_turn.specs.declared.next_steps.NextStep.{NextStep as Step}
use Rattle.reconcile_turn.specs.declared.next_steps.NextStep.TheVariants as step
use Rattle.reconcile_turn.proofs.Firsts.{first_left_as}
use Rattle.reconcile_turn.proofs.Issues.{length-issued}
use Rattle.reconcile_turn.proofs.PodCounts.{expects, creates_fewer}
use Rattle.reconcile_turn.proofs.Steps.{next_planned, step_by}

-- ---- where a turn is

pub to_read : (t : Turn) (h : Hand) (asked items : List Key) (f : Key) (k : Name) → unseen t ≡ [] → h ≡ hand t → map key_of asked ≡ asks_by t.work_key.controller h → items ≡ asked → Some f ≡ slice_get items 0
    → k ≡ key_of f → IsIn (phase.reading k) t
to_read t h asked items f k seen same asks all at is = (
  seen,
  ap (λ (g : Hand). first (asks_by t.work_key.controller g)) (sym same) ∙ ap first (sym asks) ∙ ap (λ (ks : List Key). first (map key_of ks)) (sym all) ∙ first_left_as key_of items 0 (Some f) (sym at)
      ∙ ap (λ (n : Name). Some n) (sym is),
)

none_at : {A B : Type 0} (f : A → B) (xs : List A) → None ≡ slice_get xs 0 → map f xs ≡ []
none_at f [] none = refl
none_at f (x ∷ xs) none = absurd (cc)

expects_by : (o : Option Owner) (cs : List Command) → is_some (expected_by o cs) ≡ (is_some o && makes_pods cs)
expects_by None cs = refl
expects_by (Some o) cs = expects o cs

-- the ReplicaSet of a turn is that of its looks alone
owner_of_looks : (c : Controller) (k : Name) (l : Looks) (b : Bool) (rs qs : List Read)
    → owner_by c (record { key = k; looks = l; is_satisfied = b; reads = rs }) ≡ owner_by c (record { key = k; looks = l; is_satisfied = b; reads = qs })
owner_of_looks ReplicaSet k l b rs qs = refl
owner_of_looks Deployment k l b rs qs = refl
owner_of_looks Collector k l b rs qs = refl

pub owner_unread : (k : WorkKey) (ss : List Sight) (rs qs : List Read) → owner (turn_of k ss rs) ≡ owner (turn_of k ss qs)
owner_unread k ss rs qs = owner_of_looks k.controller k.key (looks ss) (was_satisfied ss) rs qs

pub to_issue : (k : WorkKey) (ss : List Sight) (rs : List Read) (h : Hand) (asked items : List Key) (cs ds : List Command) (b : Bool) → unseen (turn_of k ss rs) ≡ [] → h ≡ hand (turn_of k ss rs)
    → map key_of asked ≡ asks_by k.controller h → items ≡ asked → None ≡ slice_get items 0 → cs ≡ plan_by k.controller h → ds ≡ cs → b ≡ (is_some (owner (turn_of k ss [])) && makes_pods cs)
    → IsIn (phase.planned ds b) (turn_of k ss rs)
to_issue k ss rs h asked items cs ds b seen same asks all none plan is pods =
    let planned : commands (turn_of k ss rs) ≡ cs = ap (λ (g : Hand). plan_by k.controller g) (sym same) ∙ sym plan in
    record {
      seen = seen;
      asked = ap (λ (g : Hand). asks_by k.controller g) (sym same) ∙ sym asks ∙ ap (map key_of) (sym all) ∙ none_at key_of items none;
      commands = planned ∙ sym is;
      pods =
          expects_by (owner (turn_of k ss rs)) (commands (turn_of k ss rs)) ∙ ap (λ (ds : List Command). is_some (owner (turn_of k ss rs)) && makes_pods ds) planned
          ∙ ap (λ (o : Option Owner). is_some o && makes_pods cs) (owner_unread k ss rs []) ∙ sym pods;
    }

-- ---- what comes next once the plan is made

expecting_some : (t : Turn) (e : Option Expected) → expected t ≡ e → is_some e ≡ true → t.has_expected ≡ false → unseen t ≡ [] → asks t ≡ [] → (x : Expected) × (e ≡ Some x) × (next t ≡ expect x)
expecting_some t None is some has seen asked = absurd (cc)
expecting_some t (Some x) is some has seen asked =
    let e : expecting t.has_expected (expected t) ≡ Some x = ap (λ (b : Bool). expecting b (expected t)) has ∙ is in
    (x, refl, next_planned t (Some x) (issuing (all_accepted t.issues) (left t)) seen asked e refl)

-- what is expected comes first
pub next_expects : (t : Turn) (cs : List Command) (b : Bool) → IsPlanned t cs b → b ≡ true → t.has_expected ≡ false → (x : Expected) × (expected t ≡ Some x) × (next t ≡ expect x)
next_expects t cs b plan pods has = expecting_some t (expected t) refl (plan.pods ∙ pods) has plan.seen plan.asked

-- nothing is to be expected any more
pub nothing_expected : (h b : Bool) (e : Option Expected) → is_some e ≡ b → (b && not h) ≡ false → expecting h e ≡ None
nothing_expected true b e is none = refl
nothing_expected false b None is none = refl
nothing_expected false true (Some x) is none = absurd (cc)
nothing_expected false false (Some x) is none = absurd (cc)

pub left_of : (t : Turn) (cs : List Command) (as' : List Answer) → commands t ≡ cs → t.issues ≡ issued cs as' → length as' ≤ length cs → left t ≡ drop (length as') cs
left_of t cs as' plan is fits =
    ap (λ (ds : List Command). drop (length t.issues) ds) plan ∙ ap (λ (is : List Issue). drop (length is) cs) is ∙ ap (λ (n : ℕ). drop n cs) (length-issued cs as' fits)

-- then one command comes after another
pub next_issues : (t : Turn) (cs : List Command) (b : Bool) (as' : List Answer) (acc : Bool) → IsPlanned t cs b → t.issues ≡ issued cs as' → length as' ≤ length cs → all_accepted (issued cs as') ≡ acc
    → (b && not t.has_expected) ≡ false → next t ≡ step_by None None None (issuing acc (drop (length as') cs))
next_issues t cs b as' acc plan is fits accepted none =
    next_planned t None (issuing acc (drop (length as') cs)) plan.seen plan.asked (nothing_expected t.has_expected b (expected t) plan.pods none)
    (ap (λ (is : List Issue). issuing (all_accepted is) (left t)) is ∙ ap (λ (a : Bool). issuing a (left t)) accepted ∙ ap (issuing acc) (left_of t cs as' plan.commands is fits))

step_is : (r : Step) (t : Turn) (x : Option Command) → next t ≡ step_by None None None x → IsCommandNext r x → IsNext r t
step_is (step.Look k) t x is next = absurd next
step_is step.AskSatisfied t x is next = absurd next
step_is (step.Read k) t x is next = absurd next
step_is step.Expect t x is next = absurd next
step_is (step.Issue c) t x is next = is ∙ ap (step_by None None None) next
step_is step.Finish t x is next = is ∙ ap (step_by None None None) next

pub next_command : (r : Step) (t : Turn) (cs : List Command) (b : Bool) (as' : List Answer) (acc : Bool) (n : ℕ) → IsPlanned t cs b → t.issues ≡ issued cs as' → length as' ≤ length cs → all_accepted (issued cs as') ≡ acc
    → (b && not t.has_expected) ≡ false → n ≡ length as' → IsCommandNext r (issuing acc (drop n cs)) → IsNext r t
next_command r t cs b as' acc n plan is fits accepted none len here =
    step_is r t (issuing acc (drop (length as') cs)) (next_issues t cs b as' acc plan is fits accepted none) (subst (λ (m : ℕ). IsCommandNext r (issuing acc (drop m cs))) len here)

-- ---- how many pods are created

few_by : (c : Controller) (h : Hand) (o : Owner) → owner_by c h ≡ Some o → length (filter creates_pod (plan_by c h)) < 2 ^ 32
unfolding plan_by
few_by ReplicaSet h o is =
    let few : created (replica_sets.plan h) ≤ 500 = (turns_are_bounded h).0 in
    let fewer : length (filter creates_pod (replica_sets.plan h)) ≤ created (replica_sets.plan h) = creates_fewer (replica_sets.plan h) in
    omega arith
few_by Deployment h o is = absurd (cc)
few_by Collector h o is = absurd (cc)

-- no turn of a ReplicaSet creates more pods than 32 bits count
pub few_creations : (t : Turn) (cs : List Command) (o : Owner) → commands t ≡ cs → owner t ≡ Some o → length (filter creates_pod cs) < 2 ^ 32
few_creations t cs o plan owned = subst (λ (ds : List Command). length (filter creates_pod ds) < 2 ^ 32) plan (few_by t.work_key.controller (hand t) o owned)
