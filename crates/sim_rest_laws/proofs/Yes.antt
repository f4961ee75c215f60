-- At rest: in the last turn of a ReplicaSet all that was expected had been seen.
use Rattle.std.proofs.Common.{◌≡◌, ◌⊎◌, inl, inr, ◌==◌, ℕ, List, [], ◌∷◌, ◌++◌, map, filter, filter_map, length, Bool, true, false, not, ◌&&◌, cond, Option, Some, None, option_map, unwrap_or, refl, sym, ap, ◌∙◌, subst}
use Rattle.std.specs.List.{AllByRecursion, cons_option}
use Rattle.spec_api.specs.declared.kinds.Kind.{Kind}
use Rattle.spec_api.specs.declared.kinds.Kind.TheVariants as kind
use Rattle.spec_api.specs.History.{Entries}
use Rattle.spec_api.specs.Keys.{Key}
use Rattle.spec_api.specs.Kinds.{rank}
use Rattle.serde_json.specs.Data.{Data, object}
use Rattle.spec_api.specs.Metadata.{uid, is_being_deleted}
use Rattle.spec_api.specs.Replacements.{says_the_same}
use Rattle.spec_server.specs.Snapshots.{Snapshot}
use Rattle.spec_client_go.specs.declared.controller.Controller.{Controller}
use Rattle.spec_client_go.specs.declared.controller.Controller.TheVariants.{ReplicaSet, Deployment, Collector}
use Rattle.spec_client_go.specs.Commands.{Command, update, update_status}
use Rattle.spec_client_go.specs.Expectations.{Owner}
use Rattle.spec_client_go.specs.Hands.{Hand, live}
use Rattle.spec_client_go.specs.WorkQueues.{WorkKey}
use Rattle.spec_reconcile.specs.ReplicaSets.{set_looked_at, pods_looked_at, plan_of, scale, scale_if, new_status, report}
use Rattle.spec_reconcile.specs.PodClaims.{is_released, is_adoptable, may_adopt, own_pods, released, adopted, claim, claims}
use Rattle.spec_reconcile.specs.Statuses.{status, with_status}
use Rattle.spec_sim.specs.NextSteps.{Sighting, of_kind, order}
use Rattle.spec_sim.specs.Turns.{Turn, Sight, looked, satisfied, shown, was_satisfied, hand, plan_by, owner_by, owner, creates_pod, pod_deleted, some_pods, expected_by, expected}
use Rattle.sim_worker_laws.specs.IssuedLaws.{sighting_of}

-- ---- what a turn was answered

abbrev pub answer : List Sight → Option Bool
answer [] = None
answer (looked k s ∷ ss) = answer ss
answer (satisfied b ∷ ss) = Some b

-- a later look leaves it, and a later answer where there is one
pub answer_look : (k : Kind) (s : Snapshot) (ss : List Sight) → answer (ss ++ looked k s ∷ []) ≡ answer ss
answer_look k s [] = refl
answer_look k s (looked j r ∷ ss) = answer_look k s ss
answer_look k s (satisfied b ∷ ss) = refl

pub answer_again : (b : Bool) (ss : List Sight) → (answer (ss ++ satisfied b ∷ []) ≡ answer ss) ⊎ (answer (ss ++ satisfied b ∷ []) ≡ Some b)
answer_again b [] = inr refl
answer_again b (looked j r ∷ ss) = answer_again b ss
answer_again b (satisfied c ∷ ss) = inl refl

pub satisfied_is : (ss : List Sight) → was_satisfied ss ≡ unwrap_or (answer ss) false
satisfied_is [] = refl
satisfied_is (looked k s ∷ ss) = satisfied_is ss
satisfied_is (satisfied b ∷ ss) = refl

-- ---- what it had looked at

shown_answer : (k : Kind) (b : Bool) (ss : List Sight) → shown k (ss ++ satisfied b ∷ []) ≡ shown k ss
shown_answer k b [] = refl
shown_answer k b (looked j s ∷ ss) = ap (λ ms. cond (rank k == rank j) s.members ms) (shown_answer k b ss)
shown_answer k b (satisfied c ∷ ss) = shown_answer k b ss

shown_other : (k j : Kind) (s : Snapshot) (ss : List Sight) → (rank k == rank j) ≡ false → shown k (ss ++ looked j s ∷ []) ≡ shown k ss
shown_other k j s [] e = ap (λ b. cond b s.members []) e
shown_other k j s (looked i r ∷ ss) e = ap (λ ms. cond (rank k == rank i) r.members ms) (shown_other k j s ss e)
shown_other k j s (satisfied c ∷ ss) e = shown_other k j s ss e

owner_same : (c : Controller) (h g : Hand) → h.key ≡ g.key → h.looks.replica_sets ≡ g.looks.replica_sets → owner_by c h ≡ owner_by c g
owner_same ReplicaSet h g e f =
    λ i. owner_by ReplicaSet (record { key = e i; looks = record { config_maps = []; pods = []; replica_sets = f i; deployments = [] }; is_satisfied = false; reads = [] })
owner_same Deployment h g e f = refl
owner_same Collector h g e f = refl

-- the owner of a turn is the same where its key and its look at ReplicaSets are
pub owner_stays : (t u : Turn) → t.work_key ≡ u.work_key → shown kind.ReplicaSet t.sights ≡ shown kind.ReplicaSet u.sights → owner t ≡ owner u
owner_stays t u e f =
    ap (λ (k : WorkKey). owner_by k.controller (hand t)) e
    ∙ owner_same u.work_key.controller (hand t) (hand u) (ap (λ (k : WorkKey). k.key) e) f

pub owner_asked : (t : Turn) (b : Bool) → owner (record t { sights = t.sights ++ satisfied b ∷ [] }) ≡ owner t
owner_asked t b = owner_stays (record t { sights = t.sights ++ satisfied b ∷ [] }) t refl (shown_answer kind.ReplicaSet b t.sights)

pub owner_looked : (t : Turn) (j : Kind) (s : Snapshot) → (rank kind.ReplicaSet == rank j) ≡ false → owner (record t { sights = t.sights ++ looked j s ∷ [] }) ≡ owner t
owner_looked t j s e = owner_stays (record t { sights = t.sights ++ looked j s ∷ [] }) t refl (shown_other kind.ReplicaSet j s t.sights e)

-- ---- the order of what it sees

-- after the answer only pods are looked at
pub looks_at_pods : (ss : List Sight) (b : Bool) (k : Kind) (rest : List Sighting) → answer ss ≡ Some b → map sighting_of ss ++ of_kind k ∷ rest ≡ order ReplicaSet → k ≡ kind.Pod
looks_at_pods [] b k rest a e = cc
looks_at_pods (looked j s ∷ []) b k rest a e = cc
looks_at_pods (satisfied c ∷ ss) b k rest a e = cc
looks_at_pods (looked j s ∷ looked i r ∷ ss) b k rest a e = cc
looks_at_pods (looked j s ∷ satisfied c ∷ []) b k rest a e = cc
looks_at_pods (looked j s ∷ satisfied c ∷ x ∷ []) b k rest a e = cc
looks_at_pods (looked j s ∷ satisfied c ∷ x ∷ y ∷ ss) b k rest a e = cc

-- all was seen, and so there is an answer
pub is_answered : (ss : List Sight) → map sighting_of ss ≡ order ReplicaSet → (b : Bool) × (answer ss ≡ Some b)
is_answered [] e = cc
is_answered (satisfied c ∷ ss) e = (c, refl)
is_answered (looked j s ∷ []) e = cc
is_answered (looked j s ∷ looked i r ∷ ss) e = cc
is_answered (looked j s ∷ satisfied c ∷ ss) e = (c, refl)

-- ---- a plan, where not all was seen

-- a command that neither creates a pod nor deletes one
abbrev IsEdit : Command → Type 0
IsEdit c = (creates_pod c ≡ false) × (pod_deleted c ≡ None)

abbrev AreEdits : List Command → Type 0
AreEdits cs = AllByRecursion IsEdit cs

edits_both : (cs ds : List Command) → AreEdits cs → AreEdits ds → AreEdits (cs ++ ds)
edits_both [] ds a b = b
edits_both (c ∷ cs) ds a b = (a.0, edits_both cs ds a.1 b)

claim_edits : (k : Key) (set : Data) (may : Bool) (p : Key × Data) → AreEdits (claim k set may p)
claim_edits k set may p = by (is_released set p.1) (may && is_adoptable set p.1)
  where
    by : (a b : Bool) → AreEdits (cond a (update p.0 (released set p.1) ∷ []) (cond b (update p.0 (adopted k set p.1) ∷ []) []))
    by true b = ((refl, refl), tt)
    by false true = ((refl, refl), tt)
    by false false = tt

claims_edit : (k : Key) (set : Data) (may : Bool) (ps : Entries) → AreEdits (claims k set may ps)
claims_edit k set may [] = tt
claims_edit k set may (p ∷ ps) = edits_both (claim k set may p) (claims k set may ps) (claim_edits k set may p) (claims_edit k set may ps)

report_edits : (k : Key) (set : Data) (ps : Entries) → AreEdits (report k set ps)
report_edits k set ps = by (says_the_same (object (status set)) (object (new_status set ps)))
  where
    by : (b : Bool) → AreEdits (cond b [] (update_status k (with_status (new_status set ps) set) ∷ []))
    by true = tt
    by false = ((refl, refl), tt)

no_creates : (cs : List Command) → AreEdits cs → filter creates_pod cs ≡ []
no_creates [] a = refl
no_creates (c ∷ cs) a = ap (λ b. cond b (c ∷ filter creates_pod cs) (filter creates_pod cs)) a.0.0 ∙ no_creates cs a.1

no_deletes : (cs : List Command) → AreEdits cs → filter_map pod_deleted cs ≡ []
no_deletes [] a = refl
no_deletes (c ∷ cs) a = ap (λ o. cons_option o (filter_map pod_deleted cs)) a.0.1 ∙ no_deletes cs a.1

none_expected : (o : Owner) (cs : List Command) → AreEdits cs → expected_by (Some o) cs ≡ None
none_expected o cs a =
    ap (λ (x : List Command). some_pods (record { owner = o; creations = length x; deletions = filter_map pod_deleted cs })) (no_creates cs a)
    ∙ ap (λ (x : List (List ℕ)). some_pods (record { owner = o; creations = 0; deletions = x })) (no_deletes cs a)

plan_edits : (h : Hand) (set : Data) → h.is_satisfied ≡ false → AreEdits (plan_of h (Some set))
plan_edits h set e =
    let may = may_adopt set (live h.reads h.key) in
    let own = own_pods set may (pods_looked_at h) in
    edits_both (claims h.key set may (pods_looked_at h)) (scale_if h.is_satisfied h.key set own ++ report h.key set own) (claims_edit h.key set may (pods_looked_at h))
    (edits_both (scale_if h.is_satisfied h.key set own) (report h.key set own)
    (subst (λ b. AreEdits (cond (b && not (is_being_deleted set)) (scale h.key set own) [])) (sym e) tt) (report_edits h.key set own))

-- where not all was seen, no pod is created or deleted
none_planned : (c : Controller) (h : Hand) → h.is_satisfied ≡ false → expected_by (owner_by c h) (plan_by c h) ≡ None
unfolding plan_by
none_planned ReplicaSet h e = by (set_looked_at h)
  where
    by : (x : Option Data) → expected_by (option_map (λ set. record { key = h.key; uid = unwrap_or (uid set) [] }) x) (plan_of h x) ≡ None
    by None = refl
    by (Some set) = none_expected (record { key = h.key; uid = unwrap_or (uid set) [] }) (plan_of h (Some set)) (plan_edits h set e)
none_planned Deployment h e = refl
none_planned Collector h e = refl

pub no_pods : (t : Turn) → answer t.sights ≡ Some false → expected t ≡ None
no_pods t e = none_planned t.work_key.controller (hand t) (satisfied_is t.sights ∙ ap (λ (o : Option Bool). unwrap_or o false) e)
