-- What the commands of a ReplicaSet's turn write in the place of pods.
use Rattle.std.proofs.Common.{◌≡◌, ◌+◌, ◌⊎◌, inl, inr, ◌&&◌, not, ℕ, zero, suc, List, [], ◌∷◌, ◌++◌, length, map, flat_map, filter, replicate, drop, Bool, true, false, cond, codes, bytes_eq, IfSome, Option, Some, None, refl, sym, ap, ◌∙◌, subst}
use Rattle.std.specs.List.{AllByRecursion}
use Rattle.serde_json.specs.Data.{Data, Items, object}
use Rattle.spec_api.specs.declared.kinds.Kind.TheVariants.{Pod}
use Rattle.spec_api.specs.Checks.{finalizers}
use Rattle.spec_api.specs.Deletion.{being_deleted, left_by}
use Rattle.spec_api.specs.History.{History, Entries, Write, found, entries_at, present, state}
use Rattle.spec_api.specs.Keys.{Key}
use Rattle.spec_api.specs.Metadata.{metadata, metadata_of, at_revision, is_being_deleted}
use Rattle.spec_api.specs.NewObjects as new_objects
use Rattle.spec_api.specs.ObjectRequests.{update_object}
use Rattle.spec_api.specs.Reached.{IsReached}
use Rattle.spec_api.specs.Reading.{reading}
use Rattle.spec_api.specs.Replacements.{says_the_same, with_status_in}
use Rattle.spec_api.specs.Verbs.{Outcome, accept, new_name, object_in, write_of}
use Rattle.spec_client_go.specs.declared.controller.Controller.{Controller}
use Rattle.spec_client_go.specs.declared.controller.Controller.TheVariants as controller
use Rattle.spec_client_go.specs.Commands.{Command, create, update, update_status, delete, request_of}
use Rattle.spec_client_go.specs.Hands.{Hand, live}
use Rattle.spec_laws.specs.LifecycleLaws.{OfReplaced}
use Rattle.spec_laws.proofs.Cases.{of_create, of_status, of_delete}
use Rattle.spec_laws.proofs.Removals.{member-restated}
use Rattle.spec_laws.proofs.VerbLaws.{found-state, none_from, of_held, of_none}
use Rattle.spec_reconcile.specs.NewPods.{new_pod}
use Rattle.spec_reconcile.specs.MetadataEdits.{with_list}
use Rattle.spec_reconcile.specs.PodClaims.{claim, claims, is_released, released, is_adoptable, adopted, may_adopt, own_pods}
use Rattle.spec_reconcile.specs.PodRanks.{missing, victims}
use Rattle.spec_reconcile.specs.ReplicaSets.{set_looked_at, pods_looked_at, replicas, status, with_status, delete_pod, scale, scale_if, report, new_status, plan_with, plan_of}
use Rattle.spec_sim.specs.Turns.{Turn, begun, hand, plan_by, left as still_left}
use Rattle.sim_overshoot_laws.specs.Overshoot.{is_replica_sets}
use Rattle.sim_overshoot_laws.proofs.LookedPods.{IsStanding}
use Rattle.sim_overshoot_laws.proofs.StoredParts.{member-marked}
use Rattle.sim_overshoot_laws.proofs.TurnWrites.{edits_replace}

-- ---- what a plan commands, of pods that are so

pub data Planned (P : Key → Data → Type 0) (k : Key) (set : Data) : Command → Type 0 where
  releases : (j : Key) (d : Data) → P j d → is_released set d ≡ true → Planned P k set (update j (released set d))
  adopts : (j : Key) (d : Data) → P j d → is_adoptable set d ≡ true → Planned P k set (update j (adopted k set d))
  creates : Planned P k set (create Pod k.namespace (new_pod k set))
  deletes : (j : Key) (u : Option (List ℕ)) → Planned P k set (delete j u None None)
  reports : (d : Data) → Planned P k set (update_status k d)

module _ (P : Key → Data → Type 0) (k : Key) (set : Data) where
  abbrev Of : Key × Data → Type 0
  Of e = P e.0 e.1

  abbrev All : List Command → Type 0
  All cs = AllByRecursion (λ c. Planned P k set c) cs

  both : (xs ys : List Command) → All xs → All ys → All (xs ++ ys)
  both [] ys a b = b
  both (x ∷ xs) ys a b = (a.0, both xs ys a.1 b)

  one_claim : (may : Bool) (e : Key × Data) → P e.0 e.1 → All (claim k set may e)
  one_claim may e p = by (is_released set e.1) refl may (is_adoptable set e.1) refl
    where
      by : (a : Bool) → is_released set e.1 ≡ a → (m b : Bool) → is_adoptable set e.1 ≡ b → All (cond a (update e.0 (released set e.1) ∷ []) (cond (m && b) (update e.0 (adopted k set e.1) ∷ []) []))
      by true is m b f = (releases e.0 e.1 p is, tt)
      by false is true true f = (adopts e.0 e.1 p f, tt)
      by false is true false f = tt
      by false is false b f = tt

  all_claims : (may : Bool) (es : Entries) → AllByRecursion Of es → All (claims k set may es)
  all_claims may [] p = tt
  all_claims may (e ∷ es) p = both (claim k set may e) (flat_map (claim k set may) es) (one_claim may e p.0) (all_claims may es p.1)

  all_creates : (n : ℕ) → All (replicate n (create Pod k.namespace (new_pod k set)))
  all_creates zero = tt
  all_creates (suc n) = (creates, all_creates n)

  all_deletes : (es : Entries) → All (map delete_pod es)
  all_deletes [] = tt
  all_deletes (e ∷ es) = (deletes e.0 _, all_deletes es)

  all_scaled : (b : Bool) (es : Entries) → All (cond b (scale k set es) [])
  all_scaled true es =
      both (replicate (missing (replicas set) es) (create Pod k.namespace (new_pod k set))) (map delete_pod (victims (replicas set) es)) (all_creates (missing (replicas set) es)) (all_deletes (victims (replicas set) es))
  all_scaled false es = tt

  all_reports : (b : Bool) (d : Data) → All (cond b [] (update_status k d ∷ []))
  all_reports true d = tt
  all_reports false d = (reports d, tt)

  all_planned : (b may : Bool) (es : Entries) → AllByRecursion Of es → All (plan_with b k set may es)
  all_planned b may es p =
      both (claims k set may es) (scale_if b k set (own_pods set may es) ++ report k set (own_pods set may es)) (all_claims may es p)
      (both (scale_if b k set (own_pods set may es)) (report k set (own_pods set may es)) (all_scaled (b && not (is_being_deleted set)) (own_pods set may es))
      (all_reports (says_the_same (object (status set)) (object (new_status set (own_pods set may es)))) (with_status (new_status set (own_pods set may es)) set)))

  -- what passes is as what was there
  passing : (q : Key × Data → Bool) (es : Entries) → AllByRecursion Of es → AllByRecursion Of (filter q es)
  passing q [] p = tt
  passing q (e ∷ es) p = by (q e) (passing q es p.1)
    where
      by : (b : Bool) → AllByRecursion Of (filter q es) → AllByRecursion Of (cond b (e ∷ filter q es) (filter q es))
      by true rest = (p.0, rest)
      by false rest = rest

  of_all : (n : ℕ) (cs : List Command) (x : Command) (rest : List Command) → All cs → drop n cs ≡ x ∷ rest → Planned P k set x
  of_all zero [] x rest a e = cc
  of_all (suc n) [] x rest a e = cc
  of_all zero (c ∷ cs) x rest a e = let is : c ≡ x = cc in subst (λ y. Planned P k set y) is a.0
  of_all (suc n) (c ∷ cs) x rest a e = of_all n cs x rest a.1 e

-- in a turn of the ReplicaSet controller, of the set that it looked at
abbrev NextOf : (P : Key → Data → Type 0) → Hand → Command → Type 0
NextOf P h x = (set : Data) × (set_looked_at h ≡ Some set) × Planned P h.key set x

by_controller : (P : Key → Data → Type 0) (j : Controller) (h : Hand) (n : ℕ) (x : Command) (rest : List Command) → is_replica_sets (Some (begun (record { controller = j; key = h.key }))) ≡ true
    → drop n (plan_by j h) ≡ x ∷ rest → AllByRecursion (λ (e : Key × Data). P e.0 e.1) h.looks.pods → NextOf P h x
unfolding plan_by
by_controller P controller.Deployment h n x rest is next looks = cc
by_controller P controller.Collector h n x rest is next looks = cc
by_controller P controller.ReplicaSet h n x rest is next looks = by (found h.key h.looks.replica_sets) refl
  where
    none : (n : ℕ) → drop n [] ≡ x ∷ rest → NextOf P h x
    none zero e = cc
    none (suc n) e = cc

    by : (y : Option Data) → found h.key h.looks.replica_sets ≡ y → NextOf P h x
    by None f = none n (ap (drop n) (sym (ap (plan_of h) f)) ∙ next)
    by (Some set) f = (
      set,
      f,
      of_all P h.key set n (plan_of h (Some set)) x rest
          (all_planned P h.key set h.is_satisfied (may_adopt set (live h.reads h.key)) (pods_looked_at h) (passing P h.key set (λ m. bytes_eq m.0.namespace h.key.namespace) h.looks.pods looks))
          (ap (drop n) (sym (ap (plan_of h) f)) ∙ next),
    )

pub planned_next : (P : Key → Data → Type 0) (t : Turn) (x : Command) (rest : List Command) → is_replica_sets (Some t) ≡ true → still_left t ≡ x ∷ rest → AllByRecursion (λ (e : Key × Data). P e.0 e.1) (hand t).looks.pods
    → (set : Data) × (set_looked_at (hand t) ≡ Some set) × Planned P t.work_key.key set x
planned_next P t x rest is next looks = by_controller P t.work_key.controller (hand t) (length t.issues) x rest is next looks

-- an update is of one of these, with other references
abbrev pub Edits : (Key × Data → Type 0) → Command → Type 0
Edits P (update k d) = (e : Data) × P (k, e) × (items : Items) × (d ≡ with_list (codes "ownerReferences") items e)
Edits P x = Unit {0}

pub next_edits : (P : Key × Data → Type 0) (t : Turn) (x : Command) (rest : List Command) → t.work_key.controller ≡ controller.ReplicaSet → still_left t ≡ x ∷ rest → AllByRecursion P (hand t).looks.pods → Edits P x
next_edits P t x rest is next looks =
    let n = planned_next (λ k d. P (k, d)) t x rest (ap (λ j. is_replica_sets (Some (begun (record { controller = j; key = t.work_key.key })))) is) next looks in by n.0 x n.2
  where
    by : (set : Data) (x : Command) → Planned (λ k d. P (k, d)) t.work_key.key set x → Edits P x
    by set _ (releases j d p is) = (d, p, _, refl)
    by set _ (adopts j d p is) = (d, p, _, refl)
    by set _ creates = tt
    by set _ (deletes j u) = tt
    by set _ (reports d) = tt

-- ---- what is written in the place of an object

-- it has the same namespace, references and labels
pub record SameParts (was new : Data) : Type 0 where
  pub namespace : metadata (codes "namespace") new ≡ metadata (codes "namespace") was
  pub references : metadata (codes "ownerReferences") new ≡ metadata (codes "ownerReferences") was
  pub labels : metadata (codes "labels") new ≡ metadata (codes "labels") was

-- or what was there is a pod that the set releases, or adopts
abbrev pub Replaces : Data → Data → Data → Type 0
Replaces set was new = SameParts was new ⊎ ((is_released set was ≡ true) ⊎ (is_adoptable set was ≡ true))

-- a pod that was there at some revision
abbrev pub WasPod : History → Key → Data → Type 0
WasPod h k d = IsStanding h (present h) (k, d)

module _ (h : History) (reached : IsReached h) where
  -- an update of a pod with other references writes in the place of the pod that was looked at
  edits : (R : Data → Data → Type 0) (j : Key) (d : Data) (items : Items) (moment : List ℕ) → WasPod h j d → ((new : Data) → R d new)
      → OfReplaced h (accept (update_object j (with_list (codes "ownerReferences") items d)) h moment) (λ k was new. R was new)
  edits R j d items moment looked so =
      by (write_of (accept (update_object j (with_list (codes "ownerReferences") items d)) h moment)) (edits_replace h moment looked.1 j d items reached looked.0 looked.3)
    where
      by : (x : Option Write) → IfSome x (λ w. (w.key ≡ j) × (state h (present h) w.key ≡ Some d)) → IfSome x (λ w. IfSome w.put (λ new. IfSome (state h (present h) w.key) (λ was. R was new)))
      by None s = tt
      by (Some w) s = put w.put
        where
          put : (y : Option Data) → IfSome y (λ new. IfSome (state h (present h) w.key) (λ was. R was new))
          put None = tt
          put (Some new) = of_held (λ was. R was new) (state h (present h) w.key) d s.1 (so new)

  module _ (k : Key) (set : Data) (before : Option (List ℕ)) (moment : List ℕ) where
    abbrev Left : Outcome → Type 0
    Left u = OfReplaced h u (λ j was new. Replaces set was new)

    held : (j : Key) (existing new : Data) → found j (entries_at h (present h)) ≡ Some existing → SameParts existing new → IfSome (state h (present h) j) (λ was. Replaces set was new)
    held j existing new at same = of_held (λ was. Replaces set was new) (state h (present h) j) existing (sym (found-state h j) ∙ at) (inl same)

    -- so each command that is planned writes
    pub planned_writes : (x : Command) → Planned (WasPod h) k set x → Left (accept (request_of before x) h moment)
    planned_writes _ (releases j d looked is) = edits (Replaces set) j d _ moment looked (λ new. inr (inl is))
    planned_writes _ (adopts j d looked is) = edits (Replaces set) j d _ moment looked (λ new. inr (inr is))
    planned_writes _ creates =
        of_create Left (λ f. tt) Pod k.namespace (object_in Pod (new_pod k set)) (entries_at h (present h)) (present h) moment
        (λ o read valid fits free room.
        let j = new_name Pod k.namespace o (entries_at h (present h)) (present h) in
        of_none (λ was. Replaces set was (new_objects.created Pod (present h + 1) k.namespace j.name moment o)) (state h (present h) j) (sym (found-state h j) ∙ none_from (found j (entries_at h (present h))) free))
    planned_writes _ (deletes j u) =
        of_delete Left (λ f. tt) (λ code body. tt) j (record { uid = u; version = None; policy = None }) (entries_at h (present h)) (present h) moment
        (λ existing at a b low.
        let r = present h + 1 in
        let left = left_by None (finalizers existing) in
        let d = being_deleted j.kind moment left existing in
        held j existing (at_revision r (metadata_of d) d) at
        (record {
          namespace = member-marked (codes "namespace") j.kind r moment left existing refl refl refl refl;
          references = member-marked (codes "ownerReferences") j.kind r moment left existing refl refl refl refl;
          labels = member-marked (codes "labels") j.kind r moment left existing refl refl refl refl;
        }))
        (λ existing at a b none low. tt)
    planned_writes _ (reports d) =
        of_status Left (λ f. tt) (λ d. tt) k (reading k.kind d) (entries_at h (present h)) (present h)
        (λ o existing read at same fits low.
        let r = present h + 1 in
        let e = with_status_in k.kind existing o in
        held k existing (at_revision r (metadata_of e) e) at
        (record {
          namespace = member-restated (codes "namespace") k.kind r existing o refl;
          references = member-restated (codes "ownerReferences") k.kind r existing o refl;
          labels = member-restated (codes "labels") k.kind r existing o refl;
        }))
