-- What a turn has looked at was there.
use Rattle.std.proofs.Common.{◌≡◌, ◌≤◌, ◌+◌, ◌-◌, ◌==◌, ◌&&◌, ◌⊎◌, inl, inr, ℕ, zero, suc, List, [], ◌∷◌, ◌++◌, length, length-append, take, Bool, true, false, cond, Option, Some, None, Ordering, Less, Equal, Greater, is_eq, refl, sym, ap, ◌∙◌, subst, slice_get, arith}
use Rattle.std.specs.List.{AllByRecursion}
use Rattle.std.specs.Ordering.{ordering_reverse}
use Rattle.serde_json.specs.Data.{Data}
use Rattle.spec_api.proofs.PutLaws.{name_cmp_total}
use Rattle.spec_api.specs.declared.kinds.Kind.{Kind}
use Rattle.spec_api.specs.declared.kinds.Kind.TheVariants.{Pod, ReplicaSet}
use Rattle.spec_api.specs.History.{History, Write, writes, present, last_of, state, found, seen, in_view, unfiltered, list}
use Rattle.spec_api.specs.Keys.{Key, key_cmp, is_same_key}
use Rattle.spec_api.specs.Kinds.{rank}
use Rattle.spec_laws.proofs.SentChanges.{same_kind}
use Rattle.spec_reconcile.specs.ReplicaSets.{set_looked_at}
use Rattle.spec_sim.specs.ControlPlanes.{Step, opened, run}
use Rattle.spec_sim.specs.Turns.{Turn, Sight, looked, satisfied, shown, hand}
use Rattle.sim_worker_laws.specs.IssuedLaws.{IsSeen}
use Rattle.sim_worker_laws.specs.LookLaws.{WasPublishedSince}
use Rattle.sim_worker_laws.proofs.Lists.{all_map}
use Rattle.sim_worker_laws.proofs.LookRuns.{under_way}
use Rattle.sim_control_plane_laws.specs.PlaneLaws.{IsServerList}
use Rattle.sim_control_plane_laws.proofs.PlaneRuns.{look_listed}
use Rattle.spec_sim.specs.declared.initial_syncs.InitialSync.{InitialSync}
use Rattle.spec_sim.specs.Clusters.{history}
use Rattle.sim_overshoot_laws.proofs.Bounding.{lists_show, shows_there}
use Rattle.sim_overshoot_laws.proofs.LookedPods.{list_standing}
use Rattle.sim_overshoot_laws.proofs.PodWrites.{WasPod}

-- ---- what a write puts is there after it

reversed : (x : Ordering) → x ≡ ordering_reverse x → x ≡ Equal
reversed Less e = cc
reversed Equal e = refl
reversed Greater e = cc

pub is_itself : (k : Key) → is_same_key k k ≡ true
is_itself k = ap is_eq (reversed (key_cmp k k) (name_cmp_total.antisymm k k))

last_put : (k : Key) (x : Option Data) (before : List Write) (w : Write) → last_of x k (before ++ w ∷ []) ≡ cond (is_same_key k w.key) w.put (last_of x k before)
last_put k x [] w = refl
last_put k x (v ∷ before) w = last_put k (cond (is_same_key k v.key) v.put x) before w

pub take_past : {A : Type 0} → (xs ys : List A) (i n : ℕ) → n ≡ length xs + i → take n (xs ++ ys) ≡ xs ++ take i ys
take_past [] ys i n e = ap (λ m. take m ys) (plain n i e)
  where
    plain : (n i : ℕ) → n ≡ 0 + i → n ≡ i
    plain n i e = omega (arith, e)
take_past (x ∷ xs) ys i zero e = absurd (omega (arith, e))
take_past (x ∷ xs) ys i (suc n) e = ap (λ zs. x ∷ zs) (take_past xs ys i n (less n (length xs) i e))
  where
    less : (n m i : ℕ) → suc n ≡ suc m + i → n ≡ m + i
    less n m i e = omega (arith, e)

pub put_there : (h : History) (before : List Write) (w : Write) (ws : List Write) → writes h ≡ before ++ (w ∷ ws) → (length before + 2 ≤ present h) × (state h (length before + 2) w.key ≡ w.put)
put_there h before w ws e = (
  let long : length (writes h) ≡ length before + length (w ∷ ws) = ap length e ∙ length-append before (w ∷ ws) in
      within (length (writes h)) (length before) (length ws) long,
  ap (λ vs. last_of None w.key (take (length before + 2 - 1) vs)) e
      ∙ ap (last_of None w.key) (take_past before (w ∷ ws) 1 (length before + 2 - 1) (one (length before)))
      ∙ last_put w.key None before w
      ∙ ap (λ b. cond b w.put (last_of None w.key before)) (is_itself w.key),
)
  where
    within : (n b m : ℕ) → n ≡ b + suc m → b + 2 ≤ n + 1
    within n b m e = omega (arith, e)

    one : (b : ℕ) → b + 2 - 1 ≡ b + 1
    one b = omega arith

-- ---- the looks of a turn

module _ (h : History) where
  abbrev Seen : List Sight → Type 0
  Seen ss = AllByRecursion (IsSeen (IsServerList h)) ss

  shown_list : (k : Kind) (ss : List Sight) → Seen ss → (shown k ss ≡ []) ⊎ ((r : ℕ) × (r ≤ present h) × (shown k ss ≡ list h (unfiltered k None) r))
  shown_list k [] a = inl refl
  shown_list k (satisfied b ∷ ss) a = shown_list k ss a.1
  shown_list k (looked j s ∷ ss) a = by (rank k == rank j) refl (shown_list k ss a.1)
    where
      by : (b : Bool) → (rank k == rank j) ≡ b → (shown k ss ≡ []) ⊎ ((r : ℕ) × (r ≤ present h) × (shown k ss ≡ list h (unfiltered k None) r))
          → (cond b s.members (shown k ss) ≡ []) ⊎ ((r : ℕ) × (r ≤ present h) × (cond b s.members (shown k ss) ≡ list h (unfiltered k None) r))
      by true is rest = let one : k ≡ j = same_kind k j (ap (λ b. b && true && true && true) is) in inr (s.revision, a.0.1, a.0.0 ∙ ap (λ i. list h (unfiltered i None) s.revision) (sym one))
      by false is rest = rest

  -- each pod that was looked at was there
  pub pods_seen : (t : Turn) → Seen t.sights → AllByRecursion (λ (e : Key × Data). WasPod h e.0 e.1) (hand t).looks.pods
  pods_seen t a = by (shown_list Pod t.sights a)
    where
      by : (shown Pod t.sights ≡ []) ⊎ ((r : ℕ) × (r ≤ present h) × (shown Pod t.sights ≡ list h (unfiltered Pod None) r)) → AllByRecursion (λ (e : Key × Data). WasPod h e.0 e.1) (shown Pod t.sights)
      by (inl none) = subst (AllByRecursion (λ (e : Key × Data). WasPod h e.0 e.1)) (sym none) tt
      by (inr l) = subst (AllByRecursion (λ (e : Key × Data). WasPod h e.0 e.1)) (sym l.2) (list_standing h l.0 (present h) l.1)

  -- and so was the set
  pub set_seen : (t : Turn) (set : Data) → Seen t.sights → set_looked_at (hand t) ≡ Some set
      → (r : ℕ) × (r ≤ present h) × (state h r t.work_key.key ≡ Some set) × (t.work_key.key.kind ≡ ReplicaSet)
  set_seen t set a at = by (shown_list ReplicaSet t.sights a)
    where
      kind_in : (b : Bool) → in_view (unfiltered ReplicaSet None) t.work_key.key set ≡ b → cond b (Some set) None ≡ Some set → t.work_key.key.kind ≡ ReplicaSet
      kind_in true is e = sym (same_kind ReplicaSet t.work_key.key.kind is)
      kind_in false is e = cc

      by : (shown ReplicaSet t.sights ≡ []) ⊎ ((r : ℕ) × (r ≤ present h) × (shown ReplicaSet t.sights ≡ list h (unfiltered ReplicaSet None) r))
          → (r : ℕ) × (r ≤ present h) × (state h r t.work_key.key ≡ Some set) × (t.work_key.key.kind ≡ ReplicaSet)
      by (inl none) = let no = sym (ap (found t.work_key.key) none) ∙ at in cc
      by (inr l) =
          let v = unfiltered ReplicaSet None in
          let k = t.work_key.key in
          let here : seen v k (state h l.0 k) ≡ Some set = sym (lists_show h v l.0 k) ∙ sym (ap (found k) l.2) ∙ at in
          let there = shows_there v k (state h l.0 k) set here in
          (l.0, l.1, there, kind_in (in_view v k set) refl (sym (ap (seen v k) there) ∙ here))

-- ---- over all steps

module _ (window workers : ℕ) (initial : InitialSync) (steps : List Step) where
  listed_since : (s : Sight) → IsSeen (WasPublishedSince (opened window workers initial) steps) s → IsSeen (IsServerList (history (run (opened window workers initial) steps).cluster)) s
  listed_since (looked k s) x = look_listed window workers initial steps k s (x.0, x.1, x.2, x.4)
  listed_since (satisfied b) x = tt

  -- each look of a turn in a worker's hands is the server's list at its revision
  pub turn_listed : (w : ℕ) (t : Turn) → slice_get (run (opened window workers initial) steps).manager.turns w ≡ Some (Some t) → AllByRecursion (IsSeen (IsServerList (history (run (opened window workers initial) steps).cluster))) t.sights
  turn_listed w t here =
      all_map (IsSeen (WasPublishedSince (opened window workers initial) steps)) (IsSeen (IsServerList (history (run (opened window workers initial) steps).cluster))) listed_since t.sights (under_way window workers initial steps w t here).looks
