-- What a Deployment's plan commands, of sets that are so.
use Rattle.std.proofs.Common.{◌≡◌, ◌≤◌, ◌+◌, ◌-◌, ◌==◌, ◌&&◌, ◌++◌, ℕ, List, [], ◌∷◌, map, filter, length, min, Bool, true, false, cond, not, nat_lt, codes, IfSome, Option, Some, None, refl, sym, arith}
use Rattle.std.proofs.lemmas.Bool.{ltb-false}
use Rattle.std.specs.List.{AllByRecursion, list_any}
use Rattle.std.specs.Ordering.{nat_cmp, on}
use Rattle.serde_json.specs.Data.{Data, object, put}
use Rattle.spec_api.specs.declared.kinds.Kind.TheVariants.{ReplicaSet}
use Rattle.spec_api.specs.Checks.{in_spec}
use Rattle.spec_api.specs.Defaults.{unsigned_value, is_rolling_update}
use Rattle.spec_api.specs.History.{Entries}
use Rattle.spec_api.specs.Keys.{Key}
use Rattle.spec_api.specs.Metadata.{uid, is_being_deleted}
use Rattle.spec_api.specs.Replacements.{says_the_same}
use Rattle.spec_api.specs.SelectorValues.{is_some_and}
use Rattle.spec_client_go.specs.Commands.{Command, create, update, update_status, delete}
use Rattle.spec_client_go.specs.Informers.{Looks}
use Rattle.spec_laws.specs.DeploymentLaws.{Bounded}
use Rattle.spec_laws.proofs.DeploymentPlans.{all_kept, all_ordered}
use Rattle.spec_laws.proofs.Permuted.{all_joined, all_taken}
use Rattle.spec_laws.proofs.RolloutNumbers.{only_shrink}
use Rattle.spec_reconcile.specs.Counts.{count_in_spec, count_in_status, replicas}
use Rattle.spec_reconcile.specs.Deployments.{Rollout, and_old, all_but_last, asked_by, clean_up, count_collision, delete_set, due, first_of, forget, go_on, has_running_pods, history, is_complete, is_going_on, is_name_taken, is_spent, new_object, pace_of, plan_for, recreate, renew, renew_whole, report, roll, roll_with, scale, scale_each, sets, summary, tally, with_replicas, with_summary}
use Rattle.spec_reconcile.specs.Revisions.{revision, raised}
use Rattle.spec_reconcile.specs.Rollouts.{asked, growth, most, resized, shrunk}
use Rattle.spec_reconcile.specs.Statuses.{status, with_status}
use Rattle.sim_rest_command_laws.proofs.Listed.{passed}

-- a command of a rollout of sets that are so
pub data Planned (P : Key × Data → Type 0) (r : Rollout) : Command → Type 0 where
  makes : (n : ℕ) → Planned P r (create ReplicaSet r.key.namespace (new_object r n))
  scales : (s : Key × Data) (n : ℕ) → P s → n ≤ replicas s.1 → (replicas s.1 == n) ≡ false → Planned P r (update s.0 (with_replicas n s.1))
  renews : (s : Key × Data) (n : ℕ) → P s → n ≤ replicas r.deployment → ((replicas s.1 == n) && not (nat_lt (revision s.1) (due r))) ≡ false → Planned P r (update s.0 (with_replicas n (raised (due r) s.1)))
  deletes : (s : Key × Data) → P s → is_being_deleted s.1 ≡ false → Planned P r (delete s.0 (uid s.1) None None)
  collides : (n : ℕ) → n ≡ count_in_status (codes "collisionCount") r.deployment → nat_lt n 2147483647 ≡ true
      → Planned P r (update_status r.key (with_status (put (codes "collisionCount") (unsigned_value (n + 1)) (status r.deployment)) r.deployment))
  reports : says_the_same (object (status r.deployment)) (object (with_summary (summary r) (status r.deployment))) ≡ false
      → Planned P r (update_status r.key (with_status (with_summary (summary r) (status r.deployment)) r.deployment))

module _ (P : Key × Data → Type 0) (r : Rollout) where
  abbrev All : List Command → Type 0
  All cs = AllByRecursion (Planned P r) cs

  either : (b : Bool) (xs ys : List Command) → All xs → All ys → All (cond b xs ys)
  either true xs ys a b = a
  either false xs ys a b = b

  first : (xs ys : List Command) → All xs → All ys → All (first_of xs ys)
  first [] ys a b = b
  first (x ∷ xs) ys a b = a

  -- unless it is so already
  unless : (b : Bool) (c : Command) → (b ≡ false → Planned P r c) → All (cond b [] (c ∷ []))
  unless true c f = tt
  unless false c f = (f refl, tt)

  -- ---- sets scaled

  all_scaled : (ss : Entries) (ns : List ℕ) → AllByRecursion P ss → Bounded ns (asked (map tally ss)) → All (scale_each ss ns)
  all_scaled [] ns a b = tt
  all_scaled (s ∷ ss) [] a b = tt
  all_scaled (s ∷ ss) (n ∷ ns) a b =
      all_joined (Planned P r) (scale s n) (scale_each ss ns) (unless (replicas s.1 == n) (update s.0 (with_replicas n s.1)) (scales s n a.0 b.0)) (all_scaled ss ns a.1 b.1)

  zeros : (ss : Entries) → Bounded (map (λ (s : Key × Data). 0) ss) (asked (map tally ss))
  zeros [] = tt
  zeros (s ∷ ss) = (omega arith, zeros ss)

  renewed : (s : Key × Data) (n : ℕ) → P s → n ≤ replicas r.deployment → All (renew s n (due r))
  renewed s n p le = unless ((replicas s.1 == n) && not (nat_lt (revision s.1) (due r))) (update s.0 (with_replicas n (raised (due r) s.1))) (renews s n p le)

  resized_low : (w m all n : ℕ) (b : Bool) → nat_lt w n ≡ b → cond b w (n + min (m - all) (w - n)) ≤ w
  resized_low w m all n true e = omega arith
  resized_low w m all n false e = let le = ltb-false w n e in omega arith

  -- ---- sets deleted

  all_deleted : (ss : Entries) → AllByRecursion (λ (s : Key × Data). P s × (not (is_being_deleted s.1) ≡ true)) ss → All (map delete_set ss)
  all_deleted [] a = tt
  all_deleted (s ∷ ss) a = (deletes s a.0.0 (is_false (is_being_deleted s.1) a.0.1), all_deleted ss a.1)
    where
      is_false : (b : Bool) → not b ≡ true → b ≡ false
      is_false true e = sym e
      is_false false e = refl

  module _ (olds : AllByRecursion P r.old) where
    abbrev Stays : Key × Data → Type 0
    Stays s = P s × (not (is_being_deleted s.1) ≡ true)

    forgotten : (limit : ℕ) → All (forget limit r.old)
    forgotten limit =
        let live = filter (λ (s : Key × Data). not (is_being_deleted s.1)) r.old in
        let from_live : AllByRecursion Stays live = passed P (λ (s : Key × Data). not (is_being_deleted s.1)) r.old olds in
        let from_history : AllByRecursion Stays (history r.old) = all_ordered Stays (on (λ (s : Key × Data). revision s.1) nat_cmp) live from_live in
        all_deleted (filter (λ (s : Key × Data). is_spent s.1) (all_but_last limit (history r.old)))
        (all_kept Stays (λ (s : Key × Data). is_spent s.1) (all_but_last limit (history r.old)) (all_taken Stays (length (history r.old) - limit) (history r.old) from_history))

    cleaned : All (clean_up r)
    cleaned =
        either (is_complete (replicas r.deployment) (summary r)) (forget (count_in_spec (codes "revisionHistoryLimit") r.deployment) r.old) []
        (forgotten (count_in_spec (codes "revisionHistoryLimit") r.deployment)) tt

    -- ---- what goes on

    rolled : (o : Option (Key × Data)) → IfSome o P → All (roll_with r (pace_of r.deployment) o)
    rolled None is = (makes (growth (pace_of r.deployment) (asked_by r.old) 0), tt)
    rolled (Some new) is =
        let pace = pace_of r.deployment in
        let n = resized pace (asked_by (new ∷ r.old)) (replicas new.1) in
        let le : n ≤ replicas r.deployment = resized_low (replicas r.deployment) (most pace) (asked_by (new ∷ r.old)) (replicas new.1) (nat_lt (replicas r.deployment) (replicas new.1)) refl in
        let ns = shrunk pace (tally new) (map tally r.old) in
        first (renew new n (due r)) (first_of (scale_each r.old ns) (clean_up r)) (renewed new n is le)
        (first (scale_each r.old ns) (clean_up r) (all_scaled r.old ns olds (only_shrink pace (tally new) (map tally r.old))) cleaned)

    renewed_whole : (o : Option (Key × Data)) → IfSome o P → All (renew_whole r o)
    renewed_whole None is = (makes (replicas r.deployment), tt)
    renewed_whole (Some new) is = renewed new (replicas r.deployment) is (omega arith)

    module _ (news : IfSome r.new P) where
      recreated : (pods : Entries) → All (recreate r pods)
      recreated pods =
          let ns = map (λ (s : Key × Data). 0) r.old in
          let runs = list_any (has_running_pods r.key.namespace pods) r.old in
          let later = first_of (renew_whole r r.new) (clean_up r) in
          first (scale_each r.old ns) (cond runs [] later) (all_scaled r.old ns olds (zeros r.old))
          (either runs [] later tt (first (renew_whole r r.new) (clean_up r) (renewed_whole r.new news) cleaned))

      goes_on : (pods : Entries) → All (go_on r pods)
      goes_on pods = either (is_some_and is_rolling_update (in_spec (codes "strategy") r.deployment)) (roll r) (recreate r pods) (rolled r.new news) (recreated pods)

      -- ---- the status

      reported : All (report r)
      reported =
          unless (says_the_same (object (status r.deployment)) (object (with_summary (summary r) (status r.deployment))))
          (update_status r.key (with_status (with_summary (summary r) (status r.deployment)) r.deployment)) reports

      collided : (n : ℕ) → n ≡ count_in_status (codes "collisionCount") r.deployment → All (count_collision r n)
      collided n is = by (nat_lt n 2147483647) refl
        where
          by : (b : Bool) → nat_lt n 2147483647 ≡ b
              → All (cond b (update_status r.key (with_status (put (codes "collisionCount") (unsigned_value (n + 1)) (status r.deployment)) r.deployment) ∷ []) [])
          by true few = (collides n is few, tt)
          by false few = tt

      pub all_planned : (l : Looks) → All (plan_for r l)
      all_planned l =
          let n = count_in_status (codes "collisionCount") r.deployment in
          let taken = is_name_taken r l.replica_sets in
          either (not (is_going_on r.deployment)) (report r) (cond taken (count_collision r n) (go_on r l.pods ++ report r)) reported
          (either taken (count_collision r n) (go_on r l.pods ++ report r) (collided n refl) (all_joined (Planned P r) (go_on r l.pods) (report r) (goes_on l.pods) reported))

-- of a rollout all of whose sets are so
pub of_sets : (P : Key × Data → Type 0) (r : Rollout) (l : Looks) → AllByRecursion P (sets r) → AllByRecursion (Planned P r) (plan_for r l)
of_sets P r l all = let two = split r.new r.old all in all_planned P r two.1 two.0 l
  where
    split : (o : Option (Key × Data)) (old : Entries) → AllByRecursion P (and_old o old) → IfSome o P × AllByRecursion P old
    split None old all = (tt, all)
    split (Some new) old all = (all.0, all.1)
