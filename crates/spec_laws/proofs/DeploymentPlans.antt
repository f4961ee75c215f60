-- The laws of Deployments' plans: how many sets they make, and which they delete.
use Rattle.std.proofs.Common.{◌≡◌, ◌≤◌, ◌-◌, ◌+◌, inl, inr, ℕ, List, [], ◌∷◌, ◌++◌, length, map, Bool, true, false, cond, Option, Some, None, codes, refl, sym, ap, subst, ◌∙◌, if◌then◌else◌, not, ◌&&◌, ◌==◌, nat_le, nat_lt, arith, Ordering}
use Rattle.std.proofs.lemmas.Bool.{and_parts, eqb-true}
use Rattle.std.proofs.lemmas.List.{length-drop}
use Rattle.std.proofs.lemmas.Map.Keys.{ge_from_not_lt}
use Rattle.std.specs.Cmp.{nat_cmp_total, on_total}
use Rattle.std.specs.List.{AllByRecursion, Contains, filter, list_any}
use Rattle.std.specs.Ordering.{is_le, is_lt, nat_cmp, on}
use Rattle.serde_json.specs.Data.{Data, object, put}
use Rattle.spec_api.specs.Checks.{in_spec}
use Rattle.spec_api.specs.Defaults.{is_rolling_update, unsigned_value}
use Rattle.spec_api.specs.History.{Entries, found}
use Rattle.spec_api.specs.Keys.{Key}
use Rattle.spec_api.specs.Metadata.{is_being_deleted}
use Rattle.spec_api.specs.Replacements.{generation, says_the_same}
use Rattle.spec_api.specs.SelectorValues.{is_some_and}
use Rattle.spec_client_go.specs.Commands.{Command, update, update_status}
use Rattle.spec_client_go.specs.Hands.{Hand}
use Rattle.spec_client_go.specs.Informers.{Looks}
use Rattle.spec_reconcile.specs.Counts.{count_in_status, replicas}
use Rattle.spec_reconcile.specs.Deployments.{Rollout, all_but_last, clean_up, count_collision, delete_set, due, first_of, forget, go_on, has_running_pods, history, is_complete, is_going_on, is_name_taken, is_spent, make, pace_of, plan, plan_for, plan_of, recreate, renew, renew_whole, report, roll, roll_with, rollout, scale, scale_each, summary, tally, asked_by, with_replicas, with_summary}
use Rattle.spec_reconcile.specs.Orders.{placed, in_order}
use Rattle.spec_reconcile.specs.Revisions.{raised, revision}
use Rattle.spec_reconcile.specs.Rollouts.{growth, resized, shrunk}
use Rattle.spec_reconcile.specs.Statuses.{status, with_status}
use Rattle.spec_reconcile.specs.declared.rollouts.Pace.{Pace}
use Rattle.spec_laws.specs.ReplicaSetLaws.{created}
use Rattle.spec_laws.specs.DeploymentLaws.{AtMostOneSetIsMade, IsAtMostStatus, WaitingOnesReport, DeletesSpent, OnlySpentSetsAreDeleted, LatestRevisionsStay, latest, limit_of, old_of}
use Rattle.spec_laws.proofs.Counted.{created-append}
use Rattle.spec_laws.proofs.Permuted.{all_taken, all_joined, all_contained, lowest_first}

-- ---- what holds of the parts of a plan holds of it

pub either : (P : List Command → Type 0) (b : Bool) (xs ys : List Command) → P xs → P ys → P (if b then xs else ys)
either P true xs ys h k = h
either P false xs ys h k = k

pub first : (P : List Command → Type 0) (xs ys : List Command) → P xs → P ys → P (first_of xs ys)
first P [] ys h k = k
first P (x ∷ xs) ys h k = h

-- of what a Deployment does to go on
pub record Parts (P : List Command → Type 0) (r : Rollout) : Type 0 where
  pub none : P []
  pub makes : (n : ℕ) → P (make r n)
  pub renews : (new : Key × Data) (n : ℕ) → P (renew new n (due r))
  pub scales : (ns : List ℕ) → P (scale_each r.old ns)
  pub forgets : P (forget (limit_of r.deployment) r.old)

cleaned : (P : List Command → Type 0) (r : Rollout) → Parts P r → P (clean_up r)
cleaned P r parts = either P (is_complete (replicas r.deployment) (summary r)) (forget (limit_of r.deployment) r.old) [] parts.forgets parts.none

rolled : (P : List Command → Type 0) (r : Rollout) (p : Pace) (o : Option (Key × Data)) → Parts P r → P (roll_with r p o)
rolled P r p None parts = parts.makes (growth p (asked_by r.old) 0)
rolled P r p (Some new) parts =
    let n = resized p (asked_by (new ∷ r.old)) (replicas new.1) in
    let ns = shrunk p (tally new) (map tally r.old) in
    first P (renew new n (due r)) (first_of (scale_each r.old ns) (clean_up r)) (parts.renews new n)
    (first P (scale_each r.old ns) (clean_up r) (parts.scales ns) (cleaned P r parts))

renewed_whole : (P : List Command → Type 0) (r : Rollout) (o : Option (Key × Data)) → Parts P r → P (renew_whole r o)
renewed_whole P r None parts = parts.makes (replicas r.deployment)
renewed_whole P r (Some new) parts = parts.renews new (replicas r.deployment)

recreated : (P : List Command → Type 0) (r : Rollout) (pods : Entries) → Parts P r → P (recreate r pods)
recreated P r pods parts =
    let ns = map (λ (s : Key × Data). 0) r.old in
    let runs = list_any (has_running_pods r.key.namespace pods) r.old in
    let later = first_of (renew_whole r r.new) (clean_up r) in
    first P (scale_each r.old ns) (if runs then [] else later) (parts.scales ns)
    (either P runs [] later parts.none (first P (renew_whole r r.new) (clean_up r) (renewed_whole P r r.new parts) (cleaned P r parts)))

pub gone_on : (P : List Command → Type 0) (r : Rollout) (pods : Entries) → Parts P r → P (go_on r pods)
gone_on P r pods parts =
    either P (is_some_and is_rolling_update (in_spec (codes "strategy") r.deployment)) (roll r) (recreate r pods) (rolled P r (pace_of r.deployment) r.new parts) (recreated P r pods parts)

-- what holds of nothing and of an update of the status holds of a report
pub reported : (P : List Command → Type 0) (r : Rollout) → P [] → ((d : Data) → P (update_status r.key d ∷ [])) → P (report r)
reported P r none told =
    let new = with_summary (summary r) (status r.deployment) in
    either P (says_the_same (object (status r.deployment)) (object new)) [] (update_status r.key (with_status new r.deployment) ∷ []) none (told (with_status new r.deployment))

counted_up : (P : List Command → Type 0) (r : Rollout) (n : ℕ) → P [] → ((d : Data) → P (update_status r.key d ∷ [])) → P (count_collision r n)
counted_up P r n none told =
    let d = with_status (put (codes "collisionCount") (unsigned_value (n + 1)) (status r.deployment)) r.deployment in
    either P (nat_lt n 2147483647) (update_status r.key d ∷ []) [] (told d) none

-- and, where it holds of what is done to go on, with a report, of the whole
pub planned : (P : List Command → Type 0) (r : Rollout) (l : Looks) → P [] → ((d : Data) → P (update_status r.key d ∷ [])) → P (go_on r l.pods ++ report r) → P (plan_for r l)
planned P r l none told going =
    let n = count_in_status (codes "collisionCount") r.deployment in
    let taken = is_name_taken r l.replica_sets in
    either P (not (is_going_on r.deployment)) (report r) (if taken then count_collision r n else go_on r l.pods ++ report r) (reported P r none told)
    (either P taken (count_collision r n) (go_on r l.pods ++ report r) (counted_up P r n none told) going)

pub plan_by : (P : List Command → Type 0) (h : Hand) → P []
    → ((d : Data) → found h.key h.looks.deployments ≡ Some d → P (plan_for (rollout h.key d h.looks.replica_sets) h.looks)) → P (plan h)
plan_by P h none some = by_look (found h.key h.looks.deployments) refl where
  by_look : (o : Option Data) → found h.key h.looks.deployments ≡ o → P (plan_of h.key h.looks o)
  by_look None e = none
  by_look (Some d) e = some d e

pub plan_is : (h : Hand) (d : Data) → found h.key h.looks.deployments ≡ Some d → plan h ≡ plan_for (rollout h.key d h.looks.replica_sets) h.looks
plan_is h d e = ap (plan_of h.key h.looks) e

-- ---- how many sets are made

update_makes_none : (b : Bool) (k : Key) (d : Data) → created (if b then [] else update k d ∷ []) ≡ 0
update_makes_none true k d = refl
update_makes_none false k d = refl

renew_makes_none : (s : Key × Data) (n due : ℕ) → created (renew s n due) ≡ 0
renew_makes_none s n due = update_makes_none _ _ _

pub scales_make_none : (ss : Entries) (ns : List ℕ) → created (scale_each ss ns) ≡ 0
scales_make_none [] ns = refl
scales_make_none (s ∷ ss) [] = refl
scales_make_none (s ∷ ss) (n ∷ ns) =
    let one : created (scale s n) ≡ 0 = update_makes_none _ _ _ in
    let rest = scales_make_none ss ns in
    created-append (scale s n) (scale_each ss ns) ∙ omega arith

pub deletes_make_none : (ss : Entries) → created (map delete_set ss) ≡ 0
deletes_make_none [] = refl
deletes_make_none (s ∷ ss) = deletes_make_none ss

at_most_one : (n : ℕ) → n ≡ 0 → n ≤ 1
at_most_one n e = omega arith

makes_at_most_one : (r : Rollout) → Parts (λ cs. created cs ≤ 1) r
makes_at_most_one r =
    record {
      none = omega arith;
      makes = λ n. omega arith;
      renews = λ new n. at_most_one (created (renew new n (due r))) (renew_makes_none new n (due r));
      scales = λ ns. at_most_one (created (scale_each r.old ns)) (scales_make_none r.old ns);
      forgets = at_most_one (created (forget (limit_of r.deployment) r.old)) (deletes_make_none (filter (λ (s : Key × Data). is_spent s.1) (all_but_last (limit_of r.deployment) (history r.old))));
    }

goes_on_at_most_one : (r : Rollout) (pods : Entries) → created (go_on r pods ++ report r) ≤ 1
goes_on_at_most_one r pods =
    let one = gone_on (λ cs. created cs ≤ 1) r pods (makes_at_most_one r) in
    let none = reported (λ cs. created cs ≡ 0) r refl (λ d. refl) in
    let both = created-append (go_on r pods) (report r) in
    omega arith

pub at_most_one_set_is_made : AtMostOneSetIsMade
at_most_one_set_is_made h =
    plan_by (λ cs. created cs ≤ 1) h (omega arith)
    (λ d e. let r = rollout h.key d h.looks.replica_sets in planned (λ cs. created cs ≤ 1) r h.looks (omega arith) (λ x. omega arith) (goes_on_at_most_one r h.looks.pods))

-- ---- Deployments that wait

pub waiting_ones_report : WaitingOnesReport
waiting_ones_report h d e waits =
    let r = rollout h.key d h.looks.replica_sets in
    let later = if is_name_taken r h.looks.replica_sets then count_collision r (count_in_status (codes "collisionCount") d) else go_on r h.looks.pods ++ report r in
    subst (IsAtMostStatus h.key) (sym (plan_is h d e ∙ ap (λ b. if not b then report r else later) waits))
    (reported (IsAtMostStatus h.key) r (inl refl) (λ new. inr (new, refl)))

-- ---- which sets are deleted

pub all_implied : {A : Type 0} (P Q : A → Type 0) → ((a : A) → P a → Q a) → (as' : List A) → AllByRecursion P as' → AllByRecursion Q as'
all_implied P Q f [] h = tt
all_implied P Q f (a ∷ as') h = (f a h.0, all_implied P Q f as' h.1)

kept-at : {A : Type 0} (P : A → Type 0) (t : A → Bool) (b : Bool) (a : A) (as' : List A) → t a ≡ b → P a → AllByRecursion (λ x. P x × (t x ≡ true)) as' → AllByRecursion (λ x. P x × (t x ≡ true)) (cond b (a ∷ as') as')
kept-at P t true a as' e p h = ((p, e), h)
kept-at P t false a as' e p h = h

-- of those that pass a test
pub kept : {A : Type 0} (P : A → Type 0) (t : A → Bool) (as' : List A) → AllByRecursion P as' → AllByRecursion (λ x. P x × (t x ≡ true)) (filter t as')
kept P t [] h = tt
kept P t (a ∷ as') h = kept-at P t (t a) a (filter t as') refl h.0 (kept P t as' h.1)

pub all_kept : {A : Type 0} (P : A → Type 0) (t : A → Bool) (as' : List A) → AllByRecursion P as' → AllByRecursion P (filter t as')
all_kept P t as' h = all_implied (λ x. P x × (t x ≡ true)) P (λ a x. x.0) (filter t as') (kept P t as' h)

placed_all-at : {A : Type 0} (P : A → Type 0) (b : Bool) (xs ys : List A) → AllByRecursion P xs → AllByRecursion P ys → AllByRecursion P (if b then xs else ys)
placed_all-at P true xs ys h k = h
placed_all-at P false xs ys h k = k

pub all_placed : {A : Type 0} (P : A → Type 0) (cmp : A → A → Ordering) (a : A) (bs : List A) → P a → AllByRecursion P bs → AllByRecursion P (placed cmp a bs)
all_placed P cmp a [] p h = (p, tt)
all_placed P cmp a (b ∷ bs) p h = placed_all-at P (is_le (cmp a b)) (a ∷ b ∷ bs) (b ∷ placed cmp a bs) (p, h) (h.0, all_placed P cmp a bs p h.1)

pub all_ordered : {A : Type 0} (P : A → Type 0) (cmp : A → A → Ordering) (as' : List A) → AllByRecursion P as' → AllByRecursion P (in_order cmp as')
all_ordered P cmp [] h = tt
all_ordered P cmp (a ∷ as') h = all_placed P cmp a (in_order cmp as') h.0 (all_ordered P cmp as' h.1)

pub all_both : {A : Type 0} (P Q : A → Type 0) (as' : List A) → AllByRecursion P as' → AllByRecursion Q as' → AllByRecursion (λ x. P x × Q x) as'
all_both P Q [] h k = tt
all_both P Q (a ∷ as') h k = ((h.0, k.0), all_both P Q as' h.1 k.1)

pub spent : (d : Data) → is_spent d ≡ true → (replicas d ≡ 0) × (count_in_status (codes "replicas") d ≡ 0)
spent d e =
    let seen = and_parts ((replicas d == 0) && (count_in_status (codes "replicas") d == 0)) (nat_le (generation d) (count_in_status (codes "observedGeneration") d)) e in
    let gone = and_parts (replicas d == 0) (count_in_status (codes "replicas") d == 0) seen.0 in
    (eqb-true (replicas d) 0 gone.0, eqb-true (count_in_status (codes "replicas") d) 0 gone.1)

-- what is known of sets that are forgotten
abbrev Known : ℕ → Entries → Key × Data → Type 0
Known limit old s = Contains old s × Contains (all_but_last limit (history old)) s

deletes_known : (limit : ℕ) (old ss : Entries) → AllByRecursion (λ (s : Key × Data). Known limit old s × (is_spent s.1 ≡ true)) ss → AllByRecursion (DeletesSpent limit old) (map delete_set ss)
deletes_known limit old [] h = tt
deletes_known limit old (s ∷ ss) h =
    let none = spent s.1 h.0.1 in
    ((s.1, h.0.0.0, h.0.0.1, refl, none.0, none.1), deletes_known limit old ss h.1)

forgets_spent : (limit : ℕ) (old : Entries) → AllByRecursion (DeletesSpent limit old) (forget limit old)
forgets_spent limit old =
    let there = filter (λ (s : Key × Data). not (is_being_deleted s.1)) old in
    let going = all_but_last limit (history old) in
    let are_old = all_taken (Contains old) (length (history old) - limit) (history old)
    (all_ordered (Contains old) (on (λ (s : Key × Data). revision s.1) nat_cmp) there
    (all_kept (Contains old) (λ (s : Key × Data). not (is_being_deleted s.1)) old (all_contained (Contains old) old (λ z k. k)))) in
    let are_going = all_contained (Contains going) going (λ z k. k) in
    deletes_known limit old (filter (λ (s : Key × Data). is_spent s.1) going)
    (kept (Known limit old) (λ (s : Key × Data). is_spent s.1) going (all_both (Contains old) (Contains going) going are_old are_going))

update_spares : (limit : ℕ) (old : Entries) (b : Bool) (k : Key) (d : Data) → AllByRecursion (DeletesSpent limit old) (if b then [] else update k d ∷ [])
update_spares limit old true k d = tt
update_spares limit old false k d = (tt, tt)

scales_spare : (limit : ℕ) (old ss : Entries) (ns : List ℕ) → AllByRecursion (DeletesSpent limit old) (scale_each ss ns)
scales_spare limit old [] ns = tt
scales_spare limit old (s ∷ ss) [] = tt
scales_spare limit old (s ∷ ss) (n ∷ ns) =
    all_joined (DeletesSpent limit old) (scale s n) (scale_each ss ns) (update_spares limit old (replicas s.1 == n) s.0 (with_replicas n s.1)) (scales_spare limit old ss ns)

renew_spares : (limit : ℕ) (old : Entries) (s : Key × Data) (n due : ℕ) → AllByRecursion (DeletesSpent limit old) (renew s n due)
renew_spares limit old s n due = update_spares limit old ((replicas s.1 == n) && not (nat_lt (revision s.1) due)) s.0 (with_replicas n (raised due s.1))

deletes_spent : (r : Rollout) → Parts (AllByRecursion (DeletesSpent (limit_of r.deployment) r.old)) r
deletes_spent r =
    record {
      none = tt;
      makes = λ n. (tt, tt);
      renews = λ new n. renew_spares (limit_of r.deployment) r.old new n (due r);
      scales = λ ns. scales_spare (limit_of r.deployment) r.old r.old ns;
      forgets = forgets_spent (limit_of r.deployment) r.old;
    }

plan_spares : (r : Rollout) (l : Looks) → AllByRecursion (DeletesSpent (limit_of r.deployment) r.old) (plan_for r l)
plan_spares r l =
    let P : List Command → Type 0 = AllByRecursion (DeletesSpent (limit_of r.deployment) r.old) in
    planned P r l tt (λ d. (tt, tt))
    (all_joined (DeletesSpent (limit_of r.deployment) r.old) (go_on r l.pods) (report r) (gone_on P r l.pods (deletes_spent r)) (reported P r tt (λ d. (tt, tt))))

pub only_spent_sets_are_deleted : OnlySpentSetsAreDeleted
only_spent_sets_are_deleted h d e =
    subst (AllByRecursion (DeletesSpent (limit_of d) (old_of h d))) (sym (plan_is h d e)) (plan_spares (rollout h.key d h.looks.replica_sets) h.looks)

-- ---- which stay

below : (old : Entries) (s k : Key × Data) → is_lt (on (λ (x : Key × Data). revision x.1) nat_cmp k s) ≡ false → revision s.1 ≤ revision k.1
below old s k e = ge_from_not_lt (revision k.1) (revision s.1) e

pub latest_revisions_stay : LatestRevisionsStay
latest_revisions_stay limit old =
    let there = filter (λ (s : Key × Data). not (is_being_deleted s.1)) old in
    let long = length-drop (length (history old) - limit) (history old) in (
      all_implied (λ s. AllByRecursion (λ k. is_lt (on (λ (x : Key × Data). revision x.1) nat_cmp k s) ≡ false) (latest limit old)) (λ s. AllByRecursion (λ k. revision s.1 ≤ revision k.1) (latest limit old))
          (λ s h. all_implied (λ k. is_lt (on (λ (x : Key × Data). revision x.1) nat_cmp k s) ≡ false) (λ k. revision s.1 ≤ revision k.1) (below old s) (latest limit old) h) (all_but_last limit (history old))
          (lowest_first (on_total (λ (s : Key × Data). revision s.1) nat_cmp_total) (length (history old) - limit) there),
      omega arith,
    )
