-- The laws of what plans ask of a Deployment's sets.
use Rattle.std.proofs.Common.{◌≡◌, ◌≤◌, ◌<◌, ◌-◌, ◌+◌, ◌^◌, inr, ℕ, min, max, nat_lt, List, [], ◌∷◌, ◌++◌, length, map, take, Bool, true, false, Option, Some, None, refl, sym, ap, subst, ◌∙◌, if◌then◌else◌, not, ◌&&◌, ◌==◌, arith}
use Rattle.std.proofs.lemmas.Bool.{eqb-true}
use Rattle.std.specs.List.{AllByRecursion, filter, list_any}
use Rattle.std.specs.Ordering.{nat_cmp, on}
use Rattle.std.specs.Str.{bytes_eq}
use Rattle.serde_json.specs.Data.{Data}
use Rattle.spec_api.specs.declared.kinds.Kind.TheVariants.{ReplicaSet}
use Rattle.spec_api.specs.History.{Entries}
use Rattle.spec_api.specs.Keys.{Key, is_same_key}
use Rattle.spec_api.specs.Metadata.{is_being_deleted}
use Rattle.spec_client_go.specs.Commands.{Command, create, update, update_status}
use Rattle.spec_client_go.specs.Hands.{Hand}
use Rattle.spec_client_go.specs.Informers.{Looks, of_namespace}
use Rattle.spec_reconcile.specs.Counts.{replicas}
use Rattle.spec_reconcile.specs.Deployments.{Rollout, all_but_last, and_old, asked_by, clean_up, delete_set, due, first_of, forget, go_on, has_running_pods, history, is_complete, is_managed_by, is_spent, make, new_object, pace_of, plan, plan_for, recreate, renew, renew_whole, roll, roll_with, rollout, scale, scale_each, sets, summary, tally, with_replicas}
use Rattle.spec_reconcile.specs.Revisions.{raised, revision}
use Rattle.spec_reconcile.specs.Rollouts.{asked, fewest, growth, most, resized, shrunk, total}
use Rattle.spec_reconcile.specs.declared.rollouts.Pace.{Pace}
use Rattle.spec_reconcile.specs.declared.rollouts.Tally.{Tally}
use Rattle.spec_laws.specs.DeploymentLaws.{Bounded, limit_of, lost}
use Rattle.spec_laws.specs.RolloutLaws.{AreNumbers, FewestStayAvailable, Looked, SurgeIsNeverPassed, TakenLeaveFewest, asked_after, asked_by_made, asked_in_all, available_of, is_rolled, kept_after, kept_of, sets_looked_at, taken}
use Rattle.spec_laws.proofs.AskedNumbers.{made_gives, scaled_gives}
use Rattle.spec_laws.proofs.AskedSets.{Brings, Pairs, Small, Tells, asked_at_most, fused, higher, higher_none, lost_none, made_joined, made_of_first, none_made, taken_at_most}
use Rattle.spec_laws.proofs.DeploymentPlans.{all_both, all_implied, all_ordered, all_kept, deletes_make_none, either, first, kept, plan_is, planned, reported, scales_make_none, spent}
use Rattle.spec_laws.proofs.Permuted.{all_joined, all_taken}
use Rattle.spec_laws.proofs.RolloutNumbers.{fewest_stay, made_below, only_shrink, stays_below}
use Rattle.spec_laws.proofs.SetLists.{Apart, Differs, all_sets, apart_kept, apart_sets, apart_sorted, same_back, sum_sets}

-- ---- commands that keep to what is wanted

-- they bring the sets to numbers that are no more than the most in all, and leave the fewest
pub record Fits (d : Data) (ss : Entries) (cs : List Command) : Type 0 where
  pub to : List ℕ
  pub brings : Brings ss to cs
  pub below : higher ss to + asked_by_made cs ≤ max (asked_by ss) (most (pace_of d))
  pub leaves : AreNumbers d ss → is_rolled d ≡ true → fewest (pace_of d) ≤ available_of ss → AllByRecursion Small to × (fewest (pace_of d) + lost (map tally ss) to ≤ available_of ss)

-- commands that leave the sets as they are
quiet : (d : Data) (ss : Entries) (cs : List Command) → Brings ss [] cs → asked_by_made cs ≡ 0 → Fits d ss cs
quiet d ss cs brings none =
    let same = higher_none ss in
    let lost_nothing = lost_none ss in
    record { to = []; brings = brings; below = omega arith; leaves = λ numbers rolled enough. (tt, omega arith) }

silent : (k : Key) (d : Data) (ss : Entries) (ns : List ℕ) → Pairs (Tells (update_status k d)) ss ns
silent k d [] ns = tt
silent k d (s ∷ ss) [] = (tt, silent k d ss [])
silent k d (s ∷ ss) (n ∷ ns) = (tt, silent k d ss ns)

-- commands beside which nothing is asked
joined : (d : Data) (ss : Entries) (xs ys : List Command) → Fits d ss xs → ((ns : List ℕ) → Brings ss ns ys) → asked_by_made ys ≡ 0 → Fits d ss (xs ++ ys)
joined d ss xs ys fits silently none =
    let made = made_joined xs ys in
    let below = fits.below in
    record { to = fits.to; brings = all_joined (λ c. Pairs (Tells c) ss fits.to) xs ys fits.brings (silently fits.to); below = omega arith; leaves = fits.leaves }

-- ---- keys that differ

clash : {A : Type 0} (b : Bool) → b ≡ true → b ≡ false → A
clash b h k = cc

others_differ : (k : Key) (d : Data) (ss : Entries) (ns : List ℕ) → AllByRecursion (Differs k) ss → Pairs (Tells (update k d)) ss ns
others_differ k d [] ns h = tt
others_differ k d (s ∷ ss) [] h = (λ same. clash (is_same_key s.0 k) same (same_back s.0 k ∙ h.0), others_differ k d ss [] h.1)
others_differ k d (s ∷ ss) (n ∷ ns) h = (λ same. clash (is_same_key s.0 k) same (same_back s.0 k ∙ h.0), others_differ k d ss ns h.1)

-- ---- the new set

created_quietly : (r : Rollout) (n : ℕ) (ss : Entries) → Pairs (Tells (create ReplicaSet r.key.namespace (new_object r n))) ss []
created_quietly r n [] = tt
created_quietly r n (s ∷ ss) = (tt, created_quietly r n ss)

made : (r : Rollout) (n : ℕ) → n + asked_by r.old ≤ max (asked_by r.old) (most (pace_of r.deployment)) → Fits r.deployment r.old (make r n)
made r n h =
    let same = higher_none r.old in
    let lost_nothing = lost_none r.old in
    let given : replicas (new_object r n) ≤ n = (made_gives r n).0 in
    record { to = []; brings = (created_quietly r n r.old, tt); below = omega arith; leaves = λ numbers rolled enough. (tt, omega arith) }

renewed : (d : Data) (new : Key × Data) (old : Entries) (n due : ℕ) → AllByRecursion (Differs new.0) old → max (replicas new.1) n + asked_by old ≤ max (replicas new.1 + asked_by old) (most (pace_of d))
    → (AreNumbers d (new ∷ old) → is_rolled d ≡ true → fewest (pace_of d) ≤ available_of (new ∷ old) → (n < 2 ^ 63) × (fewest (pace_of d) + (kept_of new (replicas new.1) - n) ≤ available_of (new ∷ old)))
    → Fits d (new ∷ old) (renew new n due)
renewed d new old n due apart below leaves =
    let body = with_replicas n (raised due new.1) in
    let same = higher_none old in
    let lost_nothing = lost_none old in
    either (Fits d (new ∷ old)) ((replicas new.1 == n) && not (nat_lt (revision new.1) due)) [] (update new.0 body ∷ [])
    (quiet d (new ∷ old) [] tt refl)
    (record {
      to = n ∷ [];
      brings = ((λ key. inr (scaled_gives n (raised due new.1)), others_differ new.0 body old [] apart), tt);
      below = omega arith;
      leaves = λ numbers rolled enough. let both = leaves numbers rolled enough in ((both.0, tt), omega (arith, both.1));
    })

small_resized : (b : Bool) (w n g : ℕ) → g ≤ w - n → n < 2 ^ 63 → w < 2 ^ 63 → (if b then w else n + g) < 2 ^ 63
small_resized true w n g h small most = most
small_resized false w n g h small most = omega arith

-- where a set is brought to what is wanted, or grows, the fewest stay
resized_leaves : (b : Bool) (w u a n rest g : ℕ) → w - u ≤ a + rest → (w - u) + (min a n - (if b then w else n + g)) ≤ a + rest
resized_leaves true w u a n rest g enough = omega arith
resized_leaves false w u a n rest g enough = omega arith

-- ---- the old sets

bounded_below : (ss : Entries) (ns : List ℕ) → Bounded ns (asked (map tally ss)) → higher ss ns ≤ asked_by ss
bounded_below [] ns h = omega arith
bounded_below (s ∷ ss) [] h = absurd h
bounded_below (s ∷ ss) (n ∷ ns) h = let rest = bounded_below ss ns h.1 in omega (arith, h.0)

bounded_small : (ss : Entries) (ns : List ℕ) → Bounded ns (asked (map tally ss)) → AllByRecursion (λ (s : Key × Data). replicas s.1 < 2 ^ 63) ss → AllByRecursion Small ns
bounded_small [] [] h small = tt
bounded_small [] (n ∷ ns) h small = absurd h
bounded_small (s ∷ ss) [] h small = absurd h
bounded_small (s ∷ ss) (n ∷ ns) h small = (omega (arith, h.0, small.0), bounded_small ss ns h.1 small.1)

scales_leave : (s : Key × Data) (n : ℕ) (ss : Entries) (ns : List ℕ) → AllByRecursion (Differs s.0) ss → AllByRecursion (λ c. Tells c s n) (scale_each ss ns)
scales_leave s n [] ns h = tt
scales_leave s n (t ∷ ts) [] h = tt
scales_leave s n (t ∷ ts) (m ∷ ms) h =
    all_joined (λ c. Tells c s n) (scale t m) (scale_each ts ms)
    (either (AllByRecursion (λ c. Tells c s n)) (replicas t.1 == m) [] (update t.0 (with_replicas m t.1) ∷ []) tt (λ same. clash (is_same_key s.0 t.0) same h.0, tt))
    (scales_leave s n ts ms h.1)

scales_bring : (ss : Entries) (ns : List ℕ) → Apart ss → Brings ss ns (scale_each ss ns)
scales_bring [] ns h = tt
scales_bring (t ∷ ts) [] h = tt
scales_bring (t ∷ ts) (n ∷ ns) h =
    all_joined (λ c. Pairs (Tells c) (t ∷ ts) (n ∷ ns)) (scale t n) (scale_each ts ns)
    (either (Brings (t ∷ ts) (n ∷ ns)) (replicas t.1 == n) [] (update t.0 (with_replicas n t.1) ∷ []) tt
    ((λ same. inr (scaled_gives n t.1), others_differ t.0 (with_replicas n t.1) ts ns h.0), tt))
    (all_both (λ c. Tells c t n) (λ c. Pairs (Tells c) ts ns) (scale_each ts ns) (scales_leave t n ts ns h.0) (scales_bring ts ns h.1))

scaled : (d : Data) (o : Option (Key × Data)) (old : Entries) (ns : List ℕ) → Apart (and_old o old) → Bounded ns (asked (map tally old))
    → (is_rolled d ≡ true → fewest (pace_of d) ≤ available_of (and_old o old) → fewest (pace_of d) + lost (map tally old) ns ≤ available_of (and_old o old))
    → Fits d (and_old o old) (scale_each old ns)
scaled d None old ns apart bounded leaves =
    let below = bounded_below old ns bounded in
    let none = none_made (scale_each old ns) (scales_make_none old ns) in
    record { to = ns; brings = scales_bring old ns apart; below = omega arith; leaves = λ numbers rolled enough. (bounded_small old ns bounded numbers.1, leaves rolled enough) }
scaled d (Some new) old ns apart bounded leaves =
    let below = bounded_below old ns bounded in
    let none = none_made (scale_each old ns) (scales_make_none old ns) in
    record {
      to = replicas new.1 ∷ ns;
      brings = all_both (λ c. Tells c new (replicas new.1)) (λ c. Pairs (Tells c) old ns) (scale_each old ns) (scales_leave new (replicas new.1) old ns apart.0) (scales_bring old ns apart.1);
      below = omega arith;
      leaves = λ numbers rolled enough. let left = leaves rolled enough in ((numbers.1.0, bounded_small old ns bounded numbers.1.1), omega arith);
    }

-- ---- the sets that nobody needs

-- sets of one key are to have the same
abbrev Alike : Key × Data → Key × Data → Type 0
Alike t s = is_same_key s.0 t.0 ≡ true → replicas s.1 ≡ replicas t.1

each_alike : (ss : Entries) → Apart ss → AllByRecursion (λ t. AllByRecursion (Alike t) ss) ss
each_alike [] h = tt
each_alike (a ∷ ss) h = (
  (λ same. refl, all_implied (Differs a.0) (Alike a) (λ s differs same. clash (is_same_key s.0 a.0) same (same_back s.0 a.0 ∙ differs)) ss h.0),
  all_both (λ t. Alike t a) (λ t. AllByRecursion (Alike t) ss) ss (all_implied (Differs a.0) (λ t. Alike t a) (λ t differs same. clash (is_same_key a.0 t.0) same differs) ss h.0) (each_alike ss h.1),
)

old_alike : (o : Option (Key × Data)) (old : Entries) → Apart (and_old o old) → AllByRecursion (λ t. AllByRecursion (Alike t) (and_old o old)) old
old_alike None old h = each_alike old h
old_alike (Some new) old h = (each_alike (new ∷ old) h).1

none_asked : (t : Key × Data) (ss : Entries) → replicas t.1 ≡ 0 → AllByRecursion (Alike t) ss → Pairs (Tells (delete_set t)) ss []
none_asked t [] e h = tt
none_asked t (s ∷ ss) e h = (λ same. sym (h.0 same ∙ e), none_asked t ss e h.1)

deletes_bring : (ss ts : Entries) → AllByRecursion (λ (t : Key × Data). AllByRecursion (Alike t) ss × (is_spent t.1 ≡ true)) ts → Brings ss [] (map delete_set ts)
deletes_bring ss [] h = tt
deletes_bring ss (t ∷ ts) h = (none_asked t ss (spent t.1 h.0.1).0 h.0.0, deletes_bring ss ts h.1)

forgets_bring : (limit : ℕ) (o : Option (Key × Data)) (old : Entries) → Apart (and_old o old) → Brings (and_old o old) [] (forget limit old)
forgets_bring limit o old apart =
    let P : Key × Data → Type 0 = λ t. AllByRecursion (Alike t) (and_old o old) in
    let stays = λ (s : Key × Data). not (is_being_deleted s.1) in
    let going = all_taken P (length (history old) - limit) (history old) (all_ordered P (on (λ (s : Key × Data). revision s.1) nat_cmp) (filter stays old) (all_kept P stays old (old_alike o old apart))) in
    deletes_bring (and_old o old) (filter (λ (s : Key × Data). is_spent s.1) (all_but_last limit (history old))) (kept P (λ (s : Key × Data). is_spent s.1) (all_but_last limit (history old)) going)

cleaned : (r : Rollout) (o : Option (Key × Data)) → Apart (and_old o r.old) → Fits r.deployment (and_old o r.old) (clean_up r)
cleaned r o apart =
    let limit = limit_of r.deployment in
    let ss = and_old o r.old in
    let gone = filter (λ (s : Key × Data). is_spent s.1) (all_but_last limit (history r.old)) in
    either (Fits r.deployment ss) (is_complete (replicas r.deployment) (summary r)) (forget limit r.old) []
    (quiet r.deployment ss (forget limit r.old) (forgets_bring limit o r.old apart) (none_made (forget limit r.old) (deletes_make_none gone))) (quiet r.deployment ss [] tt refl)

-- ---- the plan

rolled : (r : Rollout) (o : Option (Key × Data)) → Apart (and_old o r.old) → Fits r.deployment (and_old o r.old) (roll_with r (pace_of r.deployment) o)
rolled r None apart = made r (growth (pace_of r.deployment) (asked_by r.old) 0) (made_below (pace_of r.deployment) (asked_by r.old))
rolled r (Some new) apart =
    let p : Pace = pace_of r.deployment in
    let ss = new ∷ r.old in
    let all = asked_by ss in
    let n = resized p all (replicas new.1) in
    let ns = shrunk p (tally new) (map tally r.old) in
    let below = stays_below p (replicas new.1) (asked_by r.old) in
    first (Fits r.deployment ss) (renew new n (due r)) (first_of (scale_each r.old ns) (clean_up r))
    (renewed r.deployment new r.old n (due r) apart.0 (omega arith)
    (λ numbers rolls enough. (
      small_resized (nat_lt p.wanted (replicas new.1)) p.wanted (replicas new.1) (growth p all (replicas new.1)) (omega arith) numbers.1.0 numbers.0,
      resized_leaves (nat_lt p.wanted (replicas new.1)) p.wanted p.unavailable (tally new).available (replicas new.1) (available_of r.old) (growth p all (replicas new.1)) enough,
    )))
    (first (Fits r.deployment ss) (scale_each r.old ns) (clean_up r)
    (scaled r.deployment (Some new) r.old ns apart (only_shrink p (tally new) (map tally r.old)) (λ rolls enough. fewest_stay p (tally new) (map tally r.old) enough)) (cleaned r (Some new) apart))

renewed_whole : (r : Rollout) (o : Option (Key × Data)) → Apart (and_old o r.old) → asked_by r.old ≡ 0 → is_rolled r.deployment ≡ false → Fits r.deployment (and_old o r.old) (renew_whole r o)
renewed_whole r None apart none e = made r (replicas r.deployment) (omega arith)
renewed_whole r (Some new) apart none e = renewed r.deployment new r.old (replicas r.deployment) (due r) apart.0 (omega arith) (λ numbers rolls enough. clash (is_rolled r.deployment) rolls e)

nothing_bounded : (ss : Entries) → Bounded (map (λ (s : Key × Data). 0) ss) (asked (map tally ss))
nothing_bounded [] = tt
nothing_bounded (s ∷ ss) = (omega arith, nothing_bounded ss)

none_left-at : (b : Bool) (n rest : ℕ) (c : Command) (cs : List Command) → (n == 0) ≡ b → (if b then [] else c ∷ []) ++ cs ≡ [] → (cs ≡ [] → rest ≡ 0) → n + rest ≡ 0
none_left-at true n rest c cs e h f = let zero_is = eqb-true n 0 e in let none = f h in omega arith
none_left-at false n rest c cs e h f = cc

-- where no old set has to go to 0, each is there
none_left : (ss : Entries) → scale_each ss (map (λ (s : Key × Data). 0) ss) ≡ [] → asked_by ss ≡ 0
none_left [] h = refl
none_left (s ∷ ss) h = none_left-at (replicas s.1 == 0) (replicas s.1) (asked_by ss) (update s.0 (with_replicas 0 s.1)) (scale_each ss (map (λ (s : Key × Data). 0) ss)) refl h (none_left ss)

first_given : (P : List Command → Type 0) (xs ys : List Command) → P xs → (xs ≡ [] → P ys) → P (first_of xs ys)
first_given P [] ys h f = f refl
first_given P (x ∷ xs) ys h f = h

recreated : (r : Rollout) (pods : Entries) → Apart (sets r) → is_rolled r.deployment ≡ false → Fits r.deployment (sets r) (recreate r pods)
recreated r pods apart e =
    let P : List Command → Type 0 = Fits r.deployment (sets r) in
    let ns = map (λ (s : Key × Data). 0) r.old in
    let runs = list_any (has_running_pods r.key.namespace pods) r.old in
    let later = first_of (renew_whole r r.new) (clean_up r) in
    first_given P (scale_each r.old ns) (if runs then [] else later) (scaled r.deployment r.new r.old ns apart (nothing_bounded r.old) (λ rolls enough. clash (is_rolled r.deployment) rolls e))
    (λ none. either P runs [] later (quiet r.deployment (sets r) [] tt refl)
    (first P (renew_whole r r.new) (clean_up r) (renewed_whole r r.new apart (none_left r.old none) e) (cleaned r r.new apart)))

either_known : (P : List Command → Type 0) (b : Bool) (xs ys : List Command) → (b ≡ true → P xs) → (b ≡ false → P ys) → P (if b then xs else ys)
either_known P true xs ys f g = f refl
either_known P false xs ys f g = g refl

gone_on : (r : Rollout) (pods : Entries) → Apart (sets r) → Fits r.deployment (sets r) (go_on r pods)
gone_on r pods apart = either_known (Fits r.deployment (sets r)) (is_rolled r.deployment) (roll r) (recreate r pods) (λ e. rolled r r.new apart) (λ e. recreated r pods apart e)

whole : (r : Rollout) (l : Looks) → Apart (sets r) → Fits r.deployment (sets r) (plan_for r l)
whole r l apart =
    let d = r.deployment in
    let cs = go_on r l.pods in
    let fits = gone_on r l.pods apart in
    planned (Fits d (sets r)) r l (quiet d (sets r) [] tt refl) (λ x. quiet d (sets r) (update_status r.key x ∷ []) (silent r.key x (sets r) [], tt) refl)
    (reported (λ ys. Fits d (sets r) (cs ++ ys)) r (joined d (sets r) cs [] fits (λ ns. tt) refl)
    (λ x. joined d (sets r) cs (update_status r.key x ∷ []) fits (λ ns. (silent r.key x (sets r) ns, tt)) refl))

-- ---- the laws

module _ (h : Hand) (d : Data) (n : ℕ) (looked : Looked h d) where
  abbrev commands : List Command
  commands = plan_for (rollout h.key d h.looks.replica_sets) h.looks

  abbrev its_sets : Entries
  its_sets = sets (rollout h.key d h.looks.replica_sets)

  fits : Fits d its_sets commands
  fits =
      whole (rollout h.key d h.looks.replica_sets) h.looks
      (apart_sets h.key d h.looks.replica_sets (apart_kept (λ (m : Key × Data). is_managed_by d m.1) (of_namespace h.key.namespace h.looks.replica_sets) (apart_kept (λ (m : Key × Data). bytes_eq m.0.namespace h.key.namespace) h.looks.replica_sets (apart_sorted h.looks.replica_sets looked.1))))

  brings : Brings its_sets fits.to (take n commands)
  brings = all_taken (λ c. Pairs (Tells c) its_sets fits.to) n commands fits.brings

  by_tally : (g : Tally → ℕ) → total (map g (map tally its_sets)) ≡ total (map g (map tally (sets_looked_at h d)))
  by_tally g = ap total (fused g its_sets) ∙ sum_sets (λ s. g (tally s)) h.key d h.looks.replica_sets ∙ sym (ap total (fused g (sets_looked_at h d)))

  by_plan : (P : List Command → Type 0) → P commands → P (plan h)
  by_plan P p = subst P (sym (plan_is h d looked.0)) p

  pub never_passed : asked_in_all (sets_looked_at h d) (take n (plan h)) ≤ max (asked_by (sets_looked_at h d)) (most (pace_of d))
  never_passed =
      let asks = asked_at_most its_sets fits.to (take n commands) brings in
      let makes = made_of_first n commands in
      let below = fits.below in
      let asked_same = by_tally (λ t. t.replicas) in
      let after_same = sum_sets (λ s. asked_after s.0 (replicas s.1) (take n commands)) h.key d h.looks.replica_sets in
      by_plan (λ cs. asked_in_all (sets_looked_at h d) (take n cs) ≤ max (asked_by (sets_looked_at h d)) (most (pace_of d))) (omega arith)

  pub leave : AreNumbers d (sets_looked_at h d) → is_rolled d ≡ true → fewest (pace_of d) ≤ available_of (sets_looked_at h d)
      → fewest (pace_of d) + taken (sets_looked_at h d) (take n (plan h)) ≤ available_of (sets_looked_at h d)
  leave numbers rolls enough =
      let small = all_sets (λ s. replicas s.1 < 2 ^ 63) h.key d h.looks.replica_sets numbers.1 in
      let available_same = by_tally (λ t. t.available) in
      let taken_same = sum_sets (λ s. kept_of s (replicas s.1) - asked_after s.0 (replicas s.1) (take n commands)) h.key d h.looks.replica_sets in
      let left = fits.leaves (numbers.0, small) rolls (omega arith) in
      let takes = taken_at_most its_sets fits.to (take n commands) small left.0 brings in
      by_plan (λ cs. fewest (pace_of d) + taken (sets_looked_at h d) (take n cs) ≤ available_of (sets_looked_at h d)) (omega (arith, left.1))

pub surge_never_passed : SurgeIsNeverPassed
surge_never_passed h d n looked = never_passed h d n looked

pub taken_leave : TakenLeaveFewest
taken_leave h d n looked numbers rolls enough = leave h d n looked numbers rolls enough

kept_and_taken : (ss : Entries) (cs : List Command) → AllByRecursion (λ (s : Key × Data). (tally s).available ≤ replicas s.1) ss → kept_after ss cs + taken ss cs ≡ available_of ss
kept_and_taken [] cs h = refl
kept_and_taken (s ∷ ss) cs h = let rest = kept_and_taken ss cs h.1 in omega (arith, h.0)

pub fewest_available : FewestStayAvailable
fewest_available h d n looked numbers rolls within enough =
    let left = taken_leave h d n looked numbers rolls enough in
    let all = kept_and_taken (sets_looked_at h d) (take n (plan h)) within in
    omega arith
