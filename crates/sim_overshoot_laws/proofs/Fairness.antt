-- Whatever steps are taken that let a set alone are fair to it.
use Rattle.std.proofs.Common.{◌≡◌, ◌≤◌, inl, inr, ◌+◌, ◌-◌, ◌==◌, ℕ, zero, suc, List, [], ◌∷◌, ◌++◌, drop, true, false, IfSome, Option, Some, None, slice_get, refl, sym, ap, ◌∙◌, subst, arith}
use mathlib.Core.Bool.{true≢false}
use Rattle.serde_json.specs.Data.{Data}
use Rattle.spec_api.specs.Checks.{controllers}
use Rattle.spec_api.specs.declared.kinds.Kind.TheVariants.{Pod}
use Rattle.spec_api.specs.History.{History, Entries, Write, writes, up_to}
use Rattle.spec_api.specs.Keys.{Key}
use Rattle.spec_api.specs.Metadata.{owners}
use Rattle.spec_api.specs.Reached.{IsReached}
use Rattle.spec_laws.proofs.EachWrite.{AllPut}
use Rattle.spec_client_go.specs.Expectations.{Owner}
use Rattle.spec_client_go.specs.Informers.{applied, all_applied}
use Rattle.spec_client_go.specs.Reflectors.{Delta, replace}
use Rattle.spec_client_go.specs.Shifts.{Shift, shifts_of, all_shifts}
use Rattle.spec_server.specs.Snapshots.{Snapshot}
use Rattle.spec_sim.specs.declared.initial_syncs.InitialSync.{InitialSync}
use Rattle.spec_sim.specs.Clusters.{Cluster, history, with_follower}
use Rattle.spec_sim.specs.Followers.{Notification, notified, notifications, after_publishing}
use Rattle.sim_cluster_laws.specs.LeadLaws.{Leads}
use Rattle.spec_sim.specs.ControlPlanes.{ControlPlane, Step, opened, step, run}
use Rattle.spec_sim.specs.Managers.{Manager}
use Rattle.spec_sim.specs.Turns.{Turn}
use Rattle.sim_control_plane_laws.proofs.PlaneRuns.{followed, run_append}
use Rattle.sim_overshoot_laws.specs.ClaimLaws.{LetAloneIsClaimed, LetAloneIsFair}
use Rattle.sim_overshoot_laws.specs.Overshoot.{LetAlone}
use Rattle.sim_overshoot_laws.specs.Reserves.{born, to_be_seen, to_come, outstanding}
use Rattle.sim_overshoot_laws.specs.ShowLaws.{AreClaimed, AreClaimedSince}
use Rattle.sim_overshoot_laws.specs.StepLaws.{IsFair, AreFair}
use Rattle.sim_overshoot_laws.proofs.Claimed.{Claims, ClaimsIn}
use Rattle.sim_overshoot_laws.proofs.ClaimedMoves.{settled_step, begins_asking}
use Rattle.sim_overshoot_laws.proofs.ClaimedSteps.{IsBegun, IsWaiting, IsSettled, grown}
use Rattle.sim_overshoot_laws.proofs.Claiming.{claimed_adds, claimed_show}
use Rattle.sim_overshoot_laws.proofs.Forgetting.{none_begun}
use Rattle.sim_overshoot_laws.proofs.KeptReferences.{all_single, single_shown}
use Rattle.sim_overshoot_laws.proofs.LookedPods.{looked_standing}
use Rattle.sim_overshoot_laws.proofs.PlanesLed.{have_uids, planes_lead}
use Rattle.sim_overshoot_laws.proofs.Publishing.{deltas, seen-append}
use Rattle.sim_overshoot_laws.proofs.Showing.{leading_shows}

-- ---- what is claimed, with one reference at most

abbrev Single : Key → Data → Type 0
Single k d = controllers (owners d) ≤ 1

put_rest : (n : ℕ) (ws : List Write) → AllPut Single ws → AllPut Single (drop n ws)
put_rest zero ws a = a
put_rest (suc n) [] a = tt
put_rest (suc n) (w ∷ ws) a = put_rest n ws a.1

module _ (o : Owner) where
  all_claimed : (old : Entries) (before ws : List Write) → AllPut Single ws → Claims o old before ws → AreClaimed o old before ws
  all_claimed old before [] a is = tt
  all_claimed old before (w ∷ ws) a is = (λ d put pod. (single_shown o d (subst (λ x. IfSome x (Single w.key)) put a.0), is.0 d put pod), all_claimed old (before ++ w ∷ []) ws a.1 is.1)

  claimed_since : (h : History) (at : ℕ) → IsReached h → ClaimsIn o (writes h) at → AreClaimedSince o h at
  claimed_since h at reached is r low high = all_claimed _ (up_to r h) (drop (r - 1) (writes h)) (put_rest (r - 1) (writes h) (all_single h reached)) (is r low high)

  -- ---- the first publication

  initial_shows : (ss : List Shift) → to_be_seen o (notified true ss) ≡ 0
  initial_shows [] = refl
  initial_shows (s ∷ ss) = plain (to_be_seen o (notified true ss)) (initial_shows ss)
    where
      plain : (n : ℕ) → n ≡ 0 → 0 + n ≡ 0
      plain n e = omega arith

  none_to_come : (ts : List (Option Turn)) → ((w : ℕ) (t : Turn) → slice_get ts w ≡ Some (Some t) → ⊥) → to_come o ts ≡ 0
  none_to_come [] rests = refl
  none_to_come (Some t ∷ ts) rests = absurd (rests 0 t refl)
  none_to_come (None ∷ ts) rests = plain (to_come o ts) (none_to_come ts (λ w t here. rests (suc w) t here))
    where
      plain : (n : ℕ) → n ≡ 0 → 0 + n ≡ 0
      plain n e = omega arith

  module _ (c : Cluster) (m : Manager) (reached : IsReached (history c)) (led : Leads (history c) Pod c.pods.informer.published c.pods.informer.pending) (unlisted : c.pods.has_listed ≡ false) (waits : IsWaiting o (writes (history c)) c.pods m.turns) where
    abbrev h : History
    h = history c

    abbrev s : Snapshot
    s = c.pods.informer.published

    abbrev news : List Delta → List Notification
    news ds = c.pods.unhandled ++ notifications c.pods.has_listed s.members ds

    total : (b x t n u : ℕ) → b ≡ 0 → u ≡ n + x → n ≡ 0 → x ≡ 0 → t ≡ 0 → b + (u + t) ≡ 0
    total b x t n u e f g i j = omega arith

    begun_from : IsBegun o (writes h) c.pods → (c.pods.reflector.revision == 0) ≡ false → outstanding o (with_follower Pod (after_publishing c.pods) c) m ≡ 0
    begun_from (inl b) named = absurd (true≢false (sym (ap (λ n. n == 0) b.1) ∙ named))
    begun_from (inr (r, os, ds, first, claims, none)) named =
        let one = applied s (replace r os) in
        let all : Leads h Pod s (replace r os ∷ ds) = subst (Leads h Pod s) first led in
        let shows = leading_shows o h one ds (have_uids h reached) all.2 all.3 (λ q low high. claimed_adds o _ _ _ (claimed_since h r reached claims q low high)) in
        let few : to_be_seen o (notified false (all_shifts one.members ds)) + born o h (all_applied one ds).revision ≤ born o h r = deltas o h one ds shows in
        let seen : to_be_seen o (notifications c.pods.has_listed s.members c.pods.informer.pending) ≡ to_be_seen o (notified true (shifts_of s.members (replace r os))) + to_be_seen o (notified false (all_shifts one.members ds)) =
        ap (λ b. to_be_seen o (notifications b s.members c.pods.informer.pending)) unlisted ∙ ap (λ xs. to_be_seen o (notifications false s.members xs)) first
        ∙ seen-append o (notified true (shifts_of s.members (replace r os))) (notified false (all_shifts one.members ds)) in
        total (born o h (all_applied s c.pods.informer.pending).revision) (to_be_seen o (notifications c.pods.has_listed s.members c.pods.informer.pending)) (to_come o m.turns) (to_be_seen o c.pods.unhandled) (to_be_seen o (news c.pods.informer.pending))
        (ap (λ xs. born o h (all_applied s xs).revision) first ∙ least_born _ _ _ few none)
        (seen-append o c.pods.unhandled (notifications c.pods.has_listed s.members c.pods.informer.pending))
        (ap (to_be_seen o) waits.has_none)
        (both _ _ _ seen (initial_shows (shifts_of s.members (replace r os))) (least_seen _ _ _ few none))
        (none_to_come m.turns waits.rests)
      where
        least_born : (a b n : ℕ) → a + b ≤ n → n ≡ 0 → b ≡ 0
        least_born a b n e f = omega arith

        least_seen : (a b n : ℕ) → a + b ≤ n → n ≡ 0 → a ≡ 0
        least_seen a b n e f = omega arith

        both : (n a b : ℕ) → n ≡ a + b → a ≡ 0 → b ≡ 0 → n ≡ 0
        both n a b e f g = omega arith

    pub begins_with_none : (c.pods.reflector.revision == 0) ≡ false → outstanding o (with_follower Pod (after_publishing c.pods) c) m ≡ 0
    begins_with_none named = begun_from waits.begun named

-- ---- over all steps

module _ (window workers : ℕ) (initial : InitialSync) (o : Owner) where
  abbrev v : ControlPlane
  v = opened window workers initial

  abbrev Settled : ControlPlane → Type 0
  Settled p = IsSettled o (writes (history p.cluster)) p.cluster.pods p.manager.turns

  at_first : Settled v
  at_first =
      record { listed = λ e. absurd (true≢false (sym e)); waits = λ e. record { rests = none_begun workers; has_none = refl; begun = begins_asking o [] initial } }

  next : (before : List Step) (s : Step) → LetAlone o (run v before) (s ∷ []) → Settled (run v before) → Settled (step (run v before) s).plane
  next before s alone is =
      let p = run v before in
      settled_step o p (followed window workers initial before) (planes_lead window workers initial before Pod) s (grown o p (followed window workers initial before).0 (looked_standing window workers initial before) s alone.0 is)

  fair : (before : List Step) (s : Step) → Settled (run v before) → IsFair o (run v before) s
  fair before s is =
      let p = run v before in
      let reached = (followed window workers initial before).0 in
      record {
        shows = λ e. claimed_show window workers initial before o (claimed_since o (history p.cluster) p.cluster.pods.informer.published.revision reached (is.listed e));
        begins = λ e named. begins_with_none o p.cluster p.manager reached (planes_lead window workers initial before Pod) e (is.waits e) named;
      }

  go : (before steps : List Step) → Settled (run v before) → LetAlone o (run v before) steps → AreFair o (run v before) steps × Settled (run (run v before) steps)
  go before [] is alone = (tt, is)
  go before (s ∷ ss) is alone =
      let same : run v (before ++ s ∷ []) ≡ (step (run v before) s).plane = run_append v before (s ∷ []) in
      let now : Settled (step (run v before) s).plane = next before s (alone.0, tt) is in
      let later = go (before ++ s ∷ []) ss (subst Settled (sym same) now) (subst (λ p. LetAlone o p ss) (sym same) alone.1) in
      ((fair before s is, subst (λ p. AreFair o p ss) same later.0), subst (λ p. Settled (run p ss)) same later.1)

pub let_alone_is_fair : LetAloneIsFair
let_alone_is_fair window workers initial steps o alone = (go window workers initial o [] steps (at_first window workers initial o) alone).0

pub let_alone_is_claimed : LetAloneIsClaimed
let_alone_is_claimed window workers initial steps o alone listed =
    let p = run (opened window workers initial) steps in
    claimed_since o (history p.cluster) p.cluster.pods.informer.published.revision (followed window workers initial steps).0 ((go window workers initial o [] steps (at_first window workers initial o) alone).1.listed listed)
