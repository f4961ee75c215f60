-- What an empty plan says of a Deployment.
use Rattle.std.proofs.Common.{◌≡◌, ◌⊎◌, ◌≤◌, ◌<◌, ◌+◌, ◌-◌, ◌==◌, ◌&&◌, ◌++◌, inl, inr, ℕ, zero, suc, List, [], ◌∷◌, Bool, true, false, true≢false, cond, not, map, codes, min, nat_lt, Option, Some, None, arith, refl, sym, ap, subst, ◌∙◌}
use Rattle.std.proofs.lemmas.Bool.{ltb-true, ltb-false, eqb-true, eq-eqb}
use Rattle.std.specs.List.{AllByRecursion}
use Rattle.serde_json.specs.Data.{Data}
use Rattle.spec_api.specs.declared.amounts.Amount.{Amount}
use Rattle.spec_api.specs.History.{Entries}
use Rattle.spec_api.specs.Keys.{Key}
use Rattle.spec_client_go.specs.Commands.{update}
use Rattle.spec_reconcile.specs.Counts.{count_in_status, replicas}
use Rattle.spec_reconcile.specs.Deployments.{Rollout, and_old, asked_by, clean_up, count_collision, due, first_of, is_going_on, is_name_taken, pace_of, plan_for, plan_of, recreate, renew, report, roll, roll_with, rolling_amount, rollout, scale, scale_each, tally, with_replicas}
use Rattle.spec_reconcile.specs.Revisions.{raised, revision}
use Rattle.spec_reconcile.specs.Rollouts.{asked, at_least_one, available, cuts, fewest, growth, less, missing, pace, resized, room, rounded_down, rounded_up, shrunk, total, without_missing, without_spare}
use Rattle.spec_reconcile.specs.declared.rollouts.Pace.{Pace}
use Rattle.spec_reconcile.specs.declared.rollouts.Tally.{Tally}
use Rattle.spec_laws.specs.DeploymentLaws.{Bounded}
use Rattle.spec_laws.specs.RolloutLaws.{is_rolled}
use Rattle.spec_laws.proofs.RolloutNumbers.{only_shrink}
use Rattle.spec_client_go.specs.Informers.{Looks}
use Rattle.reconcile_locality_laws.specs.SettledDeployments.{EmptyPlansAreOfRolledOut}
use Rattle.reconcile_locality_laws.proofs.DeploymentTurns.{counts_up, first_none}
use Rattle.reconcile_locality_laws.proofs.SetTurns.{parts_none}

-- ---- lists of numbers

abbrev AllZero : List ℕ → Type 0
AllZero ns = AllByRecursion (λ n. n ≡ 0) ns

abbrev IsAvailable : Tally → Type 0
IsAvailable t = t.available ≡ t.replicas

abbrev head_of : List ℕ → ℕ
head_of [] = 0
head_of (n ∷ ns) = n

abbrev rest_of : List ℕ → List ℕ
rest_of [] = []
rest_of (n ∷ ns) = ns

zero_total : (ns : List ℕ) → total ns ≡ 0 → AllZero ns
zero_total [] h = tt
zero_total (n ∷ ns) h = let first : n ≡ 0 = omega arith in let rest : total ns ≡ 0 = omega arith in (first, zero_total ns rest)

total_zero : (ns : List ℕ) → AllZero ns → total ns ≡ 0
total_zero [] a = refl
total_zero (n ∷ ns) a = let first = a.0 in let rest = total_zero ns a.1 in omega arith

all_available : (ts : List Tally) → AllByRecursion IsAvailable ts → available ts ≡ total (asked ts)
all_available [] a = refl
all_available (t ∷ ts) a = let first = a.0 in let rest = all_available ts a.1 in omega arith

-- nothing is missing
none_missing : (m : ℕ) (ts : List Tally) → AllByRecursion IsAvailable ts → less (asked ts) (cuts m (map missing ts)) ≡ asked ts
none_missing m [] a = refl
none_missing m (t ∷ ts) a =
    let is = a.0 in
    let first : t.replicas - min m (t.replicas - t.available) ≡ t.replicas = omega arith in
    let rest = none_missing (m - min m (t.replicas - t.available)) ts a.1 in
    λ i. first i ∷ rest i

-- where there is room, what loses nothing has nothing
none_cut : (spare : ℕ) (ns : List ℕ) → 0 < spare → less ns (cuts spare ns) ≡ ns → AllZero ns
none_cut spare [] some same = tt
none_cut spare (n ∷ ns) some same =
    let first : n - min spare n ≡ n = ap head_of same in
    let is : n ≡ 0 = omega arith in
    let more : 0 < spare - min spare n = omega arith in
    (is, none_cut (spare - min spare n) ns more (ap rest_of same))

-- ---- a rolling update that commands nothing

-- a pace at which something can go on
abbrev CanGoOn : Pace → Type 0
CanGoOn p = (p.wanted ≡ 0) ⊎ (0 < p.surge + p.unavailable)

module _ (p : Pace) (new : Tally) (old : List Tally) (can : CanGoOn p) (less_than_all : p.unavailable ≤ p.wanted) (here : IsAvailable new) (there : AllByRecursion IsAvailable old) where
  abbrev n : ℕ
  n = new.replicas

  abbrev T : ℕ
  T = total (asked old)

  grown : n ≡ resized p (total (asked (new ∷ old))) n → (n ≤ p.wanted) × (min ((p.wanted + p.surge) - (n + T)) (p.wanted - n) ≡ 0)
  grown same = by (nat_lt p.wanted n) refl same
    where
      by : (b : Bool) → nat_lt p.wanted n ≡ b → n ≡ cond b p.wanted (n + growth p (n + T) n) → (n ≤ p.wanted) × (min ((p.wanted + p.surge) - (n + T)) (p.wanted - n) ≡ 0)
      by true is same = let above : p.wanted < n = ltb-true p.wanted n is in absurd (omega arith)
      by false is same = let below : n ≤ p.wanted = ltb-false p.wanted n is in (below, omega arith)

  room_is : room p new old ≡ (n + T) - (p.wanted - p.unavailable)
  room_is = omega arith

  abbrev Done : Type 0
  Done = (n ≡ p.wanted) × AllZero (asked old)

  without_room : room p new old ≡ 0 → (n ≤ p.wanted) × (min ((p.wanted + p.surge) - (n + T)) (p.wanted - n) ≡ 0) → Done
  without_room full grown =
      let a = room_is in
      let b = grown.0 in
      let c = grown.1 in
      let both : (n ≡ p.wanted) × (T ≡ 0) = by can in
      (both.0, zero_total (asked old) both.1)
    where
      by : CanGoOn p → (n ≡ p.wanted) × (T ≡ 0)
      by (inl none) = let a = room_is in let b = grown.0 in (omega arith, omega arith)
      by (inr some) = let a = room_is in let b = grown.0 in let c = grown.1 in (omega arith, omega arith)

  with_room : (room p new old ≡ 0 → ⊥) → (n ≤ p.wanted) × (min ((p.wanted + p.surge) - (n + T)) (p.wanted - n) ≡ 0)
      → asked old ≡ without_spare (available (new ∷ old) - fewest p) (without_missing (room p new old) old) → Done
  with_room some grown same =
      let kept : without_missing (room p new old) old ≡ asked old = none_missing (room p new old) old there in
      let spare = available (new ∷ old) - fewest p in
      let same_still : less (asked old) (cuts spare (asked old)) ≡ asked old = ap (without_spare spare) (sym kept) ∙ sym same in
      let all = all_available old there in
      let a = room_is in
      let more : 0 < spare = by (room p new old) refl some in
      let zeros : AllZero (asked old) = none_cut spare (asked old) more same_still in
      let none = total_zero (asked old) zeros in
      let b = grown.0 in
      let c = grown.1 in
      (omega arith, zeros)
    where
      by : (m : ℕ) → room p new old ≡ m → (room p new old ≡ 0 → ⊥) → 0 < available (new ∷ old) - fewest p
      by zero is some = absurd (some is)
      by (suc m) is some = let a = room_is in let all = all_available old there in omega arith

  done : n ≡ resized p (total (asked (new ∷ old))) n → asked old ≡ shrunk p new old → Done
  done same kept = by (room p new old == 0) refl kept
    where
      by : (b : Bool) → (room p new old == 0) ≡ b → asked old ≡ cond b (asked old) (without_spare (available (new ∷ old) - fewest p) (without_missing (room p new old) old)) → Done
      by true is kept = without_room (eqb-true (room p new old) 0 is) (grown same)
      by false is kept = with_room (λ none. true≢false (sym (eq-eqb (room p new old) 0 none) ∙ is)) (grown same) kept

-- the pace of a Deployment is such
goes_on : (r : ℕ) (s u : Amount) → CanGoOn (pace r s u) × ((pace r s u).unavailable ≤ r)
goes_on r s u = (by (rounded_up s r) (rounded_down u r) (rounded_up s r == 0) (rounded_down u r == 0) refl refl, least (at_least_one (rounded_up s r) (rounded_down u r)) r)
  where
    least : (a b : ℕ) → min a b ≤ b
    least a b = omega arith

    one : (b : ℕ) → (r ≡ 0) ⊎ (0 < b) → (r ≡ 0) ⊎ (0 < 0 + min 1 r)
    one b h = by_zero r
      where
        by_zero : (m : ℕ) → (m ≡ 0) ⊎ (0 < 0 + min 1 m)
        by_zero zero = inl refl
        by_zero (suc m) = inr (omega arith)

    some : (x y : ℕ) → (r ≡ 0) ⊎ ((0 < x) ⊎ (0 < y)) → (r ≡ 0) ⊎ (0 < x + min y r)
    some x y (inl none) = inl none
    some x y (inr (inl up)) = inr (omega arith)
    some x y (inr (inr down)) = by_zero r
      where
        by_zero : (m : ℕ) → (m ≡ 0) ⊎ (0 < x + min y m)
        by_zero zero = inl refl
        by_zero (suc m) = inr (omega arith)

    positive : (x : ℕ) → (x == 0) ≡ false → 0 < x
    positive zero h = cc
    positive (suc x) h = omega arith

    by : (x y : ℕ) (a b : Bool) → (x == 0) ≡ a → (y == 0) ≡ b → (r ≡ 0) ⊎ (0 < x + min (at_least_one x y) r)
    by x y true true p q =
        let is : at_least_one x y ≡ 1 = ap (λ c. cond (c && (y == 0)) 1 y) p ∙ ap (λ c. cond c 1 y) q in
        subst (λ z. (r ≡ 0) ⊎ (0 < x + min z r)) (sym is) (some x 1 (inr (inr (omega arith))))
    by x y true false p q =
        let is : at_least_one x y ≡ y = ap (λ c. cond (c && (y == 0)) 1 y) p ∙ ap (λ c. cond c 1 y) q in
        subst (λ z. (r ≡ 0) ⊎ (0 < x + min z r)) (sym is) (some x y (inr (inr (positive y q))))
    by x y false b p q = some x (at_least_one x y) (inr (inl (positive x p)))

-- ---- its commands

scaled_same : (ss : Entries) (ns : List ℕ) → Bounded ns (asked (map tally ss)) → scale_each ss ns ≡ [] → asked (map tally ss) ≡ ns
scaled_same [] [] b none = refl
scaled_same [] (n ∷ ns) b none = absurd b
scaled_same (s ∷ ss) [] b none = absurd b
scaled_same (s ∷ ss) (n ∷ ns) b none =
    let two = parts_none (scale s n) (scale_each ss ns) none in
    let first : replicas s.1 ≡ n = unscaled (replicas s.1 == n) refl two.0 in
    let rest = scaled_same ss ns b.1 two.1 in
    λ i. first i ∷ rest i
  where
    unscaled : (c : Bool) → (replicas s.1 == n) ≡ c → cond c [] (update s.0 (with_replicas n s.1) ∷ []) ≡ [] → replicas s.1 ≡ n
    unscaled true is none = eqb-true (replicas s.1) n is
    unscaled false is none = cc

unrenewed : (s : Key × Data) (n due : ℕ) → renew s n due ≡ [] → (replicas s.1 ≡ n) × (due ≤ revision s.1)
unrenewed s n due none = by (replicas s.1 == n) (nat_lt (revision s.1) due) refl refl none
  where
    by : (a b : Bool) → (replicas s.1 == n) ≡ a → nat_lt (revision s.1) due ≡ b → cond (a && not b) [] (update s.0 (with_replicas n (raised due s.1)) ∷ []) ≡ [] → (replicas s.1 ≡ n) × (due ≤ revision s.1)
    by true false p q none = (eqb-true (replicas s.1) n p, ltb-false (revision s.1) due q)
    by true true p q none = cc
    by false b p q none = cc

tallied : (ss : Entries) → AllByRecursion (λ s. (tally s).available ≡ replicas s.1) ss → AllByRecursion IsAvailable (map tally ss)
tallied [] a = tt
tallied (s ∷ ss) a = (a.0, tallied ss a.1)

untallied : (ss : Entries) → AllZero (asked (map tally ss)) → AllByRecursion (λ s. replicas s.1 ≡ 0) ss
untallied [] a = tt
untallied (s ∷ ss) a = (a.0, untallied ss a.1)

rolled_by : (r : Rollout) (o : Option (Key × Data)) → AllByRecursion (λ s. (tally s).available ≡ replicas s.1) (and_old o r.old) → roll_with r (pace_of r.deployment) o ≡ []
    → (new : Key × Data) × (o ≡ Some new) × (replicas new.1 ≡ replicas r.deployment) × (due r ≤ revision new.1) × AllByRecursion (λ s. replicas s.1 ≡ 0) r.old
rolled_by r None there none = cc
rolled_by r (Some new) there none =
    let p = pace_of r.deployment in
    let n = resized p (asked_by (new ∷ r.old)) (replicas new.1) in
    let ns = shrunk p (tally new) (map tally r.old) in
    let two = first_none (renew new n (due r)) (first_of (scale_each r.old ns) (clean_up r)) none in
    let kept = unrenewed new n (due r) two.0 in
    let unscaled = (first_none (scale_each r.old ns) (clean_up r) two.1).0 in
    let same = scaled_same r.old ns (only_shrink p (tally new) (map tally r.old)) unscaled in
    let goes = goes_on (replicas r.deployment) (rolling_amount (codes "maxSurge") r.deployment) (rolling_amount (codes "maxUnavailable") r.deployment) in
    let all = done p (tally new) (map tally r.old) goes.0 goes.1 there.0 (tallied r.old there.1) kept.0 same in
    (new, refl, all.0, kept.1, untallied r.old all.1)

rolling : (r : Rollout) (l : Looks) → is_going_on r.deployment ≡ true → is_rolled r.deployment ≡ true → count_in_status (codes "collisionCount") r.deployment < 2147483647 → plan_for r l ≡ [] → roll r ≡ []
rolling r l going rolled low none = by (is_going_on r.deployment) (is_name_taken r l.replica_sets) (is_rolled r.deployment) going rolled none
  where
    by : (a b c : Bool) → a ≡ true → c ≡ true
        → cond (not a) (report r) (cond b (count_collision r (count_in_status (codes "collisionCount") r.deployment)) (cond c (roll r) (recreate r l.pods) ++ report r)) ≡ [] → roll r ≡ []
    by true true c p q none = absurd (counts_up r (count_in_status (codes "collisionCount") r.deployment) low none)
    by true false true p q none = (parts_none (roll r) (report r) none).0
    by true false false p q none = cc
    by false b c p q none = cc

pub rolled_out : EmptyPlansAreOfRolledOut
rolled_out h d looked going rolled low there none =
    let r = rollout h.key d h.looks.replica_sets in
    let planned : plan_for r h.looks ≡ [] = ap (plan_of h.key h.looks) (sym looked) ∙ none in
    rolled_by r r.new there (rolling r h.looks going rolled low planned)
