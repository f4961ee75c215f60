-- How long it is until a key comes due.
use Rattle.std.proofs.Common.{◌≡◌, ◌≢◌, ℕ, ◌+◌, ◌-◌, ◌<◌, List, [], ◌∷◌, map as list_map, nat_le, cond, true, false, refl, sym, ap, ◌∙◌, subst, arith}
use Rattle.std.specs.Prelude.{Some, None, option_map, unwrap_or}
use Rattle.std.proofs.lemmas.Bool.Decides.{nat_tests}
use Rattle.std.specs.Cmp.{IsTotalOrder}
use Rattle.std.specs.FinMap.{IsAntisymmetric}
use Rattle.std.specs.List.{filter}
use Rattle.std.specs.declared.cmp.Ordering.{Ordering}
use Rattle.keyed_queues.specs.Delays.{KeyAlarm, AreAlarms, alarms, due, first_moment}
use Rattle.spec_client_go.proofs.Due.{none_due_yet}
use Rattle.spec_client_go.proofs.DueKeys.{are_alarms}
use Rattle.boards.specs.DueLaws.{IsUntilDue, DueIsTold}

late : (at time passed ms : ℕ) → at - time ≡ ms → passed < ms → nat_le at (time + passed) ≡ false
late at time passed ms is lt = grind (arith, nat_tests, is, lt)

come : (at time ms : ℕ) → at - time ≡ ms → nat_le at (time + ms) ≡ true
come at time ms is = grind (arith, nat_tests, is)

some_same : (x y : ℕ) → Some x ≡ Some y → x ≡ y
some_same x y e = ap (λ o. unwrap_or o y) e

module _ {N : Type 0} (R : N → N → Ordering) (total : IsTotalOrder R) (tells : IsAntisymmetric R) where
  abbrev due_of : ℕ → List (KeyAlarm N) → List N
  due_of now ks = list_map (λ (a : KeyAlarm N). a.key) (filter (λ (a : KeyAlarm N). nat_le a.at now) ks)

  first_due : (now : ℕ) (a : KeyAlarm N) (ks : List (KeyAlarm N)) → nat_le a.at now ≡ true → due_of now (a ∷ ks) ≢ []
  first_due now a ks here none =
      let e : a.key ∷ due_of now ks ≡ [] = sym (ap (λ b. list_map (λ (a : KeyAlarm N). a.key) (cond b (a ∷ filter (λ (a : KeyAlarm N). nat_le a.at now) ks) (filter (λ (a : KeyAlarm N). nat_le a.at now) ks))) here) ∙ none in cc

  pub due_told : (T : Type 0) → DueIsTold R T
  due_told T b = by (alarms b.delays) refl
    where
      by : (ks : List (KeyAlarm N)) → alarms b.delays ≡ ks
          → ((ms : ℕ) → option_map (λ moment. moment - b.time) (first_moment ks) ≡ Some ms → IsUntilDue b ms)
          × (option_map (λ moment. moment - b.time) (first_moment ks) ≡ None → (now : ℕ) → due now b.delays ≡ [])
      by [] e = (λ ms h. absurd (cc), λ h now. ap (due_of now) e)
      by (a ∷ ks) e = (
        λ ms h.
            let is = some_same (a.at - b.time) ms h in
            record {
              before = λ passed lt. none_due_yet R total tells (b.time + passed) b.delays a ks (subst (AreAlarms R b.delays) e (are_alarms R total tells b.delays)) (late a.at b.time passed ms is lt);
              on_time = λ none. first_due (b.time + ms) a ks (come a.at b.time ms is) (sym (ap (due_of (b.time + ms)) e) ∙ none);
            },
        λ h now. absurd (cc),
      )
