-- Work keys come due as keys of any type do.
use Rattle.std.proofs.Common.{◌≡◌, refl, sym, ap, ◌∙◌, ℕ, List, [], ◌∷◌, Bool, true, false, cond, map, nat_le, Ordering, Less, Equal, Greater}
use Rattle.std.specs.Cmp.{IsTotalOrder, nat_cmp_total, on_total, then_total}
use Rattle.std.specs.List.{filter}
use Rattle.std.specs.FinMap as map_of
use Rattle.std.specs.FinMap.{put, entries-insert}
use Rattle.std.specs.FinMap.Entries.{by_order}
use Rattle.spec_client_go.specs.WorkQueues.{WorkKey, work_key_cmp}
use Rattle.spec_client_go.specs.Delays as works
use Rattle.spec_client_go.specs.Delays.{Delays, Alarm}
use Rattle.spec_client_go.specs.KeyDelays.{KeyAlarm, alarm_cmp, alarm_of, alarms, due}
use Rattle.spec_client_go.proofs.Alarms as keys
use Rattle.spec_client_go.proofs.WorkKeyOrder.{work_key_total, work_key_tells}

-- entries whose keys are renamed, and stay in their order
module _ {K J X : Type 0} (R : K → K → Ordering) (S : J → J → Ordering) (rename : K → J) (alike : (a b : K) → S (rename a) (rename b) ≡ R a b) where
  abbrev renamed : K × X → J × X
  renamed e = (rename e.0, e.1)

  put-renamed : (k : K) (v : X) (es : List (K × X)) → put S (rename k) v (map renamed es) ≡ map renamed (put R k v es)
  put-renamed k v [] = refl
  put-renamed k v (e ∷ es) =
      ap (λ o. by_order o ((rename k, v) ∷ renamed e ∷ map renamed es) ((rename e.0, v) ∷ map renamed es) (renamed e ∷ put S (rename k) v (map renamed es))) (alike k e.0)
      ∙ by (R k e.0) (put-renamed k v es)
    where
      by : (o : Ordering) → put S (rename k) v (map renamed es) ≡ map renamed (put R k v es)
          → by_order o ((rename k, v) ∷ renamed e ∷ map renamed es) ((rename e.0, v) ∷ map renamed es) (renamed e ∷ put S (rename k) v (map renamed es))
          ≡ map renamed (by_order o ((k, v) ∷ e ∷ es) ((e.0, v) ∷ es) (e ∷ put R k v es))
      by Less rest = refl
      by Equal rest = refl
      by Greater rest = ap (λ l. renamed e ∷ l) rest

  entries-renamed : IsTotalOrder R → IsTotalOrder S → (es : List (K × X)) → map_of.entries (map_of.from_entries {R = S} (map renamed es)) ≡ map renamed (map_of.entries (map_of.from_entries {R = R} es))
  entries-renamed r s [] = keys.entries-empty S X ∙ ap (map renamed) (sym (keys.entries-empty R X))
  entries-renamed r s (e ∷ es) =
      entries-insert s (map_of.from_entries (map renamed es)) (rename e.0) e.1
      ∙ ap (put S (rename e.0) e.1) (entries-renamed r s es)
      ∙ put-renamed e.0 e.1 (map_of.entries (map_of.from_entries es))
      ∙ ap (map renamed) (sym (entries-insert r (map_of.from_entries es) e.0 e.1))

pub alarm_total : IsTotalOrder works.alarm_cmp
alarm_total = then_total (on_total (λ (a : Alarm). a.at) nat_cmp_total) (on_total (λ (a : Alarm). a.task) work_key_total)

abbrev there : KeyAlarm WorkKey → Alarm
there a = record { at = a.at; task = a.key }

-- what stands at each alarm is nothing
abbrev there_too : KeyAlarm WorkKey × Unit {0} → Alarm × Unit {0}
there_too e = (there e.0, e.1)

given_there : (es : List (WorkKey × ℕ)) → map {B = Alarm × Unit {0}} (λ (e : WorkKey × ℕ). (record { at = e.1; task = e.0 }, tt)) es ≡ map there_too (map {B = KeyAlarm WorkKey × Unit {0}} (λ (e : WorkKey × ℕ). (alarm_of e, tt)) es)
given_there [] = refl
given_there (e ∷ es) = ap (λ l. (record { at = e.1; task = e.0 }, tt) ∷ l) (given_there es)

first_there : (es : List (KeyAlarm WorkKey × Unit {0})) → map (λ (e : Alarm × Unit {0}). e.0) (map there_too es) ≡ map there (map (λ (e : KeyAlarm WorkKey × Unit {0}). e.0) es)
first_there [] = refl
first_there (e ∷ es) = ap (λ l. there e.0 ∷ l) (first_there es)

alarms_there : (m : Delays) → works.alarms m ≡ map there (alarms m)
alarms_there m =
    ap (λ es. map (λ (e : Alarm × Unit {0}). e.0) (map_of.entries (map_of.from_entries {R = works.alarm_cmp} es))) (given_there (map_of.entries m))
    ∙ ap (map (λ (e : Alarm × Unit {0}). e.0)) (entries-renamed (alarm_cmp work_key_cmp) works.alarm_cmp there (λ a b. refl) (keys.alarm_total work_key_cmp work_key_total work_key_tells) alarm_total _)
    ∙ first_there _

due_there : (now : ℕ) (ks : List (KeyAlarm WorkKey)) → map (λ (a : KeyAlarm WorkKey). a.key) (filter (λ (a : KeyAlarm WorkKey). nat_le a.at now) ks) ≡ map (λ (a : Alarm). a.task) (filter (λ (a : Alarm). nat_le a.at now) (map there ks))
due_there now [] = refl
due_there now (k ∷ ks) = by (nat_le k.at now) (due_there now ks)
  where
    by : (b : Bool) → map (λ (a : KeyAlarm WorkKey). a.key) (filter (λ (a : KeyAlarm WorkKey). nat_le a.at now) ks) ≡ map (λ (a : Alarm). a.task) (filter (λ (a : Alarm). nat_le a.at now) (map there ks))
        → map (λ (a : KeyAlarm WorkKey). a.key) (cond b (k ∷ filter (λ (a : KeyAlarm WorkKey). nat_le a.at now) ks) (filter (λ (a : KeyAlarm WorkKey). nat_le a.at now) ks))
        ≡ map (λ (a : Alarm). a.task) (cond b (there k ∷ filter (λ (a : Alarm). nat_le a.at now) (map there ks)) (filter (λ (a : Alarm). nat_le a.at now) (map there ks)))
    by true rest = ap (λ l. k.key ∷ l) rest
    by false rest = rest

-- the same keys are due, in the same order
pub same_due : (now : ℕ) (m : Delays) → due now m ≡ works.due now m
same_due now m = due_there now (alarms m) ∙ ap (λ l. map (λ (a : Alarm). a.task) (filter (λ (a : Alarm). nat_le a.at now) l)) (sym (alarms_there m))
