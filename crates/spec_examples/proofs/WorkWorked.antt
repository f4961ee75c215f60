-- The queue, delays and expectations on given keys, computed.
use Rattle.std.proofs.Common.{zero, suc, ◌≡◌, refl, sym, ap, ◌∙◌, ℕ, ◌+◌, ◌-◌, ◌≤◌, min, length, nat_le, List, [], ◌∷◌, cond, Some, arith, map as list_map}
use Rattle.std.proofs.Math.Pow.{pow_mono}
use Rattle.std.specs.Prelude.{unwrap_or}
use Rattle.std.specs.Cmp.{tied_itself}
use Rattle.std.specs.List.{filter}
use Rattle.std.specs.Ordering.{is_eq}
use Rattle.std.specs.declared.cmp.Ordering.{Ordering}
use Rattle.std.specs.FinMap as map
use Rattle.std.specs.FinMap.{find, put, get-entries, get-insert, get-empty, entries-insert, len-entries, len-empty}
use Rattle.std.specs.FinSet.{contains-empty, contains-insert, contains-remove}
use Rattle.spec_client_go.specs.WorkQueues.{WorkKey, work_key_cmp}
use Rattle.spec_client_go.specs.Delays.{Alarm, alarm_cmp, due, failures, delay_after, Delays, delayed, earlier}
use Rattle.spec_examples.specs.WorkExamples.{work_key_x, work_key_y, work_key_d, failing, both_delayed, KeysWaitOnce, DelaysDouble, KeysComeDue, CreationsAreAwaited}
use Rattle.spec_client_go.specs.Expectations.{Owner, Table, creations_expected, is_met, satisfied}
use Rattle.spec_client_go.proofs.WorkDelays.{alarm_total}
use Rattle.spec_client_go.proofs.Expected.{get_put, expecting, after_one, after_both}
use Rattle.spec_client_go.proofs.WorkKeyOrder.{work_key_total}

-- ---- the queue

pub wait_once : KeysWaitOnce
wait_once = record {
  nothing_waits = refl;
  waits_once = simp (contains-empty, contains-insert work_key_total);
  is_in_hand = simp (contains-empty, contains-insert work_key_total);
  is_not_handed_twice = simp (contains-empty, contains-insert work_key_total, contains-remove work_key_total);
  waits_again = simp (contains-empty, contains-insert work_key_total, contains-remove work_key_total);
  is_done = simp (contains-empty, contains-insert work_key_total, contains-remove work_key_total);
}

-- ---- failures

failures-failing : (n : ℕ) (k : WorkKey) → failures k (failing n k) ≡ min n 32
failures-failing zero k = ap (λ x. unwrap_or x 0) (get-empty work_key_cmp k)
failures-failing (suc n) k =
    let before = failures-failing n k in
    ap (λ x. unwrap_or x 0)
    (get-insert work_key_total (failing n k) k (min (failures k (failing n k) + 1) 32) k
    ∙ ap (λ b. cond b (Some (min (failures k (failing n k) + 1) 32)) (map.get (failing n k) k)) (ap is_eq (tied_itself work_key_total k)))
    ∙ omega (arith, before)

late : (f : ℕ) → 18 ≤ f → delay_after f ≡ 1000000
late f l = let more = pow_mono l in omega (arith, more)

pub double : DelaysDouble
double = record {
  first = λ k. ap delay_after (failures-failing 0 k);
  second = λ k. ap delay_after (failures-failing 1 k);
  third = λ k. ap delay_after (failures-failing 2 k);
  eighteenth = λ k. ap delay_after (failures-failing 17 k);
  nineteenth = λ k. ap delay_after (failures-failing 18 k);
  later = λ n k l. ap delay_after (failures-failing (n - 1) k) ∙ late (min (n - 1) 32) (omega (arith, l));
}

-- ---- delays

none_in : {X : Type 0} (es : List X) → length es ≡ 0 → es ≡ []
none_in [] e = refl
none_in (x ∷ es) e = absurd (omega arith)

entries-empty : {K X : Type 0} (R : K → K → Ordering) → map.entries (map.empty {X = X} {R = R}) ≡ []
entries-empty {X = X} R = none_in (map.entries (map.empty {X = X} {R = R})) (sym (len-entries (map.empty {X = X} {R = R})) ∙ len-empty R X)

-- the entries after a key was delayed, by those before
entries-delayed : (k : WorkKey) (at : ℕ) (m : Delays) (es : List (WorkKey × ℕ)) → map.entries m ≡ es → map.entries (delayed k at m) ≡ put work_key_cmp k (earlier (find work_key_cmp k es) at) es
entries-delayed k at m es is =
    entries-insert work_key_total m k (earlier (map.get m k) at) ∙ ap (λ x. put work_key_cmp k (earlier x at) (map.entries m)) (get-entries m k)
    ∙ ap (λ z. put work_key_cmp k (earlier (find work_key_cmp k z) at) z) is

abbrev all_put : List (Alarm × Unit {0}) → List (Alarm × Unit {0})
all_put [] = []
all_put (e ∷ es) = put alarm_cmp e.0 e.1 (all_put es)

entries-from : (es : List (Alarm × Unit {0})) → map.entries (map.from_entries {X = Unit {0}} {R = alarm_cmp} es) ≡ all_put es
entries-from [] = entries-empty alarm_cmp
entries-from (e ∷ es) = entries-insert alarm_total (map.from_entries es) e.0 e.1 ∙ ap (put alarm_cmp e.0 e.1) (entries-from es)

abbrev alarm_entry : WorkKey × ℕ → Alarm × Unit {0}
alarm_entry e = (record { at = e.1; task = e.0 }, tt)

abbrev due_of : ℕ → List (WorkKey × ℕ) → List WorkKey
due_of now es = list_map (λ (a : Alarm). a.task) (filter (λ (a : Alarm). nat_le a.at now) (list_map (λ e. e.0) (all_put (list_map alarm_entry es))))

due_is : (now : ℕ) (m : Delays) (es : List (WorkKey × ℕ)) → map.entries m ≡ es → due now m ≡ due_of now es
due_is now m es is =
    ap (λ z. list_map (λ (a : Alarm). a.task) (filter (λ (a : Alarm). nat_le a.at now) (list_map (λ e. e.0) z)))
    (entries-from (list_map alarm_entry (map.entries m)) ∙ ap (λ z. all_put (list_map alarm_entry z)) is)

entries_both : map.entries both_delayed ≡ (work_key_x, 10) ∷ (work_key_y, 10) ∷ []
entries_both = entries-delayed work_key_x 10 (delayed work_key_y 10 map.empty) ((work_key_y, 10) ∷ []) (entries-delayed work_key_y 10 map.empty [] (entries-empty work_key_cmp))

pub come_due : KeysComeDue
come_due = record {
  not_before = due_is 9 both_delayed ((work_key_x, 10) ∷ (work_key_y, 10) ∷ []) entries_both;
  in_order = due_is 10 both_delayed ((work_key_x, 10) ∷ (work_key_y, 10) ∷ []) entries_both;
  earlier_first = due_is 10 (delayed work_key_d 5 both_delayed) _ (entries-delayed work_key_d 5 both_delayed ((work_key_x, 10) ∷ (work_key_y, 10) ∷ []) entries_both);
  and_alone = due_is 9 (delayed work_key_d 5 both_delayed) _ (entries-delayed work_key_d 5 both_delayed ((work_key_x, 10) ∷ (work_key_y, 10) ∷ []) entries_both);
  none_is_put_off = due_is 10 (delayed work_key_x 30 both_delayed) _ (entries-delayed work_key_x 30 both_delayed ((work_key_x, 10) ∷ (work_key_y, 10) ∷ []) entries_both);
  one_is_brought_on = due_is 7 (delayed work_key_y 7 both_delayed) _ (entries-delayed work_key_y 7 both_delayed ((work_key_x, 10) ∷ (work_key_y, 10) ∷ []) entries_both);
}

-- ---- expectations

at_moment : (o : Owner) (now : ℕ) (t : Table) → satisfied o now (creations_expected o 2 0 t) ≡ is_met now (Some (expecting 2))
at_moment o now t = ap (is_met now) (get_put t o (expecting 2))

pub creations_awaited : CreationsAreAwaited
creations_awaited = record {
  at_first = λ o t. at_moment o 0 t;
  five_minutes = λ o t. at_moment o 300000 t;
  a_moment_more = λ o t. at_moment o 300001 t;
  one_seen = λ o t. after_one o 300000 t;
  both_seen = λ o t. after_both o 0 t;
}
