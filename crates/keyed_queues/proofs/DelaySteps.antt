-- What each change of the two indexes does to the delays.
use Rattle.std.proofs.Common.{◌≡◌, refl, sym, ap, subst, ◌∙◌, ℕ, ◌+◌, min, ◌<◌, ◌≤◌, arith, List, [], ◌∷◌, ◌++◌, append-nil, Bool, true, false, cond, map, length, Some, None, nat_le, Ordering}
use Rattle.std.proofs.lemmas.Bool.Decides.{nat_tests}
use Rattle.std.specs.Cmp.{IsTotalOrder}
use Rattle.std.specs.List.{list_any, slice_get, prefix_len}
use Rattle.std.specs.List.Sorted.{IsStrictlySortedBy}
use Rattle.std.specs.Ordering.{eq_by_cmp}
use Rattle.std.specs.BTreeMap.{is_at, insert_entry}
use Rattle.std.specs.BTreeSet.{insert_key}
use Rattle.std.specs.Map as key_map
use Rattle.std.specs.Map.{lookup}
use Rattle.std.specs.Set as key_set
use Rattle.std.specs.FinMap as map_of
use Rattle.std.specs.FinMap.{IsAntisymmetric, get-insert, get-remove, same_map}
use Rattle.std.specs.FinSet as set
use Rattle.spec_client_go.specs.Delays.{earlier}
use Rattle.object_keys.proofs.SeenSets as sets
use Rattle.keyed_queues.proofs.Numbers as numbers
use Rattle.keyed_queues.specs.declared.alarm.Alarm.{Alarm}
use Rattle.keyed_queues.specs.Delays.{KeyDelays, KeyAlarm, AreAlarms, alarm_cmp, alarm_set, delayed, due, still_delayed}
use Rattle.keyed_queues.specs.Numbers.{said}
use Rattle.keyed_queues.specs.Said.{alarm_said}
use Rattle.spec_client_go.proofs.Alarms.{alarm_total, alarm_tells, alarms_begun, alarms_hastened, no_alarms, same_tells}
use Rattle.spec_client_go.proofs.Due.{rest_are, first_is, due_first, still_without}
use Rattle.keyed_queues.proofs.SeenAlarms.{by_moment, alarms_alike, in_order_seen}

-- the first of a list that has one
pub head_is : {A : Type 0} (ks : List A) (a : A) → slice_get ks 0 ≡ Some a → (rest : List A) × (ks ≡ a ∷ rest)
head_is [] a e = cc
head_is (k ∷ ks) a e = (ks, (let same : k ≡ a = cc in λ i. same i ∷ ks))

-- the first has come
pub comes : {K : Type 0} (ks ks' : List (Alarm K)) (first a : Alarm K) (now : ℕ) → slice_get ks 0 ≡ Some first → ks ≡ a ∷ ks' → first.at ≤ now → nat_le a.at now ≡ true
comes {K = K} ks ks' first a now e f le =
    let same : a ≡ first = (let both : Some a ≡ Some first = sym (ap (λ ks. slice_get ks 0) f) ∙ e in cc) in
    let at : a.at ≡ first.at = ap (λ (a : Alarm K). a.at) same in
    grind (arith, nat_tests, at, le)

-- none is due of none
pub no_keys : {A : Type 0} (ks : List A) → (0 < length ks → ⊥) → ks ≡ []
no_keys [] h = refl
no_keys (k ∷ ks) h = absurd (h (omega arith))

-- the earlier of two moments
pub sooner : (before at : ℕ) → at < before → at ≡ min before at
sooner before at h = grind (arith, nat_tests, h)

pub leading_said : {K N : Type 0} (say : K → N) (ks : List (Alarm K)) (now : ℕ) → prefix_len (λ (a : Alarm K). nat_le a.at now) ks ≡ prefix_len (λ (a : KeyAlarm N). nat_le a.at now) (map (alarm_said say) ks)
leading_said say [] now = refl
leading_said say (k ∷ ks) now = ap (λ n. cond (nat_le k.at now) (1 + n) 0) (leading_said say ks now)

joined : {K N : Type 0} (say : K → N) (ks : List K) (k : K) (ts : List N) → map say (ks ++ k ∷ []) ++ ts ≡ map say ks ++ say k ∷ ts
joined say [] k ts = refl
joined say (j ∷ js) k ts = ap (λ us. say j ∷ us) (joined say js k ts)

module _ {K N : Type 0} (R : N → N → Ordering) (total : IsTotalOrder R) (tells : IsAntisymmetric R) (say : K → N) where
  -- a key that is delayed until an earlier moment stays as it is
  pub delayed_before : (m : KeyDelays R) (t : N) (before at : ℕ) → map_of.get m t ≡ Some before → before ≤ at → m ≡ delayed t at m
  delayed_before m t before at some h =
      same_map total tells _ _ (λ q. by q (eq_by_cmp R q t) refl ∙ sym (get-insert total m t before q))
      ∙ ap (map_of.insert m t) (let same : before ≡ min before at = grind (arith, nat_tests, h) in same)
      ∙ ap (λ o. map_of.insert m t (earlier o at)) (sym some)
    where
      by : (q : N) (b : Bool) → eq_by_cmp R q t ≡ b → map_of.get m q ≡ cond b (Some before) (map_of.get m q)
      by q true e = ap (map_of.get m) (same_tells R total tells q t e) ∙ some
      by q false e = refl

  remove_inserted : (m : KeyDelays R) (t : N) (at : ℕ) → map_of.get m t ≡ None → map_of.remove (map_of.insert m t at) t ≡ m
  remove_inserted m t at none =
      same_map total tells _ _
      (λ q. get-remove total (map_of.insert m t at) t q ∙ ap (cond (eq_by_cmp R q t) None) (get-insert total m t at q) ∙ by q (eq_by_cmp R q t) refl)
    where
      by : (q : N) (b : Bool) → eq_by_cmp R q t ≡ b → cond b None (cond b (Some at) (map_of.get m q)) ≡ map_of.get m q
      by q true e = sym (ap (map_of.get m) (same_tells R total tells q t e) ∙ none)
      by q false e = refl

  -- the alarms stay where the delays do
  pub kept : (es es' : List (K × ℕ)) (ks ks' : List (Alarm K)) → AreAlarms R (said R say es) (map (alarm_said say) ks) → said R say es' ≡ said R say es → ks' ≡ ks → AreAlarms R (said R say es') (map (alarm_said say) ks')
  kept es es' ks ks' h e f = subst (λ m. AreAlarms R m (map (alarm_said say) ks')) (sym e) (subst (λ ks. AreAlarms R (said R say es) (map (alarm_said say) ks)) (sym f) h)

  -- the first key that is due is copied
  pub noted : (now : ℕ) (m : KeyDelays R) (a : Alarm K) (rest : List (Alarm K)) (keys keys' : List K) (copy : K) (all : List N) → AreAlarms R m (map (alarm_said say) (a ∷ rest)) → nat_le a.at now ≡ true → say copy ≡ say a.key
      → keys' ≡ keys ++ copy ∷ [] → map say keys ++ due now m ≡ all → map say keys' ++ due now (map_of.remove m (say a.key)) ≡ all
  noted now m a rest keys keys' copy all are come same e given =
      let left = due now (map_of.remove m (say a.key)) in
      ap (λ ks. map say ks ++ left) e
      ∙ joined say keys copy left
      ∙ ap (λ t. map say keys ++ t ∷ left) same
      ∙ ap (λ ts. map say keys ++ ts) (sym (due_first R total tells m (alarm_said say a) (map (alarm_said say) rest) are now come))
      ∙ given

  -- none is due any more
  pub all_noted : (now : ℕ) (m : KeyDelays R) (keys : List K) (all : List N) → due now m ≡ [] → map say keys ++ due now m ≡ all → map say keys ≡ all
  all_noted now m keys all none given = sym (append-nil (map say keys)) ∙ ap (λ ts. map say keys ++ ts) (sym none) ∙ given

module _ {K N : Type 0} (R : N → N → Ordering) (total : IsTotalOrder R) (tells : IsAntisymmetric R) (say : K → N) (cmp : K → K → Ordering) (alike : (a b : K) → cmp a b ≡ R (say a) (say b)) where
  abbrev inserted : (es new : List (K × ℕ)) (k : K) (at : ℕ) → new ≡ insert_entry cmp es k at → said R say new ≡ map_of.insert (said R say es) (say k) at
  inserted = numbers.inserted R total tells say cmp alike

  abbrev removed : (es new : List (K × ℕ)) (k : K) → lookup (is_at (cmp k)) new ≡ None → key_map.KeepsOthers (eq_by_cmp cmp) (is_at (cmp k)) es new → said R say new ≡ map_of.remove (said R say es) (say k)
  removed = numbers.removed R total tells say cmp alike

  -- a delay that was begun is taken back
  pub taken_back : (es es' es'' : List (K × ℕ)) (k copy back : K) (at : ℕ) → map_of.get (said R say es) (say k) ≡ None → say copy ≡ say k → say back ≡ say copy → es' ≡ insert_entry cmp es k at → lookup (is_at (cmp back)) es'' ≡ None
      → key_map.KeepsOthers (eq_by_cmp cmp) (is_at (cmp back)) es' es'' → said R say es'' ≡ said R say es
  taken_back es es' es'' k copy back at none same again e gone keeps =
      removed es' es'' back gone keeps ∙ (λ i. map_of.remove (inserted es es' k at e i) ((again ∙ same) i)) ∙ remove_inserted R total tells say (said R say es) (say k) at none

  -- the first alarm goes, with its key
  module _ (es es' : List (K × ℕ)) (ks ks' : List (Alarm K)) (a : Alarm K) (h : AreAlarms R (said R say es) (map (alarm_said say) ks)) (f : ks ≡ a ∷ ks') (gone : lookup (is_at (cmp a.key)) es' ≡ None) (keeps : key_map.KeepsOthers (eq_by_cmp cmp) (is_at (cmp a.key)) es es') where
    first_are : AreAlarms R (said R say es) (alarm_said say a ∷ map (alarm_said say) ks')
    first_are = subst (λ ks. AreAlarms R (said R say es) (map (alarm_said say) ks)) f h

    pub went : said R say es' ≡ map_of.remove (said R say es) (say a.key)
    went = removed es es' a.key gone keeps

    pub left_are : AreAlarms R (said R say es') (map (alarm_said say) ks')
    left_are = subst (λ m. AreAlarms R m (map (alarm_said say) ks')) (sym went) (rest_are R total tells (said R say es) (alarm_said say a) (map (alarm_said say) ks') first_are)

    pub first_due : (now : ℕ) → nat_le a.at now ≡ true → due now (said R say es) ≡ say a.key ∷ due now (said R say es')
    first_due now e = due_first R total tells (said R say es) (alarm_said say a) (map (alarm_said say) ks') first_are now e ∙ ap (λ m. say a.key ∷ due now m) (sym went)

    pub same_left : (now : ℕ) → nat_le a.at now ≡ true → still_delayed now (said R say es') ≡ still_delayed now (said R say es)
    same_left now e =
        ap (still_delayed now) went ∙ still_without R total tells now a.at (said R say es) (say a.key) (first_is R total tells (said R say es) (alarm_said say a) (map (alarm_said say) ks') first_are) e

  abbrev alarms_seen : List (Alarm K) → set.FinSet (alarm_cmp R)
  alarms_seen ks = set.from_list (map (alarm_said say) ks)

  insert-alarms : (ks : List (Alarm K)) (a : Alarm K) → alarms_seen (insert_key (by_moment cmp) ks a) ≡ set.insert (alarms_seen ks) (alarm_said say a)
  insert-alarms = sets.insert-seen (alarm_cmp R) (alarm_total R total tells) (alarm_tells R total tells) (alarm_said say) (by_moment cmp) (alarms_alike R say cmp alike)

  remove-alarms : (old new : List (Alarm K)) (a : Alarm K) → list_any (is_at (by_moment cmp a)) new ≡ false → key_set.KeepsOthers (eq_by_cmp (by_moment cmp)) (is_at (by_moment cmp a)) old new → alarms_seen new ≡ set.remove (alarms_seen old) (alarm_said say a)
  remove-alarms = sets.remove-seen (alarm_cmp R) (alarm_total R total tells) (alarm_tells R total tells) (alarm_said say) (by_moment cmp) (alarms_alike R say cmp alike)

  -- no delays
  pub new_are : (es : List (K × ℕ)) (ks : List (Alarm K)) → es ≡ [] → ks ≡ [] → IsStrictlySortedBy (by_moment cmp) ks → AreAlarms R (said R say es) (map (alarm_said say) ks)
  new_are es ks e k h = record { in_order = in_order_seen R say cmp alike ks h; are = ap alarms_seen k ∙ sym (no_alarms R total tells) ∙ ap (λ es. alarm_set (said R say es)) (sym e) }

  -- a delay begins
  pub begun : (es es' : List (K × ℕ)) (ks ks' : List (Alarm K)) (k copy : K) (at : ℕ) → AreAlarms R (said R say es) (map (alarm_said say) ks) → map_of.get (said R say es) (say k) ≡ None → say copy ≡ say k → es' ≡ insert_entry cmp es k at
      → ks' ≡ insert_key (by_moment cmp) ks (record { at = at; key = copy }) → IsStrictlySortedBy (by_moment cmp) ks' → AreAlarms R (said R say es') (map (alarm_said say) ks')
  begun es es' ks ks' k copy at h none same e f o = record {
    in_order = in_order_seen R say cmp alike ks' o;
    are = ap alarms_seen f
        ∙ insert-alarms ks (record { at = at; key = copy })
        ∙ (λ i. set.insert (h.are i) (record { at = at; key = same i }))
        ∙ sym (alarms_begun R total tells (said R say es) (say k) at none)
        ∙ ap alarm_set (sym (inserted es es' k at e));
  }

  -- a delay is shortened
  pub hastened : (es es' : List (K × ℕ)) (ks ks' ks'' : List (Alarm K)) (k copy : K) (before at : ℕ) → AreAlarms R (said R say es) (map (alarm_said say) ks) → map_of.get (said R say es) (say k) ≡ Some before → at < before → say copy ≡ say k
      → es' ≡ insert_entry cmp es k at → ks' ≡ insert_key (by_moment cmp) ks (record { at = at; key = copy })
      → list_any (is_at (by_moment cmp (record { at = before; key = k }))) ks'' ≡ false → key_set.KeepsOthers (eq_by_cmp (by_moment cmp)) (is_at (by_moment cmp (record { at = before; key = k }))) ks' ks''
      → IsStrictlySortedBy (by_moment cmp) ks'' → AreAlarms R (said R say es') (map (alarm_said say) ks'')
  hastened es es' ks ks' ks'' k copy before at h some lt same e f gone keeps o = record {
    in_order = in_order_seen R say cmp alike ks'' o;
    are = remove-alarms ks' ks'' (record { at = before; key = k }) gone keeps
        ∙ ap (λ s. set.remove s (record { at = before; key = say k }))
        (ap alarms_seen f ∙ insert-alarms ks (record { at = at; key = copy }) ∙ (λ i. set.insert (h.are i) (record { at = at; key = same i })))
        ∙ sym (alarms_hastened R total tells (said R say es) (say k) at before some lt)
        ∙ ap alarm_set (sym (inserted es es' k at e));
  }
