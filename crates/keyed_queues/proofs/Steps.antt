-- Each call, by the keys in the list and in the two sets.
use Rattle.std.proofs.Common.{◌≡◌, refl, sym, ap, ◌∙◌, List, [], ◌∷◌, ◌++◌, Bool, true, false, ◌||◌, if◌then◌else◌, map, drop, length, slice_index_or, ◌<◌, arith, Ordering}
use mathlib.Core.List.{map-append}
use Rattle.std.specs.Cmp.{IsTotalOrder}
use Rattle.std.specs.List.{list_any}
use Rattle.std.specs.Ordering.{eq_by_cmp}
use Rattle.std.specs.BTreeMap.{is_at}
use Rattle.std.specs.BTreeSet.{insert_key}
use Rattle.std.specs.Set as key_set
use Rattle.std.specs.FinSet as set
use Rattle.std.specs.FinSet.{IsAntisymmetric}
use Rattle.object_keys.proofs.SeenSets.{contains-seen, insert-seen, remove-seen}
use Rattle.keyed_queues.specs.Queues.{KeyQueue, added, got, done}
use Rattle.keyed_queues.specs.Lists.{said}

-- the queue that the list and the two sets say
abbrev pub queue_of : {K N : Type 0} (R : N → N → Ordering) → (K → N) → List K → List K → List K → Bool → KeyQueue R
queue_of R say queue dirty processing s = said R say (record { ready = queue; dirty = dirty; processing = processing; is_shut = s })

abbrev pub names : {K N : Type 0} (R : N → N → Ordering) → (K → N) → List K → set.FinSet R
names R say ks = set.from_list (map say ks)

abbrev pub has : {K : Type 0} → (K → K → Ordering) → K → List K → Bool
has cmp k ks = list_any (is_at (cmp k)) ks

module _ {K N : Type 0} (R : N → N → Ordering) (o : IsTotalOrder R) (apart : IsAntisymmetric R) (say : K → N) (cmp : K → K → Ordering) (alike : (a b : K) → cmp a b ≡ R (say a) (say b)) (queue dirty processing : List K) (s : Bool) (k : K) where
  abbrev w : KeyQueue R
  w = queue_of R say queue dirty processing s

  abbrev t : N
  t = say k

  is_in : (ks : List K) → set.contains (names R say ks) t ≡ has cmp k ks
  is_in ks = contains-seen R o apart say cmp alike ks k

  -- what a call makes, by its tests
  abbrev if_added : Bool → Bool → KeyQueue R
  if_added b p = if b then w else record w { queue = if p then w.queue else w.queue ++ t ∷ []; dirty = set.insert w.dirty t }

  abbrev if_done : Bool → Bool → KeyQueue R
  if_done p d = if p then record w { queue = if d then w.queue ++ t ∷ [] else w.queue; processing = set.remove w.processing t } else w

  adds : (b d p : Bool) → (s || d) ≡ b → has cmp k dirty ≡ d → has cmp k processing ≡ p → if_added b p ≡ added t w
  adds b d p hb hd hp = λ i. if_added ((sym hb ∙ ap (λ d. s || d) (sym hd ∙ sym (is_in dirty))) i) ((sym hp ∙ sym (is_in processing)) i)

  finishes : (p d : Bool) → has cmp k processing ≡ p → has cmp k dirty ≡ d → if_done p d ≡ done t w
  finishes p d hp hd = λ i. if_done ((sym hp ∙ sym (is_in processing)) i) ((sym hd ∙ sym (is_in dirty)) i)

  pub add_shut : s ≡ true → w ≡ added t w
  add_shut e = adds true (has cmp k dirty) (has cmp k processing) (ap (λ b. b || has cmp k dirty) e) refl refl

  or_true : (b : Bool) → (b || true) ≡ true
  or_true true = refl
  or_true false = refl

  pub add_dirty : has cmp k dirty ≡ true → w ≡ added t w
  add_dirty e = adds true true (has cmp k processing) (or_true s) e refl

  pub add_held : (dirty' : List K) → s ≡ false → has cmp k dirty ≡ false → has cmp k processing ≡ true → dirty' ≡ insert_key cmp dirty k → queue_of R say queue dirty' processing s ≡ added t w
  add_held dirty' hs hd hp is =
      ap (λ d. record w { dirty = d }) (ap (names R say) is ∙ insert-seen R o apart say cmp alike dirty k)
      ∙ adds false false true (ap (λ b. b || false) hs) hd hp

  pub add_waiting : (queue' dirty' : List K) → s ≡ false → has cmp k dirty ≡ false → has cmp k processing ≡ false → map say queue' ≡ map say queue ++ t ∷ [] → dirty' ≡ insert_key cmp dirty k → queue_of R say queue' dirty' processing s ≡ added t w
  add_waiting queue' dirty' hs hd hp waits is =
      (λ i. record w { queue = waits i; dirty = (ap (names R say) is ∙ insert-seen R o apart say cmp alike dirty k) i })
      ∙ adds false false false (ap (λ b. b || false) hs) hd hp

  pub done_absent : has cmp k processing ≡ false → w ≡ done t w
  done_absent e = finishes false (has cmp k dirty) e refl

  pub done_again : (queue' processing' : List K) → has cmp k processing ≡ true → has cmp k dirty ≡ true → map say queue' ≡ map say queue ++ t ∷ [] → has cmp k processing' ≡ false → key_set.KeepsOthers (eq_by_cmp cmp) (is_at (cmp k)) processing processing'
      → queue_of R say queue' dirty processing' s ≡ done t w
  done_again queue' processing' hp hd waits gone keeps = (λ i. record w { queue = waits i; processing = remove-seen R o apart say cmp alike processing processing' k gone keeps i }) ∙ finishes true true hp hd

  pub done_clean : (processing' : List K) → has cmp k processing ≡ true → has cmp k dirty ≡ false → has cmp k processing' ≡ false → key_set.KeepsOthers (eq_by_cmp cmp) (is_at (cmp k)) processing processing' → queue_of R say queue dirty processing' s ≡ done t w
  done_clean processing' hp hd gone keeps = ap (λ p. record w { processing = p }) (remove-seen R o apart say cmp alike processing processing' k gone keeps) ∙ finishes true false hp hd

pub pushed-seen : {K N : Type 0} (say : K → N) (queue queue' : List K) (k kept : K) → queue' ≡ queue ++ kept ∷ [] → say kept ≡ say k → map say queue' ≡ map say queue ++ say k ∷ []
pushed-seen say queue queue' k kept is e = ap (map say) is ∙ map-append say queue (kept ∷ []) ∙ ap (λ t. map say queue ++ t ∷ []) e

-- the first key goes from the list and the first set into the second
pub get_from_front : {K N : Type 0} (R : N → N → Ordering) (say : K → N) (queue rest dirty dirty' processing processing' : List K) (s : Bool) (front : K) → 0 < length queue → front ≡ slice_index_or queue 0 front → rest ≡ drop 1 queue
    → names R say dirty' ≡ set.remove (names R say dirty) (say front) → names R say processing' ≡ set.insert (names R say processing) (say front) → queue_of R say rest dirty' processing' s ≡ got (queue_of R say queue dirty processing s)
get_from_front R say [] rest dirty dirty' processing processing' s front some is_front is_rest gone into = absurd (omega arith)
get_from_front R say (x ∷ queue) rest dirty dirty' processing processing' s front some is_front is_rest gone into =
    let first : x ≡ front = sym is_front in
    λ i. record {
      queue = map say (is_rest i);
      dirty = (gone ∙ ap (λ k. set.remove (names R say dirty) (say k)) (sym first)) i;
      processing = (into ∙ ap (λ k. set.insert (names R say processing) (say k)) (sym first)) i;
      is_shut = s;
    }
