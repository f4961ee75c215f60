-- What taking back a key leaves.
use Rattle.std.proofs.Common.{◌≡◌, refl, sym, ap, ◌∙◌, ℕ, List, [], ◌∷◌, ◌++◌, Bool, true, false, not, ◌&&◌, ◌||◌, if◌then◌else◌, map, take, length, reverse, slice_index_or, suc, subst, ◌-◌, ◌+◌, ◌<◌, arith, Ordering}
use Rattle.std.proofs.Math.Seq.{take-append_seam, take-suc}
use Rattle.std.proofs.lemmas.List.{reverse-append, length-append, take-map}
use mathlib.Core.List.{map-append}
use Rattle.std.specs.Cmp.{Equal-is, IsTotalOrder}
use Rattle.std.specs.Ordering.{eq_by_cmp}
use Rattle.std.specs.BTreeMap.{is_at}
use Rattle.std.specs.Set as key_set
use Rattle.std.specs.FinSet as set
use Rattle.std.specs.FinSet.{IsAntisymmetric, contains-insert, contains-remove, contains_tied, same_set}
use Rattle.object_keys.proofs.SeenSets.{contains-seen, remove-seen}
use Rattle.keyed_queues.specs.Queues.{KeyQueue, added, added_all}
use Rattle.keyed_queues.specs.Undoing.{IsFresh, IsMadeBy, IsUndoable}
use Rattle.keyed_queues.proofs.Steps.{has, queue_of, names}

-- the queue without the key, where it is in no worker's hands
abbrev pub without : {N : Type 0} → Bool → List N → List N
without true ks = ks
without false ks = take (length ks - 1) ks

take_pushed : {N : Type 0} (ks : List N) (k : N) → take (length (ks ++ k ∷ []) - 1) (ks ++ k ∷ []) ≡ ks
take_pushed ks k = ap (λ n. take n (ks ++ k ∷ [])) (ap (λ n. n - 1) (length-append ks (k ∷ [])) ∙ one_off (length ks)) ∙ take-append_seam ks (k ∷ [])
  where
    one_off : (n : ℕ) → n + 1 - 1 ≡ n
    one_off n = omega arith

module _ {N : Type 0} (R : N → N → Ordering) (o : IsTotalOrder R) (apart : IsAntisymmetric R) where
  remove-insert : (s : set.FinSet R) (k : N) → set.contains s k ≡ false → set.remove (set.insert s k) k ≡ s
  remove-insert s k absent =
      same_set o apart (set.remove (set.insert s k) k) s
      (λ q. contains-remove o (set.insert s k) k q ∙ ap (λ b. not (eq_by_cmp R q k) && b) (contains-insert o s k q) ∙ by q (eq_by_cmp R q k) refl)
    where
      by : (q : N) (b : Bool) → eq_by_cmp R q k ≡ b → (not b && (b || set.contains s q)) ≡ set.contains s q
      by q true is = sym absent ∙ contains_tied o s q k ((Equal-is (R q k)).0 is)
      by q false is = refl

  fresh_added : (k : N) (w : KeyQueue R) → IsFresh k w
      → added k w ≡ record w { queue = if set.contains w.processing k then w.queue else w.queue ++ k ∷ []; dirty = set.insert w.dirty k }
  fresh_added k w f =
      ap (λ b. if b then w else record w { queue = if set.contains w.processing k then w.queue else w.queue ++ k ∷ []; dirty = set.insert w.dirty k })
      (ap (λ b. b || set.contains w.dirty k) f.0 ∙ f.1)

  pub taken_back : (k : N) (w before : KeyQueue R) (queue : List N) (dirty : set.FinSet R) (b : Bool) → IsFresh k before → w ≡ added k before → set.contains w.processing k ≡ b
      → queue ≡ without b w.queue → dirty ≡ set.remove w.dirty k → record { queue = queue; dirty = dirty; processing = w.processing; is_shut = w.is_shut } ≡ before
  taken_back k w before queue dirty b f is hands waits left =
      let now = is ∙ fresh_added k before f in
      let same : set.contains before.processing k ≡ b = sym (ap (λ (q : KeyQueue R). set.contains q.processing k) now) ∙ hands in
      λ i. record {
        queue = (waits ∙ ap (λ (q : KeyQueue R). without b q.queue) now ∙ ap (λ c. without b (if c then before.queue else before.queue ++ k ∷ [])) same ∙ by b) i;
        dirty = (left ∙ ap (λ (q : KeyQueue R). set.remove q.dirty k) now ∙ remove-insert before.dirty k f.1) i;
        processing = ap (λ (q : KeyQueue R). q.processing) now i;
        is_shut = ap (λ (q : KeyQueue R). q.is_shut) now i;
      }
    where
      by : (c : Bool) → without c (if c then before.queue else before.queue ++ k ∷ []) ≡ before.queue
      by true = refl
      by false = take_pushed before.queue k

-- ---- keys one after another

reversed_push : {K N : Type 0} (say : K → N) (ks : List K) (k : K) → reverse (map say (ks ++ k ∷ [])) ≡ say k ∷ reverse (map say ks)
reversed_push say ks k = ap reverse (map-append say ks (k ∷ [])) ∙ reverse-append (map say ks) (say k ∷ [])

-- one more key was added
pub one_more : {K N : Type 0} {R : N → N → Ordering} (say : K → N) (first old new : KeyQueue R) (ks ks' : List K) (k : K) (t : N) → ks' ≡ ks ++ k ∷ [] → say k ≡ t → IsFresh t old → new ≡ added t old
    → IsUndoable first (map say ks) old → IsUndoable first (map say ks') new
one_more {N = N} say first old new ks ks' k t pushed is f made before =
    subst (λ (l : List N). IsMadeBy first l new) (sym (ap (λ l. reverse (map say l)) pushed ∙ reversed_push say ks k ∙ ap (λ j. j ∷ reverse (map say ks)) is)) (old, before, f, made)

-- the last is taken away
pub one_less : {K N : Type 0} {R : N → N → Ordering} (say : K → N) (first now : KeyQueue R) (ks ks' : List K) (k : K) → ks' ≡ ks ++ k ∷ [] → IsUndoable first (map say ks') now → IsMadeBy first (say k ∷ reverse (map say ks)) now
one_less {N = N} say first now ks ks' k pushed made = subst (λ (l : List N). IsMadeBy first l now) (ap (λ l. reverse (map say l)) pushed ∙ reversed_push say ks k) made

-- the same of a queue by its lists
pub queue_back : {K N : Type 0} (R : N → N → Ordering) (o : IsTotalOrder R) (apart : IsAntisymmetric R) (say : K → N) (cmp : K → K → Ordering) (alike : (a b : K) → cmp a b ≡ R (say a) (say b)) (queue queue' dirty dirty' processing : List K) (s : Bool) (k : K)
    (before : KeyQueue R) (b : Bool) → IsFresh (say k) before → queue_of R say queue dirty processing s ≡ added (say k) before → has cmp k processing ≡ b → map say queue' ≡ without b (map say queue) → has cmp k dirty' ≡ false
    → key_set.KeepsOthers (eq_by_cmp cmp) (is_at (cmp k)) dirty dirty' → queue_of R say queue' dirty' processing s ≡ before
queue_back R o apart say cmp alike queue queue' dirty dirty' processing s k before b f is hands waits gone keeps =
    taken_back R o apart (say k) (queue_of R say queue dirty processing s) before (map say queue') (names R say dirty') b f is (contains-seen R o apart say cmp alike processing k ∙ hands) waits
    (remove-seen R o apart say cmp alike dirty dirty' k gone keeps)

-- the last key is gone
pub popped : {K N : Type 0} (say : K → N) (queue queue' : List K) (n : ℕ) → n ≡ length (map say queue) - 1 → queue' ≡ take n queue → map say queue' ≡ without false (map say queue)
popped say queue queue' n others is = ap (map say) is ∙ sym (take-map say n queue) ∙ ap (λ m. take m (map say queue)) others

-- ---- a slice of keys

added_all-push : {N : Type 0} {R : N → N → Ordering} (w : KeyQueue R) (ks : List N) (k : N) → added_all (ks ++ k ∷ []) w ≡ added k (added_all ks w)
added_all-push w [] k = refl
added_all-push w (j ∷ js) k = added_all-push (added j w) js k

-- one more key of a slice is added
pub next_added : {K N : Type 0} {R : N → N → Ordering} (say : K → N) (first old new : KeyQueue R) (ks : List K) (i : ℕ) (k : K) → i < length ks → k ≡ slice_index_or ks i k → old ≡ added_all (map say (take i ks)) first → new ≡ added (say k) old
    → new ≡ added_all (map say (take (i + 1) ks)) first
next_added say first old new ks i k within is before more =
    more
    ∙ ap (added (say k)) before
    ∙ sym (added_all-push first (map say (take i ks)) (say k))
    ∙ ap (λ l. added_all l first) (sym (map-append say (take i ks) (k ∷ [])) ∙ ap (map say) (sym (taken ks i k within is)))
  where
    one_on : (n : ℕ) → n + 1 ≡ suc n
    one_on n = omega arith

    taken : {K : Type 0} (ks : List K) (i : ℕ) (k : K) → i < length ks → k ≡ slice_index_or ks i k → take (i + 1) ks ≡ take i ks ++ k ∷ []
    taken ks i k within is = ap (λ n. take n ks) (one_on i) ∙ take-suc ks i k within ∙ ap (λ x. take i ks ++ x ∷ []) (sym is)
