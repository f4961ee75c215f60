-- What lies from a key on, and what lies before one, among entries in order.
use Rattle.std.proofs.Common.{arith, zero, suc, ◌≡◌, ◌++◌, ◌&&◌, ◌+◌, ◌<◌, ℕ, List, [], ◌∷◌, Bool, true, false, not, cond, is_le, Ordering, Less, Equal, Greater, refl, sym, ap, ◌∙◌, take, drop, subst}
use Rattle.std.specs.Cmp.{IsTotalOrder}
use Rattle.std.specs.BTreeMap.Range.{entries_between, range_contains}
use Rattle.std.specs.declared.ops.Bound.TheVariants.{Included, Excluded, Unbounded}
use Rattle.std.proofs.lemmas.List.{take-append-drop, append_assoc}
use Rattle.std.proofs.lemmas.List.Elements.{filter-append}
use Rattle.shared_map.specs.Parts.{AllAre, BeginsAt, AreFilled, starts_after, joined}
use Rattle.shared_map.proofs.Joined.{around}
use Rattle.shared_map.proofs.Orders.{InOrder, all_above, all_under, front_by, sorted_back, sorted_front, joined_split, filled_drop}
use Rattle.shared_map.proofs.Spans.{rest_above}

module _ {K X : Type 0} (R : K → K → Ordering) (k : K) where
  abbrev pub from : List (K × X) → List (K × X)
  from es = entries_between R (Included k) Unbounded es

  abbrev pub before : List (K × X) → List (K × X)
  before es = entries_between R Unbounded (Excluded k) es

  from_append : (A B : List (K × X)) → from (A ++ B) ≡ from A ++ from B
  from_append A B = filter-append (λ e. range_contains R (Included k) Unbounded e.0) A B

  before_append : (A B : List (K × X)) → before (A ++ B) ≡ before A ++ before B
  before_append A B = filter-append (λ e. range_contains R Unbounded (Excluded k) e.0) A B

  from_below : (es : List (K × X)) → AllAre R Greater k es → from es ≡ []
  from_below [] h = refl
  from_below (e ∷ es) h = ap (λ r. cond (is_le r && not false) (e ∷ from es) (from es)) h.0 ∙ from_below es h.1

  from_above : (es : List (K × X)) → AllAre R Less k es → from es ≡ es
  from_above [] h = refl
  from_above (e ∷ es) h = ap (λ r. cond (is_le r && not false) (e ∷ from es) (from es)) h.0 ∙ ap (λ l. e ∷ l) (from_above es h.1)

  before_below : (es : List (K × X)) → AllAre R Greater k es → before es ≡ es
  before_below [] h = refl
  before_below (e ∷ es) h = ap (λ r. cond (true && not (is_le r)) (e ∷ before es) (before es)) h.0 ∙ ap (λ l. e ∷ l) (before_below es h.1)

  before_above : (es : List (K × X)) → AllAre R Less k es → before es ≡ []
  before_above [] h = refl
  before_above (e ∷ es) h = ap (λ r. cond (true && not (is_le r)) (e ∷ before es) (before es)) h.0 ∙ before_above es h.1

-- what lies from a key to before another is what lies before the other of what lies from the key on
pub both : {K X : Type 0} (R : K → K → Ordering) (f p : K) (es : List (K × X)) → before R p (from R f es) ≡ entries_between R (Included f) (Excluded p) es
both R f p [] = refl
both R f p (e ∷ es) = by (is_le (R f e.0)) (both R f p es)
  where
    more : (t : Bool) → before R p (from R f es) ≡ entries_between R (Included f) (Excluded p) es
        → cond (true && t) (e ∷ before R p (from R f es)) (before R p (from R f es)) ≡ cond (true && t) (e ∷ entries_between R (Included f) (Excluded p) es) (entries_between R (Included f) (Excluded p) es)
    more true h = ap (λ l. e ∷ l) h
    more false h = h

    by : (t : Bool) → before R p (from R f es) ≡ entries_between R (Included f) (Excluded p) es
        → before R p (cond (t && not false) (e ∷ from R f es) (from R f es)) ≡ cond (t && not (is_le (R p e.0))) (e ∷ entries_between R (Included f) (Excluded p) es) (entries_between R (Included f) (Excluded p) es)
    by true h = more (not (is_le (R p e.0))) h
    by false h = h

reached : (found : Bool) → is_le (cond found Equal Less) ≡ true
reached true = refl
reached false = refl

module _ {K X : Type 0} {R : K → K → Ordering} (o : IsTotalOrder R) (k : K) where
  from_at : (es : List (K × X)) (found : Bool) → InOrder o es → BeginsAt R k found es → from R k es ≡ es
  from_at [] found s is = refl
  from_at (e ∷ es) found s is =
      let le : is_le (R k e.0) ≡ true = ap is_le is ∙ reached found in
      ap (λ b. cond (b && not false) (e ∷ from R k es) (from R k es)) le ∙ ap (λ l. e ∷ l) (from_above R k es (rest_above o k e es s le))

  before_at : (es : List (K × X)) (found : Bool) → InOrder o es → BeginsAt R k found es → before R k es ≡ []
  before_at [] found s is = refl
  before_at (e ∷ es) found s is =
      let le : is_le (R k e.0) ≡ true = ap is_le is ∙ reached found in
      ap (λ b. cond (true && not b) (e ∷ before R k es) (before R k es)) le ∙ before_above R k es (rest_above o k e es s le)

  sorted_place : (es : List (K × X)) (at : ℕ) → InOrder o es → InOrder o (drop at es)
  sorted_place es at s = sorted_back o (take at es) (drop at es) (subst (InOrder o) (sym (take-append-drop at es)) s)

  from_place : (es : List (K × X)) (at : ℕ) (found : Bool) → InOrder o es → AllAre R Greater k (take at es) → BeginsAt R k found (drop at es) → from R k es ≡ drop at es
  from_place es at found s under ahead =
      ap (from R k) (sym (take-append-drop at es)) ∙ from_append R k (take at es) (drop at es)
      ∙ ap (λ l. l ++ from R k (drop at es)) (from_below R k (take at es) under) ∙ from_at (drop at es) found (sorted_place es at s) ahead

  before_place : (es : List (K × X)) (at : ℕ) (found : Bool) → InOrder o es → AllAre R Greater k (take at es) → BeginsAt R k found (drop at es) → before R k es ≡ take at es ++ []
  before_place es at found s under ahead =
      ap (before R k) (sym (take-append-drop at es)) ∙ before_append R k (take at es) (drop at es)
      ∙ ap (λ l. l ++ before R k (drop at es)) (before_below R k (take at es) under) ∙ ap (λ l. take at es ++ l) (before_at (drop at es) found (sorted_place es at s) ahead)

  -- what is from a key on lies in the chunk that may have it, and in those after it
  pub left_from : (ps : List (List (K × X))) (i : ℕ) (C : List (K × X)) (at : ℕ) (found : Bool) → InOrder o (joined ps) → AreFilled ps → InOrder o C
      → (0 < i → starts_after R k (drop i ps) ≡ false) → starts_after R k (drop (i + 1) ps) ≡ true → drop i ps ≡ C ∷ drop (i + 1) ps
      → AllAre R Greater k (take at C) → BeginsAt R k found (drop at C) → drop at C ++ joined (drop (i + 1) ps) ≡ from R k (joined ps)
  left_from ps i C at found s f sc first next here under ahead =
      let A = joined (take i ps) in
      let B = joined (drop (i + 1) ps) in
      sym (ap (from R k) (around ps i C here) ∙ from_append R k A (C ++ B) ∙ ap (λ l. l ++ from R k (C ++ B)) (from_below R k A (all_above o k ps i s f first))
      ∙ from_append R k C B ∙ ap (λ l. l ++ from R k B) (from_place C at found sc under ahead) ∙ ap (λ l. drop at C ++ l) (from_above R k B (all_under o k ps (i + 1) s next)))

  pub left_sorted : (ps : List (List (K × X))) (i : ℕ) (C : List (K × X)) (at : ℕ) → InOrder o (joined ps) → drop i ps ≡ C ∷ drop (i + 1) ps → InOrder o (drop at C ++ joined (drop (i + 1) ps))
  left_sorted ps i C at s here =
      let A = joined (take i ps) in
      let B = joined (drop (i + 1) ps) in
      sorted_back o (take at C) (drop at C ++ B)
      (subst (InOrder o) (ap (λ l. l ++ B) (sym (take-append-drop at C)) ∙ append_assoc (take at C) (drop at C) B) (sorted_back o A (C ++ B) (subst (InOrder o) (around ps i C here) s)))

  -- where the chunks begin after a key, what is before it lies in what is ahead of them
  pub left_ahead : (F : List (K × X)) (ps : List (List (K × X))) (at : ℕ) (found : Bool) → InOrder o (F ++ joined ps) → starts_after R k ps ≡ true
      → AllAre R Greater k (take at F) → BeginsAt R k found (drop at F) → take at F ++ [] ≡ before R k (F ++ joined ps)
  left_ahead F ps at found s next under ahead =
      sym (before_append R k F (joined ps) ∙ ap (λ l. before R k F ++ l) (before_above R k (joined ps) (all_under o k ps 0 (sorted_back o F (joined ps) s) next))
      ∙ ap (λ l. l ++ []) (before_place F at found (sorted_front o F (joined ps) s) under ahead) ∙ append_assoc (take at F) [] [])

  -- else it lies there, in the chunks before the one that may have the key, and in that one
  pub left_before : (F : List (K × X)) (ps : List (List (K × X))) (i : ℕ) (C : List (K × X)) (at : ℕ) (found : Bool) → InOrder o (F ++ joined ps) → AreFilled ps → InOrder o C
      → starts_after R k (drop i ps) ≡ false → starts_after R k (drop (i + 1) ps) ≡ true → drop i ps ≡ C ∷ drop (i + 1) ps
      → AllAre R Greater k (take at C) → BeginsAt R k found (drop at C) → F ++ (joined (take i ps) ++ take at C) ≡ before R k (F ++ joined ps)
  left_before F ps i C at found s f sc first next here under ahead =
      let A = joined (take i ps) in
      let B = joined (drop (i + 1) ps) in
      let all : F ++ joined ps ≡ (F ++ A) ++ (C ++ B) = ap (λ l. F ++ l) (around ps i C here) ∙ sym (append_assoc F A (C ++ B)) in
      let split : F ++ joined ps ≡ (F ++ A) ++ joined (drop i ps) = ap (λ l. F ++ l) (joined_split ps i) ∙ sym (append_assoc F A (joined (drop i ps))) in
      let front : AllAre R Greater k (F ++ A) = front_by o k (F ++ A) (drop i ps) (subst (InOrder o) split s) (filled_drop ps i f) first in
      let sorted : InOrder o (joined ps) = sorted_back o F (joined ps) s in
      sym (ap (before R k) all ∙ before_append R k (F ++ A) (C ++ B) ∙ ap (λ l. l ++ before R k (C ++ B)) (before_below R k (F ++ A) front)
      ∙ ap (λ l. (F ++ A) ++ l) (before_append R k C B ∙ ap (λ l. l ++ before R k B) (before_place C at found sc under ahead) ∙ ap (λ l. (take at C ++ []) ++ l) (before_above R k B (all_under o k ps (i + 1) sorted next)))
      ∙ append_assoc F A ((take at C ++ []) ++ []) ∙ ap (λ l. F ++ (A ++ l)) (append-nil2 (take at C)))
    where
      append-nil2 : (l : List (K × X)) → (l ++ []) ++ [] ≡ l
      append-nil2 [] = refl
      append-nil2 (x ∷ l) = ap (λ l. x ∷ l) (append-nil2 l)

-- where the chunks do not begin after a key, the one that may have it does not
pub begun_at : {K X : Type 0} (R : K → K → Ordering) (k : K) (ps : List (List (K × X))) (i : ℕ) → starts_after R k ps ≡ false → (0 < i → starts_after R k (drop i ps) ≡ false) → starts_after R k (drop i ps) ≡ false
begun_at R k ps zero begun first = begun
begun_at R k ps (suc i) begun first = first (omega arith)
