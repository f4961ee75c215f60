-- What lies from a key to before another among entries in order.
use Rattle.std.proofs.Common.{◌≡◌, ◌++◌, ◌&&◌, ℕ, List, [], ◌∷◌, Bool, true, false, not, cond, is_le, Ordering, Less, Equal, Greater, refl, sym, ap, ◌∙◌, take, drop, subst}
use Rattle.std.specs.Cmp.{IsTotalOrder}
use Rattle.std.specs.List.{AllByRecursion}
use Rattle.std.specs.List.Sorted.{IsStrictlySortedBy}
use Rattle.std.specs.Map.{keys_of}
use Rattle.std.specs.BTreeMap.Range.{entries_between}
use Rattle.std.specs.declared.ops.Bound.TheVariants.{Included, Excluded}
use Rattle.shared_map.specs.Parts.{AllAre, begins_from, joined}
use Rattle.shared_map.proofs.Orders.{InOrder, sorted_back, joined_split}

never : (b : Bool) → (b && not true) ≡ false
never true = refl
never false = refl

module _ {K X : Type 0} (R : K → K → Ordering) (f p : K) where
  abbrev pub span : List (K × X) → List (K × X)
  span es = entries_between R (Included f) (Excluded p) es

  pub span_append : (A B : List (K × X)) → span (A ++ B) ≡ span A ++ span B
  span_append [] B = refl
  span_append (a ∷ A) B = by (is_le (R f a.0) && not (is_le (R p a.0))) (span_append A B)
    where
      by : (t : Bool) → span (A ++ B) ≡ span A ++ span B → cond t (a ∷ span (A ++ B)) (span (A ++ B)) ≡ (cond t (a ∷ span A) (span A)) ++ span B
      by true h = ap (λ l. a ∷ l) h
      by false h = h

  pub span_below : (es : List (K × X)) → AllAre R Greater f es → span es ≡ []
  span_below [] h = refl
  span_below (e ∷ es) h = ap (λ r. cond (is_le r && not (is_le (R p e.0))) (e ∷ span es) (span es)) h.0 ∙ span_below es h.1

  pub span_one : (e : K × X) (es : List (K × X)) → is_le (R p e.0) ≡ true → span (e ∷ es) ≡ span es
  span_one e es is = ap (λ b. cond (is_le (R f e.0) && not b) (e ∷ span es) (span es)) is ∙ ap (λ b. cond b (e ∷ span es) (span es)) (never (is_le (R f e.0)))

  pub span_above : (es : List (K × X)) → AllAre R Less p es → span es ≡ []
  span_above [] h = refl
  span_above (e ∷ es) h = span_one e es (ap is_le h.0) ∙ span_above es h.1

module _ {K X : Type 0} {R : K → K → Ordering} (o : IsTotalOrder R) (p : K) where
  same_above : (e : K × X) (es : List (K × X)) → R p e.0 ≡ Equal → AllByRecursion (λ (y : K). R e.0 y ≡ Less) (keys_of es) → AllAre R Less p es
  same_above e [] is b = tt
  same_above e (x ∷ es) is b = (o.congr p e.0 x.0 is ∙ b.0, same_above e es is b.1)

  less_above : (e : K × X) (es : List (K × X)) → R p e.0 ≡ Less → AllByRecursion (λ (y : K). R e.0 y ≡ Less) (keys_of es) → AllAre R Less p es
  less_above e [] is b = tt
  less_above e (x ∷ es) is b = (o.trans p e.0 x.0 is b.0, less_above e es is b.1)

  pub rest_above : (e : K × X) (es : List (K × X)) → InOrder o (e ∷ es) → is_le (R p e.0) ≡ true → AllAre R Less p es
  unfolding IsStrictlySortedBy
  rest_above e es s le = by (R p e.0) refl le
    where
      by : (r : Ordering) → R p e.0 ≡ r → is_le r ≡ true → AllAre R Less p es
      by Less is le = less_above e es is s.0
      by Equal is le = same_above e es is s.0
      by Greater is le = cc

  -- nothing of the span is in chunks that begin at its end or past it
  pub span_none : (f : K) (c : List (K × X)) (qs : List (List (K × X))) → InOrder o (joined (c ∷ qs)) → begins_from R p c ≡ true → span R f p (joined (c ∷ qs)) ≡ []
  span_none f [] qs s is = cc
  span_none f (e ∷ es) qs s is = span_one R f p e (es ++ joined qs) is ∙ span_above R f p (es ++ joined qs) (rest_above e (es ++ joined qs) s is)

  -- before the chunk that may have the first key nothing is of the span
  pub span_from : (f : K) (ps : List (List (K × X))) (i : ℕ) → AllAre R Greater f (joined (take i ps)) → span R f p (joined (drop i ps)) ≡ span R f p (joined ps)
  span_from f ps i h =
      ap (λ l. l ++ span R f p (joined (drop i ps))) (sym (span_below R f p (joined (take i ps)) h)) ∙ sym (span_append R f p (joined (take i ps)) (joined (drop i ps)))
      ∙ ap (span R f p) (sym (joined_split ps i))

  pub sorted_drop : (ps : List (List (K × X))) (i : ℕ) → InOrder o (joined ps) → InOrder o (joined (drop i ps))
  sorted_drop ps i s = sorted_back o (joined (take i ps)) (joined (drop i ps)) (subst (InOrder o) (joined_split ps i) s)
