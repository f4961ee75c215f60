-- Who looks up, in order, just the keys of the entries that pass a test finds these entries in their order.
use Rattle.std.proofs.Common.{◌≡◌, ◌||◌, List, [], ◌∷◌, Bool, true, false, cond, Option, Some, None, map, filter, filter_map, option_map, is_eq, Ordering, Less, Equal, Greater, refl, sym, ap, ◌∙◌}
use Rattle.std.proofs.lemmas.Cmp.{tied_itself}
use Rattle.std.specs.Cmp.{IsTotalOrder}
use Rattle.std.specs.List.{AllByRecursion, list_any, cons_option}
use Rattle.std.specs.List.Sorted.{IsStrictlySortedBy}
use Rattle.std.specs.Map.{keys_of, lookup}
use Rattle.std.specs.Ordering.{ordering_reverse}
use Rattle.std.specs.BTreeMap.{is_at}
use Rattle.spec_api.specs.SelectorValues.{is_some_and}

module _ {K X Y : Type 0} {R : K → K → Ordering} (o : IsTotalOrder R) (p : X → Bool) (g : K → X → Y) (alike : (a b : K) (x : X) → R a b ≡ Equal → g a x ≡ g b x) where
  -- a key below all of these
  abbrev IsBelow : K → List K → Type 0
  IsBelow q ks = AllByRecursion (λ (k : K). R q k ≡ Less) ks

  -- what is found under keys, one after another
  abbrev pub picked : List (K × X) → List K → List Y
  picked es ks = filter_map (λ (k : K). option_map (g k) (lookup (is_at (R k)) es)) ks

  below_same : (q a : K) (ks : List K) → R q a ≡ Equal → IsBelow a ks → IsBelow q ks
  below_same q a [] is below = tt
  below_same q a (k ∷ ks) is below = (o.congr q a k is ∙ below.0, below_same q a ks is below.1)

  below_less : (q a : K) (ks : List K) → R q a ≡ Less → IsBelow a ks → IsBelow q ks
  below_less q a [] is below = tt
  below_less q a (k ∷ ks) is below = (o.trans q a k is below.0, below_less q a ks is below.1)

  none_in : (q : K) (ks : List K) → IsBelow q ks → list_any (is_at (R q)) ks ≡ false
  none_in q [] below = refl
  none_in q (k ∷ ks) below = ap (λ r. is_eq r || list_any (is_at (R q)) ks) below.0 ∙ none_in q ks below.1

  none_at : (q : K) (es : List (K × X)) → IsBelow q (keys_of es) → lookup (is_at (R q)) es ≡ None
  none_at q [] below = refl
  none_at q (e ∷ es) below = ap (λ r. cond (is_eq r) (Some e.1) (lookup (is_at (R q)) es)) below.0 ∙ none_at q es below.1

  turned : (a b : K) (r : Ordering) → R a b ≡ r → R b a ≡ ordering_reverse r
  turned a b r is = o.antisymm b a ∙ ap ordering_reverse is

  passed_by : (e : K × X) (es : List (K × X)) (ks : List K) → IsBelow e.0 ks → picked (e ∷ es) ks ≡ picked es ks
  passed_by e es [] below = refl
  passed_by e es (k ∷ ks) below =
      ap (λ r. cons_option (option_map (g k) (cond (is_eq r) (Some e.1) (lookup (is_at (R k)) es))) (picked (e ∷ es) ks)) (turned e.0 k Less below.0)
      ∙ ap (λ ys. cons_option (option_map (g k) (lookup (is_at (R k)) es)) ys) (passed_by e es ks below.1)

  -- a look-up of all but the first
  without_first : (b x : Bool) (v : X) (w : Option X) → x ≡ is_some_and p (cond b (Some v) w) → (b ≡ true → (x ≡ false) × (w ≡ None)) → x ≡ is_some_and p w
  without_first true x v w h none = (none refl).0 ∙ ap (is_some_and p) (sym (none refl).1)
  without_first false x v w h none = h

  without_both : (b c x : Bool) (v : X) (w : Option X) → c ≡ b → (c || x) ≡ is_some_and p (cond b (Some v) w) → (b ≡ true → (x ≡ false) × (w ≡ None)) → x ≡ is_some_and p w
  without_both true c x v w same h none = (none refl).0 ∙ ap (is_some_and p) (sym (none refl).1)
  without_both false c x v w same h none = ap (λ c. c || x) (sym same) ∙ h

  equal_from : (r : Ordering) → is_eq r ≡ true → r ≡ Equal
  equal_from Less is = cc
  equal_from Equal is = refl
  equal_from Greater is = cc

  -- those of the entries that pass the test, seen through g
  abbrev pub passing : List (K × X) → List Y
  passing es = map (λ (e : K × X). g e.0 e.1) (filter (λ (e : K × X). p e.1) es)

  -- the test tells which keys are looked up
  abbrev pub Tells : List (K × X) → List K → Type 0
  Tells es ks = (q : K) → list_any (is_at (R q)) ks ≡ is_some_and p (lookup (is_at (R q)) es)

  first_passes : (e : K × X) (es : List (K × X)) (ks : List K) → Tells (e ∷ es) ks → list_any (is_at (R e.0)) ks ≡ p e.1
  first_passes e es ks tells = tells e.0 ∙ ap (λ r. is_some_and p (cond (is_eq r) (Some e.1) (lookup (is_at (R e.0)) es))) (tied_itself o e.0)

  fails : (e : K × X) (es : List (K × X)) → p e.1 ≡ false → passing (e ∷ es) ≡ passing es
  fails e es is = ap (λ b. map (λ (e : K × X). g e.0 e.1) (cond b (e ∷ filter (λ (e : K × X). p e.1) es) (filter (λ (e : K × X). p e.1) es))) is

  stands : (e : K × X) (es : List (K × X)) → p e.1 ≡ true → passing (e ∷ es) ≡ g e.0 e.1 ∷ passing es
  stands e es is = ap (λ b. map (λ (e : K × X). g e.0 e.1) (cond b (e ∷ filter (λ (e : K × X). p e.1) es) (filter (λ (e : K × X). p e.1) es))) is

  -- all that is looked up is past the first entry
  tells_rest : (e : K × X) (es : List (K × X)) (ks : List K) → IsBelow e.0 (keys_of es) → IsBelow e.0 ks → Tells (e ∷ es) ks → Tells es ks
  tells_rest e es ks above past tells q =
      without_first (is_eq (R q e.0)) (list_any (is_at (R q)) ks) e.1 (lookup (is_at (R q)) es) (tells q)
      (λ is. let at = equal_from (R q e.0) is in (none_in q ks (below_same q e.0 ks at past), none_at q es (below_same q e.0 (keys_of es) at above)))

  -- the first key is that of the first entry
  tells_both : (e : K × X) (es : List (K × X)) (k : K) (ks : List K) → R k e.0 ≡ Equal → IsBelow e.0 (keys_of es) → IsBelow k ks → Tells (e ∷ es) (k ∷ ks) → Tells es ks
  tells_both e es k ks one above past tells q =
      without_both (is_eq (R q e.0)) (is_eq (R q k)) (list_any (is_at (R q)) ks) e.1 (lookup (is_at (R q)) es)
      (ap is_eq (o.antisymm q k ∙ ap ordering_reverse (o.congr k e.0 q one) ∙ sym (o.antisymm q e.0))) (tells q)
      (λ is. let at = equal_from (R q e.0) is in
      (none_in q ks (below_same q e.0 ks at (below_same e.0 k ks (turned k e.0 Equal one) past)), none_at q es (below_same q e.0 (keys_of es) at above)))

  pub walked : (es : List (K × X)) (ks : List K) → IsStrictlySortedBy R (keys_of es) → IsStrictlySortedBy R ks → Tells es ks → picked es ks ≡ passing es
  unfolding IsStrictlySortedBy
  walked [] [] in_order up tells = refl
  walked [] (k ∷ ks) in_order up tells = let never : (is_eq (R k k) || list_any (is_at (R k)) ks) ≡ false = tells k in let at = tied_itself o k in cc
  walked (e ∷ es) [] in_order up tells = walked es [] in_order.1 up (tells_rest e es [] in_order.0 tt tells) ∙ sym (fails e es (sym (first_passes e es [] tells)))
  walked (e ∷ es) (k ∷ ks) in_order up tells = by (λ t. walked es ks in_order.1 up.1 t) (λ t. walked es (k ∷ ks) in_order.1 up t) (R k e.0) refl
    where
      by : (Tells es ks → picked es ks ≡ passing es) → (Tells es (k ∷ ks) → picked es (k ∷ ks) ≡ passing es) → (r : Ordering) → R k e.0 ≡ r → picked (e ∷ es) (k ∷ ks) ≡ passing (e ∷ es)
      by both rest Less is =
          let nothing : lookup (is_at (R k)) (e ∷ es) ≡ None = ap (λ r. cond (is_eq r) (Some e.1) (lookup (is_at (R k)) es)) is ∙ none_at k es (below_less k e.0 (keys_of es) is in_order.0) in
          let never : (is_eq (R k k) || list_any (is_at (R k)) ks) ≡ false = tells k ∙ ap (is_some_and p) nothing in
          let at = tied_itself o k in cc
      by both rest Equal is =
          let past = below_same e.0 k ks (turned k e.0 Equal is) up.0 in
          let holds : p e.1 ≡ true = ap (λ r. is_some_and p (cond (is_eq r) (Some e.1) (lookup (is_at (R k)) es))) (sym is) ∙ sym (tells k) ∙ ap (λ r. is_eq r || list_any (is_at (R k)) ks) (tied_itself o k) in
          ap (λ r. cons_option (option_map (g k) (cond (is_eq r) (Some e.1) (lookup (is_at (R k)) es))) (picked (e ∷ es) ks)) is
          ∙ ap (λ y. y ∷ picked (e ∷ es) ks) (alike k e.0 e.1 is)
          ∙ ap (λ ys. g e.0 e.1 ∷ ys) (passed_by e es ks past ∙ both (tells_both e es k ks is in_order.0 up.0 tells))
          ∙ sym (stands e es holds)
      by both rest Greater is =
          let past : IsBelow e.0 (k ∷ ks) = (turned k e.0 Greater is, below_less e.0 k ks (turned k e.0 Greater is) up.0) in
          passed_by e es (k ∷ ks) past ∙ rest (tells_rest e es (k ∷ ks) in_order.0 past tells)
          ∙ sym (fails e es (sym (first_passes e es (k ∷ ks) tells) ∙ none_in e.0 (k ∷ ks) past))
