-- A set has one selector, as long as it is there.
use Rattle.std.proofs.Common.{◌≡◌, ◌≤◌, ◌+◌, ◌-◌, ◌⊎◌, inl, inr, ℕ, zero, suc, List, [], ◌∷◌, ◌++◌, length, take, Bool, true, false, cond, codes, IfSome, Option, Some, None, option_and_then, refl, sym, ap, ◌∙◌, subst, append_assoc, append-nil, arith}
use Rattle.std.specs.Result.{result_ok}
use Rattle.serde_json.specs.Data.{Data}
use Rattle.spec_api.proofs.PutLaws.{same_name}
use Rattle.spec_api.specs.declared.kinds.Kind.TheVariants.{ReplicaSet}
use Rattle.spec_api.specs.Checks.{in_spec, is_template_valid, text_or_empty, requirements, is_selected}
use Rattle.spec_api.specs.History.{History, Write, writes, present, state, last_of}
use Rattle.spec_api.specs.Keys.{Key, is_same_key}
use Rattle.spec_api.specs.Metadata.{uid}
use Rattle.spec_api.specs.Reached.{IsReached}
use Rattle.spec_api.specs.Selectors.{Requirement}
use Rattle.spec_api.specs.SelectorValues.{is_some_and, selector_of_value}
use Rattle.spec_laws.proofs.Traced.{once, stand}
use Rattle.spec_laws.proofs.Versions.{tells}
use Rattle.sim_overshoot_laws.specs.KeptPods.{Along}
use Rattle.sim_overshoot_laws.specs.SetLaws.{SelectorsStay}
use Rattle.sim_overshoot_laws.proofs.Births.{le_or}
use Rattle.reconcile_locality_laws.proofs.PlainTexts.{Plain, one_text, stored_plain}
use Rattle.sim_overshoot_laws.proofs.SameTexts.{plain_in_spec}
use Rattle.sim_overshoot_laws.proofs.StoredSets.{KeepsSelector, selector_text, selectors_kept, sets_match_their_templates}

-- ---- from one revision to the next

module _ (R : Key → Option Data → Option Data → Type 0) where
  -- what is under a key stays, or is what a write puts there
  abbrev pub Next : Key → Option Data → Option Data → Type 0
  Next k old new = (new ≡ old) ⊎ R k old new

  along_here : (before : List Write) (w : Write) (k : Key) → R w.key (last_of None w.key before) w.put → Next k (last_of None k before) (last_of None k (before ++ w ∷ []))
  along_here before w k r = subst (Next k (last_of None k before)) (sym (last_put before w k)) (by (is_same_key k w.key) refl)
    where
      last_put : (ws : List Write) (w : Write) (k : Key) → last_of None k (ws ++ w ∷ []) ≡ cond (is_same_key k w.key) w.put (last_of None k ws)
      last_put ws w k = from None ws
        where
          from : (x : Option Data) (ws : List Write) → last_of x k (ws ++ w ∷ []) ≡ cond (is_same_key k w.key) w.put (last_of x k ws)
          from x [] = refl
          from x (v ∷ ws) = from (cond (is_same_key k v.key) v.put x) ws

      by : (b : Bool) → is_same_key k w.key ≡ b → Next k (last_of None k before) (cond b w.put (last_of None k before))
      by true is = inr (subst (λ j. R j (last_of None j before) w.put) (sym (same_name k w.key is)) r)
      by false is = inl refl

  pub along_at : (before ws : List Write) → Along R before ws → (i : ℕ) (k : Key) → suc i ≤ length ws → Next k (last_of None k (before ++ take i ws)) (last_of None k (before ++ take (suc i) ws))
  along_at before [] a i k le = absurd (omega (arith, le))
  along_at before (w ∷ ws) a zero k le = subst (λ b. Next k (last_of None k b) (last_of None k (before ++ w ∷ []))) (sym (append-nil before)) (along_here before w k a.0)
  along_at before (w ∷ ws) a (suc i) k le =
      subst (λ b. Next k (last_of None k b) (last_of None k (before ++ (w ∷ take (suc i) ws)))) (append_assoc before (w ∷ []) (take i ws))
      (subst (λ b. Next k (last_of None k ((before ++ w ∷ []) ++ take i ws)) (last_of None k b)) (append_assoc before (w ∷ []) (take (suc i) ws)) (along_at (before ++ w ∷ []) ws a.1 i k (less i (length ws) le)))
    where
      less : (i n : ℕ) → suc (suc i) ≤ suc n → suc i ≤ n
      less i n le = omega (arith, le)

  -- so from the state at a revision to that at the next one
  pub next_state : (h : History) → Along R [] (writes h) → (r : ℕ) (k : Key) → 1 ≤ r → r + 1 ≤ present h → Next k (state h r k) (state h (r + 1) k)
  next_state h a r k one le =
      subst (λ n. Next k (state h r k) (last_of None k (take n (writes h)))) (same r one) (along_at [] (writes h) a (r - 1) k (within r (length (writes h)) one le))
    where
      same : (r : ℕ) → 1 ≤ r → suc (r - 1) ≡ r + 1 - 1
      same r one = omega (arith, one)

      within : (r n : ℕ) → 1 ≤ r → r + 1 ≤ n + 1 → suc (r - 1) ≤ n
      within r n one le = omega (arith, one, le)

-- ---- the text of the selector

module _ (h : History) (reached : IsReached h) (k : Key) (set : k.kind ≡ ReplicaSet) where
  step : (old new : Option Data) → Next KeepsSelector k old new → (d e : Data) → old ≡ Some d → new ≡ Some e → selector_text d ≡ selector_text e
  step old new (inl same) d e at later = let is : d ≡ e = some d e (sym at ∙ sym same ∙ later) in ap selector_text is
    where
      some : (d e : Data) → Some d ≡ Some e → d ≡ e
      some d e h = cc
  step old new (inr kept) d e at later = put (subst (λ x. IfSome x (λ new. IfSome old (λ was. selector_text was ≡ selector_text new))) later (kept set))
    where
      put : IfSome old (λ was. selector_text was ≡ selector_text e) → selector_text d ≡ selector_text e
      put x = subst (λ x. IfSome x (λ was. selector_text was ≡ selector_text e)) at x

  stays : (r n s : ℕ) (d e : Data) → 1 ≤ r → s ≡ r + n → s ≤ present h → state h r k ≡ Some d → state h s k ≡ Some e → uid d ≡ uid e → selector_text d ≡ selector_text e
  stays r zero s d e one is le at later same = ap selector_text (some (sym at ∙ ap (λ t. state h t k) (plain r s is) ∙ later))
    where
      plain : (r s : ℕ) → s ≡ r + 0 → r ≡ s
      plain r s is = omega (arith, is)

      some : Some d ≡ Some e → d ≡ e
      some h = cc
  stays r (suc n) s d e one is le at later same =
      let t = s - 1 in
      let was = stand h r t s k d e reached (low r n s is) (high s) le at later same in
      let up : t + 1 ≡ s = whole r n s is in
      stays r n t d was.0 one (less r n s is) (within s (present h) le) at was.1 (same ∙ sym was.2)
      ∙ step (state h t k) (state h (t + 1) k) (next_state KeepsSelector h (selectors_kept h reached) t k (first r n s one is) (subst (λ m. m ≤ present h) (sym up) le)) was.0 e was.1 (ap (λ m. state h m k) up ∙ later)
    where
      low : (r n s : ℕ) → s ≡ r + suc n → r ≤ s - 1
      low r n s is = omega (arith, is)

      high : (s : ℕ) → s - 1 ≤ s
      high s = omega arith

      whole : (r n s : ℕ) → s ≡ r + suc n → s - 1 + 1 ≡ s
      whole r n s is = omega (arith, is)

      less : (r n s : ℕ) → s ≡ r + suc n → s - 1 ≡ r + n
      less r n s is = omega (arith, is)

      within : (s m : ℕ) → s ≤ m → s - 1 ≤ m
      within s m le = omega (arith, le)

      first : (r n s : ℕ) → 1 ≤ r → s ≡ r + suc n → 1 ≤ s - 1
      first r n s one is = omega (arith, one, is)

-- from the earlier to the later
texts : (h : History) → IsReached h → (r s : ℕ) (k : Key) (d e : Data) → k.kind ≡ ReplicaSet → r ≤ s → s ≤ present h → state h r k ≡ Some d → state h s k ≡ Some e → uid d ≡ uid e → selector_text d ≡ selector_text e
texts h reached r s k d e set le high at later same =
    let v = tells h r k d reached at in
    stays h reached k set r (s - r) s d e (one v.0 r v.3.0 v.2) (whole r s le) high at later same
  where
    one : (v r : ℕ) → 2 ≤ v → v ≤ r → 1 ≤ r
    one v r e f = omega (arith, e, f)

    whole : (r s : ℕ) → r ≤ s → s ≡ r + (s - r)
    whole r s le = omega (arith, le)

-- ---- the selector

has_selector : (d : Data) → is_template_valid d ≡ true → (s : Data) × (in_spec (codes "selector") d ≡ Some s)
has_selector d valid = by (in_spec (codes "selector") d) refl
  where
    by : (x : Option Data) → in_spec (codes "selector") d ≡ x → (s : Data) × (in_spec (codes "selector") d ≡ Some s)
    by (Some s) e = (s, e)
    by None e =
        let none : requirements d ≡ None = ap (λ x. option_and_then (λ v. result_ok (selector_of_value v)) x) e in
        let no = sym (ap (λ (rs : Option (List Requirement)). is_some_and (λ (rs : List Requirement). is_some_and (is_selected rs) (in_spec (codes "template") d)) rs) none) ∙ valid in cc

same_selector : (d e : Data) → Plain d → Plain e → is_template_valid d ≡ true → is_template_valid e ≡ true → selector_text d ≡ selector_text e → in_spec (codes "selector") d ≡ in_spec (codes "selector") e
same_selector d e p q valid as_well is =
    let s = has_selector d valid in
    let t = has_selector e as_well in
    let texts = sym (ap text_or_empty s.1) ∙ is ∙ ap text_or_empty t.1 in
    s.1 ∙ ap Some (one_text s.0 t.0 (subst (λ x. IfSome x Plain) s.1 (plain_in_spec (codes "selector") d p)) (subst (λ x. IfSome x Plain) t.1 (plain_in_spec (codes "selector") e q)) texts) ∙ sym t.1

pub selectors_stay : SelectorsStay
selectors_stay h r s k l d e reached low high set at later same =
    same_selector d e (stored_plain h r k d reached at) (stored_plain h s k e reached here) (sets_match_their_templates h r k d reached set at) (sets_match_their_templates h s k e reached set here) (by (le_or r s))
  where
    key : k ≡ l
    key = once h r s k l d e reached low high at later same

    here : state h s k ≡ Some e
    here = ap (state h s) key ∙ later

    by : (r ≤ s) ⊎ (s + 1 ≤ r) → selector_text d ≡ selector_text e
    by (inl le) = texts h reached r s k d e set le high at here same
    by (inr le) = sym (texts h reached s r k e d set (omega (arith, le)) low here at (sym same))
