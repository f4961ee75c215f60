-- The recorded changes of a kind: those above a revision, their events, and what undoing them gives.
use Rattle.std.proofs.Common.{zero, suc, ◌≡◌, ◌≤◌, ◌<◌, ℕ, ◌+◌, ◌-◌, List, [], ◌∷◌, ◌++◌, length, take, drop, Bool, true, false, cond, Option, Some, None, refl, sym, ap, ap₂, ◌∙◌, arith, append_assoc, append-nil, length-append}
use Rattle.std.specs.Prelude.{nat_lt}
use Rattle.std.proofs.lemmas.List.{take-append-drop, length-take}
use Rattle.std.proofs.lemmas.List.Elements.{filter-append}
use Rattle.std.proofs.lemmas.Bool.{lt-ltb, le-ltb}
use Rattle.serde_json.specs.Data.{Data}
use Rattle.spec_api.specs.declared.kinds.Kind.{Kind}
use Rattle.spec_api.specs.Keys.{Key}
use Rattle.spec_api.specs.History.{Write, View, Entries, last_of, viewed, after_all, put_or_remove, seen}
use Rattle.spec_api.specs.Events.{Event, events_after, event_of_write, applied}
use Rattle.spec_api.specs.Windows.{Change, is_of, change_of, changes_after as kept_after, all_but, last_n, last_revision, IsRising}
use Rattle.spec_server.specs.Recorded.{above, events_recorded, undone}
use Rattle.spec_laws.proofs.AppliedEvents.{one_more}
use Rattle.spec_laws.proofs.Undone.{write_undone}

one_rising : (b : Bool) (x : Change) (lo : ℕ) (ks : List Change) → lo < x.revision → IsRising x.revision ks → IsRising lo ks → IsRising lo (cond b (x ∷ []) [] ++ ks)
one_rising true x lo ks l later low = (l, later)
one_rising false x lo ks l later low = low

pub rising_least : (r : ℕ) (ks : List Change) → IsRising r ks → r ≤ last_revision r ks
rising_least r [] s = omega arith
rising_least r (k ∷ ks) s = let more = rising_least k.revision ks s.1 in let first = s.0 in omega (arith, more, first)

pub rising_take : (n r : ℕ) (ks : List Change) → IsRising r ks → IsRising r (take n ks)
rising_take zero r ks s = tt
rising_take (suc n) r [] s = tt
rising_take (suc n) r (k ∷ ks) s = (s.0, rising_take n k.revision ks s.1)

-- ---- those above a revision

none_above : (r a : ℕ) (ks : List Change) → IsRising r ks → last_revision r ks ≤ a → above a ks ≡ []
none_above r a [] s l = refl
none_above r a (k ∷ ks) s l =
    let least = rising_least k.revision ks s.1 in
    rw (le-ltb a k.revision (omega (arith, least, l))) (none_above k.revision a ks s.1 l)

pub above_dropped : (n a : ℕ) (ks : List Change) → IsRising 1 ks → last_revision 1 (take n ks) ≤ a → above a (drop n ks) ≡ above a ks
above_dropped n a ks s l =
    sym (ap (above a) (sym (take-append-drop n ks)) ∙ filter-append (λ k. nat_lt a k.revision) (take n ks) (drop n ks)
    ∙ ap (λ z. z ++ above a (drop n ks)) (none_above 1 a (take n ks) (rising_take n 1 ks s) l))

one_above : (b : Bool) (x : Change) (a : ℕ) (ks : List Change) → a < x.revision → above a ks ≡ ks → above a (cond b (x ∷ []) [] ++ ks) ≡ cond b (x ∷ []) [] ++ ks
one_above true x a ks l later = rw (lt-ltb a x.revision l) (ap (λ z. x ∷ z) later)
one_above false x a ks l later = later

one_not_above : (b : Bool) (x : Change) (a : ℕ) (ks : List Change) → x.revision ≤ a → above a ks ≡ [] → above a (cond b (x ∷ []) [] ++ ks) ≡ []
one_not_above true x a ks l later = rw (le-ltb a x.revision l) later
one_not_above false x a ks l later = later

one_appended : (b : Bool) (x : Change) (ks ls ms : List Change) → ks ≡ ls ++ ms → cond b (x ∷ []) [] ++ ks ≡ (cond b (x ∷ []) [] ++ ls) ++ ms
one_appended true x ks ls ms is = ap (λ z. x ∷ z) is
one_appended false x ks ls ms is = is

pub pushed : (before : List Write) (w : Write) → length (before ++ w ∷ []) ≡ length before + 1
pushed before w = length-append before (w ∷ [])

module _ (kind : Kind) where
  pub rising : (ws before : List Write) (lo : ℕ) → lo ≤ length before + 1 → IsRising lo (kept_after kind before ws)
  rising [] before lo l = tt
  rising (w ∷ ws) before lo l =
      let more = pushed before w in
      one_rising (is_of kind w.key) (change_of before w) lo (kept_after kind (before ++ w ∷ []) ws) (omega (arith, l))
      (rising ws (before ++ w ∷ []) (length before + 2) (omega (arith, more))) (rising ws (before ++ w ∷ []) lo (omega (arith, more, l)))

  all_above : (ws before : List Write) (a : ℕ) → a ≤ length before + 1 → above a (kept_after kind before ws) ≡ kept_after kind before ws
  all_above [] before a l = refl
  all_above (w ∷ ws) before a l =
      let more = pushed before w in
      one_above (is_of kind w.key) (change_of before w) a (kept_after kind (before ++ w ∷ []) ws) (omega (arith, l)) (all_above ws (before ++ w ∷ []) a (omega (arith, more, l)))

  all_below : (ws before : List Write) (a : ℕ) → length before + 1 + length ws ≤ a → above a (kept_after kind before ws) ≡ []
  all_below [] before a l = refl
  all_below (w ∷ ws) before a l =
      let more = pushed before w in
      one_not_above (is_of kind w.key) (change_of before w) a (kept_after kind (before ++ w ∷ []) ws) (omega (arith, l)) (all_below ws (before ++ w ∷ []) a (omega (arith, more, l)))

  pub kept_after-append : (before us ws : List Write) → kept_after kind before (us ++ ws) ≡ kept_after kind before us ++ kept_after kind (before ++ us) ws
  kept_after-append before [] ws = ap (λ b. kept_after kind b ws) (sym (append-nil before))
  kept_after-append before (u ∷ us) ws =
      one_appended (is_of kind u.key) (change_of before u) (kept_after kind (before ++ u ∷ []) (us ++ ws)) (kept_after kind (before ++ u ∷ []) us) (kept_after kind (before ++ u ∷ us) ws)
      (kept_after-append (before ++ u ∷ []) us ws ∙ ap (λ b. kept_after kind (before ++ u ∷ []) us ++ kept_after kind b ws) (append_assoc before (u ∷ []) us))

  above_kept : (ws : List Write) (a : ℕ) → 1 ≤ a → a ≤ length ws + 1 → above a (kept_after kind [] ws) ≡ kept_after kind (take (a - 1) ws) (drop (a - 1) ws)
  above_kept ws a l m =
      let first = length-take (a - 1) ws in
      ap (λ us. above a (kept_after kind [] us)) (sym (take-append-drop (a - 1) ws))
      ∙ ap (above a) (kept_after-append [] (take (a - 1) ws) (drop (a - 1) ws))
      ∙ filter-append (λ k. nat_lt a k.revision) (kept_after kind [] (take (a - 1) ws)) (kept_after kind (take (a - 1) ws) (drop (a - 1) ws))
      ∙ ap₂ (λ x y. x ++ y) (all_below (take (a - 1) ws) [] a (omega (arith, first, l))) (all_above (drop (a - 1) ws) (take (a - 1) ws) a (omega (arith, first, l, m)))

  -- above a revision to which they reach back, the last n are all writes of the kind since
  pub last_n_above : (n : ℕ) (ws : List Write) (a : ℕ) → last_revision 1 (all_but n (kept_after kind [] ws)) ≤ a → a ≤ length ws + 1
      → above a (last_n n (kept_after kind [] ws)) ≡ kept_after kind (take (a - 1) ws) (drop (a - 1) ws)
  last_n_above n ws a l m =
      let up = rising ws [] 1 (omega arith) in
      let least = rising_least 1 (all_but n (kept_after kind [] ws)) (rising_take (length (kept_after kind [] ws) - n) 1 (kept_after kind [] ws) up) in
      above_dropped (length (kept_after kind [] ws) - n) a (kept_after kind [] ws) up l ∙ above_kept ws a (omega (arith, least, l)) m

-- ---- their changes

unlike : (v : View) (k : Key) (o : Option Data) → is_of v.kind k ≡ false → seen v k o ≡ None
unlike v k None h = refl
unlike v k (Some d) h = rw h refl

no_change : (v : View) (before : List Write) (w : Write) → is_of v.kind w.key ≡ false → event_of_write v before w ≡ []
no_change v before w is = rw (unlike v w.key (last_of None w.key before) is, unlike v w.key w.put is) refl

one_change : (b : Bool) (v : View) (before : List Write) (w : Write) (ks : List Change) (cs : List Event) → is_of v.kind w.key ≡ b → events_recorded v ks ≡ cs
    → events_recorded v (cond b (change_of before w ∷ []) [] ++ ks) ≡ event_of_write v before w ++ cs
one_change true v before w ks cs is later = ap (λ z. event_of_write v before w ++ z) later
one_change false v before w ks cs is later = later ∙ sym (ap (λ z. z ++ cs) (no_change v before w is))

pub changes_of_kept : (v : View) (ws before : List Write) → events_recorded v (kept_after v.kind before ws) ≡ events_after v before ws
changes_of_kept v [] before = refl
changes_of_kept v (w ∷ ws) before =
    one_change (is_of v.kind w.key) v before w (kept_after v.kind (before ++ w ∷ []) ws) (events_after v (before ++ w ∷ []) ws) refl (changes_of_kept v ws (before ++ w ∷ []))

-- ---- what undoing them gives

one_undone : (b : Bool) (v : View) (before : List Write) (w : Write) (ms : Entries) (ks : List Change) → is_of v.kind w.key ≡ b → undone v ms ks ≡ viewed v (after_all [] (before ++ w ∷ []))
    → undone v ms (cond b (change_of before w ∷ []) [] ++ ks) ≡ viewed v (after_all [] before)
one_undone true v before w ms ks is later = ap (λ z. put_or_remove z w.key (seen v w.key (last_of None w.key before))) later ∙ write_undone v before w
one_undone false v before w ms ks is later = later ∙ sym (one_more v before w) ∙ ap (λ cs. applied (viewed v (after_all [] before)) cs) (no_change v before w is)

pub all_undone : (v : View) (ws before : List Write) → undone v (viewed v (after_all [] (before ++ ws))) (kept_after v.kind before ws) ≡ viewed v (after_all [] before)
all_undone v [] before = ap (λ us. viewed v (after_all [] us)) (append-nil before)
all_undone v (w ∷ ws) before =
    one_undone (is_of v.kind w.key) v before w (viewed v (after_all [] (before ++ w ∷ ws))) (kept_after v.kind (before ++ w ∷ []) ws) refl
    (ap (λ us. undone v (viewed v (after_all [] us)) (kept_after v.kind (before ++ w ∷ []) ws)) (sym (append_assoc before (w ∷ []) ws)) ∙ all_undone v ws (before ++ w ∷ []))
