-- What a ring has after one more change.
use Rattle.std.proofs.Common.{zero, suc, ◌≡◌, ◌≤◌, ◌<◌, ℕ, ◌-◌, List, [], ◌∷◌, ◌++◌, map, take, drop, length, None, Bool, true, false, cond, refl, sym, ap, ◌∙◌, subst, arith, length-append}
use Rattle.std.specs.Prelude.{nat_lt, slice_get, option_map}
use Rattle.std.specs.Option.{option_to_list}
use Rattle.std.proofs.lemmas.List.{map-append, drop-map, length-map}
use Rattle.std.proofs.lemmas.Bool.{ltb-true, ltb-false}
use Rattle.circular_buffer.specs.Buffer.{keep_last}
use Rattle.spec_api.specs.Windows.{Change as Kept, IsRising, last_n, all_but, last_revision}
use Rattle.watch_cache.specs.Changes.{change_seen}
use Rattle.watch_cache.specs.declared.changes.Change.{Change}

pushed : (cs : List Change) (c : Change) → map change_seen (cs ++ c ∷ []) ≡ map change_seen cs ++ change_seen c ∷ []
pushed cs c = map-append change_seen cs (c ∷ [])

pub kept_last : (n : ℕ) (cs : List Change) (c : Change) → map change_seen (keep_last n (cs ++ c ∷ [])) ≡ last_n n (map change_seen cs ++ change_seen c ∷ [])
kept_last n cs c =
    let long = length-map (cs ++ c ∷ []) change_seen in
    sym (drop-map change_seen (length (cs ++ c ∷ []) - n) (cs ++ c ∷ []))
    ∙ ap (λ i. drop i (map change_seen (cs ++ c ∷ []))) (omega (arith, long))
    ∙ ap (last_n n) (pushed cs c)

-- ---- revisions go on rising

rising_lower : (lo hi : ℕ) (ks : List Kept) → lo ≤ hi → IsRising hi ks → IsRising lo ks
rising_lower lo hi [] l s = tt
rising_lower lo hi (k ∷ ks) l s = let first = s.0 in (omega (arith, first, l), s.1)

rising_drop : (n lo : ℕ) (ks : List Kept) → IsRising lo ks → IsRising lo (drop n ks)
rising_drop zero lo ks s = s
rising_drop (suc n) lo [] s = tt
rising_drop (suc n) lo (k ∷ ks) s = let first = s.0 in rising_lower lo k.revision (drop n ks) (omega (arith, first)) (rising_drop n k.revision ks s.1)

rising_push : (lo : ℕ) (ks : List Kept) (k : Kept) → IsRising lo ks → last_revision lo ks < k.revision → IsRising lo (ks ++ k ∷ [])
rising_push lo [] k s l = (l, tt)
rising_push lo (x ∷ ks) k s l = (s.0, rising_push x.revision ks k s.1 l)

pub rising_kept : (n : ℕ) (cs : List Change) (c : Change) → IsRising 0 (map change_seen cs) → last_revision 0 (map change_seen cs) < c.revision → IsRising 0 (map change_seen (keep_last n (cs ++ c ∷ [])))
rising_kept n cs c s l =
    subst (IsRising 0) (sym (kept_last n cs c))
    (rising_drop (length (map change_seen cs ++ change_seen c ∷ []) - n) 0 (map change_seen cs ++ change_seen c ∷ []) (rising_push 0 (map change_seen cs) (change_seen c) s l))

-- ---- what is dropped

first_of : (cs : List Change) (c : Change) → option_to_list (option_map change_seen (slice_get (cs ++ c ∷ []) 0)) ≡ take 1 (map change_seen cs ++ change_seen c ∷ [])
first_of [] c = refl
first_of (x ∷ cs) c = refl

dropped_at : (b : Bool) (n : ℕ) (cs : List Change) (c : Change) → nat_lt (length cs) n ≡ b → length cs ≤ n
    → option_to_list (option_map change_seen (cond b None (slice_get (cs ++ c ∷ []) 0))) ≡ all_but n (map change_seen cs ++ change_seen c ∷ [])
dropped_at true n cs c h l =
    let long = length-append (map change_seen cs) (change_seen c ∷ []) in
    let same = length-map cs change_seen in
    let room = ltb-true (length cs) n h in
    let over : length (map change_seen cs ++ change_seen c ∷ []) - n ≡ 0 = omega (arith, long, same, room) in
    sym (ap (λ i. take i (map change_seen cs ++ change_seen c ∷ [])) over)
dropped_at false n cs c h l =
    let long = length-append (map change_seen cs) (change_seen c ∷ []) in
    let same = length-map cs change_seen in
    let full = ltb-false (length cs) n h in
    let over : 1 ≡ length (map change_seen cs ++ change_seen c ∷ []) - n = omega (arith, long, same, full, l) in
    first_of cs c ∙ ap (λ i. take i (map change_seen cs ++ change_seen c ∷ [])) over

pub dropped : (n : ℕ) (cs : List Change) (c : Change) → length cs ≤ n
    → option_to_list (option_map change_seen (cond (nat_lt (length cs) n) None (slice_get (cs ++ c ∷ []) 0))) ≡ all_but n (map change_seen cs ++ change_seen c ∷ [])
dropped n cs c l = dropped_at (nat_lt (length cs) n) n cs c refl l

-- ---- the last that is recorded

last_pushed : (r : ℕ) (ks : List Kept) (k : Kept) → last_revision r (ks ++ k ∷ []) ≡ k.revision
last_pushed r [] k = refl
last_pushed r (x ∷ ks) k = last_pushed x.revision ks k

last_none : (i r : ℕ) → last_revision r (drop i []) ≡ r
last_none zero r = refl
last_none (suc i) r = refl

last_drop : (i r : ℕ) (ks : List Kept) (k : Kept) → r ≤ k.revision → last_revision r (drop i (ks ++ k ∷ [])) ≤ k.revision
last_drop zero r ks k l = let is = last_pushed r ks k in omega (arith, is)
last_drop (suc i) r [] k l = let is = last_none i r in omega (arith, is, l)
last_drop (suc i) r (x ∷ ks) k l = last_drop i r ks k l

pub last_kept : (n : ℕ) (ks : List Kept) (k : Kept) → last_revision 0 (last_n n (ks ++ k ∷ [])) ≤ k.revision
last_kept n ks k = last_drop (length (ks ++ k ∷ []) - n) 0 ks k (omega arith)
