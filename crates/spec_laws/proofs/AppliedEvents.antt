-- Events, applied to what a view showed before.
use Rattle.std.proofs.Common.{◌≡◌, ◌≤◌, ◌<◌, ℕ, ◌+◌, ◌-◌, List, [], ◌∷◌, ◌++◌, length, drop, filter, Bool, true, false, cond, Option, Some, None, Ordering, Less, Equal, Greater, is_eq, refl, sym, ap, ◌∙◌, subst, arith, append_assoc, append-nil, length-append, length-drop, ◌⊎◌, inl, inr}
use Rattle.std.specs.Cmp.{IsTotalOrder}
use Rattle.std.specs.Ordering.{match_ordering}
use Rattle.std.specs.Map.{lookup, remove_entry}
use Rattle.std.specs.BTreeMap.{insert_entry, is_at}
use Rattle.serde_json.specs.Data.{Data}
use Rattle.std.proofs.lemmas.List.{take-take, take-append-drop, drop-append-le, drop_all, length-take}
use Rattle.std.proofs.lemmas.Bool.{cases_lt}
use Rattle.spec_api.specs.Keys.{Key, key_cmp}
use Rattle.spec_api.specs.History.{History, Write, View, Entries, up_to, writes, found, in_view, viewed, seen, last_of, after, after_all, put_or_remove, list}
use Rattle.spec_api.proofs.PutLaws.{name_cmp_total, same_name, IsAbove, IsAscending, IsAscending-after_all, IsAbove-filter, found-after_all}
use Rattle.spec_laws.specs.WatchLaws.{AreBetween}
use Rattle.spec_api.specs.Events.{Event, event_of, event_of_write, events_after, events, applied, apply}

equal_from : (r : Ordering) → is_eq r ≡ true → r ≡ Equal
equal_from Less h = cc
equal_from Equal h = refl
equal_from Greater h = cc

module _ {K X : Type 0} {R : K → K → Ordering} (o : IsTotalOrder R) (same : (x y : K) → R x y ≡ Equal → x ≡ y) (asks : K → X → Bool) where
  -- the entries that are asked for
  abbrev pub kept : List (K × X) → List (K × X)
  kept es = filter (λ e. asks e.0 e.1) es

  above_kept : (k : K) (es : List (K × X)) → IsAbove R k es → IsAbove R k (kept es)
  above_kept k es h = IsAbove-filter R (λ e. asks e.0 e.1) k es h

  -- what is above k has nothing under it
  pub insert_above : (k : K) (x : X) (es : List (K × X)) → IsAbove R k es → insert_entry R es k x ≡ (k, x) ∷ es
  insert_above k x [] h = refl
  insert_above k x (e ∷ es) h = rw h.0 refl

  pub remove_above : (k : K) (es : List (K × X)) → IsAbove R k es → remove_entry (is_at (R k)) es ≡ es
  remove_above k [] h = refl
  remove_above k (e ∷ es) h = rw (h.0, remove_above k es h.1) refl

  below : (j k : K) (es : List (K × X)) → R j k ≡ Less → IsAbove R k es → IsAbove R j es
  below j k [] h a = tt
  below j k (e ∷ es) h a = (o.trans j k e.0 h a.0, below j k es h a.1)

  insert_in_cond : (b : Bool) (k : K) (x : X) (e : K × X) (es fs : List (K × X)) → R k e.0 ≡ Greater → insert_entry R es k x ≡ fs → cond b (e ∷ fs) fs ≡ insert_entry R (cond b (e ∷ es) es) k x
  insert_in_cond true k x e es fs h i = rw (h, i) refl
  insert_in_cond false k x e es fs h i = sym i

  insert_equal : (b : Bool) (k : K) (x : X) (e : K × X) (es : List (K × X)) → R k e.0 ≡ Equal → IsAbove R e.0 es → (e.0, x) ∷ es ≡ insert_entry R (cond b (e ∷ es) es) k x
  insert_equal true k x e es h a = rw h refl
  insert_equal false k x e es h a = let is = same k e.0 h in rw is (sym (insert_above e.0 x es a))

  -- a put of what is asked for
  put_in_at : (k : K) (x : X) (e : K × X) (es : List (K × X)) (r : Ordering) → R k e.0 ≡ r → asks k x ≡ true → IsAscending R (e ∷ es) → kept (insert_entry R es k x) ≡ insert_entry R (kept es) k x
      → kept (match_ordering r ((k, x) ∷ e ∷ es) ((e.0, x) ∷ es) (e ∷ insert_entry R es k x)) ≡ insert_entry R (kept (e ∷ es)) k x
  put_in_at k x e es Less h y a later = rw y (sym (insert_above k x (kept (e ∷ es)) (above_kept k (e ∷ es) (h, below k e.0 es h a.0))))
  put_in_at k x e es Equal h y a later =
      let here : asks e.0 x ≡ true = subst (λ z. asks z x ≡ true) (same k e.0 h) y in
      rw here (insert_equal (asks e.0 e.1) k x e (kept es) h (above_kept e.0 es a.0))
  put_in_at k x e es Greater h y a later = insert_in_cond (asks e.0 e.1) k x e (kept es) (kept (insert_entry R es k x)) h (sym later)

  pub put_in : (k : K) (x : X) (es : List (K × X)) → asks k x ≡ true → IsAscending R es → kept (insert_entry R es k x) ≡ insert_entry R (kept es) k x
  put_in k x [] y a = rw y refl
  put_in k x (e ∷ es) y a = put_in_at k x e es (R k e.0) refl y a (put_in k x es y a.1)

  remove_in_cond : (b : Bool) (k : K) (e : K × X) (es fs : List (K × X)) → R k e.0 ≡ Greater → remove_entry (is_at (R k)) es ≡ fs → cond b (e ∷ fs) fs ≡ remove_entry (is_at (R k)) (cond b (e ∷ es) es)
  remove_in_cond true k e es fs h i = rw (h, i) refl
  remove_in_cond false k e es fs h i = sym i

  remove_equal : (b : Bool) (k : K) (e : K × X) (es : List (K × X)) → R k e.0 ≡ Equal → IsAbove R e.0 es → es ≡ remove_entry (is_at (R k)) (cond b (e ∷ es) es)
  remove_equal true k e es h a = rw h refl
  remove_equal false k e es h a = let is = same k e.0 h in rw is (sym (remove_above e.0 es a))

  -- a put of what isn't asked for
  put_out_at : (k : K) (x : X) (e : K × X) (es : List (K × X)) (r : Ordering) → R k e.0 ≡ r → asks k x ≡ false → IsAscending R (e ∷ es) → kept (insert_entry R es k x) ≡ remove_entry (is_at (R k)) (kept es)
      → kept (match_ordering r ((k, x) ∷ e ∷ es) ((e.0, x) ∷ es) (e ∷ insert_entry R es k x)) ≡ remove_entry (is_at (R k)) (kept (e ∷ es))
  put_out_at k x e es Less h y a later = rw y (sym (remove_above k (kept (e ∷ es)) (above_kept k (e ∷ es) (h, below k e.0 es h a.0))))
  put_out_at k x e es Equal h y a later =
      let here : asks e.0 x ≡ false = subst (λ z. asks z x ≡ false) (same k e.0 h) y in
      rw here (remove_equal (asks e.0 e.1) k e (kept es) h (above_kept e.0 es a.0))
  put_out_at k x e es Greater h y a later = remove_in_cond (asks e.0 e.1) k e (kept es) (kept (insert_entry R es k x)) h (sym later)

  pub put_out : (k : K) (x : X) (es : List (K × X)) → asks k x ≡ false → IsAscending R es → kept (insert_entry R es k x) ≡ remove_entry (is_at (R k)) (kept es)
  put_out k x [] y a = rw y refl
  put_out k x (e ∷ es) y a = put_out_at k x e es (R k e.0) refl y a (put_out k x es y a.1)

  -- a removal
  kept_in_cond : (b : Bool) (k : K) (e : K × X) (es fs : List (K × X)) → is_eq (R k e.0) ≡ false → fs ≡ remove_entry (is_at (R k)) es → cond b (e ∷ fs) fs ≡ remove_entry (is_at (R k)) (cond b (e ∷ es) es)
  kept_in_cond true k e es fs h i = rw (h, i) refl
  kept_in_cond false k e es fs h i = i

  removed_at : (k : K) (e : K × X) (es : List (K × X)) (c : Bool) → is_eq (R k e.0) ≡ c → IsAscending R (e ∷ es) → kept (remove_entry (is_at (R k)) es) ≡ remove_entry (is_at (R k)) (kept es)
      → kept (cond c es (e ∷ remove_entry (is_at (R k)) es)) ≡ remove_entry (is_at (R k)) (kept (e ∷ es))
  removed_at k e es true h a later = remove_equal (asks e.0 e.1) k e (kept es) (equal_from _ h) (above_kept e.0 es a.0)
  removed_at k e es false h a later = kept_in_cond (asks e.0 e.1) k e (kept es) (kept (remove_entry (is_at (R k)) es)) h later

  pub removed : (k : K) (es : List (K × X)) → IsAscending R es → kept (remove_entry (is_at (R k)) es) ≡ remove_entry (is_at (R k)) (kept es)
  removed k [] a = refl
  removed k (e ∷ es) a = removed_at k e es (is_eq (R k e.0)) refl a (removed k es a.1)

  -- what shows under k
  abbrev pub shows : K → Option X → Option X
  shows k None = None
  shows k (Some x) = cond (asks k x) (Some x) None

  not_asked : (k : K) (x : X) (b : Bool) → asks k x ≡ b → cond b (Some x) None ≡ None → asks k x ≡ false
  not_asked k x true e h = cc
  not_asked k x false e h = e

  unseen_at : (k : K) (e : K × X) (es : List (K × X)) (c : Bool) → is_eq (R k e.0) ≡ c → IsAscending R (e ∷ es) → shows k (cond c (Some e.1) (lookup (is_at (R k)) es)) ≡ None
      → (shows k (lookup (is_at (R k)) es) ≡ None → kept es ≡ remove_entry (is_at (R k)) (kept es)) → kept (e ∷ es) ≡ remove_entry (is_at (R k)) (kept (e ∷ es))
  unseen_at k e es true h a n later =
      let is = same k e.0 (equal_from _ h) in
      let out : asks e.0 e.1 ≡ false = subst (λ z. asks z e.1 ≡ false) is (not_asked k e.1 (asks k e.1) refl n) in
      rw (out, is) (sym (remove_above e.0 (kept es) (above_kept e.0 es a.0)))
  unseen_at k e es false h a n later = kept_in_cond (asks e.0 e.1) k e (kept es) (kept es) h (later n)

  -- where nothing shows, a removal changes nothing
  pub unseen : (k : K) (es : List (K × X)) → IsAscending R es → shows k (lookup (is_at (R k)) es) ≡ None → kept es ≡ remove_entry (is_at (R k)) (kept es)
  unseen k [] a n = refl
  unseen k (e ∷ es) a n = unseen_at k e es (is_eq (R k e.0)) refl a n (unseen k es a.1)

-- ---- the changes of a view

pub one_name : (a b : Key) → key_cmp a b ≡ Equal → a ≡ b
one_name a b h = same_name a b (ap is_eq h)

module _ (v : View) where
  nothing_shows : (k : Key) (o : Option Data) → seen v k o ≡ None → shows name_cmp_total one_name (in_view v) k o ≡ None
  nothing_shows k None h = refl
  nothing_shows k (Some d) h = h

  put_shown : (b : Bool) (k : Key) (d : Data) (was : Option Data) (r : ℕ) (ms : Entries) → in_view v k d ≡ b → IsAscending key_cmp ms → seen v k (found k ms) ≡ was
      → applied (viewed v ms) (event_of r k was (cond b (Some d) None)) ≡ viewed v (insert_entry key_cmp ms k d)
  put_shown true k d None r ms y a w = sym (put_in name_cmp_total one_name (in_view v) k d ms y a)
  put_shown true k d (Some c) r ms y a w = sym (put_in name_cmp_total one_name (in_view v) k d ms y a)
  put_shown false k d None r ms y a w = unseen name_cmp_total one_name (in_view v) k ms a (nothing_shows k (found k ms) w) ∙ sym (put_out name_cmp_total one_name (in_view v) k d ms y a)
  put_shown false k d (Some c) r ms y a w = sym (put_out name_cmp_total one_name (in_view v) k d ms y a)

  remove_shown : (k : Key) (was : Option Data) (r : ℕ) (ms : Entries) → IsAscending key_cmp ms → seen v k (found k ms) ≡ was
      → applied (viewed v ms) (event_of r k was None) ≡ viewed v (remove_entry (is_at (key_cmp k)) ms)
  remove_shown k None r ms a w = unseen name_cmp_total one_name (in_view v) k ms a (nothing_shows k (found k ms) w) ∙ sym (removed name_cmp_total one_name (in_view v) k ms a)
  remove_shown k (Some c) r ms a w = sym (removed name_cmp_total one_name (in_view v) k ms a)

  one_write : (k : Key) (put : Option Data) (r : ℕ) (ms : Entries) → IsAscending key_cmp ms
      → applied (viewed v ms) (event_of r k (seen v k (found k ms)) (seen v k put)) ≡ viewed v (put_or_remove ms k put)
  one_write k None r ms a = remove_shown k (seen v k (found k ms)) r ms a refl
  one_write k (Some d) r ms a = put_shown (in_view v k d) k d (seen v k (found k ms)) r ms refl a refl

  play-append : (ms : Entries) (cs ds : List Event) → applied ms (cs ++ ds) ≡ applied (applied ms cs) ds
  play-append ms [] ds = refl
  play-append ms (c ∷ cs) ds = play-append (apply ms c) cs ds

  pub after_all-push : (ms : Entries) (ws : List Write) (w : Write) → after_all ms (ws ++ w ∷ []) ≡ after (after_all ms ws) w
  after_all-push ms [] w = refl
  after_all-push ms (u ∷ ws) w = after_all-push (after ms u) ws w

  pub one_more : (ws : List Write) (w : Write) → applied (viewed v (after_all [] ws)) (event_of_write v ws w) ≡ viewed v (after_all [] (ws ++ w ∷ []))
  one_more ws w =
      ap (λ o. applied (viewed v (after_all [] ws)) (event_of (length ws + 2) w.key (seen v w.key o) (seen v w.key w.put))) (sym (found-after_all w.key [] ws tt))
      ∙ one_write w.key w.put (length ws + 2) (after_all [] ws) (IsAscending-after_all [] ws tt) ∙ ap (viewed v) (sym (after_all-push [] ws w))

  pub applied_changes : (before ws : List Write) → applied (viewed v (after_all [] before)) (events_after v before ws) ≡ viewed v (after_all [] (before ++ ws))
  applied_changes before [] = ap (λ us. viewed v (after_all [] us)) (sym (append-nil before))
  applied_changes before (w ∷ ws) =
      play-append (viewed v (after_all [] before)) (event_of_write v before w) (events_after v (before ++ w ∷ []) ws)
      ∙ ap (λ ms. applied ms (events_after v (before ++ w ∷ []) ws)) (one_more before w) ∙ applied_changes (before ++ w ∷ []) ws
      ∙ ap (λ us. viewed v (after_all [] us)) (append_assoc before (w ∷ []) ws)

  pub changes_after-append : (before us ws : List Write) → events_after v before (us ++ ws) ≡ events_after v before us ++ events_after v (before ++ us) ws
  changes_after-append before [] ws = ap (λ b. events_after v b ws) (sym (append-nil before))
  changes_after-append before (u ∷ us) ws =
      ap (λ cs. event_of_write v before u ++ cs) (changes_after-append (before ++ u ∷ []) us ws ∙ ap (λ b. events_after v (before ++ u ∷ []) us ++ events_after v b ws) (append_assoc before (u ∷ []) us))
      ∙ sym (append_assoc (event_of_write v before u) (events_after v (before ++ u ∷ []) us) (events_after v (before ++ u ∷ us) ws))

-- ---- parts of a history

pub up_to-split : (h : History) (a b : ℕ) → a ≤ b → up_to a h ++ drop (a - 1) (up_to b h) ≡ up_to b h
up_to-split h a b le = ap (λ ws. ws ++ drop (a - 1) (up_to b h)) (sym (take-take (a - 1) (b - 1) (writes h) (omega (arith, le)))) ∙ take-append-drop (a - 1) (up_to b h)

pub list_applied : (h : History) (v : View) (a b : ℕ) → a ≤ b → applied (list h v a) (events h v a b) ≡ list h v b
list_applied h v a b le = applied_changes v (up_to a h) (drop (a - 1) (up_to b h)) ∙ ap (λ ws. viewed v (after_all [] ws)) (up_to-split h a b le)

between_cases : (h : History) (a b c : ℕ) → a ≤ b → b ≤ c → (length (up_to b h) < (a - 1)) ⊎ ((a - 1) ≤ length (up_to b h))
    → drop (a - 1) (up_to c h) ≡ drop (a - 1) (up_to b h) ++ drop (b - 1) (up_to c h)
between_cases h a b c l k (inr m) = ap (drop (a - 1)) (sym (up_to-split h b c k)) ∙ drop-append-le (a - 1) (up_to b h) (drop (b - 1) (up_to c h)) m
between_cases h a b c l k (inl m) =
    let shorter = length-take (b - 1) (writes h) in
    let longer = length-take (c - 1) (writes h) in
    drop_all (a - 1) (up_to c h) (omega (arith, shorter, longer, l, m))
    ∙ sym (ap (λ ws. ws ++ drop (b - 1) (up_to c h)) (drop_all (a - 1) (up_to b h) (omega (arith, m))) ∙ drop_all (b - 1) (up_to c h) (omega (arith, shorter, longer, l, m)))

drop-between : (h : History) (a b c : ℕ) → a ≤ b → b ≤ c → drop (a - 1) (up_to c h) ≡ drop (a - 1) (up_to b h) ++ drop (b - 1) (up_to c h)
drop-between h a b c l k = between_cases h a b c l k (cases_lt (length (up_to b h)) (a - 1))

pub goes_on : (h : History) (v : View) (a b c : ℕ) → a ≤ b → b ≤ c → events h v a c ≡ events h v a b ++ events h v b c
goes_on h v a b c l k =
    ap (events_after v (up_to a h)) (drop-between h a b c l k) ∙ changes_after-append v (up_to a h) (drop (a - 1) (up_to b h)) (drop (b - 1) (up_to c h))
    ∙ ap (λ ws. events h v a b ++ events_after v ws (drop (b - 1) (up_to c h))) (up_to-split h a b l)

-- ---- revisions

one_between : (lo hi r : ℕ) (k : Key) (was now : Option Data) (cs : List Event) → lo < r → r ≤ hi → AreBetween r hi cs → AreBetween lo hi cs → AreBetween lo hi (event_of r k was now ++ cs)
one_between lo hi r k None None cs l h f g = g
one_between lo hi r k None (Some d) cs l h f g = (l, h, f)
one_between lo hi r k (Some c) (Some d) cs l h f g = (l, h, f)
one_between lo hi r k (Some c) None cs l h f g = (l, h, f)

after_between : (v : View) (ws before : List Write) (lo hi : ℕ) → lo ≤ length before + 1 → length before + 1 + length ws ≤ hi → AreBetween lo hi (events_after v before ws)
after_between v [] before lo hi l u = tt
after_between v (w ∷ ws) before lo hi l u =
    let more : length (before ++ w ∷ []) ≡ length before + 1 = length-append before (w ∷ []) in
    one_between lo hi (length before + 2) w.key (seen v w.key (last_of None w.key before)) (seen v w.key w.put) (events_after v (before ++ w ∷ []) ws) (omega (arith, l)) (omega (arith, u))
    (after_between v ws (before ++ w ∷ []) (length before + 2) hi (omega (arith, more)) (omega (arith, more, u)))
    (after_between v ws (before ++ w ∷ []) lo hi (omega (arith, more, l)) (omega (arith, more, u)))

between_at : (h : History) (v : View) (a b : ℕ) (ws : List Write) → drop (a - 1) (up_to b h) ≡ ws → AreBetween a b (events_after v (up_to a h) ws)
between_at h v a b [] is = tt
between_at h v a b (w ∷ ws) is =
    let first = length-take (a - 1) (writes h) in
    let all = length-take (b - 1) (writes h) in
    let left = ap length (sym is) ∙ length-drop (a - 1) (up_to b h) in
    after_between v (w ∷ ws) (up_to a h) a b (omega (arith, first, all, left)) (omega (arith, first, all, left))

pub lie_between : (h : History) (v : View) (a b : ℕ) → AreBetween a b (events h v a b)
lie_between h v a b = between_at h v a b (drop (a - 1) (up_to b h)) refl
