-- A list that is taken in again shows no more creations than there were since.
use Rattle.std.proofs.Common.{◌≡◌, ◌≤◌, ◌+◌, ◌&&◌, ℕ, List, [], ◌∷◌, ◌++◌, filter, not, Bool, true, false, cond, is_some, Option, Some, None, Greater, is_eq, refl, sym, ap, ◌∙◌, subst, arith}
use Rattle.std.specs.Cmp.{tied_itself}
use Rattle.std.specs.List.{AllByRecursion}
use Rattle.spec_api.specs.SelectorValues.{is_some_and}
use Rattle.std.proofs.lemmas.Slice.Eq.{bytes_eq-Decides}
use Rattle.std.specs.Ordering.{ordering_reverse}
use Rattle.serde_json.specs.Data.{Data}
use Rattle.spec_api.specs.declared.kinds.Kind.{Kind}
use Rattle.spec_api.specs.declared.kinds.Kind.TheVariants.{ConfigMap, Pod, ReplicaSet, Deployment}
use Rattle.spec_api.specs.History.{History, Entries, present, state, up_to, entries_at, found, list, unfiltered, in_view, seen}
use Rattle.spec_api.specs.Keys.{Key, key_cmp}
use Rattle.spec_api.specs.Metadata.{uid, is_being_deleted}
use Rattle.spec_api.proofs.PutLaws.{name_cmp_total, IsAscending, IsAbove, IsAscending-after_all, found-after_all, found-viewed}
use Rattle.spec_client_go.specs.Expectations.{Owner}
use Rattle.spec_client_go.specs.OwedKeys.{one_of}
use Rattle.spec_client_go.specs.OwnerReferences.{is_text}
use Rattle.spec_client_go.specs.Shifts.{shifts_between}
use Rattle.spec_sim.specs.Followers.{notified}
use Rattle.spec_sim.specs.PodObservations.{observations_by, observations_of_pod, creation, deletion, is_same_pod, was_being_deleted}
use Rattle.sim_overshoot_laws.specs.Reserves.{shown, to_be_seen, born}
use Rattle.sim_overshoot_laws.specs.StockLaws.{stock, shown_at, new_at, RelistsShowBirths}
use Rattle.sim_overshoot_laws.proofs.ListedAgain.{ascending, lists_show, no_creation, shown-append}
use Rattle.sim_overshoot_laws.proofs.Stocks.{stocks_grow}

-- ---- each entry is found

found_later : (e : Key × Data) (es rest : Entries) → IsAbove key_cmp e.0 es → AllByRecursion (λ m. found m.0 rest ≡ Some m.1) es → AllByRecursion (λ m. found m.0 (e ∷ rest) ≡ Some m.1) es
found_later e [] rest a h = tt
found_later e (m ∷ es) rest a h =
    let other : key_cmp m.0 e.0 ≡ Greater = name_cmp_total.antisymm m.0 e.0 ∙ ap ordering_reverse a.0 in
    (ap (λ r. cond (is_eq r) (Some e.1) (found m.0 rest)) other ∙ h.0, found_later e es rest a.1 h.1)

pub all_found : (es : Entries) → IsAscending key_cmp es → AllByRecursion (λ m. found m.0 es ≡ Some m.1) es
all_found [] a = tt
all_found (e ∷ es) a = (ap (λ r. cond (is_eq r) (Some e.1) (found e.0 es)) (tied_itself name_cmp_total e.0), found_later e es es a.0 (all_found es a.1))

-- ---- stocks

module _ (f g : Key → Data → ℕ) where
  alike : (es : Entries) → AllByRecursion (λ m. f m.0 m.1 ≡ g m.0 m.1) es → stock f es ≡ stock g es
  alike [] h = refl
  alike (e ∷ es) h = both _ _ _ _ h.0 (alike es h.1)
    where
      both : (a b c d : ℕ) → a ≡ b → c ≡ d → a + c ≡ b + d
      both a b c d x y = omega arith

pub kept : (g : Key → Data → ℕ) (p : Key × Data → Bool) (es : Entries) → stock g (filter p es) ≤ stock g es
kept g p [] = omega arith
kept g p (e ∷ es) = by (p e) (filter p es) (kept g p es)
  where
    by : (b : Bool) (fs : Entries) → stock g fs ≤ stock g es → stock g (cond b (e ∷ fs) fs) ≤ g e.0 e.1 + stock g es
    by true fs h = more (g e.0 e.1) (stock g fs) (stock g es) h
      where
        more : (a b c : ℕ) → b ≤ c → a + b ≤ a + c
        more a b c h = omega arith
    by false fs h = more (g e.0 e.1) (stock g fs) (stock g es) h
      where
        more : (a b c : ℕ) → b ≤ c → b ≤ a + c
        more a b c h = omega arith

all_map : (P Q : Key × Data → Type 0) → ((e : Key × Data) → P e → Q e) → (es : Entries) → AllByRecursion P es → AllByRecursion Q es
all_map P Q f [] h = tt
all_map P Q f (e ∷ es) h = (f e h.0, all_map P Q f es h.1)

zero_stock : (g : Key → Data → ℕ) (es : Entries) → AllByRecursion (λ e. g e.0 e.1 ≡ 0) es → stock g es ≡ 0
zero_stock g [] h = refl
zero_stock g (e ∷ es) h = both _ _ h.0 (zero_stock g es h.1)
  where
    both : (a b : ℕ) → a ≡ 0 → b ≡ 0 → a + b ≡ 0
    both a b x y = omega arith

-- ---- what was there is not new

module _ (o : Owner) where
  one_uid : (x : Option (List ℕ)) → is_some x ≡ true → is_some_and (λ u. is_text u x) x ≡ true
  one_uid None e = cc
  one_uid (Some u) e = (bytes_eq-Decides u u).1 refl

  deleted_if : (b : Bool) (d : Data) → shown o (cond b (deletion d) []) ≡ 0
  deleted_if true d = no_creation o d (one_of (uid d))
  deleted_if false d = refl

  plain : (n a : ℕ) → n ≡ a + 0 → a ≡ 0 → n ≡ 0
  plain n a e f = omega arith

  stays : (a b : Bool) (d : Data) → a ≡ true → shown o (((cond a [] (deletion d)) ++ []) ++ ((cond a [] (creation d) ++ cond b (deletion d) []) ++ [])) ≡ 0
  stays true b d e = plain _ _ (shown-append o (cond b (deletion d) []) []) (deleted_if b d)
  stays false b d e = cc

  was_there : (d : Data) → is_some (uid d) ≡ true → shown o (observations_of_pod (Some d) (Some d)) ≡ 0
  was_there d e = stays (is_same_pod d (Some d)) (is_being_deleted d && not (was_being_deleted d (Some d))) d (one_uid (uid d) e)

in_pods : (k : Key) (d : Data) → k.kind ≡ Pod → in_view (unfiltered Pod None) k d ≡ true
in_pods k d e = subst (λ j. in_view (unfiltered Pod None) (record k { kind = j }) d ≡ true) (sym e) refl

module _ (o : Owner) (h : History) (r : ℕ) (uids : (k : Key) (d : Data) → state h r k ≡ Some d → is_some (uid d) ≡ true) where
  abbrev old : Entries
  old = list h (unfiltered Pod None) r

  up : IsAscending key_cmp (entries_at h r)
  up = IsAscending-after_all [] (up_to r h) tt

  none_new : (e : Key × Data) (j : Kind) → e.0.kind ≡ j → found e.0 (entries_at h r) ≡ Some e.1 → shown o (observations_by j (record { key = e.0; old = found e.0 old; new = Some e.1 })) ≡ 0
  none_new e ConfigMap is f = refl
  none_new e ReplicaSet is f = refl
  none_new e Deployment is f = refl
  none_new e Pod is f =
      let there : found e.0 old ≡ Some e.1 =
      found-viewed (unfiltered Pod None) e.0 (entries_at h r) up ∙ ap (seen (unfiltered Pod None) e.0) f ∙ ap (λ b. cond b (Some e.1) None) (in_pods e.0 e.1 is) in
      let stored : state h r e.0 ≡ Some e.1 = sym (found-after_all e.0 [] (up_to r h) tt) ∙ f in
      ap (λ x. shown o (observations_of_pod x (Some e.1))) there ∙ was_there o e.1 (uids e.0 e.1 stored)

  pub none_then : stock (new_at o old) (entries_at h r) ≡ 0
  none_then =
      zero_stock (new_at o old) (entries_at h r)
      (all_map (λ e. found e.0 (entries_at h r) ≡ Some e.1) (λ e. new_at o old e.0 e.1 ≡ 0) (λ e f. none_new e e.0.kind refl f) (entries_at h r) (all_found (entries_at h r) up))

pub relists_show_births : RelistsShowBirths
relists_show_births o h r uids adds =
    let old = list h (unfiltered Pod None) r in
    let new = list h (unfiltered Pod None) (present h) in
    let same : stock (λ k d. shown_at o old new k) new ≡ stock (new_at o old) new =
    alike (λ k d. shown_at o old new k) (new_at o old) new
    (all_map (λ e. found e.0 new ≡ Some e.1) (λ e. shown_at o old new e.0 ≡ new_at o old e.0 e.1)
    (λ e f. ap (λ x. shown o (observations_by e.0.kind (record { key = e.0; old = found e.0 old; new = x }))) f) new (all_found new (ascending h (present h)))) in
    num (to_be_seen o (notified false (shifts_between old new))) _ _ _ _ (born o h r) (lists_show o h r (present h)) same (kept (new_at o old) (λ m. in_view (unfiltered Pod None) m.0 m.1) (entries_at h (present h)))
    (stocks_grow o (new_at o old) h r adds) (none_then o h r uids)
  where
    num : (t a b c z n : ℕ) → t ≤ a → a ≡ b → b ≤ c → c ≤ z + n → z ≡ 0 → t ≤ n
    num t a b c z n e f g i j = omega arith
