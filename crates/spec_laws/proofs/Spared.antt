-- Why the collector's deletes spare what has a live owner.
use Rattle.std.proofs.Common.{◌≡◌, ◌≤◌, ◌<◌, ◌-◌, ◌⊎◌, inl, inr, ℕ, List, [], ◌∷◌, Bool, true, false, true≢false, cond, not, ◌||◌, Option, Some, None, IfSome, is_some, option_map, filter_map, codes, decimal, unwrap_or, nat_le, arith, refl, sym, ap, subst, ◌∙◌}
use Rattle.std.specs.List.{cons_option}
use Rattle.std.specs.Prelude.{filter}
use Rattle.std.proofs.lemmas.Bool.{leb-true, leb-false}
use Rattle.std.proofs.lemmas.Slice.Eq.{bytes_eq-Decides}
use Rattle.serde_json.specs.Data.{Data}
use Rattle.spec_api.specs.Checks.{is_of_the_future}
use Rattle.spec_api.specs.DeleteOptions.{Options}
use Rattle.spec_api.specs.History.{History, Write, present, state, up_to}
use Rattle.spec_api.specs.Keys.{Key, is_same_key}
use Rattle.spec_api.specs.Metadata.{Owner, owners, uid, version, is_being_deleted, metadata_text}
use Rattle.spec_api.specs.ObjectRequests.{delete_object}
use Rattle.spec_api.specs.Reached.{IsReached}
use Rattle.spec_api.specs.SelectorValues.{is_some_and}
use Rattle.spec_api.specs.Uids.{uid_text, cluster_word}
use Rattle.spec_api.specs.Verbs.{accept, write_of}
use Rattle.spec_api.proofs.PutLaws.{same_name}
use Rattle.spec_laws.specs.IdentityLaws.{Each, IsKnown, Stood}
use Rattle.spec_laws.proofs.FutureUids.{future_uids}
use Rattle.spec_laws.proofs.KnownOwners.{known}
use Rattle.spec_laws.proofs.Limited.{limited}
use Rattle.spec_laws.proofs.NamedVersions.{deletes_version}
use Rattle.spec_laws.proofs.SentObjects.{IsHeld}
use Rattle.spec_laws.proofs.Stored.{AreStored-up_to, last_held, all_stored}
use Rattle.spec_laws.proofs.Traced.{traced}
use Rattle.spec_laws.proofs.Versions.{tells, names_one}
use Rattle.spec_client_go.specs.Commands.{Command, create, update, update_status, delete, Version, seen, answered, version_named}
use Rattle.spec_client_go.specs.Hands.{Hand, Read, live, is_read, each_once, unread}
use Rattle.spec_client_go.specs.OwnerReferences.{is_text, owner_key, owner_keys, namespace_of}
use Rattle.spec_reconcile.specs.GarbageCollection.{plan, owner_keys_if}
use Rattle.spec_reconcile.specs.Standings.{is_to}
use Rattle.spec_laws.specs.CollectorLaws.{IsGone, WasGone, IsOfGarbage, EachAlike, IsReadSince, OwnerIsGone, HasNoLiveOwner, Spares, IsLaterVersion, CollectorSparesLiveOwners}
use Rattle.spec_laws.proofs.Garbage.{garbage}
use Rattle.spec_laws.proofs.LikeOwners.{same_owners, same_key, same_gone, some_alike}

-- ---- where nothing is asked, all was read

first_read : (b : Bool) (k : Key) (ks : List Key) → each_once (cond (not b) (k ∷ ks) ks) ≡ [] → (b ≡ true) × (each_once ks ≡ [])
first_read true k ks none = (refl, none)
first_read false k ks none = cc

module _ (h : History) (r : ℕ) where
  -- what the live read of a key found was there since
  abbrev FoundSince : List Read → Key → Type 0
  FoundSince reads k = (s : ℕ) × (r ≤ s) × (s ≤ present h) × (live reads k ≡ state h s k)

  found_by : (b : Bool) (x : Read) (rs : List Read) (k : Key) → is_same_key k x.key ≡ b → IsReadSince h r x → (is_read rs k ≡ true → FoundSince rs k) → (b || is_read rs k) ≡ true
      → (s : ℕ) × (r ≤ s) × (s ≤ present h) × (cond b x.found (live rs k) ≡ state h s k)
  found_by true x rs k same here later is = (here.0, here.1, here.2, here.3 ∙ ap (state h here.0) (sym (same_name k x.key same)))
  found_by false x rs k same here later is = later is

  found_since : (rs : List Read) (k : Key) → Each (IsReadSince h r) rs → is_read rs k ≡ true → FoundSince rs k
  found_since [] k all is = cc
  found_since (x ∷ rs) k all is = found_by (is_same_key k x.key) x rs k refl all.0 (found_since rs k all.1) is

  -- each of these keys
  keys_found : (reads : List Read) → Each (IsReadSince h r) reads → (ks : List Key) → unread reads ks ≡ [] → Each (FoundSince reads) ks
  keys_found reads all [] none = tt
  keys_found reads all (k ∷ ks) none =
      let both = first_read (is_read reads k) k (filter (λ j. not (is_read reads j)) ks) none in
      (found_since reads k all both.0, keys_found reads all ks both.1)

  -- the first of some keys, if there is one, and the others
  cut : (P : Key → Type 0) (key : Option Key) (ks : List Key) → Each P (cons_option key ks) → IfSome key P × Each P ks
  cut P None ks all = (tt, all)
  cut P (Some k) ks all = all

-- ---- an owner that was gone is gone

one_text : (t : List ℕ) (o : Option (List ℕ)) → is_text t o ≡ true → o ≡ Some t
one_text t None is = cc
one_text t (Some s) is = ap (λ x. Some x) (sym ((bytes_eq-Decides t s).0 is))

stays : (a b : Option (List ℕ)) → IfSome a (λ t. b ≡ Some t) → is_some a ≡ true → is_some b ≡ true
stays None b keeps is = cc
stays (Some t) b keeps is = ap is_some keeps

module _ (h : History) (reached : IsReached h) (r : ℕ) where
  low : present h ≤ 9007199254740991
  low = (limited h reached).1

  not_later : (o : Owner) (c : ℕ) → IsKnown (r - 1) o → o.uid ≡ Some (uid_text cluster_word c) → c ≤ present h → r - 1 < c → ⊥
  not_later o c known is le lt =
      let t = uid_text cluster_word c in
      let few = low in
      let no_future : is_of_the_future (r - 1) t ≡ false = subst (λ x. IfSome x (λ s. is_of_the_future (r - 1) s ≡ false)) is known in
      true≢false (sym ((future_uids (r - 1) t).1 (c, lt, omega (arith, le, few), refl)) ∙ no_future)

  still_by : (o : Owner) (k : Key) (s : ℕ) (d : Data) → r ≤ s → s ≤ present h → IsKnown (r - 1) o → IsGone o (state h s k) → is_to d o ≡ true
      → (c : ℕ) → c ≤ present h → uid d ≡ Some (uid_text cluster_word c) → ((s : ℕ) → c ≤ s → s ≤ present h → Stood h s k d) → (b : Bool) → nat_le c (r - 1) ≡ b → is_being_deleted d ≡ true
  still_by o k s d from upto known gone one c le is since true p =
      let early : c ≤ r - 1 = leb-true c (r - 1) p in
      let stood = since s (omega (arith, early, from)) upto in
      let was_gone : is_to stood.0 o ≡ true → is_being_deleted stood.0 ≡ true = subst (IsGone o) stood.1 gone in
      stays (metadata_text (codes "deletionTimestamp") stood.0) (metadata_text (codes "deletionTimestamp") d) stood.3 (was_gone (ap (is_some_and (λ u. is_text u o.uid)) stood.2 ∙ one))
  still_by o k s d from upto known gone one c le is since false p =
      absurd (not_later o c known (one_text (uid_text cluster_word c) o.uid (ap (is_some_and (λ u. is_text u o.uid)) (sym is) ∙ one)) le (leb-false c (r - 1) p))

  still : (o : Owner) (k : Key) (s : ℕ) → r ≤ s → s ≤ present h → IsKnown (r - 1) o → IsGone o (state h s k) → (d : Data) → state h (present h) k ≡ Some d → is_to d o ≡ true → is_being_deleted d ≡ true
  still o k s from upto known gone d at one =
      let t = traced h (present h) k d reached (omega arith) at in
      still_by o k s d from upto known gone one t.0 t.1 t.2 t.4 (nat_le t.0 (r - 1)) refl

  gone_now : (o : Owner) (k : Key) (x : Option Data) → state h (present h) k ≡ x → ((d : Data) → state h (present h) k ≡ Some d → is_to d o ≡ true → is_being_deleted d ≡ true) → IsGone o x
  gone_now o k None is f = tt
  gone_now o k (Some d) is f = f d is

  owner_gone : (reads : List Read) (ns : List ℕ) (o : Owner) → IsKnown (r - 1) o → IfSome (owner_key ns o) (FoundSince h r reads) → WasGone reads ns o → OwnerIsGone h ns o
  owner_gone reads ns o known found g =
      let f = subst (λ x. IfSome x (FoundSince h r reads)) g.1 found in
      (g.0, g.1, gone_now o g.0 (state h (present h) g.0) refl (still o g.0 f.0 f.1 f.2 known (subst (IsGone o) f.3 g.2)))

  each_gone : (reads : List Read) (ns : List ℕ) (os : List Owner) → Each (IsKnown (r - 1)) os → Each (FoundSince h r reads) (filter_map (owner_key ns) os) → Each (WasGone reads ns) os
      → Each (OwnerIsGone h ns) os
  each_gone reads ns [] known found gone = tt
  each_gone reads ns (o ∷ os) known found gone =
      let both = cut h r (FoundSince h r reads) (owner_key ns o) (filter_map (owner_key ns) os) found in
      (owner_gone reads ns o known.0 both.0 gone.0, each_gone reads ns os known.1 both.1 gone.1)

each_like : (h : History) (ns : List ℕ) (os ps : List Owner) → EachAlike os ps → Each (OwnerIsGone h ns) ps → Each (OwnerIsGone h ns) os
each_like h ns [] [] e g = tt
each_like h ns [] (p ∷ ps) e g = absurd e
each_like h ns (o ∷ os) [] e g = absurd e
each_like h ns (o ∷ os) (p ∷ ps) e g = ((g.0.0, same_key ns o p e.0 ∙ g.0.1, same_gone o p (state h (present h) g.0.0) e.0 g.0.2), each_like h ns os ps e.1 g.1)

-- ---- the namespace that an object says

says_namespace : (h : History) (reached : IsReached h) (r : ℕ) (k : Key) (d : Data) → state h r k ≡ Some d → namespace_of d ≡ k.namespace
says_namespace h reached r k d at =
    ap (λ o. unwrap_or o []) (subst (λ o. IfSome o (IsHeld k)) at (last_held k 2 (up_to r h) None tt (AreStored-up_to h r (all_stored h reached)))).1.kept.namespace

-- ---- one delete

module _ (h : History) (reached : IsReached h) (r : ℕ) (le : r ≤ present h) (x : Hand) (item : Data) (before : Option (List ℕ)) (moment : List ℕ) (at : state h r x.key ≡ Some item)
    (gone : Each (OwnerIsGone h (namespace_of item)) (owners item)) (later : IsLaterVersion h r x.key item before) where
  -- a version that is named, and the state of the object that had it
  abbrev IsVersion : List ℕ → Type 0
  IsVersion w = (s : ℕ) × (d : Data) × (state h s x.key ≡ Some d) × (version d ≡ Some w) × EachAlike (owners d) (owners item)

  abbrev Named : Option (List ℕ) → Type 0
  Named v = (w : List ℕ) × (v ≡ Some w) × IsVersion w

  by_answer : (b : Option (List ℕ)) → IsLaterVersion h r x.key item b → is_some b ≡ true → Named b
  by_answer None l is = cc
  by_answer (Some w) l is = (w, refl, (l.0, l.1, l.4, l.5, l.6))

  version_of : (v : Option Version) → (v ≡ option_map seen (version item)) ⊎ (v ≡ Some answered) → is_some (version_named before v) ≡ true → Named (version_named before v)
  version_of v (inl is) some =
      let n = tells h r x.key item reached at in
      (decimal n.0, ap (version_named before) (is ∙ ap (option_map seen) n.1), (r, item, at, n.1, same_owners (owners item)))
  version_of v (inr is) some =
      let b = by_answer before later (ap is_some (sym (ap (version_named before) is)) ∙ some) in
      (b.0, ap (version_named before) is ∙ b.1, b.2)

  found_by_delete : (o : Option Write) (w : List ℕ) → IsVersion w → (owners item ≡ [] → ⊥) → IfSome o (λ wr. (existing : Data) × (wr.key ≡ x.key) × (state h (present h) x.key ≡ Some existing) × (version existing ≡ Some w))
      → IfSome o (λ wr. HasNoLiveOwner h x.key)
  found_by_delete None w v some is = tt
  found_by_delete (Some wr) w v some is =
      let same : v.1 ≡ is.0 = (names_one h v.0 (present h) x.key x.key v.1 is.0 reached v.2 is.2 (v.3 ∙ sym is.3)).1 in
      let ns : namespace_of v.1 ≡ namespace_of item = says_namespace h reached v.0 x.key v.1 v.2 ∙ sym (says_namespace h reached r x.key item at) in (
        v.1,
        is.2 ∙ ap (λ d. Some d) (sym same),
        some_alike (owners v.1) (owners item) v.4 some,
        subst (λ n. Each (OwnerIsGone h n) (owners v.1)) (sym ns) (each_like h (namespace_of item) (owners v.1) (owners item) v.4 gone),
      )

  one_spared : (c : Command) → IsOfGarbage x item c → Spares h moment before x.key c
  one_spared (create k ns d) g = tt
  one_spared (update k d) g = tt
  one_spared (update_status k d) g = tt
  one_spared (delete k u v p) g = λ some.
      let o : Options = record { uid = u; version = version_named before v; policy = p } in
      let n = version_of v g.2 some in
      subst (λ n. IfSome (write_of (accept (delete_object n o) h moment)) (λ w. HasNoLiveOwner h x.key)) (sym g.0)
      (found_by_delete (write_of (accept (delete_object x.key o) h moment)) n.0 n.2 g.3 (deletes_version x.key o n.0 h moment n.1))

-- ---- all of a plan, or none of it deletes

abbrev Gone : History → Data → Type 0
Gone h d = Each (OwnerIsGone h (namespace_of d)) (owners d)

pub spares : CollectorSparesLiveOwners
spares h r x item before moment reached le at is_live none all later = each (plan x) (garbage x item is_live)
  where
    rest : Each (FoundSince h r x.reads) (owner_keys item)
    rest = (keys_found h r x.reads all (x.key ∷ owner_keys item) (subst (λ o. unread x.reads (x.key ∷ owner_keys_if o) ≡ []) is_live none)).1

    gone_by : Each (WasGone x.reads (namespace_of item)) (owners item) → Gone h item
    gone_by g = each_gone h reached r x.reads (namespace_of item) (owners item) (known h r x.key item reached le at) rest g

    one : (c : Command) → IsOfGarbage x item c → Spares h moment before x.key c
    one (create k ns d) g = tt
    one (update k d) g = tt
    one (update_status k d) g = tt
    one (delete k u v p) g = one_spared h reached r le x item before moment at (gone_by g.4) later (delete k u v p) g

    each : (cs : List Command) → Each (IsOfGarbage x item) cs → Each (Spares h moment before x.key) cs
    each [] g = tt
    each (c ∷ cs) g = (one c g.0, each cs g.1)
