-- Each object that is there was created at the revision that its uid encodes, and has stood since.
use Rattle.std.proofs.Common.{◌≡◌, ◌≤◌, ◌<◌, ◌+◌, ◌-◌, ◌⊎◌, inl, inr, ℕ, zero, suc, List, [], ◌∷◌, ◌++◌, length, take, Bool, true, false, cond, codes, IfSome, Option, Some, None, slice_get, nat_le, refl, sym, ap, subst, ◌∙◌, arith, length-append}
use Rattle.std.proofs.lemmas.Bool.{leb-true, leb-false}
use Rattle.std.proofs.lemmas.List.{take-append-le}
use Rattle.serde_json.specs.Data.{Data}
use Rattle.spec_api.specs.History.{History, Write, write, writes, present, last_of, state, entries_at}
use Rattle.spec_laws.specs.HistoryLaws.{OfStored, KeepsText}
use Rattle.spec_api.specs.Metadata.{metadata_text, uid}
use Rattle.spec_api.specs.Keys.{Key, is_same_key}
use Rattle.spec_api.specs.Uids.{uid_text, uid_revision, cluster_word}
use Rattle.spec_api.specs.Verbs.{accept, new_name, with_write, write_of}
use Rattle.spec_api.specs.ObjectRequests.{Request}
use Rattle.spec_laws.proofs.Cases.{of_accept}
use Rattle.spec_laws.proofs.Compacted.{same_writes}
use Rattle.spec_laws.proofs.SetMetadata.{uid-created}
use Rattle.spec_laws.proofs.Past.{last_of-append, whole, writes-append}
use Rattle.spec_api.proofs.PutLaws.{same_name}
use Rattle.spec_laws.proofs.Removals.{stand as stands_on}
use Rattle.spec_api.proofs.Uids.{existing}
use Rattle.spec_laws.proofs.UidsOnce.{one_text}
use Rattle.spec_laws.proofs.VerbLaws.{kept_is, found-state, none_from, identity}
use Rattle.spec_api.specs.Reached.{IsReached}
use Rattle.spec_laws.specs.IdentityLaws.{UidsTellCreates, UidsAreGivenOnce, DeletionsStand}
use Rattle.spec_laws.proofs.Limited.{limited}
use Rattle.spec_laws.proofs.Reaching.{by_reached}
use Rattle.spec_laws.proofs.Versions.{Among, put_by, write_at, one_write}

-- ---- what is there, by the writes

-- what is under a name at a revision
abbrev pub there : List Write → ℕ → Key → Option Data
there ws r k = last_of None k (take (r - 1) ws)

abbrev pub now : List Write → ℕ
now ws = length ws + 1

pub there_before : (ws : List Write) (w : Write) (r : ℕ) (k : Key) → r ≤ now ws → there (ws ++ w ∷ []) r k ≡ there ws r k
there_before ws w r k le = ap (last_of None k) (take-append-le (r - 1) ws (w ∷ []) (omega (arith, le)))

pub there_after : (ws : List Write) (w : Write) (r : ℕ) (k : Key) → r ≡ now ws + 1 → there (ws ++ w ∷ []) r k ≡ cond (is_same_key k w.key) w.put (there ws (now ws) k)
there_after ws w r k is =
    let long : length (ws ++ w ∷ []) ≡ length ws + 1 = length-append ws (w ∷ []) in
    ap (last_of None k) (whole (r - 1) (ws ++ w ∷ []) (omega (arith, is, long))) ∙ last_of-append None k ws w
    ∙ ap (λ us. cond (is_same_key k w.key) w.put (last_of None k us)) (sym (whole (now ws - 1) ws (omega arith)))

-- ---- what a request writes

-- new under its name, with the uid of its create; or in the place of what is there, with its uid, and being deleted if that was
abbrev Keeps : Data → Data → Type 0
Keeps was d = KeepsText (codes "uid") was d × KeepsText (codes "deletionTimestamp") was d

abbrev pub Comes : List Write → Key → Data → Type 0
Comes ws k d = ((uid d ≡ Some (uid_text cluster_word (now ws + 1))) × (there ws (now ws) k ≡ None)) ⊎ ((was : Data) × (there ws (now ws) k ≡ Some was) × Keeps was d)

abbrev Origin : History → Key → Data → Type 0
Origin h k d = ((uid d ≡ Some (uid_text cluster_word (present h + 1))) × (state h (present h) k ≡ None)) ⊎ ((was : Data) × (state h (present h) k ≡ Some was))

origin : (q : Request) (h : History) (moment : List ℕ) → OfStored (accept q h moment) (Origin h)
origin q h moment =
    let r = present h + 1 in
    of_accept (λ o. OfStored o (Origin h)) (λ f. tt) (λ code body. tt) q h moment
    (λ kind ns d o read valid fits free room.
    inl (uid-created kind r ns (new_name kind ns o (entries_at h (present h)) (present h)).name moment o, sym (found-state h (new_name kind ns o (entries_at h (present h)) (present h))) ∙ none_from _ free))
    (λ k o was at valid fits low. inr (was, sym (found-state h k) ∙ at))
    (λ k o was at free low. tt)
    (λ k o was at fits low. inr (was, sym (found-state h k) ∙ at))
    (λ k o was at low. inr (was, sym (found-state h k) ∙ at))
    (λ k o was at none low. tt)

abbrev Both : Data → Data → Type 0
Both d existing = KeepsText (codes "uid") existing d × KeepsText (codes "creationTimestamp") existing d

keeps_of : (before : Option Data) (was d : Data) → before ≡ Some was → IfSome before (Both d) → IfSome before (λ existing. KeepsText (codes "deletionTimestamp") existing d) → Keeps was d
keeps_of before was d is a b =
    let one = subst (λ o. IfSome o (Both d)) is a in
    let two = subst (λ o. IfSome o (λ existing. KeepsText (codes "deletionTimestamp") existing d)) is b in
    (one.0, two)

comes_from : (h : History) (k : Key) (d : Data) → Origin h k d → IfSome (state h (present h) k) (Both d) → IfSome (state h (present h) k) (λ existing. KeepsText (codes "deletionTimestamp") existing d) → Comes (writes h) k d
comes_from h k d (inl new) a b = inl new
comes_from h k d (inr is) a b = inr (is.0, is.1, keeps_of (state h (present h) k) is.0 d is.1 a b)

comes_put : (h : History) (k : Key) (put : Option Data) → IfSome put (Origin h k) → IfSome put (λ d. IfSome (state h (present h) k) (Both d))
    → IfSome put (λ d. IfSome (state h (present h) k) (λ existing. KeepsText (codes "deletionTimestamp") existing d)) → IfSome put (Comes (writes h) k)
comes_put h k None o a b = tt
comes_put h k (Some d) o a b = comes_from h k d o a b

comes_write : (h : History) (o : Option Write) → IfSome o (λ w. IfSome w.put (Origin h w.key)) → IfSome o (λ w. IfSome w.put (λ d. IfSome (state h (present h) w.key) (Both d)))
    → IfSome o (λ w. IfSome w.put (λ d. IfSome (state h (present h) w.key) (λ existing. KeepsText (codes "deletionTimestamp") existing d))) → IfSome o (λ w. IfSome w.put (Comes (writes h) w.key))
comes_write h None o a b = tt
comes_write h (Some w) o a b = comes_put h w.key w.put o a b

comes : (q : Request) (h : History) (moment : List ℕ) → OfStored (accept q h moment) (Comes (writes h))
comes q h moment = comes_write h (write_of (accept q h moment)) (origin q h moment) (identity q h moment) (stands_on q h moment)

-- ---- the trace of an object

abbrev pub PutAt : List Write → ℕ → Key → Data → Type 0
PutAt ws r k d = (2 ≤ r) × (r ≤ now ws) × (slice_get ws (r - 2) ≡ Some (write_at k d))

abbrev pub CreatedAt : List Write → ℕ → Key → List ℕ → Type 0
CreatedAt ws c k t = (d : Data) × PutAt ws c k d × (uid d ≡ Some t) × (there ws (c - 1) k ≡ None)

abbrev pub StoodAt : List Write → ℕ → Key → Data → Type 0
StoodAt ws s k d = (was : Data) × (there ws s k ≡ Some was) × (uid was ≡ uid d) × KeepsText (codes "deletionTimestamp") was d

abbrev pub Trace : List Write → ℕ → Key → Data → Type 0
Trace ws r k d = (c : ℕ) × (c ≤ r) × (uid d ≡ Some (uid_text cluster_word c)) × CreatedAt ws c k (uid_text cluster_word c) × ((s : ℕ) → c ≤ s → s ≤ r → StoodAt ws s k d)

abbrev pub AllTraced : List Write → Type 0
AllTraced ws = (r : ℕ) (k : Key) (d : Data) → r ≤ now ws → there ws r k ≡ Some d → Trace ws r k d

get_before : (ws : List Write) (w v : Write) (i : ℕ) → slice_get ws i ≡ Some v → slice_get (ws ++ w ∷ []) i ≡ Some v
get_before [] w v i is = cc
get_before (u ∷ ws) w v zero is = is
get_before (u ∷ ws) w v (suc i) is = get_before ws w v i is

get_last : (ws : List Write) (w : Write) → slice_get (ws ++ w ∷ []) (length ws) ≡ Some w
get_last [] w = refl
get_last (u ∷ ws) w = get_last ws w

stays : (o : Option (List ℕ)) → IfSome o (λ t. o ≡ Some t)
stays None = tt
stays (Some t) = refl

kept_twice : (a b c : Option (List ℕ)) → IfSome a (λ t. b ≡ Some t) → IfSome b (λ t. c ≡ Some t) → IfSome a (λ t. c ≡ Some t)
kept_twice None b c h k = tt
kept_twice (Some t) b c h k = subst (λ o. IfSome o (λ u. c ≡ Some u)) h k

-- no later than n, or just after it
one_of : {r : ℕ} (b : Bool) (s n : ℕ) → nat_le s n ≡ b → s ≤ n + 1 → r ≡ n + 1 → (s ≤ n) ⊎ (s ≡ r)
one_of true s n t le is = inl (leb-true s n t)
one_of false s n t le is = let far : n < s = leb-false s n t in inr (omega (arith, far, le, is))

module _ (ws : List Write) (w : Write) where
  abbrev more : List Write
  more = ws ++ w ∷ []

  longer : now more ≡ now ws + 1
  longer = let long : length (ws ++ w ∷ []) ≡ length ws + 1 = length-append ws (w ∷ []) in omega (arith, long)

  put_later : (c : ℕ) (k : Key) (d : Data) → PutAt ws c k d → PutAt more c k d
  put_later c k d p = let le : c ≤ now ws = p.1 in let long = longer in (p.0, omega (arith, le, long), get_before ws w (write_at k d) (c - 2) p.2)

  created_later : (c : ℕ) (k : Key) (t : List ℕ) → CreatedAt ws c k t → CreatedAt more c k t
  created_later c k t p = let le : c ≤ now ws = p.1.1 in (p.0, put_later c k p.0 p.1, p.2, there_before ws w (c - 1) k (omega (arith, le)) ∙ p.3)

  stood_later : (s : ℕ) (k : Key) (d : Data) → s ≤ now ws → StoodAt ws s k d → StoodAt more s k d
  stood_later s k d le p = (p.0, there_before ws w s k le ∙ p.1, p.2, p.3)

  trace_before : (r : ℕ) (k : Key) (d : Data) → r ≤ now ws → Trace ws r k d → Trace more r k d
  trace_before r k d le t = (t.0, t.1, t.2, created_later t.0 k (uid_text cluster_word t.0) t.3, λ s a b. stood_later s k d (omega (arith, le, b)) (t.4 s a b))

  -- at the new revision
  module _ (r : ℕ) (is : r ≡ now ws + 1) (k : Key) (d : Data) (at : there more r k ≡ Some d) where
    itself : (s : ℕ) → s ≡ r → StoodAt more s k d
    itself s same = (d, ap (λ n. there more n k) same ∙ at, refl, stays (metadata_text (codes "deletionTimestamp") d))

    -- it was there before with that uid, and being deleted if that was
    from_before : (was : Data) → Trace ws (now ws) k was → uid d ≡ uid was → KeepsText (codes "deletionTimestamp") was d → Trace more r k d
    from_before was t same keeps =
        let low : t.0 ≤ now ws = t.1 in
        (t.0, omega (arith, low, is), same ∙ t.2, created_later t.0 k (uid_text cluster_word t.0) t.3, since)
      where
        earlier : (s : ℕ) → s ≤ now ws → StoodAt ws s k was → StoodAt more s k d
        earlier s le p = (
          p.0,
          there_before ws w s k le ∙ p.1,
          p.2 ∙ sym same,
          kept_twice (metadata_text (codes "deletionTimestamp") p.0) (metadata_text (codes "deletionTimestamp") was) (metadata_text (codes "deletionTimestamp") d) p.3 keeps,
        )

        by : (s : ℕ) → t.0 ≤ s → (s ≤ now ws) ⊎ (s ≡ r) → StoodAt more s k d
        by s a (inl le) = earlier s le (t.4 s a le)
        by s a (inr same) = itself s same

        since : (s : ℕ) → t.0 ≤ s → s ≤ r → StoodAt more s k d
        since s a b = by s a (one_of (nat_le s (now ws)) s (now ws) refl (omega (arith, b, is)) is)

    -- it is new
    from_none : w.key ≡ k → w.put ≡ Some d → uid d ≡ Some (uid_text cluster_word (now ws + 1)) → there ws (now ws) k ≡ None → Trace more r k d
    from_none named put new none =
        let says : uid d ≡ Some (uid_text cluster_word r) = new ∙ ap (λ n. Some (uid_text cluster_word n)) (sym is) in
        let long = longer in
        let last : r - 2 ≡ length ws = omega (arith, is) in
        let one : Some w ≡ Some (write_at k d) = λ i. Some (record { key = named i; put = put i }) in
        let wrote : slice_get more (r - 2) ≡ Some (write_at k d) = ap (slice_get more) last ∙ get_last ws w ∙ one in
        let free : there more (r - 1) k ≡ None = ap (λ n. there more n k) (omega (arith, is)) ∙ there_before ws w (now ws) k (omega arith) ∙ none in
        (r, omega arith, says, (d, (omega (arith, is), omega (arith, is, long), wrote), says, free), λ s a b. itself s (omega (arith, a, b)))

    -- by what was written
    by_write : (b : Bool) → is_same_key k w.key ≡ b → AllTraced ws → IfSome w.put (Comes ws w.key) → cond b w.put (there ws (now ws) k) ≡ Some d → Trace more r k d
    by_write false named all c is' = let t = all (now ws) k d (omega arith) is' in from_before d t refl (stays (metadata_text (codes "deletionTimestamp") d))
    by_write true named all c put = of (subst (λ o. IfSome o (Comes ws w.key)) put c)
      where
        key : k ≡ w.key
        key = same_name k w.key named

        of : Comes ws w.key d → Trace more r k d
        of (inl new) = from_none (sym key) put new.0 (ap (λ n. there ws (now ws) n) key ∙ new.1)
        of (inr old) =
            let t = all (now ws) k old.0 (omega arith) (ap (λ n. there ws (now ws) n) key ∙ old.1) in
            from_before old.0 t (kept_is (uid old.0) (uid d) (uid_text cluster_word t.0) t.2 old.2.0 ∙ sym t.2) old.2.1

  traced_write : AllTraced ws → IfSome w.put (Comes ws w.key) → AllTraced more
  traced_write all c r k d le at = by (one_of (nat_le r (now ws)) r (now ws) refl (let long = longer in omega (arith, le, long)) refl)
    where
      by : (r ≤ now ws) ⊎ (r ≡ now ws + 1) → Trace more r k d
      by (inl le) = trace_before r k d le (all r k d le (sym (there_before ws w r k le) ∙ at))
      by (inr is) = by_write r is k d at (is_same_key k w.key) refl all c (sym (there_after ws w r k is) ∙ at)

traced_outcome : (h : History) (o : Option Write) → IfSome o (λ w. IfSome w.put (Comes (writes h) w.key)) → AllTraced (writes h) → AllTraced (writes (with_write h o))
traced_outcome h None c all = all
traced_outcome h (Some w) c all = subst AllTraced (sym (writes-append h (write w ∷ []))) (traced_write (writes h) w all c)

no_trace : AllTraced []
no_trace r k d le at = absurd (none (put_by k (r - 1) [] d at))
  where
    none : Among (r - 1) [] k d → ⊥
    none m = gone m.2
      where
        gone : None ≡ Some (write_at k d) → ⊥
        gone is = cc

pub all_traced : (h : History) → IsReached h → AllTraced (writes h)
all_traced h reached =
    by_reached (λ h. AllTraced (writes h)) (λ q h moment a t all. traced_outcome h (write_of (accept q h moment)) (comes q h moment) all) (same_writes AllTraced) h reached no_trace

pub traced : UidsTellCreates
traced h r k d reached le at = all_traced h reached r k d le at

-- ---- one uid

same_create : (c b n : ℕ) (u v : Option (List ℕ)) → n ≤ 9007199254740991 → c ≤ n → b ≤ n → u ≡ v → u ≡ Some (uid_text cluster_word c) → v ≡ Some (uid_text cluster_word b) → c ≡ b
same_create c b n u v low lc lb same is as_well =
    let one : uid_text cluster_word c ≡ uid_text cluster_word b = one_text (uid_text cluster_word c) (uid_text cluster_word b) (sym is ∙ same ∙ as_well) in
    sym (existing cluster_word c (omega (arith, lc, low))) ∙ ap uid_revision one ∙ existing cluster_word b (omega (arith, lb, low))

pub once : UidsAreGivenOnce
once h r s k l d e reached lr ls at as_well same =
    let few : present h ≤ 9007199254740991 = (limited h reached).1 in
    let one = traced h r k d reached lr at in
    let two = traced h s l e reached ls as_well in
    let low : one.0 ≤ r = one.1 in
    let low' : two.0 ≤ s = two.1 in
    let c : one.0 ≡ two.0 = same_create one.0 two.0 (present h) (uid d) (uid e) few (omega (arith, low, lr)) (omega (arith, low', ls)) same one.2 two.2 in
    (one_write k l one.3.0 two.3.0 (sym one.3.1.2 ∙ ap (λ v. slice_get (writes h) (v - 2)) c ∙ two.3.1.2)).0

pub stand : DeletionsStand
stand h r s t k d e reached first second third at as_well same =
    let few : present h ≤ 9007199254740991 = (limited h reached).1 in
    let one = traced h r k d reached (omega (arith, first, second, third)) at in
    let two = traced h t k e reached third as_well in
    let low : one.0 ≤ r = one.1 in
    let low' : two.0 ≤ t = two.1 in
    let c : one.0 ≡ two.0 = same_create one.0 two.0 (present h) (uid d) (uid e) few (omega (arith, low, first, second, third)) (omega (arith, low', third)) same one.2 two.2 in
    two.4 s (omega (arith, c, low, first)) second
