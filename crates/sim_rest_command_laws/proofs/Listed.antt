-- What a turn looked at was there, and its references are true.
use Rattle.std.proofs.Common.{◌≡◌, ◌≤◌, ◌==◌, ℕ, List, [], ◌∷◌, ◌++◌, filter, Bool, true, false, cond, is_eq, Some, Greater, refl, sym, ap, ◌∙◌, subst, arith}
use Rattle.std.proofs.lemmas.Cmp.{tied_itself}
use Rattle.std.specs.List.{AllByRecursion}
use Rattle.std.specs.Ordering.{ordering_reverse}
use Rattle.serde_json.specs.Data.{Data}
use Rattle.spec_api.proofs.PutLaws.{same_name, IsAscending, IsAbove, IsAscending-after_all, found-after_all, name_cmp_total}
use Rattle.spec_api.specs.declared.kinds.Kind.{Kind}
use Rattle.spec_api.specs.History.{History, Entries, present, state, list, found, up_to, entries_at, in_view}
use Rattle.spec_api.specs.Keys.{Key, key_cmp, is_same_key}
use Rattle.spec_api.specs.Kinds.{rank}
use Rattle.spec_api.specs.Metadata.{Owner, owners}
use Rattle.spec_client_go.specs.Hands.{Read, live}
use Rattle.spec_client_go.specs.Informers.{Looks}
use Rattle.spec_client_go.specs.OwnerReferences.{owner_key, namespace_of}
use Rattle.spec_laws.specs.SentLaws.{whole}
use Rattle.spec_reconcile.specs.Standings.{is_to}
use Rattle.spec_sim.specs.Turns.{Sight, looked, satisfied, shown}
use Rattle.sim_worker_laws.specs.IssuedLaws.{IsSeen}
use Rattle.sim_rest_laws.specs.StillLaws.{of_kind, IsLookOf}
use Rattle.sim_rest_laws.specs.WholeLaws.{ReferencesAreTrue, AreServerLists}

-- ---- each entry is found

found_later : (e : Key × Data) (es rest : Entries) → IsAbove key_cmp e.0 es → AllByRecursion (λ m. found m.0 rest ≡ Some m.1) es → AllByRecursion (λ m. found m.0 (e ∷ rest) ≡ Some m.1) es
found_later e [] rest a h = tt
found_later e (m ∷ es) rest a h =
    let other : key_cmp m.0 e.0 ≡ Greater = name_cmp_total.antisymm m.0 e.0 ∙ ap ordering_reverse a.0 in
    (ap (λ r. cond (is_eq r) (Some e.1) (found m.0 rest)) other ∙ h.0, found_later e es rest a.1 h.1)

pub all_found : (es : Entries) → IsAscending key_cmp es → AllByRecursion (λ m. found m.0 es ≡ Some m.1) es
all_found [] a = tt
all_found (e ∷ es) a = (ap (λ r. cond (is_eq r) (Some e.1) (found e.0 es)) (tied_itself name_cmp_total e.0), found_later e es es a.0 (all_found es a.1))

pub passing : (P : Key × Data → Type 0) (p : Key × Data → Bool) (es : Entries) → AllByRecursion P es → AllByRecursion P (filter p es)
passing P p [] a = tt
passing P p (e ∷ es) a = by (p e) (passing P p es a.1)
  where
    by : (b : Bool) → AllByRecursion P (filter p es) → AllByRecursion P (cond b (e ∷ filter p es) (filter p es))
    by true rest = (a.0, rest)
    by false rest = rest

-- and where they pass
pub passed : (P : Key × Data → Type 0) (p : Key × Data → Bool) (es : Entries) → AllByRecursion P es → AllByRecursion (λ e. P e × (p e ≡ true)) (filter p es)
passed P p [] a = tt
passed P p (e ∷ es) a = by (p e) refl (passed P p es a.1)
  where
    by : (b : Bool) → p e ≡ b → AllByRecursion (λ e. P e × (p e ≡ true)) (filter p es) → AllByRecursion (λ e. P e × (p e ≡ true)) (cond b (e ∷ filter p es) (filter p es))
    by true is rest = ((a.0, is), rest)
    by false is rest = rest

pub joined : {A : Type 0} (P : A → Type 0) (xs ys : List A) → AllByRecursion P xs → AllByRecursion P ys → AllByRecursion P (xs ++ ys)
joined P [] ys a b = b
joined P (x ∷ xs) ys a b = (a.0, joined P xs ys a.1 b)

module _ (h : History) (k : Kind) (r : ℕ) where
  stood : (es : Entries) → AllByRecursion (λ m. found m.0 (entries_at h r) ≡ Some m.1) es → AllByRecursion (λ m. state h r m.0 ≡ Some m.1) es
  stood [] a = tt
  stood (e ∷ es) a = (sym (found-after_all e.0 [] (up_to r h) tt) ∙ a.0, stood es a.1)

  list_stood : AllByRecursion (λ m. state h r m.0 ≡ Some m.1) (list h (whole k) r)
  list_stood =
      passing (λ m. state h r m.0 ≡ Some m.1) (λ m. in_view (whole k) m.0 m.1) (entries_at h r) (stood (entries_at h r) (all_found (entries_at h r) (IsAscending-after_all [] (up_to r h) tt)))

-- ---- what was looked at

-- it was there once, and its references to an object that is there name its key
module _ (h : History) (Shown : Looks → Type 0) (d : Data) (x : Key) (references : ReferencesAreTrue h) (servers : AreServerLists h Shown) (there : state h (present h) x ≡ Some d) where
  abbrev pub Listed : Key × Data → Type 0
  Listed e = ((s : ℕ) × (state h s e.0 ≡ Some e.1)) × AllByRecursion (λ (o : Owner). is_to d o ≡ true → owner_key (namespace_of e.1) o ≡ Some x) (owners e.1)

  both : (r : ℕ) (es : Entries) → AllByRecursion (λ (m : Key × Data). state h r m.0 ≡ Some m.1) es
      → AllByRecursion (λ (m : Key × Data). AllByRecursion (λ (o : Owner). is_to d o ≡ true → owner_key (namespace_of m.1) o ≡ Some x) (owners m.1)) es → AllByRecursion Listed es
  both r [] a b = tt
  both r (e ∷ es) a b = (((r, a.0), b.0), both r es a.1 b.1)

  list_listed : (k : Kind) (r : ℕ) → r ≤ present h → AllByRecursion Listed (list h (whole k) r)
  list_listed k r le = both r (list h (whole k) r) (list_stood h k r) (references (present h) r x d k (omega arith) le there)

  look_listed : (k : Kind) (es : Entries) → ((l : Looks) × Shown l × (es ≡ of_kind k l)) → AllByRecursion Listed es
  look_listed k es z = let s = servers z.0 z.1 k in subst (AllByRecursion Listed) (sym (z.2 ∙ s.2)) (list_listed k s.0 s.1)

  pub shown_listed : (k : Kind) (ss : List Sight) → AllByRecursion (IsSeen (IsLookOf Shown)) ss → AllByRecursion Listed (shown k ss)
  shown_listed k [] a = tt
  shown_listed k (satisfied b ∷ ss) a = shown_listed k ss a.1
  shown_listed k (looked i s ∷ ss) a = by (rank k == rank i) (look_listed i s.members a.0) (shown_listed k ss a.1)
    where
      by : (b : Bool) → AllByRecursion Listed s.members → AllByRecursion Listed (shown k ss) → AllByRecursion Listed (cond b s.members (shown k ss))
      by true here later = here
      by false here later = later

-- ---- what was read live

pub record Found (P : Read → Type 0) (k : Key) (d : Data) : Type 0 where
  pub read : Read
  pub is : P read
  pub key : read.key ≡ k
  pub found : read.found ≡ Some d

pub live_found : (P : Read → Type 0) (rs : List Read) (k : Key) (d : Data) → AllByRecursion P rs → live rs k ≡ Some d → Found P k d
live_found P [] k d a e = cc
live_found P (r ∷ rs) k d a e = by (is_same_key k r.key) refl (live_found P rs k d a.1) e
  where
    by : (b : Bool) → is_same_key k r.key ≡ b → (live rs k ≡ Some d → Found P k d) → cond b r.found (live rs k) ≡ Some d → Found P k d
    by true same later e = record { read = r; is = a.0; key = sym (same_name k r.key same); found = e }
    by false same later e = later e
