-- Keys that are added one after another are those unread, each once.
use Rattle.std.proofs.Common.{◌≡◌, List, [], ◌∷◌, ◌++◌, Bool, true, false, cond, not, ◌&&◌, ◌||◌, refl, sym, ap, subst, ◌∙◌, append-nil, append_assoc}
use Rattle.std.proofs.lemmas.List.Folds.{list_any-append}
use Rattle.std.specs.List.{filter, list_any}
use Rattle.spec_api.specs.Keys.{Key, is_same_key}
use Rattle.spec_api.proofs.PutLaws.{same_name}
use Rattle.spec_client_go.specs.Hands.{Read, is_read, each_once, unread}
use Rattle.collector.specs.Asked.{added, all_added}

-- a key that is not among these
abbrev is_new : List Key → Key → Bool
is_new ks j = not (list_any (λ k. is_same_key k j) ks)

-- ---- filters

filter-cong : (p q : Key → Bool) → ((k : Key) → p k ≡ q k) → (ks : List Key) → filter p ks ≡ filter q ks
filter-cong p q same [] = refl
filter-cong p q same (k ∷ ks) = ap (λ b. cond b (k ∷ filter p ks) (filter p ks)) (same k) ∙ ap (λ r. cond (q k) (k ∷ r) r) (filter-cong p q same ks)

one_twice : (a b : Bool) (p : Key → Bool) (k : Key) (ks : List Key) → p k ≡ b → filter p (cond a (k ∷ ks) ks) ≡ cond (a && b) (k ∷ filter p ks) (filter p ks)
one_twice true b p k ks is = ap (λ c. cond c (k ∷ filter p ks) (filter p ks)) is
one_twice false b p k ks is = refl

filter-twice : (p q : Key → Bool) (ks : List Key) → filter p (filter q ks) ≡ filter (λ k. q k && p k) ks
filter-twice p q [] = refl
filter-twice p q (k ∷ ks) = one_twice (q k) (p k) p k (filter q ks) refl ∙ ap (λ r. cond (q k && p k) (k ∷ r) r) (filter-twice p q ks)

filter-all : (ks : List Key) → filter (is_new []) ks ≡ ks
filter-all [] = refl
filter-all (k ∷ ks) = ap (λ r. k ∷ r) (filter-all ks)

-- ---- one more key

-- what is among these is no new key, however it is called
among : (done : List Key) (k j : Key) (b : Bool) → list_any (λ i. is_same_key i k) done ≡ true → is_same_key k j ≡ b → (not b && is_new done j) ≡ is_new done j
among done k j false has is = refl
among done k j true has is = sym (ap not (subst (λ n. list_any (λ i. is_same_key i n) done ≡ true) (same_name k j is) has))

not_or : (a b : Bool) → (not b && not a) ≡ not (a || b)
not_or true true = refl
not_or true false = refl
not_or false true = refl
not_or false false = refl

or_false : (a : Bool) → (a || false) ≡ a
or_false true = refl
or_false false = refl

-- one more that is new
next : (done : List Key) (k j : Key) → (not (is_same_key k j) && is_new done j) ≡ is_new (done ++ k ∷ []) j
next done k j =
    not_or (list_any (λ i. is_same_key i j) done) (is_same_key k j)
    ∙ ap not (ap (λ b. list_any (λ i. is_same_key i j) done || b) (sym (or_false (is_same_key k j))) ∙ sym (list_any-append (λ i. is_same_key i j) done (k ∷ [])))

module _ (reads : List Read) where
  -- the rest, once it is asked for
  abbrev rest : List Key → List Key
  rest ks = each_once (filter (λ k. not (is_read reads k)) ks)

  step : (r : Bool) (h : Bool) (done : List Key) (k : Key) (ks : List Key) → is_read reads k ≡ r → list_any (λ j. is_same_key j k) done ≡ h
      → ((ds : List Key) → all_added reads ds ks ≡ ds ++ filter (is_new ds) (rest ks))
      → all_added reads (cond (r || h) done (done ++ k ∷ [])) ks ≡ done ++ filter (is_new done) (each_once (cond (not r) (k ∷ filter (λ j. not (is_read reads j)) ks) (filter (λ j. not (is_read reads j)) ks)))
  step true h done k ks is has more = more done
  step false true done k ks is has more =
      more done
      ∙ ap (λ r. done ++ r)
      (sym (ap (λ b. cond b (k ∷ filter (is_new done) (filter (λ j. not (is_same_key k j)) (rest ks))) (filter (is_new done) (filter (λ j. not (is_same_key k j)) (rest ks)))) (ap not has)
      ∙ filter-twice (is_new done) (λ j. not (is_same_key k j)) (rest ks)
      ∙ filter-cong (λ j. not (is_same_key k j) && is_new done j) (is_new done) (λ j. among done k j (is_same_key k j) has refl) (rest ks)))
  step false false done k ks is has more =
      more (done ++ k ∷ [])
      ∙ append_assoc done (k ∷ []) (filter (is_new (done ++ k ∷ [])) (rest ks))
      ∙ ap (λ r. done ++ r)
      (sym (ap (λ b. cond b (k ∷ filter (is_new done) (filter (λ j. not (is_same_key k j)) (rest ks))) (filter (is_new done) (filter (λ j. not (is_same_key k j)) (rest ks)))) (ap not has)
      ∙ ap (λ r. k ∷ r) (filter-twice (is_new done) (λ j. not (is_same_key k j)) (rest ks)
      ∙ filter-cong (λ j. not (is_same_key k j) && is_new done j) (is_new (done ++ k ∷ [])) (next done k) (rest ks))))

  added-rest : (ks done : List Key) → all_added reads done ks ≡ done ++ filter (is_new done) (rest ks)
  added-rest [] done = sym (append-nil done)
  added-rest (k ∷ ks) done = step (is_read reads k) (list_any (λ j. is_same_key j k) done) done k ks refl refl (added-rest ks)

  added_are_unread : (ks : List Key) → all_added reads [] ks ≡ unread reads ks
  added_are_unread ks = added-rest ks [] ∙ filter-all (unread reads ks)

  pub asked_are_unread : (k : Key) (ks : List Key) → all_added reads (added reads [] k) ks ≡ unread reads (k ∷ ks)
  asked_are_unread k ks = added_are_unread (k ∷ ks)
