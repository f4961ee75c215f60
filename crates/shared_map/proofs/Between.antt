-- What is put, removed and found among entries lies between those below its key and those above.
use Rattle.std.proofs.Common.{◌≡◌, ◌++◌, ◌+◌, ℕ, List, [], ◌∷◌, Bool, true, false, cond, suc, zero, arith, Some, None, is_eq, Ordering, Less, Equal, Greater, refl, sym, ap, ◌∙◌, take, drop, subst}
use Rattle.std.specs.Map.{lookup, remove_entry}
use Rattle.std.specs.Ordering.{match_ordering}
use Rattle.std.specs.BTreeMap.{is_at}
use Rattle.std.proofs.lemmas.List.{take-append-drop}
use Rattle.shared_map.specs.Entries.{put_entry}
use Rattle.shared_map.specs.Parts.{AllAre, BeginsAt}

pub plus_one : (n : ℕ) → n + 1 ≡ suc n
plus_one n = omega arith

drop_suc : {X : Type 0} (es : List X) (at : ℕ) → drop (suc at) es ≡ drop 1 (drop at es)
drop_suc [] zero = refl
drop_suc [] (suc n) = refl
drop_suc (e ∷ es) zero = refl
drop_suc (e ∷ es) (suc n) = drop_suc es n

pub drop_one : {X : Type 0} (es : List X) (at : ℕ) → drop (at + 1) es ≡ drop 1 (drop at es)
drop_one es at = ap (λ n. drop n es) (plus_one at) ∙ drop_suc es at

module _ {K X : Type 0} (R : K → K → Ordering) where
  -- ---- put

  put_first : (C B : List (K × X)) (e : K × X) → AllAre R Less e.0 B → put_entry R (C ++ B) e ≡ put_entry R C e ++ B
  put_first [] [] e b = refl
  put_first [] (x ∷ B) e b = ap (λ r. match_ordering r (e ∷ x ∷ B) (e ∷ B) (x ∷ put_entry R B e)) b.0
  put_first (c ∷ C) B e b = by (R e.0 c.0) (put_first C B e b)
    where
      by : (r : Ordering) → put_entry R (C ++ B) e ≡ put_entry R C e ++ B → match_ordering r (e ∷ c ∷ (C ++ B)) (e ∷ (C ++ B)) (c ∷ put_entry R (C ++ B) e) ≡ (match_ordering r (e ∷ c ∷ C) (e ∷ C) (c ∷ put_entry R C e)) ++ B
      by Less h = refl
      by Equal h = refl
      by Greater h = ap (λ es. c ∷ es) h

  put_after : (A D : List (K × X)) (e : K × X) → AllAre R Greater e.0 A → put_entry R (A ++ D) e ≡ A ++ put_entry R D e
  put_after [] D e a = refl
  put_after (x ∷ A) D e a = ap (λ r. match_ordering r (e ∷ x ∷ (A ++ D)) (e ∷ (A ++ D)) (x ∷ put_entry R (A ++ D) e)) a.0 ∙ ap (λ es. x ∷ es) (put_after A D e a.1)

  pub put_between : (A C B : List (K × X)) (e : K × X) → AllAre R Greater e.0 A → AllAre R Less e.0 B → put_entry R (A ++ (C ++ B)) e ≡ A ++ (put_entry R C e ++ B)
  put_between A C B e a b = put_after A (C ++ B) e a ∙ ap (λ es. A ++ es) (put_first C B e b)

  put_here : (B : List (K × X)) (e : K × X) (found : Bool) → BeginsAt R e.0 found B → put_entry R B e ≡ e ∷ drop (cond found 1 0) B
  put_here [] e true is = cc
  put_here [] e false is = refl
  put_here (x ∷ B) e true is = ap (λ r. match_ordering r (e ∷ x ∷ B) (e ∷ B) (x ∷ put_entry R B e)) is
  put_here (x ∷ B) e false is = ap (λ r. match_ordering r (e ∷ x ∷ B) (e ∷ B) (x ∷ put_entry R B e)) is

  drop_next : (es : List (K × X)) (at next : ℕ) (found : Bool) → next ≡ at + cond found 1 0 → drop (cond found 1 0) (drop at es) ≡ drop next es
  drop_next es at next true is = sym (drop_one es at) ∙ ap (λ n. drop n es) (sym is)
  drop_next es at next false is = ap (λ n. drop n es) (omega (arith, is))

  -- put where its place is
  pub put_place : (es : List (K × X)) (e : K × X) (at next : ℕ) (found : Bool) → AllAre R Greater e.0 (take at es) → BeginsAt R e.0 found (drop at es) → next ≡ at + cond found 1 0
      → put_entry R es e ≡ take at es ++ (e ∷ drop next es)
  put_place es e at next found before ahead is =
      ap (λ l. put_entry R l e) (sym (take-append-drop at es)) ∙ put_after (take at es) (drop at es) e before
      ∙ ap (λ l. take at es ++ l) (put_here (drop at es) e found ahead ∙ ap (λ l. e ∷ l) (drop_next es at next found is))

  -- ---- removed

  pub remove_none : (k : K) (B : List (K × X)) → AllAre R Less k B → remove_entry (is_at (R k)) B ≡ B
  remove_none k [] b = refl
  remove_none k (x ∷ B) b = ap (λ r. cond (is_eq r) B (x ∷ remove_entry (is_at (R k)) B)) b.0 ∙ ap (λ l. x ∷ l) (remove_none k B b.1)

  remove_first : (k : K) (C B : List (K × X)) → AllAre R Less k B → remove_entry (is_at (R k)) (C ++ B) ≡ remove_entry (is_at (R k)) C ++ B
  remove_first k [] B b = remove_none k B b
  remove_first k (c ∷ C) B b = by (is_eq (R k c.0)) (remove_first k C B b)
    where
      by : (t : Bool) → remove_entry (is_at (R k)) (C ++ B) ≡ remove_entry (is_at (R k)) C ++ B → cond t (C ++ B) (c ∷ remove_entry (is_at (R k)) (C ++ B)) ≡ (cond t C (c ∷ remove_entry (is_at (R k)) C)) ++ B
      by true h = refl
      by false h = ap (λ l. c ∷ l) h

  pub remove_after : (k : K) (A D : List (K × X)) → AllAre R Greater k A → remove_entry (is_at (R k)) (A ++ D) ≡ A ++ remove_entry (is_at (R k)) D
  remove_after k [] D a = refl
  remove_after k (x ∷ A) D a = ap (λ r. cond (is_eq r) (A ++ D) (x ∷ remove_entry (is_at (R k)) (A ++ D))) a.0 ∙ ap (λ l. x ∷ l) (remove_after k A D a.1)

  pub remove_between : (k : K) (A C B : List (K × X)) → AllAre R Greater k A → AllAre R Less k B → remove_entry (is_at (R k)) (A ++ (C ++ B)) ≡ A ++ (remove_entry (is_at (R k)) C ++ B)
  remove_between k A C B a b = remove_after k A (C ++ B) a ∙ ap (λ l. A ++ l) (remove_first k C B b)

  remove_here : (k : K) (B : List (K × X)) → BeginsAt R k true B → remove_entry (is_at (R k)) B ≡ drop 1 B
  remove_here k [] is = cc
  remove_here k (x ∷ B) is = ap (λ r. cond (is_eq r) B (x ∷ remove_entry (is_at (R k)) B)) is

  pub remove_place : (k : K) (es : List (K × X)) (at : ℕ) → AllAre R Greater k (take at es) → BeginsAt R k true (drop at es) → remove_entry (is_at (R k)) es ≡ take at es ++ drop (at + 1) es
  remove_place k es at before ahead =
      ap (remove_entry (is_at (R k))) (sym (take-append-drop at es)) ∙ remove_after k (take at es) (drop at es) before
      ∙ ap (λ l. take at es ++ l) (remove_here k (drop at es) ahead ∙ sym (drop_one es at))

  -- ---- found

  pub found_none : (k : K) (B : List (K × X)) → AllAre R Less k B → lookup (is_at (R k)) B ≡ None
  found_none k [] b = refl
  found_none k (x ∷ B) b = ap (λ r. cond (is_eq r) (Some x.1) (lookup (is_at (R k)) B)) b.0 ∙ found_none k B b.1

  found_first : (k : K) (C B : List (K × X)) → AllAre R Less k B → lookup (is_at (R k)) (C ++ B) ≡ lookup (is_at (R k)) C
  found_first k [] B b = found_none k B b
  found_first k (c ∷ C) B b = ap (λ o. cond (is_eq (R k c.0)) (Some c.1) o) (found_first k C B b)

  pub found_after : (k : K) (A D : List (K × X)) → AllAre R Greater k A → lookup (is_at (R k)) (A ++ D) ≡ lookup (is_at (R k)) D
  found_after k [] D a = refl
  found_after k (x ∷ A) D a = ap (λ r. cond (is_eq r) (Some x.1) (lookup (is_at (R k)) (A ++ D))) a.0 ∙ found_after k A D a.1

  pub found_between : (k : K) (A C B : List (K × X)) → AllAre R Greater k A → AllAre R Less k B → lookup (is_at (R k)) (A ++ (C ++ B)) ≡ lookup (is_at (R k)) C
  found_between k A C B a b = found_after k A (C ++ B) a ∙ found_first k C B b

  pub found_place : (k : K) (es : List (K × X)) (at : ℕ) (x : K × X) (rest : List (K × X)) → AllAre R Greater k (take at es) → BeginsAt R k true (drop at es) → drop at es ≡ x ∷ rest → Some x.1 ≡ lookup (is_at (R k)) es
  found_place k es at x rest before ahead is =
      let here : R k x.0 ≡ Equal = subst (λ l. BeginsAt R k true l) is ahead in
      ap (λ r. cond (is_eq r) (Some x.1) (lookup (is_at (R k)) rest)) (sym here) ∙ ap (lookup (is_at (R k))) (sym is)
      ∙ sym (found_after k (take at es) (drop at es) before) ∙ ap (lookup (is_at (R k))) (take-append-drop at es)
