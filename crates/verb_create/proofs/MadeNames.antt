-- Names that are made, one after another.
use Rattle.std.proofs.Common.{◌≡◌, ℕ, zero, suc, ◌+◌, ◌-◌, ◌<◌, List, [], ◌∷◌, Bool, true, false, cond, ◌&&◌, nat_lt, Some, find, slice_get, unwrap_or, refl, sym, ap, ◌∙◌, arith}
use Rattle.std.proofs.lemmas.Bool.Decides.{nat_tests}
use Rattle.std.specs.List.{list_all}
use Rattle.spec_api.proofs.Truths.{both_true}
use Rattle.spec_api.specs.GeneratedNames.{alphabet, made, tried, made_name}
use Rattle.spec_api.specs.History.{Entries}
use Rattle.spec_api.specs.Verbs.{is_free}
use Rattle.spec_api.specs.declared.kinds.Kind.{Kind}

-- what is read of ASCII is ASCII
small_at : (xs : List ℕ) (i : ℕ) → list_all (λ b. nat_lt b 128) xs ≡ true → unwrap_or (slice_get xs i) 0 < 128
small_at [] i h = omega arith
small_at (x ∷ xs) zero h =
    let e : nat_lt x 128 ≡ true = (both_true (nat_lt x 128) (list_all (λ b. nat_lt b 128) xs) h).0 in
    grind (arith, nat_tests)
small_at (x ∷ xs) (suc i) h = small_at xs i (both_true (nat_lt x 128) (list_all (λ b. nat_lt b 128) xs) h).1

pub small : (i : ℕ) → unwrap_or (slice_get alphabet i) 0 < 128
small i = small_at alphabet i refl

-- a name that is not free leaves those after it
pub next_try : (test : List ℕ → Bool) (given : List ℕ) (first k : ℕ) → k < 8 → test (made given (first + k)) ≡ false
    → find test (tried given (8 - k) (first + k)) ≡ find test (tried given (8 - (k + 1)) (first + (k + 1)))
next_try test given first k below taken =
    let e : 8 - k ≡ suc (8 - (k + 1)) = omega (arith, below) in
    let n : first + k + 1 ≡ first + (k + 1) = omega arith in
    ap (λ m. find test (tried given m (first + k))) e ∙ ap (λ b. cond b (Some (made given (first + k))) (find test (tried given (8 - (k + 1)) (first + k + 1)))) taken
    ∙ ap (λ m. find test (tried given (8 - (k + 1)) m)) n

-- and one that is free is the first
first_try : (test : List ℕ → Bool) (given : List ℕ) (first k : ℕ) → k < 8 → test (made given (first + k)) ≡ true
    → find test (tried given (8 - k) (first + k)) ≡ Some (made given (first + k))
first_try test given first k below free =
    let e : 8 - k ≡ suc (8 - (k + 1)) = omega (arith, below) in
    ap (λ m. find test (tried given m (first + k))) e ∙ ap (λ b. cond b (Some (made given (first + k))) (find test (tried given (8 - (k + 1)) (first + k + 1)))) free

-- the names from one on are those that are left
abbrev pub Left : (List ℕ → Bool) → List ℕ → ℕ → ℕ → Type 0
Left test given first k = find test (tried given 8 first) ≡ find test (tried given (8 - k) (first + k))

pub begins : (test : List ℕ → Bool) (given : List ℕ) (first : ℕ) → Left test given first 0
begins test given first =
    let e : first ≡ first + 0 = omega arith in
    ap (λ n. find test (tried given 8 n)) e

pub taken : (test : List ℕ → Bool) (given name : List ℕ) (first k : ℕ) → k < 8 → name ≡ made given (first + k) → test name ≡ false → Left test given first k → Left test given first (k + 1)
taken test given name first k below named not_free left = left ∙ next_try test given first k below (ap test (sym named) ∙ not_free)

pub free : (test : List ℕ → Bool) (given name : List ℕ) (first k : ℕ) → k < 8 → name ≡ made given (first + k) → test name ≡ true → Left test given first k → name ≡ made_name test given first
free test given name first k below named is left =
    named ∙ sym (ap (λ o. unwrap_or o (made given first)) (left ∙ first_try test given first k below (ap test (sym named) ∙ is)))

pub none_free : (test : List ℕ → Bool) (given name : List ℕ) (first : ℕ) → name ≡ made given first → Left test given first 8 → name ≡ made_name test given first
none_free test given name first named left = named ∙ sym (ap (λ o. unwrap_or o (made given first)) left)

-- whether a key is free says its name
pub says_free : (kind kind' : Kind) (ns ns' name : List ℕ) (ms : Entries) (b c : Bool) → kind ≡ kind' → ns ≡ ns' → b ≡ is_free kind ns ms name → b ≡ c → is_free kind' ns' ms name ≡ c
says_free kind kind' ns ns' name ms b c same there is at = ap (λ k. is_free k ns' ms name) (sym same) ∙ ap (λ n. is_free kind n ms name) (sym there) ∙ sym is ∙ at
