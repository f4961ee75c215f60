-- What is there is what the write of its version put.
use Rattle.std.proofs.Common.{◌≡◌, ◌≤◌, ◌<◌, ◌+◌, ◌-◌, ◌⊎◌, inl, inr, ℕ, zero, suc, List, [], ◌∷◌, length, take, Bool, true, false, cond, IfSome, Option, Some, None, decimal, slice_get, refl, sym, ap, ◌∙◌, arith}
use Rattle.serde_json.specs.Data.{Data}
use Rattle.spec_api.specs.History.{Write, writes, present, last_of}
use Rattle.spec_api.specs.Metadata.{version}
use Rattle.spec_api.specs.Keys.{Key, is_same_key}
use Rattle.spec_api.specs.Revisions.{revision_of}
use Rattle.spec_laws.specs.SentLaws.{IsKept, AreKept}
use Rattle.spec_api.proofs.PutLaws.{same_name}
use Rattle.spec_api.proofs.RevisionTexts.{revision_is}
use Rattle.spec_laws.specs.IdentityLaws.{VersionsTellWrites, VersionsNameOneWrite}
use Rattle.spec_laws.proofs.Limited.{limited}
use Rattle.spec_laws.proofs.Stored.{all_are_kept}

abbrev pub write_at : Key → Data → Write
write_at k d = record { key = k; put = Some d }

-- ---- which write put what is there

-- among the first n of these writes, this one put it
abbrev pub Among : ℕ → List Write → Key → Data → Type 0
Among n ws k d = (i : ℕ) × (i < n) × (slice_get ws i ≡ Some (write_at k d))

is_write : (w : Write) (k : Key) (d : Data) → k ≡ w.key → w.put ≡ Some d → Some w ≡ Some (write_at k d)
is_write w k d named put = λ i. Some (record { key = sym named i; put = put i })

pub put_among : (before : Option Data) (k : Key) (n : ℕ) (ws : List Write) (d : Data) → last_of before k (take n ws) ≡ Some d → (before ≡ Some d) ⊎ Among n ws k d
put_among before k zero ws d is = inl is
put_among before k (suc n) [] d is = inl is
put_among before k (suc n) (w ∷ ws) d is = by (put_among (cond (is_same_key k w.key) w.put before) k n ws d is)
  where
    here : (b : Bool) → is_same_key k w.key ≡ b → cond b w.put before ≡ Some d → (before ≡ Some d) ⊎ Among (suc n) (w ∷ ws) k d
    here true named at = inr (0, omega arith, is_write w k d (same_name k w.key named) at)
    here false named at = inl at

    by : (cond (is_same_key k w.key) w.put before ≡ Some d) ⊎ Among n ws k d → (before ≡ Some d) ⊎ Among (suc n) (w ∷ ws) k d
    by (inl at) = here (is_same_key k w.key) refl at
    by (inr m) = let low : m.0 < n = m.1 in inr (suc m.0, omega (arith, low), m.2)

pub put_by : (k : Key) (n : ℕ) (ws : List Write) (d : Data) → last_of None k (take n ws) ≡ Some d → Among n ws k d
put_by k n ws d is = by (put_among None k n ws d is)
  where
    by : (None ≡ Some d) ⊎ Among n ws k d → Among n ws k d
    by (inl none) = cc
    by (inr m) = m

-- and it says its revision
says : (r i : ℕ) (ws : List Write) (k : Key) (d : Data) → AreKept r ws → slice_get ws i ≡ Some (write_at k d) → version d ≡ Some (decimal (r + i))
says r i [] k d a is = cc
says r zero (w ∷ ws) k d a is = of w.put d (put_is is) a.0
  where
    put_is : Some w ≡ Some (write_at k d) → w.put ≡ Some d
    put_is is = ap put_of is
      where
        put_of : Option Write → Option Data
        put_of None = None
        put_of (Some v) = v.put

    of : (o : Option Data) (d : Data) → o ≡ Some d → IfSome o (IsKept w.key r) → version d ≡ Some (decimal (r + 0))
    of None d is kept = cc
    of (Some e) d is kept = let same : e ≡ d = cc in ap version (sym same) ∙ kept.version ∙ ap (λ n. Some (decimal n)) (omega arith)
says r (suc i) (w ∷ ws) k d a is = says (r + 1) i ws k d a.1 is ∙ ap (λ n. Some (decimal n)) (omega arith)

within : (ws : List Write) (i : ℕ) (w : Write) → slice_get ws i ≡ Some w → i < length ws
within [] i w is = cc
within (v ∷ ws) zero w is = omega arith
within (v ∷ ws) (suc i) w is = let low = within ws i w is in omega (arith, low)

pub tells : VersionsTellWrites
tells h r k d reached is =
    let m = put_by k (r - 1) (writes h) d is in
    let low : m.0 < r - 1 = m.1 in
    let inside = within (writes h) m.0 (write_at k d) m.2 in
    let place : m.0 ≡ 2 + m.0 - 2 = omega arith in
    (2 + m.0, says 2 m.0 (writes h) k d (all_are_kept h reached) m.2, omega (arith, low), (omega arith, omega (arith, inside), ap (slice_get (writes h)) (sym place) ∙ m.2))

-- ---- two of one version

pub same_decimal : (v w : ℕ) → v ≤ 9007199254740991 → w ≤ 9007199254740991 → Some (decimal v) ≡ Some (decimal w) → v ≡ w
same_decimal v w lv lw is =
    let texts : decimal v ≡ decimal w = cc in
    let numbers : Some v ≡ Some w = sym (revision_is v (omega (arith, lv))) ∙ ap revision_of texts ∙ revision_is w (omega (arith, lw)) in
    cc

pub one_write : (k l : Key) (d e : Data) → Some (write_at k d) ≡ Some (write_at l e) → (k ≡ l) × (d ≡ e)
one_write k l d e is = (ap key_of is, some (ap put_of is))
  where
    key_of : Option Write → Key
    key_of None = k
    key_of (Some w) = w.key

    put_of : Option Write → Option Data
    put_of None = None
    put_of (Some w) = w.put

    some : Some d ≡ Some e → d ≡ e
    some is = cc

pub names_one : VersionsNameOneWrite
names_one h r s k l d e reached here there same =
    let one = tells h r k d reached here in
    let two = tells h s l e reached there in
    let few : present h ≤ 9007199254740991 = (limited h reached).1 in
    let low : one.0 ≤ present h = one.3.1 in
    let low' : two.0 ≤ present h = two.3.1 in
    let at : one.0 ≡ two.0 = same_decimal one.0 two.0 (omega (arith, low, few)) (omega (arith, low', few)) (sym one.1 ∙ same ∙ two.1) in
    one_write k l d e (sym one.3.2 ∙ ap (λ v. slice_get (writes h) (v - 2)) at ∙ two.3.2)
