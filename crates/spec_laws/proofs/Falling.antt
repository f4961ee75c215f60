-- What is expected only falls until it is set again.
use Rattle.std.proofs.Common.{◌≡◌, refl, sym, ap, subst, ◌∙◌, ℕ, ◌-◌, ◌≤◌, ◌==◌, ◌&&◌, ◌||◌, Bool, true, false, not, cond, List, [], ◌∷◌, Option, Some, None, nat_lt, Equal, arith}
use Rattle.std.proofs.lemmas.Bool.Decides.{nat_tests}
use mathlib.Core.Bool.{true≢false}
use Rattle.std.specs.Cmp.{Equal-is}
use Rattle.std.specs.Ordering.{is_eq}
use Rattle.std.specs.Cmp.Lexicographic.{nat_list_cmp_total}
use Rattle.std.specs.FinMap as map
use Rattle.std.specs.FinMap.{get-insert, get-retain_keys, get_tied, same_map}
use Rattle.std.specs.FinSet as set
use Rattle.std.specs.FinSet.{len-remove}
use Rattle.spec_api.specs.Keys.{is_same_key}
use Rattle.spec_client_go.specs.Expectations.{Owner, owner_cmp, Expectation, Table, Uids, change, created, is_met, satisfied}
use Rattle.spec_laws.specs.ExpectationLaws.{Change, expect_creations, expect_deletions, see_created, see_deleted, forget, after, after_all, sets, sets_none, creations_of, creations_left}
use Rattle.spec_client_go.proofs.Expected.{owner_total, owner_tells, keys_tied}

pub tied : (o p : Owner) → is_eq (owner_cmp o p) ≡ true → owner_cmp o p ≡ Equal
tied o p e = (Equal-is (owner_cmp o p)).0 e

-- to put what stands there changes nothing
pub put_same : (t : Table) (o : Owner) (e : Expectation) → map.get t o ≡ Some e → map.insert t o e ≡ t
put_same t o e is = same_map owner_total owner_tells _ _ (λ q. get-insert owner_total t o e q ∙ by q (is_eq (owner_cmp q o)) refl)
  where
    by : (q : Owner) (b : Bool) → is_eq (owner_cmp q o) ≡ b → cond b (Some e) (map.get t q) ≡ map.get t q
    by q true h = sym is ∙ get_tied owner_total t q o (tied q o h)
    by q false h = refl

none_fewer : (e : Expectation) → e.creations ≡ 0 → record e { creations = e.creations - 1 } ≡ e
none_fewer e z = let same : e.creations - 1 ≡ e.creations = omega (arith, z) in λ i. record e { creations = same i }

pub none_below_zero : (o : Owner) (t : Table) → creations_left o t ≡ 0 → created o t ≡ t
none_below_zero o t = by (map.get t o) refl
  where
    by : (x : Option Expectation) → map.get t o ≡ x → creations_of x ≡ 0 → change x (λ e. record e { creations = e.creations - 1 }) o t ≡ t
    by None is z = refl
    by (Some e) is z = ap (map.insert t o) (none_fewer e z) ∙ put_same t o e is

-- no more is expected than before, and a wait that is over stays over
pub record Fewer (new old : Option Expectation) : Type 0 where
  pub creations : creations_of new ≤ creations_of old
  pub over : (now later : ℕ) → now ≤ later → is_met now old ≡ true → is_met later new ≡ true

still_over : (c c' l l' s now later : ℕ) → c' ≤ c → l' ≤ l → now ≤ later → (((c == 0) && (l == 0)) || nat_lt 300000 (now - s)) ≡ true → (((c' == 0) && (l' == 0)) || nat_lt 300000 (later - s)) ≡ true
still_over c c' l l' s now later hc hl h is = grind (arith, nat_tests)

within : (e f : Expectation) → f.creations ≤ e.creations → set.len f.deletions ≤ set.len e.deletions → f.since ≡ e.since → Fewer (Some f) (Some e)
within e f hc hl hs = record {
  creations = hc;
  over = λ now later h is. ap (λ s. ((f.creations == 0) && (set.len f.deletions == 0)) || nat_lt 300000 (later - s)) hs ∙ still_over e.creations f.creations (set.len e.deletions) (set.len f.deletions) e.since now later hc hl h is;
}

as_before : (x : Option Expectation) → Fewer x x
as_before None = record { creations = omega arith; over = λ now later h is. refl }
as_before (Some e) = within e e (omega arith) (omega arith) refl

none_left : (x : Option Expectation) → Fewer None x
none_left x = record { creations = omega arith; over = λ now later h is. refl }

then_fewer : (x y z : Option Expectation) → Fewer z y → Fewer y x → Fewer z x
then_fewer x y z b a = record { creations = omega (arith, a.creations, b.creations); over = λ now later h is. b.over later later (omega arith) (a.over now later h is) }

alike : (x y : Option Expectation) → x ≡ y → Fewer x y
alike x y is = subst (λ z. Fewer z y) (sym is) (as_before y)

put_elsewhere : (t : Table) (o p : Owner) (e : Expectation) → is_eq (owner_cmp o p) ≡ false → Fewer (map.get (map.insert t p e) o) (map.get t o)
put_elsewhere t o p e h = alike _ _ (get-insert owner_total t p e o ∙ ap (λ b. cond b (Some e) (map.get t o)) h)

pub fewer_deletions : (s : Uids) (u : List ℕ) → set.len (set.remove s u) ≤ set.len s
fewer_deletions s u = let is = len-remove nat_list_cmp_total s u in by (set.contains s u) _ _ is
  where
    by : (b : Bool) (m n : ℕ) → m ≡ cond b (n - 1) n → m ≤ n
    by true m n e = omega arith
    by false m n e = omega arith

changed : (f : Expectation → Expectation) → ((e : Expectation) → Fewer (Some (f e)) (Some e)) → (t : Table) (o p : Owner) → Fewer (map.get (change (map.get t p) f p t) o) (map.get t o)
changed f falls t o p = by (map.get t p) refl
  where
    at : (e : Expectation) (b : Bool) → is_eq (owner_cmp o p) ≡ b → map.get t p ≡ Some e → Fewer (cond b (Some (f e)) (map.get t o)) (map.get t o)
    at e true h is = subst (λ x. Fewer (Some (f e)) x) (sym is ∙ get_tied owner_total t o p (tied o p h)) (falls e)
    at e false h is = as_before (map.get t o)

    by : (x : Option Expectation) → map.get t p ≡ x → Fewer (map.get (change x f p t) o) (map.get t o)
    by None is = as_before (map.get t o)
    by (Some e) is = subst (λ x. Fewer x (map.get t o)) (sym (get-insert owner_total t p (f e) o)) (at e _ refl is)

step : (o : Owner) (t : Table) (c : Change) → sets o c ≡ false → Fewer (map.get (after t c) o) (map.get t o)
step o t (expect_creations p n now) h = put_elsewhere t o p _ h
step o t (expect_deletions p uids now) h = put_elsewhere t o p _ h
step o t (see_created p) h = changed (λ e. record e { creations = e.creations - 1 }) (λ e. within e _ (omega arith) (omega arith) refl) t o p
step o t (see_deleted p u) h = changed (λ e. record e { deletions = set.remove e.deletions u }) (λ e. within e _ (omega arith) (fewer_deletions e.deletions u) refl) t o p
step o t (forget k) h =
    subst (λ x. Fewer x (map.get t o))
    (sym (get-retain_keys t (λ p. not (is_same_key k p.key)) o (λ x e. ap (λ n. not (is_same_key k n)) (sym (keys_tied o x e)))))
    (by (not (is_same_key k o.key)))
  where
    by : (b : Bool) → Fewer (cond b (map.get t o) None) (map.get t o)
    by true = as_before (map.get t o)
    by false = none_left (map.get t o)

pub falls : (o : Owner) (t : Table) (cs : List Change) → sets_none o cs ≡ true → Fewer (map.get (after_all t cs) o) (map.get t o)
falls o t [] h = as_before (map.get t o)
falls o t (c ∷ cs) h = by (falls o (after t c) cs) (sets o c) refl h
  where
    by : (sets_none o cs ≡ true → Fewer (map.get (after_all (after t c) cs) o) (map.get (after t c) o)) → (b : Bool) → sets o c ≡ b → (not b && sets_none o cs) ≡ true → Fewer (map.get (after_all (after t c) cs) o) (map.get t o)
    by rest true e n = absurd (true≢false (sym n))
    by rest false e n = then_fewer (map.get t o) (map.get (after t c) o) (map.get (after_all (after t c) cs) o) (rest n) (step o t c e)

pub only_falls : (o : Owner) (t : Table) (cs : List Change) → sets_none o cs ≡ true → creations_left o (after_all t cs) ≤ creations_left o t
only_falls o t cs h = (falls o t cs h).creations

pub stays_over : (o : Owner) (t : Table) (cs : List Change) (now later : ℕ) → sets_none o cs ≡ true → now ≤ later → satisfied o now t ≡ true → satisfied o later (after_all t cs) ≡ true
stays_over o t cs now later n h is = (falls o t cs n).over now later h is
