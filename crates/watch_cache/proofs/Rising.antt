-- Where the changes above a revision begin.
use Rattle.std.proofs.Common.{zero, suc, ◌≡◌, ◌≤◌, ◌<◌, ℕ, ◌+◌, List, [], ◌∷◌, ◌++◌, map, take, drop, length, Bool, true, false, Some, None, refl, sym, ap, ap₂, ◌∙◌, subst, arith}
use Rattle.std.specs.Prelude.{nat_lt, slice_get, IfSome}
use Rattle.std.proofs.lemmas.List.{take-append-drop}
use Rattle.std.proofs.lemmas.List.Elements.{filter-append}
use Rattle.std.proofs.lemmas.Bool.{lt-ltb, le-ltb, ltb-true, ltb-false}
use Rattle.spec_api.specs.Windows.{Change as Kept, IsRising}
use Rattle.spec_server.specs.Recorded.{above}
use Rattle.watch_cache.specs.Changes.{change_seen}
use Rattle.watch_cache.specs.declared.changes.Change.{Change}

later_at : (lo m : ℕ) (cs : List Change) (c : Change) → IsRising lo (map change_seen cs) → slice_get cs m ≡ Some c → lo < c.revision
later_at lo m [] c s h = cc
later_at lo zero (x ∷ xs) c s h = let is : x ≡ c = cc in subst (λ (z : Change). lo < z.revision) is s.0
later_at lo (suc m) (x ∷ xs) c s h = let more = later_at x.revision m xs c s.1 h in let first = s.0 in omega (arith, first, more)

-- up to a change that is not above a, none is
up_to_at : (a lo m : ℕ) (cs : List Change) (c : Change) → IsRising lo (map change_seen cs) → slice_get cs m ≡ Some c → c.revision ≤ a → above a (take (suc m) (map change_seen cs)) ≡ []
up_to_at a lo m [] c s h l = cc
up_to_at a lo zero (x ∷ xs) c s h l = let is : x ≡ c = cc in rw (le-ltb a x.revision (subst (λ (z : Change). z.revision ≤ a) (sym is) l)) refl
up_to_at a lo (suc m) (x ∷ xs) c s h l =
    let more = later_at x.revision m xs c s.1 h in
    rw (le-ltb a x.revision (omega (arith, more, l))) (up_to_at a x.revision m xs c s.1 h l)

next : (m : ℕ) → m + 1 ≡ suc m
next m = omega arith

pub none_up_to : (a lo m : ℕ) (cs : List Change) (c : Change) → IsRising lo (map change_seen cs) → slice_get cs m ≡ Some c → c.revision ≤ a → above a (take (m + 1) (map change_seen cs)) ≡ []
none_up_to a lo m cs c s h l = ap (λ i. above a (take i (map change_seen cs))) (next m) ∙ up_to_at a lo m cs c s h l

all_above : (a lo : ℕ) (cs : List Change) → a ≤ lo → IsRising lo (map change_seen cs) → above a (map change_seen cs) ≡ map change_seen cs
all_above a lo [] l s = refl
all_above a lo (x ∷ xs) l s =
    let first = s.0 in
    rw (lt-ltb a x.revision (omega (arith, first, l))) (ap (λ z. change_seen x ∷ z) (all_above a x.revision xs (omega (arith, first, l)) s.1))

-- from a change that is above a, all are
pub all_from : (a lo m : ℕ) (cs : List Change) (c : Change) → IsRising lo (map change_seen cs) → slice_get cs m ≡ Some c → a < c.revision → above a (drop m (map change_seen cs)) ≡ drop m (map change_seen cs)
all_from a lo m [] c s h l = cc
all_from a lo zero (x ∷ xs) c s h l =
    let is : x ≡ c = cc in
    let up : a < x.revision = subst (λ (z : Change). a < z.revision) (sym is) l in
    rw (lt-ltb a x.revision up) (ap (λ z. change_seen x ∷ z) (all_above a x.revision xs (omega (arith, up)) s.1))
all_from a lo (suc m) (x ∷ xs) c s h l = all_from a x.revision m xs c s.1 h l

pub cut : (a n : ℕ) (ks : List Kept) → above a (take n ks) ≡ [] → above a (drop n ks) ≡ drop n ks → drop n ks ≡ above a ks
cut a n ks none all =
    sym (ap (above a) (sym (take-append-drop n ks)) ∙ filter-append (λ k. nat_lt a k.revision) (take n ks) (drop n ks) ∙ ap₂ (λ x y. x ++ y) none all)

-- ---- the change at a place

drop_suc : (m : ℕ) (cs : List Change) (c : Change) → slice_get cs m ≡ Some c → drop m (map change_seen cs) ≡ change_seen c ∷ drop (suc m) (map change_seen cs)
drop_suc m [] c h = cc
drop_suc zero (x ∷ xs) c h = let is : x ≡ c = cc in ap (λ z. change_seen z ∷ map change_seen xs) is
drop_suc (suc m) (x ∷ xs) c h = drop_suc m xs c h

pub drop_at : (m : ℕ) (cs : List Change) (c : Change) → slice_get cs m ≡ Some c → drop m (map change_seen cs) ≡ change_seen c ∷ drop (m + 1) (map change_seen cs)
drop_at m cs c h = drop_suc m cs c h ∙ ap (λ i. change_seen c ∷ drop i (map change_seen cs)) (sym (next m))

-- ---- what a test at a place says

there : (m : ℕ) (cs : List Change) → m < length cs → (c : Change) × (slice_get cs m ≡ Some c)
there m [] l = absurd (omega (arith, l))
there zero (x ∷ xs) l = (x, refl)
there (suc m) (x ∷ xs) l = there m xs (omega (arith, l))

pub not_none : (m : ℕ) (cs : List Change) → m < length cs → slice_get cs m ≡ None → ⊥
not_none m cs l h = let at = (there m cs l).1 in cc

says : (a m : ℕ) (cs : List Change) (b : Bool) (c : Change) → slice_get cs m ≡ Some c → IfSome (slice_get cs m) (λ k. b ≡ nat_lt a k.revision) → b ≡ nat_lt a c.revision
says a m cs b c h f = rw h at f

pub all_from_at : (a m : ℕ) (cs : List Change) (b : Bool) → IsRising 0 (map change_seen cs) → m < length cs → IfSome (slice_get cs m) (λ c. b ≡ nat_lt a c.revision) → b ≡ true
    → above a (drop m (map change_seen cs)) ≡ drop m (map change_seen cs)
all_from_at a m cs b s l f is =
    let at = there m cs l in
    all_from a 0 m cs at.0 s at.1 (ltb-true a (at.0).revision (sym (says a m cs b at.0 at.1 f) ∙ is))

pub none_below_at : (a m : ℕ) (cs : List Change) (b : Bool) → IsRising 0 (map change_seen cs) → m < length cs → IfSome (slice_get cs m) (λ c. b ≡ nat_lt a c.revision) → b ≡ false
    → above a (take (m + 1) (map change_seen cs)) ≡ []
none_below_at a m cs b s l f is =
    let at = there m cs l in
    none_up_to a 0 m cs at.0 s at.1 (ltb-false a (at.0).revision (sym (says a m cs b at.0 at.1 f) ∙ is))
