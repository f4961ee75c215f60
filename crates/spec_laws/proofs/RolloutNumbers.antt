-- The numbers of rolling updates.
use Rattle.std.proofs.Common.{◌≡◌, ℕ, ◌+◌, ◌-◌, ◌≤◌, ◌<◌, List, [], ◌∷◌, Bool, true, false, refl, sym, ap, ◌∙◌, min, max, nat_lt, if◌then◌else◌, ◌==◌, map, Less, Equal, inl, inr, ◌⊎◌, arith}
use Rattle.std.specs.List.{AllByRecursion}
use Rattle.std.specs.Cmp.{nat_cmp_is}
use Rattle.std.specs.Cmp.Lexicographic.{slice_cmp}
use Rattle.std.specs.Ordering.{nat_cmp, is_le, ordering_then}
use Rattle.std.proofs.lemmas.Bool.{ltb-true, cases_lt}
use Rattle.spec_reconcile.specs.Rollouts.{total, asked, available, most, fewest, cuts, less, missing, room, without_missing}
use Rattle.spec_reconcile.specs.declared.rollouts.Tally.{Tally}
use Rattle.spec_laws.specs.DeploymentLaws.{SurgeIsLeast, UnavailableIsGreatest, GrowthIsGreatest, Bounded, CutsAreGreatest, ResizesStayBelow, MadeStayBelow, OldSetsOnlyShrink, lost, AvailablePodsStay, FewestStay, OldSetsStandIn}

pub surge : SurgeIsLeast
surge p r = (omega arith, λ s h. omega arith)

pub unavailable : UnavailableIsGreatest
unavailable p r = (omega arith, λ u h. omega arith)

pub growth_greatest : GrowthIsGreatest
growth_greatest p all n below h = ((omega arith, omega arith), λ g grows. omega arith)

resized-below : (w m n rest : ℕ) (b : Bool) → nat_lt w n ≡ b → (if b then w else n + min (m - (n + rest)) (w - n)) + rest ≤ max (n + rest) m
resized-below w m n rest true e = let above = ltb-true w n e in omega arith
resized-below w m n rest false e = omega arith

pub made_below : MadeStayBelow
made_below p all = omega arith

pub stays_below : ResizesStayBelow
stays_below p n rest = resized-below p.wanted (most p) n rest (nat_lt p.wanted n) refl

-- ---- cuts

cuts-bounded : (r : ℕ) (bs : List ℕ) → Bounded (cuts r bs) bs
cuts-bounded r [] = tt
cuts-bounded r (b ∷ bs) = (omega arith, cuts-bounded (r - min r b) bs)

cuts-total : (r : ℕ) (bs : List ℕ) → total (cuts r bs) ≤ r
cuts-total r [] = omega arith
cuts-total r (b ∷ bs) = let rest = cuts-total (r - min r b) bs in omega arith

leads : (c d : ℕ) (xs ys : List ℕ) → c < d → is_le (slice_cmp nat_cmp (c ∷ xs) (d ∷ ys)) ≡ true
leads c d xs ys h = ap (λ o. is_le (ordering_then o (slice_cmp nat_cmp xs ys))) (sym (nat_cmp_is c d Less h))

ties : (c d : ℕ) (xs ys : List ℕ) → c ≡ d → is_le (slice_cmp nat_cmp xs ys) ≡ true → is_le (slice_cmp nat_cmp (c ∷ xs) (d ∷ ys)) ≡ true
ties c d xs ys h rest = ap (λ o. is_le (ordering_then o (slice_cmp nat_cmp xs ys))) (sym (nat_cmp_is c d Equal h)) ∙ rest

greatest-at : (m c : ℕ) (ys cs : List ℕ) → c ≤ m → (c ≡ m → is_le (slice_cmp nat_cmp cs ys) ≡ true) → (c < m) ⊎ (m ≤ c) → is_le (slice_cmp nat_cmp (c ∷ cs) (m ∷ ys)) ≡ true
greatest-at m c ys cs most rest (inl below) = leads c m cs ys below
greatest-at m c ys cs most rest (inr above) = let same : c ≡ m = omega arith in ties c m cs ys same (rest same)

cuts-greatest : (r : ℕ) (bs cs : List ℕ) → Bounded cs bs → total cs ≤ r → is_le (slice_cmp nat_cmp cs (cuts r bs)) ≡ true
cuts-greatest r [] [] within sum = refl
cuts-greatest r [] (c ∷ cs) within sum = absurd within
cuts-greatest r (b ∷ bs) [] within sum = absurd within
cuts-greatest r (b ∷ bs) (c ∷ cs) within sum =
    greatest-at (min r b) c (cuts (r - min r b) bs) cs (omega (arith, within.0))
    (λ same. cuts-greatest (r - min r b) bs cs within.1 (omega arith)) (cases_lt c (min r b))

pub cuts_greatest : CutsAreGreatest
cuts_greatest r bs = ((cuts-bounded r bs, cuts-total r bs), λ cs within. cuts-greatest r bs cs within.0 within.1)

-- ---- what old sets lose

bounded-same : (ns : List ℕ) → Bounded ns ns
bounded-same [] = tt
bounded-same (n ∷ ns) = (omega arith, bounded-same ns)

bounded-all : (as' bs cs : List ℕ) → Bounded as' bs → Bounded bs cs → Bounded as' cs
bounded-all [] [] cs f g = g
bounded-all [] (b ∷ bs) cs f g = absurd f
bounded-all (a ∷ as') [] cs f g = absurd f
bounded-all (a ∷ as') (b ∷ bs) [] f g = absurd g
bounded-all (a ∷ as') (b ∷ bs) (c ∷ cs) f g = (omega arith, bounded-all as' bs cs f.1 g.1)

less-bounded : (ns cs : List ℕ) → Bounded (less ns cs) ns
less-bounded [] cs = tt
less-bounded (n ∷ ns) [] = bounded-same (n ∷ ns)
less-bounded (n ∷ ns) (c ∷ cs) = (omega arith, less-bounded ns cs)

shrunk-bounded : (b : Bool) (ns cs ds : List ℕ) → Bounded (if b then ns else less (less ns cs) ds) ns
shrunk-bounded true ns cs ds = bounded-same ns
shrunk-bounded false ns cs ds = bounded-all (less (less ns cs) ds) (less ns cs) ns (less-bounded (less ns cs) ds) (less-bounded ns cs)

pub only_shrink : OldSetsOnlyShrink
only_shrink p new old =
    let left = without_missing (room p new old) old in
    shrunk-bounded (room p new old == 0) (asked old) (cuts (room p new old) (map missing old)) (cuts (available (new ∷ old) - fewest p) left)

lost-none : (ts : List Tally) → lost ts (asked ts) ≡ 0
lost-none [] = refl
lost-none (t ∷ ts) = let rest = lost-none ts in omega arith

lost-spare : (ts : List Tally) (cs ds : List ℕ) → Bounded cs (map missing ts) → Bounded ds (less (asked ts) cs) → lost ts (less (less (asked ts) cs) ds) ≤ total ds
lost-spare [] cs ds f g = omega arith
lost-spare (t ∷ ts) [] ds f g = absurd f
lost-spare (t ∷ ts) (c ∷ cs) [] f g = absurd g
lost-spare (t ∷ ts) (c ∷ cs) (d ∷ ds) f g = let rest = lost-spare ts cs ds f.1 g.1 in omega (arith, f.0)

lost-by : (b : Bool) (ts : List Tally) (cs ds : List ℕ) (spare : ℕ) → Bounded cs (map missing ts) → Bounded ds (less (asked ts) cs) → total ds ≤ spare
    → lost ts (if b then asked ts else less (less (asked ts) cs) ds) ≤ spare
lost-by true ts cs ds spare f g h = let none = lost-none ts in omega arith
lost-by false ts cs ds spare f g h = let some = lost-spare ts cs ds f g in omega arith

pub available_stay : AvailablePodsStay
available_stay p new old =
    let spare = available (new ∷ old) - fewest p in
    let bounds = map missing old in
    let left = without_missing (room p new old) old in
    lost-by (room p new old == 0) old (cuts (room p new old) bounds) (cuts spare left) spare (cuts-bounded (room p new old) bounds) (cuts-bounded spare left) (cuts-total spare left)

pub fewest_stay : FewestStay
fewest_stay p new old h = let stay = available_stay p new old in omega arith

-- ---- what old sets go on to ask for

less-total : (ns cs : List ℕ) → Bounded cs ns → total (less ns cs) + total cs ≡ total ns
less-total [] [] h = refl
less-total [] (c ∷ cs) h = absurd h
less-total (n ∷ ns) [] h = absurd h
less-total (n ∷ ns) (c ∷ cs) h = let rest = less-total ns cs h.1 in omega (arith, h.0)

missing-bounded : (ts : List Tally) → Bounded (map missing ts) (asked ts)
missing-bounded [] = tt
missing-bounded (t ∷ ts) = (omega arith, missing-bounded ts)

available-left : (ts : List Tally) (cs : List ℕ) → AllByRecursion (λ t. t.available ≤ t.replicas) ts → Bounded cs (map missing ts) → available ts ≤ total (less (asked ts) cs)
available-left [] cs within h = omega arith
available-left (t ∷ ts) [] within h = absurd h
available-left (t ∷ ts) (c ∷ cs) within h = let rest = available-left ts cs within.1 h.1 in omega (arith, within.0, h.0)

stands-in : (b : Bool) (f n old left room spare gone : ℕ) (ns ms : List ℕ) → (room == 0) ≡ b → total ns ≡ old → total ms + gone ≡ left → gone ≤ spare → f ≤ old + n
    → (old + n) - f ≡ room → old ≤ left + room → f ≤ left + n - spare → f ≤ total (if b then ns else ms) + n
stands-in true f n old left room spare gone ns ms e all rest most enough is first second = omega arith
stands-in false f n old left room spare gone ns ms e all rest most enough is first second = omega arith

pub stand_in : OldSetsStandIn
stand_in p new old within enough =
    let r = room p new old in
    let bounds = map missing old in
    let left = without_missing r old in
    let spare = available (new ∷ old) - fewest p in
    let first = cuts-bounded r bounds in
    let kept = available-left old (cuts r bounds) within first in
    let below = cuts-total r bounds in
    let sum = less-total (asked old) (cuts r bounds) (bounded-all (cuts r bounds) bounds (asked old) first (missing-bounded old)) in
    let second = less-total left (cuts spare left) (cuts-bounded spare left) in
    let most = cuts-total spare left in
    stands-in (r == 0) (fewest p) new.available (total (asked old)) (total left) r spare (total (cuts spare left)) (asked old) (less left (cuts spare left)) refl refl second most enough (omega arith) (omega arith) (omega arith)
