-- Each step keeps the rule.
use Rattle.std.proofs.Common.{◌≡◌, ◌≢◌, ℕ, zero, suc, ◌+◌, ◌<◌, List, [], ◌∷◌, ◌++◌, length, fold, set, sym, refl, ap, ◌∙◌, subst, ⊎_elim, append-nil, append_assoc, length-append, arith}
use Rattle.std.proofs.lemmas.List.{length-map}
use Rattle.std.proofs.lemmas.List.Elements.{All-append, All-nil, All-cons, All-head, All-tail}
use Rattle.std.specs.Prelude.{All, slice_index_or}
use mathlib.Core.Option.{some}
use lib.ListN.{get_elem?}
use Rattle.std.specs.declared.sync.Arc.{Arc}
use Rattle.crossbeam_utils.specs.Register.{Admits, TurnsAt, Turns, Forks, Merges}
use Rattle.atomic_table.proofs.Lists.{at_set, at_snoc}
use Rattle.spec_server.specs.Snapshots.{Snapshot}
use Rattle.spec_client_go.specs.Informers.{nothing, applied, all_applied}
use Rattle.spec_client_go.specs.Reflectors as words
use Rattle.reflector.specs.Deltas.{delta_of, deltas_of}
use Rattle.reflector.specs.declared.deltas.Delta.{Delta}
use Rattle.informer.specs.declared.published.Published.{Published}
use Rattle.informer.specs.declared.views.MapView.{MapView}
use Rattle.informer.specs.Published.{with_shared, all_of, with_batch, IsAfter}
use Rattle.informer.specs.SharedDeltas.{all_in}
use Rattle.informer.specs.Knowing.{StartsWith, StartsWithAll, knowing_nothing, knowing, knowing_both, first_of, latest, IsKept, HasSeen}

-- ---- batches

abbrev Batches : Type 0
Batches = List (List Delta)

abbrev AllFull : Batches → Type 0
AllFull bs = All (λ b. 0 < length b) bs

all_both : (bs cs : Batches) → all_of (bs ++ cs) ≡ all_of bs ++ all_of cs
all_both [] cs = refl
all_both (b ∷ bs) cs = ap (λ z. b ++ z) (all_both bs cs) ∙ sym (append_assoc b (all_of bs) (all_of cs))

all_more : (bs : Batches) (b : List Delta) → all_of (bs ++ b ∷ []) ≡ all_of bs ++ b
all_more bs b = all_both bs (b ∷ []) ∙ ap (λ z. all_of bs ++ z) (append-nil b)

pub all_with : (bs : Batches) (b : List Delta) → all_of (with_batch bs b) ≡ all_of bs ++ b
all_with bs [] = sym (append-nil (all_of bs))
all_with bs (d ∷ ds) = all_more bs (d ∷ ds)

pub with_some : (bs : Batches) (b : List Delta) → 0 < length b → with_batch bs b ≡ bs ++ b ∷ []
with_some bs [] filled = absurd (omega (arith, filled))
with_some bs (d ∷ ds) filled = refl

full_more : (bs : Batches) (b : List Delta) → AllFull bs → 0 < length b → AllFull (bs ++ b ∷ [])
full_more bs b full filled = All-append (λ b. 0 < length b) bs (b ∷ []) full (All-cons (λ b. 0 < length b) b [] filled (All-nil (λ b. 0 < length b)))

full_at : (front : Batches) (b : List Delta) (rest : Batches) → AllFull (front ++ b ∷ rest) → 0 < length b
full_at [] b rest full = All-head (λ b. 0 < length b) b rest full
full_at (f ∷ front) b rest full = full_at front b rest (All-tail (λ b. 0 < length b) f (front ++ b ∷ rest) full)

-- ---- deltas applied one after another

pub applied_both : (m : Snapshot) (ds es : List words.Delta) → all_applied m (ds ++ es) ≡ all_applied (all_applied m ds) es
applied_both m [] es = refl
applied_both m (d ∷ ds) es = applied_both (applied m d) ds es

pub deltas_both : (ds es : List Delta) → deltas_of (ds ++ es) ≡ deltas_of ds ++ deltas_of es
deltas_both [] es = refl
deltas_both (d ∷ ds) es = ap (λ xs. delta_of d ∷ xs) (deltas_both ds es)

-- shared deltas that say what others do
abbrev pub Says : {A : Type 0} → List (Arc Delta A) → List Delta → Type 0
Says ps ms = deltas_of (all_in ps) ≡ deltas_of ms

pub folded : {A : Type 0} (ps : List (Arc Delta A)) (p : Published) → (fold with_shared p ps).indexed ≡ all_applied p.indexed (deltas_of (all_in ps))
folded [] p = refl
folded (d ∷ ps) p = folded ps (with_shared p d)

counted : {A : Type 0} (ps : List (Arc Delta A)) (p : Published) → (fold with_shared p ps).count ≡ p.count + length (deltas_of (all_in ps))
counted [] p = omega arith
counted (d ∷ ps) p = let e = counted ps (with_shared p d) in omega (arith, e)

pub folded_as : {A : Type 0} (ps : List (Arc Delta A)) (ms : List Delta) (p : Published) → Says ps ms → (fold with_shared p ps).indexed ≡ all_applied p.indexed (deltas_of ms)
folded_as ps ms p says = folded ps p ∙ ap (all_applied p.indexed) says

pub after_more : {A : Type 0} (bs : Batches) (ms : List Delta) (ps : List (Arc Delta A)) (p : Published) → Says ps ms → 0 < length ms → IsAfter bs p → IsAfter (bs ++ ms ∷ []) (fold with_shared p ps)
after_more bs ms ps p says filled after = (
  folded_as ps ms p says ∙ ap (λ s. all_applied s (deltas_of ms)) after.0 ∙ sym (applied_both nothing (deltas_of (all_of bs)) (deltas_of ms)) ∙ ap (all_applied nothing) (sym (deltas_both (all_of bs) ms)) ∙ ap (λ ds. all_applied nothing (deltas_of ds)) (sym (all_more bs ms)),
  (
      let n = counted ps p in
      let m = after.1 in
      let same : length (deltas_of (all_in ps)) ≡ length (deltas_of ms) = ap length says in
      let more : length (all_of (bs ++ ms ∷ [])) ≡ length (all_of bs ++ ms) = ap length (all_more bs ms) in
      omega (arith, more, length-append (all_of bs) ms, n, m, same, length-map ms delta_of)
      ),
  full_more bs ms after.2 filled,
)

-- ---- beginnings

none_known : (ds : Batches) → StartsWithAll ds knowing_nothing
none_known ds k d h = absurd (omega arith)

one_known : (ds : Batches) → StartsWithAll ds (knowing ds)
one_known ds zero d h = ([], sym (append-nil ds))
one_known ds (suc k) d h = absurd (omega arith)

still_known : (ds more : Batches) (v : MapView) → StartsWithAll ds v → StartsWithAll (ds ++ more) v
still_known ds more v all k d h =
    let s = all k d h in (s.0 ++ more, ap (λ z. z ++ more) s.1 ∙ append_assoc (slice_index_or v.known k d) s.0 more)

first_known : (ds : Batches) (ks : List Batches) → All (λ front. StartsWith ds front) ks → StartsWith ds (first_of ks)
first_known ds [] all = (ds, refl)
first_known ds (f ∷ ks) all = all zero f (omega arith)

whole : (ds front rest : Batches) → AllFull ds → ds ≡ front ++ rest → length (all_of ds) ≡ length (all_of front) → ds ≡ front
whole ds front [] full is same = is ∙ append-nil front
whole ds front (b ∷ rest) full is same = absurd
    (let filled = full_at front b rest (subst AllFull is full) in
    let n : length (all_of ds) ≡ length (all_of front ++ all_of (b ∷ rest)) = ap (λ z. length (all_of z)) is ∙ ap length (all_both front (b ∷ rest)) in
    omega (arith, filled, n, same, length-append (all_of front) (all_of (b ∷ rest)), length-append b (all_of rest)))

-- ---- the rule

abbrev Each : Batches → List MapView → Type 0
Each ds views = (seat : ℕ) (v : MapView) → get_elem? views seat ≡ some v → StartsWithAll ds v

each_set : (ds : Batches) (views : List MapView) (seat : ℕ) (w : MapView) → Each ds views → StartsWithAll ds w → Each ds (set views seat w)
each_set ds views seat w each at_w j u e = ⊎_elim (λ (t : (j ≡ seat) × (w ≡ u)). subst (StartsWithAll ds) t.1 at_w) (λ (t : (j ≢ seat) × (get_elem? views j ≡ some u)). each j u t.1) (at_set views seat j w u e)

each_more : (ds : Batches) (views : List MapView) (w : MapView) → Each ds views → StartsWithAll ds w → Each ds (views ++ w ∷ [])
each_more ds views w each at_w j u e = ⊎_elim (each j u) (λ (is : w ≡ u). subst (StartsWithAll ds) is at_w) (at_snoc views w u j e)

pub opens : (p : Published) → IsAfter [] p → IsKept p (knowing_nothing ∷ [])
opens p after = ([], after, each_more [] [] knowing_nothing (λ seat v at. absurd (cc)) (none_known []))

pub admits : Admits IsKept knowing_nothing
admits p views k = (k.0, k.1, each_more k.0 views knowing_nothing k.2 (none_known k.0))

pub sees : (seat : ℕ) (v : MapView) → Turns IsKept seat v (λ p. p) (λ v x y w. HasSeen v y w)
sees seat v p views k at = (knowing k.0, (k.0, k.1, each_set k.0 views seat (knowing k.0) k.2 (one_known k.0)), (k.0, refl, k.1, k.2 seat v at))

pub publishes : {A : Type 0} (seat : ℕ) (v : MapView) (p next : Published) (ps : List (Arc Delta A)) (ms : List Delta) → Says ps ms → 0 < length ms → IsAfter (latest v) p → next ≡ fold with_shared p ps → TurnsAt IsKept seat v p next (λ v x y w. w ≡ knowing (latest v ++ ms ∷ []))
publishes seat v p next ps ms says filled mine is views k at =
    let front = first_known k.0 v.known (k.2 seat v at) in
    let same : k.0 ≡ latest v = whole k.0 (latest v) front.0 k.1.2 front.1 (sym k.1.1 ∙ mine.1) in
    let each : Each (latest v) views = subst (λ ds. Each ds views) same k.2 in
    let all = latest v ++ ms ∷ [] in (
      knowing all,
      (
        all,
        subst (IsAfter all) (sym is) (after_more (latest v) ms ps p says filled mine),
        each_set all views seat (knowing all) (λ j u e. still_known (latest v) (ms ∷ []) u (each j u e)) (one_known all),
      ),
      refl,
    )

pub forks : (seat : ℕ) (v : MapView) → Forks IsKept seat v v v
forks seat v p views k at = (k.0, k.1, each_more k.0 (set views seat v) v (each_set k.0 views seat v k.2 (k.2 seat v at)) (k.2 seat v at))

pub merges : (seat : ℕ) (v : MapView) (other : ℕ) (w : MapView) → Merges IsKept seat v other w (knowing_both w v) knowing_nothing
merges seat v other w p views k at apart there =
    let ds = k.0 in
    let told : StartsWithAll ds w = ⊎_elim (λ (t : (other ≡ seat) × (knowing_both w v ≡ w)). absurd (apart t.0)) (λ (t : (other ≢ seat) × (get_elem? views other ≡ some w)). k.2 other w t.1) (at_set views seat other (knowing_both w v) w there) in
    let both : StartsWithAll ds (knowing_both w v) = All-append (λ front. StartsWith ds front) w.known v.known told (k.2 seat v at) in
    (ds, k.1, each_set ds (set views seat (knowing_both w v)) other knowing_nothing (each_set ds views seat (knowing_both w v) k.2 both) (none_known ds))
