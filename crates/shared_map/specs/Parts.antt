-- Entries as chunks of them, each shared.
use Rattle.std.specs.Prelude.{◌≡◌, ◌<◌, ℕ, List, [], ◌∷◌, ◌++◌, Bool, true, false, cond, map, length}
use Rattle.std.specs.Global.{Vec}
use Rattle.std.specs.declared.cmp.Ordering.{Ordering}
use Rattle.std.specs.declared.cmp.Ordering.TheVariants.{Less, Equal, Greater}
use Rattle.std.specs.Ordering.{is_lt, is_le}
use Rattle.std.specs.Arc.{arc_value}
use Rattle.std.specs.declared.sync.Arc.{Arc}
use Rattle.std.specs.List.{AllByRecursion, flat_map}
use Rattle.std.specs.List.Sorted.{IsStrictlySortedBy}
use Rattle.std.specs.Map.{keys_of}

-- entries, each behind a count
abbrev pub seen : {K X A : Type 0} → List (Arc (K × X) A) → List (K × X)
seen es = map arc_value es

-- the key compares so to all of these
abbrev pub AllAre : {K X : Type 0} → (K → K → Ordering) → Ordering → K → List (K × X) → Type 0
AllAre cmp o k es = AllByRecursion (λ e. cmp k e.0 ≡ o) es

-- where a key is, if it was found, and else would be
abbrev pub BeginsAt : {K X : Type 0} → (K → K → Ordering) → K → Bool → List (K × X) → Type 0
BeginsAt cmp k found [] = found ≡ false
BeginsAt cmp k found (e ∷ es) = cmp k e.0 ≡ cond found Equal Less

-- whether they begin after a key
abbrev pub begins_after : {K X : Type 0} → (K → K → Ordering) → K → List (K × X) → Bool
begins_after cmp k [] = false
begins_after cmp k (e ∷ es) = is_lt (cmp k e.0)

-- whether they begin at a key or after it
abbrev pub begins_from : {K X : Type 0} → (K → K → Ordering) → K → List (K × X) → Bool
begins_from cmp k [] = false
begins_from cmp k (e ∷ es) = is_le (cmp k e.0)

-- whether the first of the chunks begins after a key; where there is none, all that follows does
abbrev pub starts_after : {K X : Type 0} → (K → K → Ordering) → K → List (List (K × X)) → Bool
starts_after cmp k [] = true
starts_after cmp k (p ∷ ps) = begins_after cmp k p

-- the entries of chunks, each behind a count
abbrev pub chunk_entries : {K X A B : Type 0} → Arc (Vec (Arc (K × X) A)) B → List (K × X)
chunk_entries c = seen (arc_value c).items

-- chunks as lists of entries
abbrev pub parts : {K X A B : Type 0} → List (Arc (Vec (Arc (K × X) A)) B) → List (List (K × X))
parts cs = map chunk_entries cs

-- the entries of all chunks
abbrev pub joined : {K X : Type 0} → List (List (K × X)) → List (K × X)
joined ps = flat_map (λ p. p) ps

-- none is empty
abbrev pub AreFilled : {K X : Type 0} → List (List (K × X)) → Type 0
AreFilled ps = AllByRecursion (λ p. 0 < length p) ps

-- the entries are in order, no chunk is empty, and there are so many
abbrev pub IsSound : {K X : Type 0} → (K → K → Ordering) → List (List (K × X)) → ℕ → Type 0
IsSound cmp ps n = IsStrictlySortedBy cmp (keys_of (joined ps)) × AreFilled ps × (n ≡ length (joined ps))

-- the entries of a front, of chunks and of a back, one after another
abbrev pub entries_left : {K X A B : Type 0} → List (Arc (K × X) A) → List (Arc (Vec (Arc (K × X) A)) B) → List (Arc (K × X) A) → List (K × X)
entries_left front cs back = seen front ++ (joined (parts cs) ++ seen back)
