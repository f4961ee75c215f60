-- What a window keeps has happened.
use Rattle.std.proofs.Common.{zero, suc, ◌≤◌, ℕ, ◌+◌, ◌-◌, List, [], ◌∷◌, ◌++◌, length, drop, Bool, true, false, cond, sym, subst, arith}
use Rattle.spec_api.specs.declared.kinds.Kind.{Kind}
use Rattle.spec_api.specs.History.{Write, writes, present}
use Rattle.spec_laws.specs.WindowLaws.{RecordedChangesArePast}
use Rattle.spec_api.specs.Windows.{Change, is_of, change_of, changes_after, changes_of, last_revision}
use Rattle.spec_laws.proofs.RecordedChanges.{pushed}

-- each revision is at most m
abbrev AreWithin : ℕ → List Change → Type 0
AreWithin m [] = Unit {0}
AreWithin m (k ∷ ks) = (k.revision ≤ m) × AreWithin m ks

one_within : (b : Bool) (x : Change) (m : ℕ) (ks : List Change) → x.revision ≤ m → AreWithin m ks → AreWithin m (cond b (x ∷ []) [] ++ ks)
one_within true x m ks l later = (l, later)
one_within false x m ks l later = later

all_within : (kind : Kind) (ws before : List Write) (m : ℕ) → length before + 1 + length ws ≤ m → AreWithin m (changes_after kind before ws)
all_within kind [] before m l = tt
all_within kind (w ∷ ws) before m l =
    let more = pushed before w in
    one_within (is_of kind w.key) (change_of before w) m (changes_after kind (before ++ w ∷ []) ws) (omega (arith, l)) (all_within kind ws (before ++ w ∷ []) m (omega (arith, more, l)))

dropped_within : (n m : ℕ) (ks : List Change) → AreWithin m ks → AreWithin m (drop n ks)
dropped_within zero m ks a = a
dropped_within (suc n) m [] a = tt
dropped_within (suc n) m (k ∷ ks) a = dropped_within n m ks a.1

last_within : (m r : ℕ) (ks : List Change) → r ≤ m → AreWithin m ks → last_revision r ks ≤ m
last_within m r [] l a = l
last_within m r (k ∷ ks) l a = last_within m k.revision ks a.0 a.1

pub kept_past : RecordedChangesArePast
kept_past s h f =
    subst (λ ks. last_revision 0 ks ≤ present h) (sym f.0)
    (last_within (present h) 0 (drop (length (changes_of s.kind h) - s.size) (changes_of s.kind h)) (omega arith)
    (dropped_within (length (changes_of s.kind h) - s.size) (present h) (changes_of s.kind h) (all_within s.kind (writes h) [] (present h) (omega arith))))
