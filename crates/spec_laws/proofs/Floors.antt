-- How far back a window answers, by how many writes are above a revision.
use Rattle.std.proofs.Common.{zero, suc, ◌≡◌, ◌≤◌, ℕ, ◌+◌, ◌-◌, List, [], ◌∷◌, length, take, drop, Bool, true, false, cond, refl, ap, arith, length-drop}
use Rattle.std.specs.Prelude.{nat_lt}
use Rattle.std.proofs.lemmas.Bool.{ltb-true, ltb-false, lt-ltb}
use Rattle.spec_laws.specs.FloorLaws.{NonePassed, IsRemembered, RememberedAreServed}
use Rattle.spec_api.specs.History.{History, write, compaction, View, writes, present}
use Rattle.spec_api.specs.Windows.{Change, changes_of, all_but, last_revision, IsRising, compacted, floor}
use Rattle.spec_server.specs.Recorded.{above}
use Rattle.spec_laws.proofs.RecordedChanges.{rising, rising_least, rising_take, above_dropped}
use Rattle.spec_laws.proofs.ServedWindows.{revisions_served}

-- ---- compactions

none_passed : (h : History) (r : ℕ) → compacted h ≤ r → NonePassed r h
none_passed [] r l = tt
none_passed (write w ∷ h) r l = none_passed h r l
none_passed (compaction c ∷ h) r l = (omega (arith, l), none_passed h r (omega (arith, l)))

least_compacted : (h : History) (r : ℕ) → NonePassed r h → compacted h ≤ r
least_compacted [] r n = omega arith
least_compacted (write w ∷ h) r n = least_compacted h r n
least_compacted (compaction c ∷ h) r n = let first = n.0 in let rest = least_compacted h r n.1 in omega (arith, first, rest)

-- ---- writes above a revision

one_counted : (b : Bool) (k : Change) (xs ks : List Change) → length xs ≤ length ks → length (cond b (k ∷ xs) xs) ≤ length (k ∷ ks)
one_counted true k xs ks l = omega (arith, l)
one_counted false k xs ks l = omega (arith, l)

no_more_above : (r : ℕ) (ks : List Change) → length (above r ks) ≤ length ks
no_more_above r [] = omega arith
no_more_above r (k ∷ ks) = one_counted (nat_lt r k.revision) k (above r ks) ks (no_more_above r ks)

few_above : (n r : ℕ) (ks : List Change) → IsRising 1 ks → last_revision 1 (take n ks) ≤ r → length (above r ks) ≤ length ks - n
few_above n r ks s l =
    let same = ap length (above_dropped n r ks s l) in
    let few = no_more_above r (drop n ks) in
    let left = length-drop n ks in omega (arith, same, few, left)

all_above : (r lo : ℕ) (ks : List Change) → IsRising lo ks → r ≤ lo → length (above r ks) ≡ length ks
all_above r lo [] s l = refl
all_above r lo (k ∷ ks) s l =
    let first = s.0 in
    rw (lt-ltb r k.revision (omega (arith, first, l))) (ap suc (all_above r k.revision ks s.1 (omega (arith, first, l))))

above_first : (b : Bool) (n r lo : ℕ) (k : Change) (ks : List Change) → nat_lt r k.revision ≡ b → IsRising lo (k ∷ ks) → length (above r (k ∷ ks)) + suc n ≤ suc (length ks)
    → (k.revision ≤ r) × (length (above r ks) + n ≤ length ks)
above_first true n r lo k ks is s l =
    let below = ltb-true r k.revision is in
    let all = all_above r k.revision ks s.1 (omega (arith, below)) in
    let many : length (above r (k ∷ ks)) ≡ suc (length (above r ks)) = rw is refl in
    absurd (omega (arith, all, many, l))
above_first false n r lo k ks is s l =
    let same : length (above r (k ∷ ks)) ≡ length (above r ks) = rw is refl in
    (ltb-false r k.revision is, omega (arith, same, l))

-- where there is room for all that is above r, what there is no room for is not above r
low_enough : (n r lo : ℕ) (ks : List Change) → IsRising lo ks → lo ≤ r → length (above r ks) + n ≤ length ks → last_revision lo (take n ks) ≤ r
low_enough zero r lo ks s l room = l
low_enough (suc n) r lo [] s l room = l
low_enough (suc n) r lo (k ∷ ks) s l room =
    let first = above_first (nat_lt r k.revision) n r lo k ks refl s room in
    low_enough n r k.revision ks s.1 first.0 first.1

-- ---- the floor

module _ (size : ℕ) (h : History) (v : View) (r : ℕ) where
  rises : IsRising 1 (changes_of v.kind h)
  rises = rising v.kind (writes h) [] 1 (omega arith)

  is_remembered : (floor v.kind size h ≤ r) × (r ≤ present h) → IsRemembered size h v r
  is_remembered p =
      let ks = changes_of v.kind h in
      let low = p.0 in
      let least = rising_least 1 (all_but size ks) (rising_take (length ks - size) 1 ks rises) in
      let kept : last_revision 1 (take (length ks - size) ks) ≤ r = omega (arith, low) in
      let few = few_above (length ks - size) r ks rises kept in
      record {
        is_one = omega (arith, low, least);
        has_happened = p.1;
        is_compacted_no_further = none_passed h r (omega (arith, low));
        has_room = omega (arith, few);
      }

  is_reached : IsRemembered size h v r → (floor v.kind size h ≤ r) × (r ≤ present h)
  is_reached m =
      let ks = changes_of v.kind h in
      let room = m.has_room in
      let most = no_more_above r ks in
      let kept = low_enough (length ks - size) r 1 ks rises m.is_one (omega (arith, room, most)) in
      let passed = least_compacted h r m.is_compacted_no_further in
      (omega (arith, kept, passed), m.has_happened)

pub remembered_served : RememberedAreServed
remembered_served size h v r n =
    let served = revisions_served size h v r n in (
      (λ ok. is_remembered size h v r (served.0.0 ok), λ m. served.0.1 (is_reached size h v r m)),
      (λ ok. is_remembered size h v r (served.1.0 ok), λ m. served.1.1 (is_reached size h v r m)),
    )
