-- Servers whose windows take in changes, and what is always true of them.
use Rattle.std.proofs.Common.{◌≡◌, ◌≤◌, ℕ, zero, suc, List, [], ◌∷◌, ◌++◌, length, drop, Less, ◌+◌, ◌-◌, ◌==◌, Bool, true, false, cond, refl, sym, ◌∙◌, subst, arith}
use Rattle.std.specs.List.{AllByRecursion}
use Rattle.std.specs.List.Sorted.{IsStrictlySortedBy}
use Rattle.std.specs.Map.{keys_of}
use Rattle.spec_api.specs.declared.kinds.Kind.{Kind}
use Rattle.spec_api.specs.Kinds.{rank}
use Rattle.spec_api.specs.Keys.{Key, key_cmp}
use Rattle.spec_api.specs.History.{Entries, Write, after}
use Rattle.spec_server.specs.Servers.{Server, opened_server, window_of, with_window, change_at, after_write}
use Rattle.spec_server.specs.Snapshots.{Snapshot, empty, written}
use Rattle.spec_api.specs.Windows.{Change, last_revision}
use Rattle.spec_server.specs.Recorded.{Window, opened, recorded, compacted_to}
use Rattle.spec_api.proofs.KindOrder.{rank_tells}
use Rattle.spec_api.proofs.PutLaws.{IsAbove, IsAscending, IsAscending-after, sorted_from}
use Rattle.server.specs.Standing.{IsUpTo, IsStanding}

-- ---- members in order

above_from : (k : Key) (ms : Entries) → AllByRecursion (λ y. key_cmp k y ≡ Less) (keys_of ms) → IsAbove key_cmp k ms
above_from k [] a = tt
above_from k (m ∷ ms) a = (a.0, above_from k ms a.1)

pub ascending_from : (ms : Entries) → IsStrictlySortedBy key_cmp (keys_of ms) → IsAscending key_cmp ms
unfolding IsStrictlySortedBy
ascending_from [] s = tt
ascending_from (m ∷ ms) s = (above_from m.0 ms s.0, ascending_from ms s.1)

in_order_after : (ms : Entries) (w : Write) → IsStrictlySortedBy key_cmp (keys_of ms) → IsStrictlySortedBy key_cmp (keys_of (after ms w))
in_order_after ms w s = sorted_from (after ms w) (IsAscending-after w.key w.put ms (ascending_from ms s))

-- ---- the last revision of a window

last_added : (r : ℕ) (ks : List Change) (k : Change) → last_revision r (ks ++ k ∷ []) ≡ k.revision
last_added r [] k = refl
last_added r (x ∷ ks) k = last_added x.revision ks k

of_none : (d r : ℕ) → last_revision r (drop d []) ≡ r
of_none zero r = refl
of_none (suc d) r = refl

last_kept : (d r : ℕ) (ks : List Change) (k : Change) → r ≤ k.revision → last_revision r (drop d (ks ++ k ∷ [])) ≤ k.revision
last_kept zero r ks k le = omega (arith, last_added r ks k)
last_kept (suc d) r [] k le = omega (arith, of_none d r, le)
last_kept (suc d) r (x ∷ ks) k le = last_kept d r ks k le

up_to_recorded : (k : Kind) (w new : Window) (e : Change) (r : ℕ) → new ≡ recorded w e → e.revision ≤ r → IsUpTo r k w → IsUpTo r k new
up_to_recorded k w new e r at le is =
    let last : last_revision 0 (recorded w e).kept ≤ e.revision = last_kept (length (w.kept ++ e ∷ []) - w.size) 0 w.kept e (omega arith) in
    subst (λ z. IsUpTo r k z) (sym at) (is.0, omega (arith, last, le))

up_to_next : (r : ℕ) (k : Kind) (w : Window) → IsUpTo r k w → IsUpTo (r + 1) k w
up_to_next r k w is = (is.0, omega (arith, is.1))

-- ---- servers

pub last_of_window : (k : Kind) (s : Server) → IsStanding s → last_revision 0 (window_of k s).kept ≤ s.snapshot.revision
last_of_window k s is = (is.up_to k).1

pub stands_new : (size : ℕ) (n : Snapshot) (f : Kind → Window) → n ≡ empty → f ≡ (λ k. opened k size) → IsStanding (record { snapshot = n; windows = f })
unfolding IsStrictlySortedBy
stands_new size n f e p =
    let first : IsStanding (opened_server size) = record { in_order = tt; up_to = λ k. (refl, omega arith) } in
    let same : record { snapshot = n; windows = f } ≡ opened_server size = λ i. record { snapshot = e i; windows = p i } in
    subst (λ z. IsStanding z) (sym same) first

module _ (n : Snapshot) (f : Kind → Window) (is : IsStanding (record { snapshot = n; windows = f })) where
  -- a store that takes the next write keeps the windows up to it
  pub stands_written : (m : Snapshot) (w : Write) → m ≡ written n w → IsStanding (record { snapshot = m; windows = f })
  stands_written m w at =
      subst (λ z. IsStanding (record { snapshot = z; windows = f })) (sym at)
      (record { in_order = in_order_after n.members w is.in_order; up_to = λ k. up_to_next n.revision k (f k) (is.up_to k) })

  same_rank : (a b : ℕ) → (a == b) ≡ true → a ≡ b
  same_rank a b h = grind arith

  -- a window that takes in a change up to the present revision is up to it
  pub stands_recorded : (g : Kind → Window) (k : Kind) (e : Change) → g ≡ (λ j. cond (rank j == rank k) (recorded (f k) e) (f j)) → e.revision ≤ n.revision → IsStanding (record { snapshot = n; windows = g })
  stands_recorded g k e at le =
      subst (λ g. IsStanding (record { snapshot = n; windows = g })) (sym at)
      (record { in_order = is.in_order; up_to = λ j. by j (rank j == rank k) refl })
    where
      by : (j : Kind) (b : Bool) → (rank j == rank k) ≡ b → IsUpTo n.revision j (cond b (recorded (f k) e) (f j))
      by j true same =
          let one : k ≡ j = sym (rank_tells j k (same_rank (rank j) (rank k) same)) in
          up_to_recorded j (f k) (recorded (f k) e) e n.revision refl le (subst (λ i. IsUpTo n.revision i (f k)) one (is.up_to k))
      by j false other = is.up_to j

  -- a compaction leaves the recorded changes
  pub stands_compacted : (g : Kind → Window) (r : ℕ) → g ≡ (λ k. compacted_to (f k) r) → IsStanding (record { snapshot = n; windows = g })
  stands_compacted g r at =
      subst (λ g. IsStanding (record { snapshot = n; windows = g })) (sym at) (record { in_order = is.in_order; up_to = λ k. is.up_to k })

-- a write to the store, and then its change to the window of its kind
pub taken : (s t new : Server) (w : Write) (e : Change) → t ≡ record s { snapshot = written s.snapshot w } → e ≡ change_at s.snapshot w → new ≡ with_window e.key.kind (recorded (window_of e.key.kind t) e) t
    → new ≡ after_write s w
taken s t new w e is kept at = at ∙ (λ i. with_window (kept i).key.kind (recorded (window_of (kept i).key.kind (is i)) (kept i)) (is i))
