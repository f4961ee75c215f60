-- Servers that go on holding a history.
use Rattle.std.proofs.Common.{◌≡◌, ◌≤◌, ℕ, ◌+◌, ◌-◌, List, [], ◌∷◌, ◌++◌, length, Bool, true, false, cond, Option, Some, None, refl, sym, ap, ap₂, ◌∙◌, subst, arith, length-append, append-nil, append_assoc}
use Rattle.std.specs.Prelude.{nat_lt, ◌==◌, Ok, Err}
use Rattle.std.proofs.lemmas.Bool.{ltb-false}
use Rattle.serde_json.specs.Data.{Data}
use Rattle.spec_api.specs.declared.kinds.Kind.{Kind}
use Rattle.spec_api.specs.Kinds.{rank}
use Rattle.spec_api.specs.History.{History, Write, write, compaction, Entries, writes, present, entries_at, found, after, after_all}
use Rattle.spec_laws.specs.Happening.{CanHappen}
use Rattle.spec_api.specs.Refusals.{too_new}
use Rattle.spec_api.specs.Verbs.{accept_at, accept, write_of, with_write}
use Rattle.spec_server.specs.Snapshots.{Snapshot, snapshot, written}
use Rattle.spec_api.specs.Windows.{Change, is_of, change_of}
use Rattle.spec_server.specs.Recorded.{Window, recorded}
use Rattle.spec_server.specs.Servers.{Server, window_of, with_window, change_at, after_write, after_writing, after_compaction, after_entries, IsWindow, IsServerAfter}
use Rattle.spec_laws.specs.ServerLaws.{ServersOpen, ServersWrite, ServersFollow, HoldOrRefuse, ServersCompact, CompactionsHappen, ServersAccept}
use Rattle.spec_laws.proofs.Compacted.{snapshot-compaction, follows_compaction}
use Rattle.spec_laws.proofs.Past.{writes-append, whole}
use Rattle.spec_api.proofs.PutLaws.{found-after_all}
use Rattle.spec_laws.proofs.SentChanges.{same_kind}
use Rattle.spec_laws.proofs.FollowedWindows.{follows_new, follows_recorded, follows_still, follows_compacted}

-- ---- what is there now

members_now : (h : History) → entries_at h (present h) ≡ after_all [] (writes h)
members_now h = ap (after_all []) (whole (present h - 1) (writes h) (omega arith))

abbrev snapshot_with : Entries → ℕ → Snapshot
snapshot_with ms r = record { members = ms; revision = r }

after_all-last : (ms : Entries) (ws : List Write) (w : Write) → after_all ms (ws ++ w ∷ []) ≡ after (after_all ms ws) w
after_all-last ms [] w = refl
after_all-last ms (u ∷ ws) w = after_all-last (after ms u) ws w

snapshot_written : (h : History) (w : Write) → written (snapshot h) w ≡ snapshot (h ++ write w ∷ [])
snapshot_written h w =
    let all = writes-append h (write w ∷ []) in
    ap₂ snapshot_with
    (ap (λ ms. after ms w) (members_now h) ∙ sym (after_all-last [] (writes h) w) ∙ ap (after_all []) (sym all) ∙ sym (members_now (h ++ write w ∷ [])))
    (ap (λ n. n + 1) (sym (length-append (writes h) (w ∷ []))) ∙ ap (λ ws. length ws + 1) (sym all))

abbrev kept_with : Write → ℕ → Option Data → Change
kept_with w r o = record { revision = r; key = w.key; old = o; new = w.put }

kept_now : (h : History) (w : Write) → change_of (writes h) w ≡ change_at (snapshot h) w
kept_now h w =
    ap₂ (kept_with w) (omega arith)
    (sym (found-after_all w.key [] (writes h) tt) ∙ ap (found w.key) (sym (members_now h)))

-- ---- the window of a kind

itself : (n : ℕ) → (n == n) ≡ true
itself n = grind arith

window_set : (k : Kind) (x : Window) (s : Server) → window_of k (with_window k x s) ≡ x
window_set k x s = ap (λ b. cond b x (window_of k s)) (itself (rank k))

window_left : (k j : Kind) (x : Window) (s : Server) → (rank k == rank j) ≡ false → window_of k (with_window j x s) ≡ window_of k s
window_left k j x s apart = ap (λ b. cond b x (window_of k s)) apart

-- ---- servers

pub opened_holds : ServersOpen
opened_holds size = (refl, λ k. (refl, refl, follows_new k size))

recorded_is : (b : Bool) (size : ℕ) (s : Server) (h : History) (w : Write) (k : Kind) → IsServerAfter size s h → is_of k w.key ≡ b → IsWindow size k (h ++ write w ∷ []) (window_of k (after_write s w))
recorded_is true size s h w k is of =
    let same : k ≡ w.key.kind = same_kind k w.key.kind (rw of refl) in
    let existing = is.1 k in
    let after : window_of k (after_write s w) ≡ recorded (window_of k s) (change_of (writes h) w) =
    ap (λ j. window_of k (with_window j (recorded (window_of j s) (change_at s.snapshot w)) (record s { snapshot = written s.snapshot w }))) (sym same)
    ∙ window_set k (recorded (window_of k s) (change_at s.snapshot w)) (record s { snapshot = written s.snapshot w })
    ∙ ap (recorded (window_of k s)) (ap (λ z. change_at z w) is.0 ∙ sym (kept_now h w)) in
    subst (IsWindow size k (h ++ write w ∷ [])) (sym after)
    (existing.0, existing.1, follows_recorded (window_of k s) h w existing.2 (ap (λ j. is_of j w.key) existing.0 ∙ of))
recorded_is false size s h w k is of =
    let existing = is.1 k in
    let after : window_of k (after_write s w) ≡ window_of k s =
    window_left k w.key.kind (recorded (window_of w.key.kind s) (change_at s.snapshot w)) (record s { snapshot = written s.snapshot w }) of in
    subst (IsWindow size k (h ++ write w ∷ [])) (sym after) (existing.0, existing.1, follows_still (window_of k s) h w existing.2 (ap (λ j. is_of j w.key) existing.0 ∙ of))

pub written_holds : ServersWrite
written_holds size s h w is = (
  ap (λ z. written z w) is.0 ∙ snapshot_written h w,
  λ k. recorded_is (is_of k w.key) size s h w k is refl,
)

compacted_holds : (size : ℕ) (s : Server) (h : History) (r : ℕ) → IsServerAfter size s h → IsServerAfter size (after_compaction s r) (h ++ compaction r ∷ [])
compacted_holds size s h r is =
    (is.0 ∙ sym (snapshot-compaction h r), λ k. ((is.1 k).0, (is.1 k).1, follows_compacted (window_of k s) h r (is.1 k).2))

pub entries_hold : ServersFollow
entries_hold size s h [] is = subst (IsServerAfter size s) (sym (append-nil h)) is
entries_hold size s h (write w ∷ more) is =
    subst (IsServerAfter size (after_entries (after_write s w) more)) (append_assoc h (write w ∷ []) more) (entries_hold size (after_write s w) (h ++ write w ∷ []) more (written_holds size s h w is))
entries_hold size s h (compaction r ∷ more) is =
    subst (IsServerAfter size (after_entries (after_compaction s r) more)) (append_assoc h (compaction r ∷ []) more)
    (entries_hold size (after_compaction s r) (h ++ compaction r ∷ []) more (compacted_holds size s h r is))

hold_or_refuse : (b : Bool) (size now r : ℕ) (s : Server) (h : History) → IsServerAfter size s h
    → HoldOrRefuse size (cond b (Err (too_new r now)) (Ok s)) (cond b (Err (too_new r now)) (Ok h))
hold_or_refuse true size now r s h is = refl
hold_or_refuse false size now r s h is = is

pub compaction_holds : ServersCompact
compaction_holds size s h r is =
    subst (λ now. HoldOrRefuse size (cond (nat_lt now r) (Err (too_new r now)) (Ok (after_compaction s r))) (cond (nat_lt (present h) r) (Err (too_new r (present h))) (Ok (h ++ compaction r ∷ []))))
    (sym (ap (λ z. z.revision) is.0)) (hold_or_refuse (nat_lt (present h) r) size (present h) r (after_compaction s r) (h ++ compaction r ∷ []) (compacted_holds size s h r is))

happens_at : (b : Bool) (now r : ℕ) (h more : History) → nat_lt now r ≡ b → cond b (Err (too_new r now)) (Ok h) ≡ Ok more → (r ≤ now → CanHappen h) → CanHappen more
happens_at true now r h more m is f = cc
happens_at false now r h more m is f = let same : h ≡ more = cc in subst CanHappen same (f (ltb-false now r m))

pub compaction_happens : CompactionsHappen
compaction_happens h more r is f =
    happens_at (nat_lt (present h) r) (present h) r (h ++ compaction r ∷ []) more refl is (λ le. follows_compaction 1 (present h) r h (omega arith) le f)

-- ---- requests

writing_holds : (o : Option Write) (size : ℕ) (s : Server) (h : History) → IsServerAfter size s h → IsServerAfter size (after_writing s o) (with_write h o)
writing_holds None size s h is = is
writing_holds (Some w) size s h is = written_holds size s h w is

pub accepted_holds : ServersAccept
accepted_holds size s h q moment is = (ap (λ z. accept_at q z.members z.revision moment) is.0, writing_holds (write_of (accept q h moment)) size s h is)
