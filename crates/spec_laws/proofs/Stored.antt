-- What is stored in all that is reached.
use Rattle.std.proofs.Common.{◌≡◌, ◌+◌, ◌-◌, ℕ, List, [], ◌∷◌, ◌++◌, length, drop, IfSome, Option, Some, None, decimal, sym, subst, arith}
use Rattle.std.proofs.lemmas.List.{take-append-drop}
use Rattle.serde_json.specs.Data.{Data}
use Rattle.spec_api.specs.History.{History, Write, write, writes, last_of, entries_at, found, present, up_to}
use Rattle.spec_api.specs.Metadata.{version}
use Rattle.spec_api.specs.Keys.{Key}
use Rattle.spec_api.specs.Reached.{IsReached}
use Rattle.spec_api.specs.Verbs.{accept, with_write, write_of}
use Rattle.spec_laws.specs.HistoryLaws.{Carry}
use Rattle.spec_laws.specs.ReachedLaws.{ReachedCarryRevisions}
use Rattle.spec_laws.specs.SentLaws.{IsKept, AreKept, ObjectsAreKept}
use Rattle.spec_api.proofs.PutLaws.{found-after_all}
use Rattle.spec_laws.proofs.Compacted.{same_writes}
use Rattle.spec_laws.proofs.EachWrite.{AllPut, last_put}
use Rattle.spec_laws.proofs.Past.{writes-append}
use Rattle.spec_laws.proofs.Reaching.{by_reached}
use Rattle.spec_laws.proofs.SentObjects.{IsStored, IsHeld}
use Rattle.spec_laws.proofs.SentVerbs.{stores}

-- these writes in order, the first at revision r
abbrev pub AreStored : ℕ → List Write → Type 0
AreStored r [] = Unit {0}
AreStored r (w ∷ ws) = IfSome w.put (IsStored w.key r) × AreStored (r + 1) ws

stored_append : (r n : ℕ) (ws : List Write) (w : Write) → n ≡ r + length ws → AreStored r ws → IfSome w.put (IsStored w.key n) → AreStored r (ws ++ w ∷ [])
stored_append r n [] w is c last =
    let here : n ≡ r = omega (arith, is) in
    (subst (λ m. IfSome w.put (IsStored w.key m)) here last, tt)
stored_append r n (v ∷ ws) w is c last = (c.0, stored_append (r + 1) n ws w (omega (arith, is)) c.1 last)

stored_write : (h : History) (o : Option Write) → IfSome o (λ w. IfSome w.put (IsStored w.key (present h + 1))) → AreStored 2 (writes h) → AreStored 2 (writes (with_write h o))
stored_write h None v c = c
stored_write h (Some w) v c = subst (AreStored 2) (sym (writes-append h (write w ∷ []))) (stored_append 2 (present h + 1) (writes h) w (omega arith) c v)

pub AreStored-split : (r : ℕ) (us ws : List Write) → AreStored r (us ++ ws) → AreStored r us × AreStored (r + length us) ws
AreStored-split r [] ws a = (tt, subst (λ n. AreStored n ws) (omega arith) a)
AreStored-split r (u ∷ us) ws a =
    let more = AreStored-split (r + 1) us ws a.1 in
    let place : r + 1 + length us ≡ r + length (u ∷ us) = omega arith in
    ((a.0, more.0), subst (λ n. AreStored n ws) place more.1)

pub AreStored-up_to : (h : History) (r : ℕ) → AreStored 2 (writes h) → AreStored 2 (up_to r h)
AreStored-up_to h r a = (AreStored-split 2 (up_to r h) (drop (r - 1) (writes h)) (subst (AreStored 2) (sym (take-append-drop (r - 1) (writes h))) a)).0

some_held : (k : Key) (r : ℕ) (o : Option Data) → IfSome o (IsStored k r) → IfSome o (IsHeld k)
some_held k r None a = tt
some_held k r (Some d) a = (r, a)

pub held_puts : (r : ℕ) (ws : List Write) → AreStored r ws → AllPut IsHeld ws
held_puts r [] a = tt
held_puts r (w ∷ ws) a = (some_held w.key r w.put a.0, held_puts (r + 1) ws a.1)

-- what is under a name is stored so
pub last_held : (k : Key) (r : ℕ) (ws : List Write) (before : Option Data) → IfSome before (IsHeld k) → AreStored r ws → IfSome (last_of before k ws) (IsHeld k)
last_held k r ws before h a = last_put IsHeld k ws before h (held_puts r ws a)

pub found_held : (h : History) (r : ℕ) (k : Key) → AreStored 2 (writes h) → IfSome (found k (entries_at h r)) (IsHeld k)
found_held h r k a = subst (λ o. IfSome o (IsHeld k)) (sym (found-after_all k [] (up_to r h) tt)) (last_held k 2 (up_to r h) None tt (AreStored-up_to h r a))

pub all_stored : (h : History) → IsReached h → AreStored 2 (writes h)
all_stored h reached =
    by_reached (λ h. AreStored 2 (writes h)) (λ q h moment well filled a. stored_write h (write_of (accept q h moment)) (stores q h moment well filled (λ k. found_held h (present h) k a)) a)
    (same_writes (AreStored 2)) h reached tt

one_kept : (k : Key) (r : ℕ) (o : Option Data) → IfSome o (IsStored k r) → IfSome o (IsKept k r)
one_kept k r None a = tt
one_kept k r (Some d) a = a.kept

all_kept : (r : ℕ) (ws : List Write) → AreStored r ws → AreKept r ws
all_kept r [] a = tt
all_kept r (w ∷ ws) a = (one_kept w.key r w.put a.0, all_kept (r + 1) ws a.1)

pub all_are_kept : ObjectsAreKept
all_are_kept h reached = all_kept 2 (writes h) (all_stored h reached)

-- ---- revisions

one_carries : (k : Key) (r : ℕ) (o : Option Data) → IfSome o (IsKept k r) → IfSome o (λ d. version d ≡ Some (decimal r))
one_carries k r None a = tt
one_carries k r (Some d) a = a.version

all_carry : (r : ℕ) (ws : List Write) → AreKept r ws → Carry r ws
all_carry r [] a = tt
all_carry r (w ∷ ws) a = (one_carries w.key r w.put a.0, all_carry (r + 1) ws a.1)

pub revisions_carried : ReachedCarryRevisions
revisions_carried h reached = all_carry 2 (writes h) (all_are_kept h reached)
