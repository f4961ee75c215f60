-- What the server lists, and finds under a key, stands as it was stored.
use Rattle.std.proofs.Common.{◌≡◌, ◌<◌, ◌≤◌, ◌+◌, ◌-◌, ◌^◌, ℕ, suc, List, [], ◌∷◌, length, Bool, true, false, cond, Option, Some, None, IfSome, Ordering, Less, Equal, Greater, refl, arith, length-take}
use Rattle.std.specs.BTreeMap.{insert_entry, is_at}
use Rattle.std.specs.Map.{remove_entry}
use Rattle.std.specs.Ordering.{match_ordering}
use Rattle.serde_json.specs.Data.{Data}
use Rattle.spec_api.specs.declared.kinds.Kind.{Kind}
use Rattle.spec_api.specs.History.{History, Write, Entries, writes, present, state, up_to, after_all, put_or_remove, entries_at, in_view, list}
use Rattle.spec_api.specs.Keys.{Key, key_cmp}
use Rattle.spec_api.specs.Reached.{IsReached, IsParsed}
use Rattle.spec_laws.specs.SentLaws.{whole}
use Rattle.spec_laws.proofs.EachWrite.{AllPut, listed_put}
use Rattle.spec_laws.proofs.Limited.{limited}
use Rattle.spec_laws.proofs.ParsedEdits.{IsParsedAt, all_put, stored_parsed}
use Rattle.spec_laws.proofs.ValidNames.{IsValidAt, all_valid}
use Rattle.spec_laws.specs.AskedLaws.{IsStoredAs, AreStored}
use Rattle.spec_laws.proofs.AskedReplicaSets.{fewer}

-- ---- what is written

put_both : (k : Key) (o : Option Data) → IfSome o (IsParsedAt k) → IfSome o (IsValidAt k) → IfSome o (IsStoredAs k)
put_both k None a b = tt
put_both k (Some d) a b = (a, b.0, b.1)

each_both : (ws : List Write) → AllPut IsParsedAt ws → AllPut IsValidAt ws → AllPut IsStoredAs ws
each_both [] a b = tt
each_both (w ∷ ws) a b = (put_both w.key w.put a.0 b.0, each_both ws a.1 b.1)

pub listed_stored : (h : History) (k : Kind) (r : ℕ) → IsReached h → AreStored (list h (whole k) r)
listed_stored h k r reached = listed_put IsStoredAs h (whole k) r (each_both (writes h) (all_put h reached) (all_valid h reached))

pub found_parsed : (h : History) (k : Key) → IsReached h → IfSome (state h (present h) k) IsParsed
found_parsed h k reached = by (state h (present h) k) refl
  where
    by : (o : Option Data) → state h (present h) k ≡ o → IfSome o IsParsed
    by None e = tt
    by (Some d) e = stored_parsed h (present h) k d reached e

-- ---- how many there are

one_more : (k : Key) (d : Data) (ms : Entries) → length (insert_entry key_cmp ms k d) ≤ length ms + 1
one_more k d [] = omega arith
one_more k d (m ∷ ms) = by (key_cmp k m.0) (one_more k d ms)
  where
    by : (r : Ordering) → length (insert_entry key_cmp ms k d) ≤ length ms + 1
        → length (match_ordering r ((k, d) ∷ m ∷ ms) ((m.0, d) ∷ ms) (m ∷ insert_entry key_cmp ms k d)) ≤ suc (length ms) + 1
    by Less le = omega arith
    by Equal le = omega arith
    by Greater le = omega arith

no_more : (k : Key) (ms : Entries) → length (remove_entry (is_at (key_cmp k)) ms) ≤ length ms
no_more k [] = omega arith
no_more k (m ∷ ms) = by (is_at (key_cmp k) m.0) (no_more k ms)
  where
    by : (b : Bool) → length (remove_entry (is_at (key_cmp k)) ms) ≤ length ms → length (cond b ms (m ∷ remove_entry (is_at (key_cmp k)) ms)) ≤ suc (length ms)
    by true le = omega arith
    by false le = omega arith

at_most_one : (k : Key) (o : Option Data) (ms : Entries) → length (put_or_remove ms k o) ≤ length ms + 1
at_most_one k None ms = let le = no_more k ms in omega arith
at_most_one k (Some d) ms = one_more k d ms

no_more_than : (ws : List Write) (ms : Entries) → length (after_all ms ws) ≤ length ms + length ws
no_more_than [] ms = omega arith
no_more_than (w ∷ ws) ms = let rest = no_more_than ws (put_or_remove ms w.key w.put) in let one = at_most_one w.key w.put ms in omega arith

pub listed_few : (h : History) (k : Kind) (r : ℕ) → IsReached h → length (list h (whole k) r) < 2 ^ 64
listed_few h k r reached =
    let fits = (limited h reached).1 in
    let all : length (entries_at h r) ≤ length (up_to r h) = let le = no_more_than (up_to r h) [] in omega arith in
    let some : length (up_to r h) ≤ length (writes h) = let is = length-take (r - 1) (writes h) in omega arith in
    let viewed : length (list h (whole k) r) ≤ length (entries_at h r) = fewer (λ (m : Key × Data). in_view (whole k) m.0 m.1) (entries_at h r) in omega arith
