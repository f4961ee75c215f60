-- What a compaction leaves as it is.
use Rattle.std.proofs.Common.{◌≡◌, ◌≤◌, ℕ, ◌+◌, ◌-◌, List, [], ◌∷◌, ◌++◌, length, take, sym, ◌∙◌, subst, arith, append-nil}
use Rattle.spec_api.specs.History.{History, Write, write, compaction, writes, present, after_all}
use Rattle.spec_laws.specs.Happening.{Follows}
use Rattle.spec_server.specs.Snapshots.{snapshot}
use Rattle.spec_laws.proofs.Past.{writes-append}

pub writes-compaction : (h : History) (r : ℕ) → writes (h ++ compaction r ∷ []) ≡ writes h
writes-compaction h r = writes-append h (compaction r ∷ []) ∙ append-nil (writes h)

pub snapshot-writes : (g h : History) → writes g ≡ writes h → snapshot g ≡ snapshot h
snapshot-writes g h same = λ i. record { members = after_all [] (take (length (same i) + 1 - 1) (same i)); revision = length (same i) + 1 }

pub snapshot-compaction : (h : History) (r : ℕ) → snapshot (h ++ compaction r ∷ []) ≡ snapshot h
snapshot-compaction h r = snapshot-writes (h ++ compaction r ∷ []) h (writes-compaction h r)

-- a property of the writes, and of nothing else, is preserved by every compaction
pub same_writes : (P : List Write → Type 0) (h : History) (r : ℕ) → r ≤ present h → P (writes h) → P (writes (h ++ compaction r ∷ []))
same_writes P h r le p = subst P (sym (writes-compaction h r)) p

pub follows_compaction : (r n c : ℕ) (h : History) → n ≡ r + length (writes h) → c ≤ n → Follows r h → Follows r (h ++ compaction c ∷ [])
follows_compaction r n c [] is le f = (omega (arith, is, le), tt)
follows_compaction r n c (write w ∷ h) is le f = follows_compaction (r + 1) n c h (omega (arith, is)) le f
follows_compaction r n c (compaction d ∷ h) is le f = (f.0, follows_compaction r n c h is le f.1)
