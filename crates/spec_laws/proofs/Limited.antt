-- Limits of all that is reached.
use Rattle.std.proofs.Common.{◌≤◌, ◌+◌, ℕ, [], ◌∷◌, ◌++◌, length, false, IfSome, Option, Some, None, ◌≡◌, sym, subst, arith}
use Rattle.spec_api.specs.History.{History, Write, write, compaction, entries_at, present}
use Rattle.spec_laws.specs.Happening.{Follows, CanHappen}
use Rattle.spec_api.specs.Verbs.{accept, with_write, write_of, overflows}
use Rattle.spec_laws.proofs.Compacted.{snapshot-compaction, follows_compaction}
use Rattle.spec_laws.proofs.Limits.{Within, within-write, room}
use Rattle.spec_laws.specs.ReachedLaws.{ReachedCanHappen, ReachedStayWithinLimits}
use Rattle.spec_laws.proofs.Reaching.{by_reached}

each_outcome : (h : History) (o : Option Write) → IfSome o (λ w. overflows (entries_at h (present h)) (present h) w ≡ false) → Within h → Within (with_write h o)
each_outcome h None r w = w
each_outcome h (Some v) r w = within-write h v r w

follows-write : (r : ℕ) (h : History) (w : Write) → Follows r h → Follows r (h ++ write w ∷ [])
follows-write r [] w f = tt
follows-write r (write v ∷ h) w f = follows-write (r + 1) h w f
follows-write r (compaction c ∷ h) w f = (f.0, follows-write r h w f.1)

follows-outcome : (h : History) (o : Option Write) → CanHappen h → CanHappen (with_write h o)
follows-outcome h None f = f
follows-outcome h (Some w) f = follows-write 1 h w f

pub limited : ReachedStayWithinLimits
limited h reached =
    by_reached Within (λ q h moment a t w. each_outcome h (write_of (accept q h moment)) (room q (entries_at h (present h)) (present h) moment) w)
    (λ h r le w. subst (λ z. (length z.members ≤ 262144) × (z.revision ≤ 9007199254740991)) (sym (snapshot-compaction h r)) w) h reached (omega arith, omega arith)

pub happens : ReachedCanHappen
happens h reached =
    by_reached CanHappen (λ q h moment a t f. follows-outcome h (write_of (accept q h moment)) f) (λ h r le f. follows_compaction 1 (present h) r h (omega arith) le f) h reached tt
