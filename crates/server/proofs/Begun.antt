-- What the initial events that are given, or refused, say of all that is answered up to the present revision.
use Rattle.std.proofs.Common.{◌≡◌, ◌⊎◌, inl, inr, ℕ, Bool, true, false, Ok, Err, refl, ap}
use Rattle.std.specs.Prelude.{nat_lt}
use Rattle.spec_api.specs.History.{Entries}
use Rattle.spec_api.specs.Versions.{once_present}
use Rattle.spec_api.specs.WatchReplies.{initial_at}
use Rattle.object_keys.specs.Faults.{refusal_of}
use Rattle.object_keys.specs.declared.fault.Fault.{Fault}
use Rattle.object_keys.specs.declared.fault.Fault.TheVariants as fault
use Rattle.watch_cache.specs.Served.{Serves}
use Rattle.server.specs.Initials.{initial_of}
use Rattle.server.specs.declared.initials.InitialEvents.{InitialEvents}

served_at : {X : Type 0} (b : Bool) (now r : ℕ) (ms : Entries) (i : InitialEvents) (x : X) → nat_lt now r ≡ b → Serves initial_of (once_present now r (initial_at now ms)) (Ok i) → once_present now r x ≡ Ok x
served_at true now r ms i x m is = let none = rw m at is in absurd none
served_at false now r ms i x m is = rw m refl

-- where they are given, all is served
pub served_once : {X : Type 0} (now r : ℕ) (ms : Entries) (i : InitialEvents) (x : X) → Serves initial_of (once_present now r (initial_at now ms)) (Ok i) → once_present now r x ≡ Ok x
served_once now r ms i x is = served_at (nat_lt now r) now r ms i x refl is

refused_at : {X : Type 0} (b : Bool) (now r : ℕ) (ms : Entries) (e : Fault) (x : X) → nat_lt now r ≡ b → Serves initial_of (once_present now r (initial_at now ms)) (Err e)
    → (once_present now r x ≡ Err (refusal_of e)) ⊎ (e ≡ fault.NoMemory)
refused_at true now r ms e x m is = let above = rw m at is in inl (rw m (ap (λ f. Err f) above))
refused_at false now r ms e x m is = let none = rw m at is in inr none

-- where they are refused, all is refused so, or memory is wanting
pub refused_once : {X : Type 0} (now r : ℕ) (ms : Entries) (e : Fault) (x : X) → Serves initial_of (once_present now r (initial_at now ms)) (Err e)
    → (once_present now r x ≡ Err (refusal_of e)) ⊎ (e ≡ fault.NoMemory)
refused_once now r ms e x is = refused_at (nat_lt now r) now r ms e x refl is
