-- The last of events.
use Rattle.std.proofs.Common.{◌≡◌, ◌-◌, ℕ, suc, List, [], ◌∷◌, length, map, Some, ap, ◌∙◌, arith}
use Rattle.std.specs.Prelude.{slice_get}
use Rattle.spec_api.specs.Versions.{last_change}
use Rattle.revisions.specs.Events.{event_seen}
use Rattle.meta.specs.declared.event.Event.{Event}

last_at : (a : ℕ) (x : Event) (es : List Event) (e : Event) → slice_get (x ∷ es) (length es) ≡ Some e → last_change a (map event_seen (x ∷ es)) ≡ e.revision
last_at a x [] e is = cc
last_at a x (y ∷ es) e is = last_at x.revision y es e is

-- the revision of the last event
pub last_event : (a : ℕ) (es : List Event) (e : Event) → slice_get es (length es - 1) ≡ Some e → last_change a (map event_seen es) ≡ e.revision
last_event a [] e is = cc
last_event a (x ∷ es) e is =
    let place : length es ≡ suc (length es) - 1 = omega arith in
    last_at a x es e (ap (slice_get (x ∷ es)) place ∙ is)
