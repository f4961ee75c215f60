-- What the collector's updates remove.
use Rattle.std.proofs.Common.{◌≡◌, List, [], ◌∷◌, Option, Some, None, IfSome, refl}
use Rattle.serde_json.specs.Data.{Data}
use Rattle.spec_api.specs.History.{History, Write, present, state}
use Rattle.spec_api.specs.Keys.{Key}
use Rattle.spec_api.specs.ObjectRequests.{update_object}
use Rattle.spec_api.specs.Verbs.{Outcome, accept, write_of}
use Rattle.spec_laws.specs.IdentityLaws.{Each}
use Rattle.spec_laws.specs.LifecycleLaws.{OfRemoved, IfRemoved}
use Rattle.spec_laws.proofs.Removals.{last_removes}
use Rattle.spec_client_go.specs.Commands.{Command, create, update, update_status, delete}
use Rattle.spec_reconcile.specs.GarbageCollection.{plan}
use Rattle.spec_laws.specs.CollectorLaws.{Finishes, CollectorUpdatesOnlyFinish}

weaker : (h : History) (o : Outcome) (P Q : Key → Data → Type 0) → ((k : Key) (d : Data) → P k d → Q k d) → OfRemoved h o P → OfRemoved h o Q
weaker h o P Q f = by_write (write_of o)
  where
    by_put : (k : Key) (put : Option Data) → IfRemoved put ((existing : Data) × (state h (present h) k ≡ Some existing) × P k existing) → IfRemoved put ((existing : Data) × (state h (present h) k ≡ Some existing) × Q k existing)
    by_put k None r = (r.0, r.1, f k r.0 r.2)
    by_put k (Some d) r = tt

    by_write : (w : Option Write) → IfSome w (λ w. IfRemoved w.put ((existing : Data) × (state h (present h) w.key ≡ Some existing) × P w.key existing)) → IfSome w (λ w. IfRemoved w.put ((existing : Data) × (state h (present h) w.key ≡ Some existing) × Q w.key existing))
    by_write None r = tt
    by_write (Some w) r = by_put w.key w.put r

pub finishes : CollectorUpdatesOnlyFinish
finishes x h moment = all (plan x)
  where
    one : (c : Command) → Finishes h moment c
    one (create k ns d) = tt
    one (update k d) = weaker h (accept (update_object k d) h moment) _ _ (λ n existing both. both.0) (last_removes (update_object k d) h moment refl)
    one (update_status k d) = tt
    one (delete k u v p) = tt

    all : (cs : List Command) → Each (Finishes h moment) cs
    all [] = tt
    all (c ∷ cs) = (one c, all cs)
