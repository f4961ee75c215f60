-- Where the changes of a publish could not all be handled, or the keys not all be added.
use Rattle.std.proofs.Common.{◌≡◌, ℕ, List, [], drop, Some, IfSome, Result, Ok, Err, OnErr, subst}
use Rattle.baton.specs.declared.views.Known.{Known}
use Rattle.spec_client_go.specs.Shifts.{Shift}
use Rattle.spec_client_go.specs.WorkQueues.{WorkKey}
use Rattle.spec_server.specs.Snapshots.{Snapshot}
use Rattle.control_desk.specs.Steps.{Step}
use Rattle.control_desk.specs.declared.states.WorkState.{WorkState}
use Rattle.informer.specs.declared.listers.Lister.{Lister}
use Rattle.object_keys.specs.declared.per_kind.PerKind.{PerKind}
use Rattle.manager.specs.Handled.{Handles, StopsAdding, StopsBy, at_key, Progress, Stops, looked}
use Rattle.manager.specs.Looked.{AreLookedAt}
use Rattle.manager.specs.Relisted.{keys_again}
use Rattle.manager.specs.declared.origins.Origin.{Origin}

-- all changes were handled, and then not all keys were added
pub stops_adding : {X Y : Type 0} (r : Result X Y) (origin : Origin) (maps : PerKind Snapshot) (shifts : List Shift) (handled added more_handled more_added : ℕ) (keys : List WorkKey) (v u w : Known WorkState Step)
    → keys ≡ keys_again origin.cause maps → Handles origin maps (drop handled shifts) v u → drop more_handled shifts ≡ [] → OnErr r (StopsAdding origin (drop added keys) (drop more_added keys) u w)
    → OnErr r (StopsBy origin maps shifts handled added v w more_handled more_added)
stops_adding (Ok x) origin maps shifts handled added more_handled more_added keys v u w is handles all stops = tt
stops_adding (Err e) origin maps shifts handled added more_handled more_added keys v u w is handles all stops =
    at_key u handles all (subst (λ ks. StopsAdding origin (drop added ks) (drop more_added ks) u w) is stops)

-- the maps were looked at, which changed nothing else
pub stops_looked : {X Y : Type 0} (r : Result X Y) (origin : Origin) (before after : Progress) (shifts : List Shift) (ls : PerKind Lister) (maps : PerKind Snapshot) (n m : ℕ) (v u w : Known WorkState Step)
    → n ≡ before.handled → m ≡ before.added → u ≡ v → IfSome after.looks (AreLookedAt before.looks ls) → after.looks ≡ Some maps
    → OnErr r (StopsBy origin maps shifts n m u w after.handled after.added) → OnErr r (Stops origin before shifts ls v w after)
stops_looked (Ok x) origin before after shifts ls maps n m v u w handled added knows at is stops = tt
stops_looked (Err e) origin before after shifts ls maps n m v u w handled added knows at is stops =
    looked maps (subst (λ o. IfSome o (AreLookedAt before.looks ls)) is at) is
    (subst (λ k. StopsBy origin maps shifts k before.added v w after.handled after.added) handled
    (subst (λ k. StopsBy origin maps shifts n k v w after.handled after.added) added
    (subst (λ k. StopsBy origin maps shifts n m k w after.handled after.added) knows stops)))
