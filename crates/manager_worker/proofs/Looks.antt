-- What a look shows.
use Rattle.std.proofs.Common.{◌≡◌, Option, Some, None, Result, Ok, Err}
use Rattle.std.specs.Prelude.{IfOk, IfSome}
use Rattle.spec_api.specs.declared.kinds.Kind.{Kind}
use Rattle.spec_server.specs.Snapshots.{Snapshot}
use Rattle.object_keys.specs.PerKind.{of_kind}
use Rattle.informer.specs.Looked.{map_known}
use Rattle.informer.specs.declared.kind_listers.Listers.{Listers}
use Rattle.manager_worker.specs.Looking.{shown_by, HasLooked, Shows}

pub shown : {E : Type 0} → (k : Kind) (ls ms : Listers) (r : Result (Option Snapshot) E) → IfOk r (λ found. IfSome found (λ s. s ≡ map_known (of_kind k ms.listers))) → HasLooked k ls ms
    → Shows ls k (shown_by r) ms
shown k ls ms (Ok (Some s)) is looked = (is, looked)
shown k ls ms (Ok None) is looked = looked
shown k ls ms (Err e) is looked = looked
