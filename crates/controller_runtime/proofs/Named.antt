-- The kinds that are named, from the last on.
use Rattle.std.proofs.Common.{◌≡◌, ◌++◌, List, [], ◌∷◌, Option, Some, ap, refl}
use Rattle.object_keys.specs.PerKind.{with_kind}
use Rattle.object_keys.specs.declared.per_kind.PerKind.{PerKind}
use Rattle.controller_runtime.specs.Kinds.{with_named}
use Rattle.controller_runtime.specs.declared.followed.Followed.{Followed}

pub last_named : {A : Type 0} (l : PerKind (Option A)) (fs : List (Followed A)) (f : Followed A) → with_named l (fs ++ f ∷ []) ≡ with_named (with_kind f.kind (Some f.api) l) fs
last_named l [] f = refl
last_named l (g ∷ fs) f = ap (with_kind g.kind (Some g.api)) (last_named l fs f)
