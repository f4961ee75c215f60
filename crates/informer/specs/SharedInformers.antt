-- Informers, one of each kind, and the listers that they make.
use Rattle.std.specs.Prelude.{◌≡◌}
use Rattle.object_keys.specs.PerKind.{of_kind, EachKind}
use Rattle.object_keys.specs.declared.per_kind.PerKind.{PerKind}
use Rattle.informer.specs.Informers.{published_batches, IsNew, IsSame}
use Rattle.informer.specs.Listers.{known_last}
use Rattle.informer.specs.Shared.{inner}
use Rattle.informer.specs.declared.listers.Lister.{Lister}
use Rattle.informer.specs.declared.shared.SharedInformer.{SharedInformer}

-- the informer of each kind has published nothing, and nothing was appended to it
abbrev pub AreNew : {R : Type 0} → PerKind (SharedInformer R) → Type 0
AreNew is = EachKind (λ k. IsNew (inner (of_kind k is)))

-- nothing has changed of the informer of each kind
abbrev pub AreSame : {R : Type 0} → PerKind (SharedInformer R) → PerKind (SharedInformer R) → Type 0
AreSame is js = EachKind (λ k. IsSame (inner (of_kind k is)) (inner (of_kind k js)))

-- the lister of each kind was last told of all that the informer of its kind has published
abbrev pub AreTold : {R : Type 0} → PerKind (SharedInformer R) → PerKind Lister → Type 0
AreTold is ls = EachKind (λ k. known_last (of_kind k ls) ≡ published_batches (inner (of_kind k is)))
