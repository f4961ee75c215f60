-- What stands once for each kind.
use Rattle.std.specs.Prelude.{◌≡◌, ◌⊎◌, List, map}
use Rattle.std.specs.Borrow.{MutBor}
use Rattle.std.specs.Fn.{Mut, CalledAtMut}
use Rattle.spec_api.specs.Kinds.{kinds}
use Rattle.spec_api.specs.declared.kinds.Kind.{Kind}
use Rattle.spec_api.specs.declared.kinds.Kind.TheVariants.{ConfigMap, Pod, ReplicaSet, Deployment}
use Rattle.object_keys.specs.declared.per_kind.PerKind.{PerKind}

-- what stands for a kind
abbrev pub of_kind : {T : Type 0} → Kind → PerKind T → T
of_kind ConfigMap t = t.config_maps
of_kind Pod t = t.pods
of_kind ReplicaSet t = t.replica_sets
of_kind Deployment t = t.deployments

-- the table where this stands for a kind, and for the others what stood there
abbrev pub with_kind : {T : Type 0} → Kind → T → PerKind T → PerKind T
with_kind ConfigMap x t = record t { config_maps = x }
with_kind Pod x t = record t { pods = x }
with_kind ReplicaSet x t = record t { replica_sets = x }
with_kind Deployment x t = record t { deployments = x }

-- the table of what a function gives for each kind
abbrev pub each_kind : {T : Type 0} → (Kind → T) → PerKind T
each_kind f = record { config_maps = f ConfigMap; pods = f Pod; replica_sets = f ReplicaSet; deployments = f Deployment }

-- it is so of each kind
abbrev pub EachKind : (Kind → Type 0) → Type 0
EachKind P = P ConfigMap × P Pod × P ReplicaSet × P Deployment

-- it is so of some kind
abbrev pub SomeKind : (Kind → Type 0) → Type 0
SomeKind P = P ConfigMap ⊎ P Pod ⊎ P ReplicaSet ⊎ P Deployment

-- what stands for each kind, in their order
abbrev pub values : {T : Type 0} → PerKind T → List T
values t = map (λ k. of_kind k t) kinds

-- each kind with what stands for it, in their order
abbrev pub entries : {T : Type 0} → PerKind T → List (Kind × T)
entries t = map (λ k. (k, of_kind k t)) kinds

module _ {F T R : Type 0} (g : Mut F (MutBor T × Unit {0}) (R × (MutBor T × Unit {0}))) where
  -- some call at a `&mut` to x gives r, and leaves y there
  abbrev pub GivesAtMut : T → R → T → Type 0
  GivesAtMut x r y = (before : F) × (after : F) × CalledAtMut g before x r after y

  -- what was x is y: it stayed, or some call changed it
  abbrev pub MayChange : T → T → Type 0
  MayChange x y = (y ≡ x) ⊎ ((r : R) × GivesAtMut x r y)
