-- The kinds of objects, and what the API reference says of each.
use Rattle.std.specs.Prelude.{◌≡◌, refl, ℕ, ◌+◌, List, [], ◌∷◌, ◌++◌, Bool, true, false, ◌&&◌, codes, Option, Some}
use Rattle.std.specs.List.{find, slice_get}
use Rattle.std.specs.Str.{bytes_eq}
use Rattle.spec_api.specs.declared.kinds.Group.{Group}
use Rattle.spec_api.specs.declared.kinds.Group.TheVariants.{Core, Apps}
use Rattle.spec_api.specs.declared.kinds.Kind.{Kind}
use Rattle.spec_api.specs.declared.kinds.Kind.TheVariants.{ConfigMap, Pod, ReplicaSet, Deployment}

-- all kinds, in their order
abbrev pub kinds : List Kind
kinds = ConfigMap ∷ Pod ∷ ReplicaSet ∷ Deployment ∷ []

-- the facts of a kind: its place in the order of kinds; the members `kind` and `apiVersion` of its objects (Kubernetes API Conventions, Types); its group (Kubernetes API Overview, API groups) and its resource (Kubernetes API Concepts, Resource URIs); whether its objects have a status (Kubernetes API Conventions, Spec and Status), and whether `metadata.generation` counts the changes of their spec (Kubernetes API Conventions, Metadata)
pub record Facts : Type 0 where
  pub rank : ℕ
  pub kind : List ℕ
  pub api_version : List ℕ
  pub group : Group
  pub plural : List ℕ
  pub has_status : Bool
  pub has_generation : Bool

abbrev pub facts : Kind → Facts
facts ConfigMap = record { rank = 0; kind = codes "ConfigMap"; api_version = codes "v1"; group = Core; plural = codes "configmaps"; has_status = false; has_generation = false }
facts Pod = record { rank = 1; kind = codes "Pod"; api_version = codes "v1"; group = Core; plural = codes "pods"; has_status = true; has_generation = false }
facts ReplicaSet = record { rank = 2; kind = codes "ReplicaSet"; api_version = codes "apps/v1"; group = Apps; plural = codes "replicasets"; has_status = true; has_generation = true }
facts Deployment = record { rank = 3; kind = codes "Deployment"; api_version = codes "apps/v1"; group = Apps; plural = codes "deployments"; has_status = true; has_generation = true }

abbrev pub rank : Kind → ℕ
rank k = (facts k).rank

-- each kind stands in the list of all at its place
pub kinds_at : (k : Kind) → slice_get kinds (rank k) ≡ Some k
kinds_at ConfigMap = refl
kinds_at Pod = refl
kinds_at ReplicaSet = refl
kinds_at Deployment = refl

abbrev pub kind_text : Kind → List ℕ
kind_text k = (facts k).kind

-- the member `kind` of a list of its objects (Kubernetes API Conventions, Types)
abbrev pub list_kind : Kind → List ℕ
list_kind k = kind_text k ++ codes "List"

abbrev pub api_version : Kind → List ℕ
api_version k = (facts k).api_version

abbrev pub group : Kind → Group
group k = (facts k).group

abbrev pub plural : Kind → List ℕ
plural k = (facts k).plural

abbrev pub has_status : Kind → Bool
has_status k = (facts k).has_status

abbrev pub has_generation : Kind → Bool
has_generation k = (facts k).has_generation

-- the kind after a kind, if there is one
abbrev pub kind_after : Kind → Option Kind
kind_after k = slice_get kinds (rank k + 1)

-- ---- groups

-- the name of a group; the core group has none (Kubernetes API Overview, API groups)
abbrev pub text_of_group : Group → List ℕ
text_of_group Core = []
text_of_group Apps = codes "apps"

abbrev pub group_name : Kind → List ℕ
group_name k = text_of_group (group k)

-- a resource with its group, in messages (Kubernetes API machinery, GroupResource)
abbrev pub resource_in : Group → List ℕ → List ℕ
resource_in Core resource = resource
resource_in Apps resource = resource ++ codes ".apps"

abbrev pub resource : Kind → List ℕ
resource k = resource_in (group k) (plural k)

-- the kind of a group that has this plural name (Kubernetes API Concepts, Resource URIs)
abbrev pub kind_with_plural : Group → List ℕ → Option Kind
kind_with_plural g name = find (λ k. bytes_eq (text_of_group g) (group_name k) && bytes_eq name (plural k)) kinds
