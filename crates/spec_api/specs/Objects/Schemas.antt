-- The schemas: tables of the members of an object, and of the objects in it (Kubernetes API reference).
use Rattle.std.specs.Prelude.{ℕ, pos, negsuc, List, [], ◌∷◌, ◌++◌, true, false, if◌then◌else◌, bytes_eq, codes}
use Rattle.spec_api.specs.declared.kinds.Kind.{Kind}
use Rattle.spec_api.specs.declared.kinds.Kind.TheVariants.{ConfigMap, Pod, ReplicaSet, Deployment}
use Rattle.spec_api.specs.declared.schemas.Shape.{Shape}
use Rattle.spec_api.specs.declared.schemas.Shape.TheVariants.{Anything, Nothing, Text, VersionOf, NameOf, Truth, Whole, TextList, List as ListOf, Object}
use Rattle.spec_api.specs.declared.schemas.Schema.{Schema}
use Rattle.spec_api.specs.declared.schemas.Schema.TheVariants.{Root, Texts, Metadata, OwnerReference, PodSpec, PodStatus, Condition, ReplicaSetSpec, ReplicaSetStatus, DeploymentSpec, DeploymentStatus, Selector, Expression, Template, TemplateMetadata, Strategy, DeleteOptions, Preconditions, Unknown}
use Rattle.spec_api.specs.declared.schemas.Property.{Property}

abbrev pub Table : Type 0
Table = List (List ℕ × Property)

abbrev pub with_shape : Shape → Property
with_shape s = record { shape = s; drops_empty = false }

-- an empty one counts as absent
abbrev pub unless_empty : Shape → Property
unless_empty s = record { shape = s; drops_empty = true }

-- the row of a name in a table; a member that it lacks may be anything
abbrev pub described : Table → List ℕ → Property
described [] k = with_shape Anything
described (row ∷ rows) k = if bytes_eq k row.0 then row.1 else described rows k

-- whole numbers of 32 bits, and those below 2^53
abbrev pub count : Shape
count = Whole (negsuc 2147483647) (pos 2147483647)

abbrev pub generation : Shape
generation = Whole (pos 0) (pos 9007199254740991)

-- the members that the objects of every kind have
abbrev pub any_kind : Kind → Table
any_kind k = (codes "apiVersion", with_shape (VersionOf k)) ∷ (codes "kind", with_shape (NameOf k)) ∷ (codes "metadata", with_shape (Object Metadata)) ∷ []

-- the members that an object with this schema is known to have
abbrev pub table : Schema → Table
table (Root ConfigMap) = any_kind ConfigMap ++ (codes "data", with_shape (Object Texts)) ∷ []
table (Root Pod) = any_kind Pod ++ (codes "spec", with_shape (Object PodSpec)) ∷ (codes "status", with_shape (Object PodStatus)) ∷ []
table (Root ReplicaSet) = any_kind ReplicaSet ++ (codes "spec", with_shape (Object ReplicaSetSpec)) ∷ (codes "status", with_shape (Object ReplicaSetStatus)) ∷ []
table (Root Deployment) = any_kind Deployment ++ (codes "spec", with_shape (Object DeploymentSpec)) ∷ (codes "status", with_shape (Object DeploymentStatus)) ∷ []
table Metadata =
    (codes "name", unless_empty Text) ∷ (codes "generateName", unless_empty Text) ∷ (codes "namespace", unless_empty Text)
    ∷ (codes "uid", unless_empty Text) ∷ (codes "resourceVersion", unless_empty Text)
    ∷ (codes "creationTimestamp", unless_empty Text) ∷ (codes "deletionTimestamp", unless_empty Text)
    ∷ (codes "labels", unless_empty (Object Texts)) ∷ (codes "annotations", unless_empty (Object Texts))
    ∷ (codes "finalizers", unless_empty TextList) ∷ (codes "ownerReferences", unless_empty (ListOf OwnerReference)) ∷ []
table OwnerReference = (codes "controller", with_shape Truth) ∷ (codes "blockOwnerDeletion", with_shape Truth) ∷ []
table PodSpec = (codes "nodeName", with_shape Text) ∷ []
table PodStatus = (codes "phase", with_shape Text) ∷ (codes "conditions", with_shape (ListOf Condition)) ∷ []
table Condition = (codes "type", with_shape Text) ∷ (codes "status", with_shape Text) ∷ []
table ReplicaSetSpec =
    (codes "replicas", with_shape count) ∷ (codes "selector", with_shape (Object Selector)) ∷ (codes "template", with_shape (Object Template)) ∷ []
table ReplicaSetStatus =
    (codes "replicas", with_shape count) ∷ (codes "readyReplicas", with_shape count) ∷ (codes "availableReplicas", with_shape count)
    ∷ (codes "observedGeneration", with_shape generation) ∷ []
table DeploymentSpec =
    (codes "replicas", with_shape count) ∷ (codes "revisionHistoryLimit", with_shape count) ∷ (codes "paused", with_shape Truth)
    ∷ (codes "selector", with_shape (Object Selector)) ∷ (codes "template", with_shape (Object Template)) ∷ (codes "strategy", with_shape (Object Strategy)) ∷ []
table DeploymentStatus =
    (codes "replicas", with_shape count) ∷ (codes "readyReplicas", with_shape count) ∷ (codes "availableReplicas", with_shape count)
    ∷ (codes "updatedReplicas", with_shape count) ∷ (codes "unavailableReplicas", with_shape count) ∷ (codes "collisionCount", with_shape count)
    ∷ (codes "observedGeneration", with_shape generation) ∷ []
table Selector = (codes "matchLabels", with_shape (Object Texts)) ∷ (codes "matchExpressions", with_shape (ListOf Expression)) ∷ []
table Expression = (codes "key", with_shape Text) ∷ (codes "operator", with_shape Text) ∷ (codes "values", with_shape TextList) ∷ []
table Template = (codes "metadata", with_shape (Object TemplateMetadata)) ∷ (codes "spec", with_shape (Object Unknown)) ∷ []
table TemplateMetadata =
    (codes "labels", unless_empty (Object Texts)) ∷ (codes "annotations", unless_empty (Object Texts)) ∷ (codes "finalizers", unless_empty TextList) ∷ []
table Strategy = (codes "type", with_shape Text) ∷ (codes "rollingUpdate", with_shape (Object Unknown)) ∷ []
-- the options of a delete; a dry run is not served, and `orphanDependents` is no longer (Kubernetes API reference, DeleteOptions)
table DeleteOptions =
    (codes "preconditions", with_shape (Object Preconditions)) ∷ (codes "propagationPolicy", with_shape Text)
    ∷ (codes "dryRun", with_shape Nothing) ∷ (codes "orphanDependents", with_shape Nothing) ∷ []
table Preconditions = (codes "uid", with_shape Text) ∷ (codes "resourceVersion", with_shape Text) ∷ []
-- of these no member is known by its name
table Texts = []
table Unknown = []

-- the shape of a member of an object with this schema, and whether an empty one counts as absent
abbrev pub property_at : Schema → List ℕ → Property
property_at Texts k = with_shape Text
property_at s k = described (table s) k
