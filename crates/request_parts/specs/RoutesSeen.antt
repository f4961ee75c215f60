-- Targets as the routes that they stand for, and what the parameters of an entry make of a path.
use Rattle.std.specs.Prelude.{ℕ, List, Option, Some, None, option_map, option_and_then}
use Rattle.std.specs.Borrow.{Bor}
use Rattle.spec_api.specs.Kinds.{kind_with_plural}
use Rattle.spec_api.specs.Targets.{Route, collection, object_at, status_of, kind_with_status}
use Rattle.spec_api.specs.declared.kinds.Group.{Group}
use Rattle.request_parts.specs.declared.entries.RouteEntry.{RouteEntry}
use Rattle.request_parts.specs.declared.entries.Layout.{Layout}
use Rattle.request_parts.specs.declared.entries.Layout.TheVariants as layout
use Rattle.request_parts.specs.declared.targets.Target.{Target}
use Rattle.request_parts.specs.declared.targets.Target.TheVariants.{Collection, Object, Status}

abbrev pub now : Bor (List ℕ) → List ℕ
now text = text.now

-- the route that a target stands for
abbrev pub route_seen : Target → Route
route_seen (Collection k ns) = collection k (option_map now ns)
route_seen (Object k ns name) = object_at (record { kind = k; namespace = ns.now; name = name.now })
route_seen (Status k ns name) = status_of (record { kind = k; namespace = ns.now; name = name.now })

-- the route of a path below a group, where there is a name
abbrev pub with_name : Group → Layout → List ℕ → List ℕ → Option (List ℕ) → Option Route
with_name g layout.All resource ns name = option_map (λ k. collection k None) (kind_with_plural g resource)
with_name g layout.Namespace resource ns name = option_map (λ k. collection k (Some ns)) (kind_with_plural g resource)
with_name g layout.Object resource ns None = None
with_name g layout.Object resource ns (Some name) = option_map (λ k. object_at (record { kind = k; namespace = ns; name = name })) (kind_with_plural g resource)
with_name g layout.Status resource ns None = None
with_name g layout.Status resource ns (Some name) = option_map (λ k. status_of (record { kind = k; namespace = ns; name = name })) (option_and_then kind_with_status (kind_with_plural g resource))

-- the same, where there is a namespace
abbrev pub with_namespace : Group → Layout → List ℕ → Option (List ℕ) → Option (List ℕ) → Option Route
with_namespace g layout.All resource ns name = option_map (λ k. collection k None) (kind_with_plural g resource)
with_namespace g layout.Namespace resource None name = None
with_namespace g layout.Namespace resource (Some ns) name = option_map (λ k. collection k (Some ns)) (kind_with_plural g resource)
with_namespace g layout.Object resource None name = None
with_namespace g layout.Object resource (Some ns) name = with_name g layout.Object resource ns name
with_namespace g layout.Status resource None name = None
with_namespace g layout.Status resource (Some ns) name = with_name g layout.Status resource ns name

-- the route of a path from its entry and its parameters: the resource, the namespace and the name
abbrev pub assembled : RouteEntry → Option (List ℕ) → Option (List ℕ) → Option (List ℕ) → Option Route
assembled e None ns name = None
assembled e (Some resource) ns name = with_namespace e.group e.layout resource ns name
