-- The route of a path, by the form that its segments have.
use Rattle.std.proofs.Common.{◌≡◌, ℕ, List, [], ◌∷◌, ◌&&◌, Bool, true, false, cond, Option, Some, None, option_and_then, option_map, codes, bytes_eq, if◌then◌else◌, refl}
use Rattle.std.specs.List.{list_all}
use Rattle.std.specs.Option.{option_map_or}
use Rattle.spec_api.specs.declared.kinds.Group.{Group}
use Rattle.spec_api.specs.declared.kinds.Group.TheVariants.{Core, Apps}
use Rattle.spec_api.specs.Kinds.{kind_with_plural}
use Rattle.spec_api.specs.Targets as targets
use Rattle.spec_api.specs.Targets.{Route, collection, object_at, status_of, route, segments, after_words, is_filled, kind_with_status}

-- the forms of a path, with its group and its parts
pub data Form : Type 0 where
  all_form : Group → (resource : List ℕ) → Form
  namespace_form : Group → (namespace resource : List ℕ) → Form
  object_form : Group → (namespace resource name : List ℕ) → Form
  status_form : Group → (namespace resource name : List ℕ) → Form

abbrev pub below : Group → List (List ℕ) → Option Form
below g (resource ∷ []) = Some (all_form g resource)
below g (word ∷ n ∷ resource ∷ []) = if bytes_eq (codes "namespaces") word then Some (namespace_form g n resource) else None
below g (word ∷ n ∷ resource ∷ name ∷ []) = if bytes_eq (codes "namespaces") word then Some (object_form g n resource name) else None
below g (word ∷ n ∷ resource ∷ name ∷ last ∷ []) =
    if bytes_eq (codes "namespaces") word && bytes_eq (codes "status") last then Some (status_form g n resource name) else None
below g segs = None

abbrev pub by_prefix : List (List ℕ) → Option Form
by_prefix segs =
    option_map_or (below Core) (after_words (codes "api" ∷ codes "v1" ∷ []) segs)
    (option_and_then (below Apps) (after_words (codes "apis" ∷ codes "apps" ∷ codes "v1" ∷ []) segs))

abbrev pub form_of : List (List ℕ) → Option Form
form_of ([] ∷ segs) = if list_all is_filled segs then by_prefix segs else None
form_of _ = None

abbrev pub route_of : Form → Option Route
route_of (all_form g resource) = option_map (λ k. collection k None) (kind_with_plural g resource)
route_of (namespace_form g n resource) = option_map (λ k. collection k (Some n)) (kind_with_plural g resource)
route_of (object_form g n resource name) = option_map (λ k. object_at (record { kind = k; namespace = n; name = name })) (kind_with_plural g resource)
route_of (status_form g n resource name) = option_map (λ k. status_of (record { kind = k; namespace = n; name = name })) (option_and_then kind_with_status (kind_with_plural g resource))

when : (b : Bool) (f : Form) → cond b (route_of f) None ≡ option_and_then route_of (cond b (Some f) None)
when true f = refl
when false f = refl

below_is : (g : Group) (segs : List (List ℕ)) → targets.below g segs ≡ option_and_then route_of (below g segs)
below_is g [] = refl
below_is g (resource ∷ []) = refl
below_is g (word ∷ n ∷ []) = refl
below_is g (word ∷ n ∷ resource ∷ []) = when (bytes_eq (codes "namespaces") word) (namespace_form g n resource)
below_is g (word ∷ n ∷ resource ∷ name ∷ []) = when (bytes_eq (codes "namespaces") word) (object_form g n resource name)
below_is g (word ∷ n ∷ resource ∷ name ∷ last ∷ []) =
    when (bytes_eq (codes "namespaces") word && bytes_eq (codes "status") last) (status_form g n resource name)
below_is g (word ∷ n ∷ resource ∷ name ∷ last ∷ more ∷ rest) = refl

by_prefix_is : (segs : List (List ℕ)) → targets.by_prefix segs ≡ option_and_then route_of (by_prefix segs)
by_prefix_is segs = core (after_words (codes "api" ∷ codes "v1" ∷ []) segs)
  where
    apps : (o : Option (List (List ℕ))) → option_and_then (targets.below Apps) o ≡ option_and_then route_of (option_and_then (below Apps) o)
    apps None = refl
    apps (Some rest) = below_is Apps rest

    core : (o : Option (List (List ℕ)))
        → option_map_or (targets.below Core) o (option_and_then (targets.below Apps) (after_words (codes "apis" ∷ codes "apps" ∷ codes "v1" ∷ []) segs))
        ≡ option_and_then route_of (option_map_or (below Core) o (option_and_then (below Apps) (after_words (codes "apis" ∷ codes "apps" ∷ codes "v1" ∷ []) segs)))
    core None = apps (after_words (codes "apis" ∷ codes "apps" ∷ codes "v1" ∷ []) segs)
    core (Some rest) = below_is Core rest

by_segments : (segs : List (List ℕ)) → targets.route_of segs ≡ option_and_then route_of (form_of segs)
by_segments [] = refl
by_segments ([] ∷ segs) = by (list_all is_filled segs) (by_prefix_is segs)
  where
    by : (b : Bool) → targets.by_prefix segs ≡ option_and_then route_of (by_prefix segs)
        → cond b (targets.by_prefix segs) None ≡ option_and_then route_of (cond b (by_prefix segs) None)
    by true h = h
    by false h = refl
by_segments ((x ∷ s) ∷ segs) = refl

pub by_form : (path : List ℕ) → route path ≡ option_and_then route_of (form_of (segments path))
by_form path = by_segments (segments path)
