-- The path of a route is read as that route.
use Rattle.std.proofs.Common.{◌≡◌, ◌==◌, ℕ, List, [], ◌∷◌, ◌++◌, Bool, true, false, if◌then◌else◌, Option, Some, None, option_map, option_and_then, codes, append_assoc, refl, ap, ◌∙◌, arith}
use Rattle.std.specs.List.{list_all}
use Rattle.spec_api.proofs.KindOrder.{each_kind, rank_tells}
use Rattle.spec_api.proofs.Truths.{both_true}
use Rattle.spec_api.specs.declared.kinds.Group.{Group}
use Rattle.spec_api.specs.declared.kinds.Group.TheVariants.{Core, Apps}
use Rattle.spec_api.specs.declared.kinds.Kind.{Kind}
use Rattle.spec_api.specs.Keys.{Key, is_namespace}
use Rattle.spec_api.specs.Kinds.{rank, group, plural, has_status, kind_with_plural}
use Rattle.spec_api.specs.Targets.{collection, object_at, status_of, kind_with_status, route, route_of, prefix, collection_text, object_text, segments, is_filled}
use Rattle.request_encoding.specs.Texts.{is_of_segment, is_segment, is_address}
use Rattle.request_encoding.proofs.Segments.{first_segment, last_segment, is_path, segment_is_path, joined_are_path, namespace_segment}

-- ---- segments

abbrev group_segments : Group → List (List ℕ) → List (List ℕ)
group_segments Core rest = [] ∷ codes "api" ∷ codes "v1" ∷ rest
group_segments Apps rest = [] ∷ codes "apis" ∷ codes "apps" ∷ codes "v1" ∷ rest

in_namespace : (g : Group) (rest : List ℕ) → segments (prefix g ++ (codes "/namespaces/" ++ rest)) ≡ group_segments g (codes "namespaces" ∷ segments rest)
in_namespace Core rest = refl
in_namespace Apps rest = refl

in_all : (g : Group) (rest : List ℕ) → segments (prefix g ++ (47 ∷ rest)) ≡ group_segments g (segments rest)
in_all Core rest = refl
in_all Apps rest = refl

plural_segment : (k : Kind) → list_all is_of_segment (plural k) ≡ true
plural_segment k = each_kind (λ j. list_all is_of_segment (plural j)) refl k

-- the segments of what stands below a namespace
of_namespace : (k : Kind) (ns rest : List ℕ) → is_namespace ns ≡ true
    → segments (prefix (group k) ++ (codes "/namespaces/" ++ (ns ++ (47 ∷ rest)))) ≡ group_segments (group k) (codes "namespaces" ∷ ns ∷ segments rest)
of_namespace k ns rest named =
    in_namespace (group k) (ns ++ 47 ∷ rest) ∙ ap (λ z. group_segments (group k) (codes "namespaces" ∷ z)) (first_segment ns rest (namespace_segment ns named).1)

below_collection : (k : Kind) (ns more : List ℕ) → collection_text k (Some ns) ++ (47 ∷ more) ≡ prefix (group k) ++ (codes "/namespaces/" ++ (ns ++ (47 ∷ (plural k ++ (47 ∷ more)))))
below_collection k ns more =
    append_assoc (prefix (group k)) (codes "/namespaces/" ++ (ns ++ (47 ∷ plural k))) (47 ∷ more)
    ∙ ap (λ l. prefix (group k) ++ l) (append_assoc (codes "/namespaces/") (ns ++ (47 ∷ plural k)) (47 ∷ more))
    ∙ ap (λ l. prefix (group k) ++ (codes "/namespaces/" ++ l)) (append_assoc ns (47 ∷ plural k) (47 ∷ more))

collection_segments : (k : Kind) (ns : List ℕ) → is_namespace ns ≡ true → segments (collection_text k (Some ns)) ≡ group_segments (group k) (codes "namespaces" ∷ ns ∷ plural k ∷ [])
collection_segments k ns named =
    of_namespace k ns (plural k) named ∙ ap (λ z. group_segments (group k) (codes "namespaces" ∷ ns ∷ z)) (last_segment (plural k) (plural_segment k))

below_segments : (k : Kind) (ns more : List ℕ) → is_namespace ns ≡ true → segments (collection_text k (Some ns) ++ (47 ∷ more)) ≡ group_segments (group k) (codes "namespaces" ∷ ns ∷ plural k ∷ segments more)
below_segments k ns more named =
    ap segments (below_collection k ns more) ∙ of_namespace k ns (plural k ++ 47 ∷ more) named
    ∙ ap (λ z. group_segments (group k) (codes "namespaces" ∷ ns ∷ z)) (first_segment (plural k) more (plural_segment k))

-- ---- routes

-- whether the kind that has the group and the plural name of a kind is that kind
abbrev is_found : Kind → Option Kind → Bool
is_found k None = false
is_found k (Some j) = rank k == rank j

found : (k : Kind) (o : Option Kind) → is_found k o ≡ true → o ≡ Some k
found k None h = cc
found k (Some j) h = let same : rank j ≡ rank k = grind arith in ap (λ i. Some i) (rank_tells j k same)

plural_found : (k : Kind) → kind_with_plural (group k) (plural k) ≡ Some k
plural_found k = found k (kind_with_plural (group k) (plural k)) (each_kind (λ j. is_found j (kind_with_plural (group j) (plural j))) refl k)

plural_filled : (k : Kind) → is_filled (plural k) ≡ true
plural_filled k = each_kind (λ j. is_filled (plural j)) refl k

-- what a route says, by the kind that has a plural name
all_in : (g : Group) (p : List ℕ) → is_filled p ≡ true → route_of (group_segments g (p ∷ [])) ≡ option_map (λ k. collection k None) (kind_with_plural g p)
all_in Core p a = rw a refl
all_in Apps p a = rw a refl

collection_in : (g : Group) (ns p : List ℕ) → is_filled ns ≡ true → is_filled p ≡ true
    → route_of (group_segments g (codes "namespaces" ∷ ns ∷ p ∷ [])) ≡ option_map (λ k. collection k (Some ns)) (kind_with_plural g p)
collection_in Core ns p a b = rw (a, b) refl
collection_in Apps ns p a b = rw (a, b) refl

object_in : (g : Group) (ns p name : List ℕ) → is_filled ns ≡ true → is_filled p ≡ true → is_filled name ≡ true
    → route_of (group_segments g (codes "namespaces" ∷ ns ∷ p ∷ name ∷ [])) ≡ option_map (λ k. object_at (record { kind = k; namespace = ns; name = name })) (kind_with_plural g p)
object_in Core ns p name a b c = rw (a, b, c) refl
object_in Apps ns p name a b c = rw (a, b, c) refl

status_in : (g : Group) (ns p name : List ℕ) → is_filled ns ≡ true → is_filled p ≡ true → is_filled name ≡ true
    → route_of (group_segments g (codes "namespaces" ∷ ns ∷ p ∷ name ∷ codes "status" ∷ [])) ≡ option_map (λ k. status_of (record { kind = k; namespace = ns; name = name })) (option_and_then kind_with_status (kind_with_plural g p))
status_in Core ns p name a b c = rw (a, b, c) refl
status_in Apps ns p name a b c = rw (a, b, c) refl

pub all_routed : (k : Kind) → route (collection_text k None) ≡ Some (collection k None)
all_routed k =
    ap route_of (in_all (group k) (plural k) ∙ ap (group_segments (group k)) (last_segment (plural k) (plural_segment k)))
    ∙ all_in (group k) (plural k) (plural_filled k) ∙ ap (option_map (λ j. collection j None)) (plural_found k)

collection_at : (k : Kind) (ns : List ℕ) → is_filled ns ≡ true → route_of (group_segments (group k) (codes "namespaces" ∷ ns ∷ plural k ∷ [])) ≡ Some (collection k (Some ns))
collection_at k ns a = collection_in (group k) ns (plural k) a (plural_filled k) ∙ ap (option_map (λ j. collection j (Some ns))) (plural_found k)

object_found : (k : Kind) (ns name : List ℕ) → is_filled ns ≡ true → is_filled name ≡ true
    → route_of (group_segments (group k) (codes "namespaces" ∷ ns ∷ plural k ∷ name ∷ [])) ≡ Some (object_at (record { kind = k; namespace = ns; name = name }))
object_found k ns name a b =
    object_in (group k) ns (plural k) name a (plural_filled k) b ∙ ap (option_map (λ j. object_at (record { kind = j; namespace = ns; name = name }))) (plural_found k)

status_found : (k : Kind) (ns name : List ℕ) → is_filled ns ≡ true → is_filled name ≡ true → has_status k ≡ true
    → route_of (group_segments (group k) (codes "namespaces" ∷ ns ∷ plural k ∷ name ∷ codes "status" ∷ [])) ≡ Some (status_of (record { kind = k; namespace = ns; name = name }))
status_found k ns name a b h =
    status_in (group k) ns (plural k) name a (plural_filled k) b
    ∙ ap (λ o. option_map (λ j. status_of (record { kind = j; namespace = ns; name = name })) (option_and_then kind_with_status o)) (plural_found k)
    ∙ ap (λ b. option_map (λ j. status_of (record { kind = j; namespace = ns; name = name })) (if b then Some k else None)) h

pub collection_routed : (k : Kind) (ns : List ℕ) → is_namespace ns ≡ true → route (collection_text k (Some ns)) ≡ Some (collection k (Some ns))
collection_routed k ns named = ap route_of (collection_segments k ns named) ∙ collection_at k ns (namespace_segment ns named).0

-- what an address says
record IsNamed (n : Key) : Type 0 where
  namespace : is_namespace n.namespace ≡ true
  filled : is_filled n.name ≡ true
  segment : list_all is_of_segment n.name ≡ true

named_by : (n : Key) → is_address n ≡ true → IsNamed n
named_by n at =
    let parts = both_true (is_namespace n.namespace) (is_segment n.name) at in
    let name = both_true (is_filled n.name) (list_all is_of_segment n.name) parts.1 in
    record { namespace = parts.0; filled = name.0; segment = name.1 }

pub object_routed : (n : Key) → is_address n ≡ true → route (object_text n) ≡ Some (object_at n)
object_routed n is =
    let by = named_by n is in
    ap route_of (below_segments n.kind n.namespace n.name by.namespace ∙ ap (λ z. group_segments (group n.kind) (codes "namespaces" ∷ n.namespace ∷ plural n.kind ∷ z)) (last_segment n.name by.segment))
    ∙ object_found n.kind n.namespace n.name (namespace_segment n.namespace by.namespace).0 by.filled

pub status_routed : (n : Key) → is_address n ≡ true → has_status n.kind ≡ true → route (object_text n ++ codes "/status") ≡ Some (status_of n)
status_routed n is has =
    let by = named_by n is in
    let start = collection_text n.kind (Some n.namespace) in
    let more = first_segment n.name (codes "status") by.segment in
    ap route (append_assoc start (47 ∷ n.name) (codes "/status"))
    ∙ ap route_of (below_segments n.kind n.namespace (n.name ++ codes "/status") by.namespace ∙ ap (λ z. group_segments (group n.kind) (codes "namespaces" ∷ n.namespace ∷ plural n.kind ∷ z)) more)
    ∙ status_found n.kind n.namespace n.name (namespace_segment n.namespace by.namespace).0 by.filled has

-- ---- these are paths

prefix_clear : (g : Group) → is_path (prefix g) ≡ true
prefix_clear Core = refl
prefix_clear Apps = refl

plural_clear : (k : Kind) → is_path (47 ∷ plural k) ≡ true
plural_clear k = each_kind (λ j. is_path (47 ∷ plural j)) refl k

pub all_clear : (k : Kind) → is_path (collection_text k None) ≡ true
all_clear k = joined_are_path (prefix (group k)) (47 ∷ plural k) (prefix_clear (group k)) (plural_clear k)

pub collection_clear : (k : Kind) (ns : List ℕ) → is_namespace ns ≡ true → is_path (collection_text k (Some ns)) ≡ true
collection_clear k ns named =
    joined_are_path (prefix (group k)) (codes "/namespaces/" ++ (ns ++ (47 ∷ plural k))) (prefix_clear (group k))
    (joined_are_path (codes "/namespaces/") (ns ++ (47 ∷ plural k)) refl (joined_are_path ns (47 ∷ plural k) (segment_is_path ns (namespace_segment ns named).1) (plural_clear k)))

pub object_clear : (n : Key) → is_address n ≡ true → is_path (object_text n) ≡ true
object_clear n is =
    let by = named_by n is in
    joined_are_path (collection_text n.kind (Some n.namespace)) (47 ∷ n.name) (collection_clear n.kind n.namespace by.namespace) (segment_is_path n.name by.segment)

pub status_clear : (n : Key) → is_address n ≡ true → is_path (object_text n ++ codes "/status") ≡ true
status_clear n is = joined_are_path (object_text n) (codes "/status") (object_clear n is) refl
