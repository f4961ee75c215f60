-- The targets by which a server is asked for collections.
use Rattle.std.specs.Prelude.{ℕ, List, [], ◌∷◌, ◌++◌, Option, Some, None, codes, decimal}
use Rattle.form_urlencoded.specs.Form.{extend_pairs}
use Rattle.spec_api.specs.declared.kinds.Kind.{Kind}
use Rattle.spec_api.specs.Targets.{collection, path_text}
use Rattle.request_encoding.specs.Scopes.{Scope}

-- names and values of a query
abbrev pub Parameters : Type 0
Parameters = List (List ℕ × List ℕ)

-- the query with these parameters, and the `?` before it; nothing without parameters (URL Standard, application/x-www-form-urlencoded serializing)
abbrev pub query_text : Parameters → List ℕ
query_text [] = []
query_text (p ∷ ps) = 63 ∷ extend_pairs [] (p ∷ ps)

-- a selector, where there is one (Kubernetes, Labels and Selectors, API)
abbrev pub selecting : Option (List ℕ) → Parameters
selecting None = []
selecting (Some t) = (codes "labelSelector", t) ∷ []

-- the collection of a kind in a scope, with further parameters (Kubernetes API Concepts, Resource URIs)
abbrev pub target : Scope → Kind → Parameters → List ℕ
target s k ps = path_text (collection k s.namespace) ++ query_text (selecting s.selector ++ ps)

-- a list, as it is at present
abbrev pub list_target : Scope → Kind → List ℕ
list_target s k = target s k []

-- at most so many objects, as they were at just this revision (Kubernetes API Concepts, Resource versions)
abbrev pub page_target : Scope → Kind → ℕ → ℕ → List ℕ
page_target s k limit r = target s k ((codes "limit", decimal limit) ∷ (codes "resourceVersion", decimal r) ∷ (codes "resourceVersionMatch", codes "Exact") ∷ [])

-- a watch after a revision, with bookmarks (Kubernetes API Concepts, Efficient detection of changes)
abbrev pub watch_target : Scope → Kind → ℕ → List ℕ
watch_target s k r = target s k ((codes "watch", codes "true") ∷ (codes "allowWatchBookmarks", codes "true") ∷ (codes "resourceVersion", decimal r) ∷ [])

-- a watch that begins with what is there, as new as there is, with bookmarks (Kubernetes API Concepts, Streaming lists)
abbrev pub stream_target : Scope → Kind → List ℕ
stream_target s k =
    target s k ((codes "watch", codes "true") ∷ (codes "allowWatchBookmarks", codes "true") ∷ (codes "sendInitialEvents", codes "true") ∷ (codes "resourceVersionMatch", codes "NotOlderThan") ∷ [])
