-- The router's table, as its routes are inserted.
use Rattle.std.specs.Prelude.{ℕ, List, [], Bool, true, false, Option, Some, None, Result, Ok, Err, codes}
use Rattle.matchit.specs.Rows.{RowsOf}
use Rattle.matchit.specs.Order.{placed}
use Rattle.matchit.specs.Route.{Scan, parse_route}
use Rattle.matchit.specs.Router.{RouteOf, route_from, nearest}
use Rattle.spec_api.specs.declared.kinds.Group.{Group}
use Rattle.spec_api.specs.declared.kinds.Group.TheVariants.{Core, Apps}
use Rattle.request_parts.specs.declared.entries.Layout.{Layout}
use Rattle.request_parts.specs.declared.entries.Layout.TheVariants.{All, Namespace, Object, Status}
use Rattle.request_parts.specs.declared.entries.RouteEntry.{RouteEntry}

abbrev pub Table : Type 0
Table = RowsOf (RouteOf RouteEntry)

-- whether no route of the table conflicts with this one
abbrev pub is_none : {A : Type 0} → Option A → Bool
is_none None = true
is_none (Some x) = false

abbrev pub is_new_in : {E : Type 0} → Result Scan E → Table → Bool
is_new_in (Ok s) old = is_none (nearest s.pattern old)
is_new_in (Err e) old = false

-- whether the text is a route that the table can take
abbrev pub is_free : List ℕ → Table → Bool
is_free text old = is_new_in (parse_route text) old

-- the route of each entry, in the router's notation (Kubernetes API Concepts, Resource URIs)
abbrev pub route_text : Group → Layout → List ℕ
route_text Core All = codes "/api/v1/{resource}"
route_text Core Namespace = codes "/api/v1/namespaces/{namespace}/{resource}"
route_text Core Object = codes "/api/v1/namespaces/{namespace}/{resource}/{name}"
route_text Core Status = codes "/api/v1/namespaces/{namespace}/{resource}/{name}/status"
route_text Apps All = codes "/apis/apps/v1/{resource}"
route_text Apps Namespace = codes "/apis/apps/v1/namespaces/{namespace}/{resource}"
route_text Apps Object = codes "/apis/apps/v1/namespaces/{namespace}/{resource}/{name}"
route_text Apps Status = codes "/apis/apps/v1/namespaces/{namespace}/{resource}/{name}/status"

-- the table with one more route
abbrev pub added : {E : Type 0} → Result Scan E → RouteEntry → Table → Table
added (Ok s) value old = placed ((route_from s value).pattern, route_from s value) old
added (Err e) value old = old

abbrev pub with_entry : Group → Layout → Table → Table
with_entry group layout old = added (parse_route (route_text group layout)) (record { group = group; layout = layout }) old

-- the table with the four layouts of a group
abbrev pub with_group : Group → Table → Table
with_group group old = with_entry group Status (with_entry group Object (with_entry group Namespace (with_entry group All old)))

-- the table before a group is added
abbrev pub before : Group → Table
before Core = []
before Apps = with_group Core []

abbrev pub table : Table
table = with_group Apps (with_group Core [])
