-- What a server takes the targets for.
use Rattle.std.specs.Prelude.{◌≡◌, ◌<◌, ◌^◌, ℕ, List, [], true, Some, None, Ok}
use Rattle.spec_api.specs.declared.kinds.Kind.{Kind}
use Rattle.spec_api.specs.declared.methods.Method.TheVariants.{Get}
use Rattle.spec_api.specs.declared.versions.At.TheVariants.{Present, Exact}
use Rattle.spec_api.specs.declared.versions.Start.TheVariants.{Streamed}
use Rattle.spec_api.specs.ListQueries.{plain_start}
use Rattle.spec_api.specs.Targets.{Asked, list, watch, read_request}
use Rattle.request_encoding.specs.Scopes.{Scope, view_in}

-- a server that is asked by a GET of the target takes it for this
abbrev pub Asks : List ℕ → Asked → Type 0
Asks target asked = read_request Get target [] ≡ Ok asked

-- all objects of a kind in a scope, at present
abbrev pub listed : Scope → Kind → Asked
listed s k = list (view_in s k) (record { at = Present; limit = 0; after = None })

-- the first so many of them, as they were at a revision
abbrev pub paged : Scope → Kind → ℕ → ℕ → Asked
paged s k limit r = list (view_in s k) (record { at = Exact r; limit = limit; after = None })

-- a limit and a revision that a query can name (Kubernetes API Concepts, Resource versions)
abbrev pub IsPage : ℕ → ℕ → Type 0
IsPage limit r = (0 < limit) × (limit < 1000000000) × (0 < r) × (r < 2 ^ 53)

-- what happens to them after a revision; after 0 it begins with what is there
abbrev pub watched : Scope → Kind → ℕ → Asked
watched s k r = watch (view_in s k) (record { start = plain_start (Some r); bookmarks = true })

-- what is there, and then what happens to them
abbrev pub streamed : Scope → Kind → Asked
streamed s k = watch (view_in s k) (record { start = Streamed None; bookmarks = true })
