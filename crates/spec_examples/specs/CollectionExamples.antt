-- Worked facts of the queries of collections, computed from the definitions.
use Rattle.std.specs.Prelude.{◌≡◌, ℕ, List, [], true, false, Some, None, Result, Ok, Err, codes}
use Rattle.spec_api.specs.declared.refusals.Part.{Part}
use Rattle.spec_api.specs.declared.refusals.Part.TheVariants as part
use Rattle.spec_api.specs.ListQueries.{Collection, list, watch, WatchOptions, collection_of}
use Rattle.spec_api.specs.Queries.{pairs_of}
use Rattle.spec_api.specs.declared.versions.At.{At}
use Rattle.spec_api.specs.declared.versions.At.TheVariants.{Present, NotOlder, Exact}
use Rattle.spec_api.specs.declared.versions.Start.TheVariants.{After, Listed}

-- what a query asks, where no selector is given
abbrev pub asked : List ℕ → Result Collection Part
asked query = collection_of (pairs_of query)

abbrev lists : At → ℕ → Result Collection Part
lists at limit = Ok (record { labels = []; fields = []; read = list (record { at = at; limit = limit; after = None }) })

-- a revision of its own with a limit is exact, and without one no older; a match says which
abbrev pub VersionsAreMatched : Type 0
VersionsAreMatched =
    (asked (codes "?") ≡ lists Present 0)
    × (asked (codes "?resourceVersion=0") ≡ lists Present 0)
    × (asked (codes "?resourceVersion=7") ≡ lists (NotOlder 7) 0)
    × (asked (codes "?resourceVersion=7&limit=2") ≡ lists (Exact 7) 2)
    × (asked (codes "?resourceVersion=7&limit=2&resourceVersionMatch=NotOlderThan") ≡ lists (NotOlder 7) 2)
    × (asked (codes "?resourceVersion=7&resourceVersionMatch=Exact") ≡ lists (Exact 7) 0)
    × (asked (codes "?resourceVersion=0&resourceVersionMatch=Exact") ≡ Err part.Query)
    × (asked (codes "?resourceVersionMatch=Exact") ≡ Err part.Query)
    × (asked (codes "?resourceVersion=07") ≡ Err part.Query)
    × (asked (codes "?limit=1234567890") ≡ Err part.Query)

-- a list goes on after the place of its token, at the token's revision; a fault of the query is told before one of the token
abbrev pub TokensGoOn : Type 0
TokensGoOn =
    (asked (codes "?limit=2&continue=eyJuYW1lIjoiYiIsIm5hbWVzcGFjZSI6ImRlZmF1bHQiLCJydiI6IjYifQ")
    ≡ Ok (record { labels = []; fields = []; read = list (record { at = Exact 6; limit = 2; after = Some (record { namespace = codes "default"; name = codes "b" }) }) }))
    × (asked (codes "?continue=!!") ≡ Err part.Token)
    × (asked (codes "?continue=eyJuYW1lIjoiYiIsIm5hbWVzcGFjZSI6ImRlZmF1bHQiLCJydiI6IjYifQ==") ≡ Err part.Token)
    × (asked (codes "?continue=!!&resourceVersion=6") ≡ Err part.Query)
    × (asked (codes "?continue=!!&limit=x") ≡ Err part.Query)

abbrev watches : List ℕ → WatchOptions → Type 0
watches query o = asked query ≡ Ok (record { labels = []; fields = []; read = watch o })

-- a watch looks at no limit and at no token; unset and 0 begin with what is there
abbrev pub WatchesAreAsked : Type 0
WatchesAreAsked =
    watches (codes "?watch=true&resourceVersion=5") (record { start = After 5; bookmarks = false })
    × watches (codes "?watch=1&allowWatchBookmarks=true&resourceVersion=5&limit=x&continue=!!") (record { start = After 5; bookmarks = true })
    × watches (codes "?watch=true") (record { start = Listed; bookmarks = false })
    × watches (codes "?watch=true&resourceVersion=0") (record { start = Listed; bookmarks = false })
    × (asked (codes "?watch=true&resourceVersion=5&resourceVersionMatch=NotOlderThan") ≡ Err part.Query)
    × (asked (codes "?watch=false&resourceVersion=5") ≡ lists (NotOlder 5) 0)
    × (asked (codes "?watch=true&sendInitialEvents=true") ≡ Err part.Query)
    × (asked (codes "?dryRun=") ≡ Err part.Query)
