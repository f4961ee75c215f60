-- Worked facts of watches that begin with initial events (Kubernetes API Concepts, Streaming lists), computed from the definitions.
use Rattle.std.specs.Prelude.{◌≡◌, ℕ, List, [], ◌∷◌, ◌++◌, length, None, Some, true, false, Ok, Err, codes}
use Rattle.spec_api.specs.declared.kinds.Kind.TheVariants.{ConfigMap}
use Rattle.spec_api.specs.declared.refusals.Part.TheVariants as part
use Rattle.spec_api.specs.History.{History, compaction}
use Rattle.spec_api.specs.Refusals.{expired, too_new}
use Rattle.spec_api.specs.Replies.{watch_reply}
use Rattle.spec_api.specs.Queries.{Pairs, pairs_of}
use Rattle.spec_line_protocol.specs.Lines.{reply_text}
use Rattle.spec_api.specs.ListQueries.{watch_options, read_by}
use Rattle.spec_api.specs.WatchReplies.{watch_lines}
use Rattle.spec_api.specs.Streams.{text_of_lines, initial, initial_end}
use Rattle.spec_api.specs.declared.versions.Start.TheVariants.{After, Listed, Streamed, Present}
use Rattle.spec_examples.specs.WindowExamples.{named, stored, puts, config_maps}

abbrev closing : List ℕ
closing = codes "{\"object\":{\"apiVersion\":\"v1\",\"kind\":\"ConfigMap\",\"metadata\":{\"annotations\":{\"k8s.io/initial-events-end\":\"true\"},\"resourceVersion\":\"1\"}},\"type\":\"BOOKMARK\"}\n"

-- on the empty store the closing bookmark alone is shown, of 154 bytes; without bookmarks nothing is shown; and a revision above the present is refused
abbrev pub EmptyListsAreClosed : Type 0
EmptyListsAreClosed =
    (reply_text (watch_reply ConfigMap (watch_lines 1024 [] config_maps (record { start = Streamed None; bookmarks = true }))) ≡ codes "200 watch 1\n" ++ closing)
    × (text_of_lines ConfigMap (initial_end 1 ∷ []) ≡ closing)
    × (length closing ≡ 154)
    × (watch_lines 1024 [] config_maps (record { start = Streamed (Some 1); bookmarks = true }) ≡ Ok (initial_end 1 ∷ []))
    × (watch_lines 1024 [] config_maps (record { start = Streamed None; bookmarks = false }) ≡ Ok [])
    × (watch_lines 1024 [] config_maps (record { start = Streamed (Some 2); bookmarks = true }) ≡ Err (too_new 2 1))
    × (watch_lines 1024 [] config_maps (record { start = Present; bookmarks = true }) ≡ Ok [])

-- b and a are put, and what happened up to then is compacted
abbrev two_writes : History
two_writes = puts ConfigMap (codes "b") (codes "2") ∷ puts ConfigMap (codes "a") (codes "3") ∷ compaction 3 ∷ []

-- what is there comes in order, and then the bookmark that closes it, also where a revision below the floor is named, from which no watch is served
abbrev pub ListsAreClosed : Type 0
ListsAreClosed =
    (watch_lines 1024 two_writes config_maps (record { start = Streamed (Some 1); bookmarks = true })
    ≡ Ok (initial (named ConfigMap (codes "a")) (stored (codes "a") (codes "3")) ∷ initial (named ConfigMap (codes "b")) (stored (codes "b") (codes "2")) ∷ initial_end 3 ∷ []))
    × (watch_lines 1024 two_writes config_maps (record { start = Streamed None; bookmarks = false })
    ≡ Ok (initial (named ConfigMap (codes "a")) (stored (codes "a") (codes "3")) ∷ initial (named ConfigMap (codes "b")) (stored (codes "b") (codes "2")) ∷ []))
    × (watch_lines 1024 two_writes config_maps (record { start = Streamed (Some 4); bookmarks = true }) ≡ Err (too_new 4 3))
    × (watch_lines 1024 two_writes config_maps (record { start = After 2; bookmarks = true }) ≡ Err (expired 2 3))
    × (watch_lines 1024 two_writes config_maps (record { start = Present; bookmarks = true }) ≡ Ok [])

abbrev asked : List ℕ → Pairs
asked query = pairs_of (codes "/api/v1/configmaps?watch=true&" ++ query)

-- what queries of watches ask
abbrev pub StartsAreRead : Type 0
StartsAreRead =
    (watch_options (asked (codes "sendInitialEvents=true&resourceVersionMatch=NotOlderThan&allowWatchBookmarks=true")) ≡ Ok (record { start = Streamed None; bookmarks = true }))
    × (watch_options (asked (codes "sendInitialEvents=true&resourceVersionMatch=NotOlderThan&resourceVersion=7")) ≡ Ok (record { start = Streamed (Some 7); bookmarks = false }))
    × (watch_options (asked (codes "sendInitialEvents=1&resourceVersionMatch=NotOlderThan&resourceVersion=0")) ≡ Ok (record { start = Streamed None; bookmarks = false }))
    × (watch_options (asked (codes "sendInitialEvents=false&resourceVersionMatch=NotOlderThan&resourceVersion=7")) ≡ Ok (record { start = After 7; bookmarks = false }))
    × (watch_options (asked (codes "sendInitialEvents=&resourceVersionMatch=NotOlderThan")) ≡ Ok (record { start = Present; bookmarks = false }))
    × (watch_options (asked (codes "resourceVersion=7")) ≡ Ok (record { start = After 7; bookmarks = false }))
    × (watch_options (asked (codes "resourceVersion=0")) ≡ Ok (record { start = Listed; bookmarks = false }))
    × (watch_options (asked (codes "sendInitialEvents=true")) ≡ Err part.Query)
    × (watch_options (asked (codes "sendInitialEvents=false&resourceVersion=7")) ≡ Err part.Query)
    × (watch_options (asked (codes "sendInitialEvents=true&resourceVersionMatch=Exact&resourceVersion=7")) ≡ Err part.Query)
    × (watch_options (asked (codes "resourceVersionMatch=NotOlderThan&resourceVersion=7")) ≡ Err part.Query)
    × (read_by (pairs_of (codes "/api/v1/configmaps?sendInitialEvents=true&resourceVersionMatch=NotOlderThan&continue=x")) ≡ Err part.Query)
    × (read_by (pairs_of (codes "/api/v1/configmaps?sendInitialEvents=false")) ≡ Err part.Query)
