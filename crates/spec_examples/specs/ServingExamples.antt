-- Worked facts of pages, compactions, bookmarks and windows, computed from the definitions: what is written for these lines.
use Rattle.std.specs.Prelude.{◌≡◌, ℕ, List, ◌++◌, codes, decimal}
use Rattle.spec_line_protocol.specs.Lines.{replay, replay_with}

abbrev create : List ℕ → List ℕ
create name = codes "POST /api/v1/namespaces/default/configmaps {\"metadata\":{\"name\":\"" ++ (name ++ codes "\"}}\n")

-- a ConfigMap of a name at a revision, which is that of its create too
abbrev metadata : List ℕ → ℕ → List ℕ
metadata name r =
    codes "\"metadata\":{\"creationTimestamp\":\"2026-01-01T00:00:00Z\",\"name\":\""
    ++ (name
    ++ (codes "\",\"namespace\":\"default\",\"resourceVersion\":\""
    ++ (decimal r ++ (codes "\",\"uid\":\"00000000-0000-8000-8000-00000000000" ++ (decimal r ++ codes "\"}}")))))

abbrev created : List ℕ → ℕ → List ℕ
created name r = codes "201 {\"apiVersion\":\"v1\",\"kind\":\"ConfigMap\"," ++ (metadata name r ++ codes "\n")

abbrev item : List ℕ → ℕ → List ℕ
item name r = codes "{" ++ metadata name r

abbrev page : List ℕ → List ℕ → List ℕ
page items said = codes "200 {\"apiVersion\":\"v1\",\"items\":[" ++ (items ++ (codes "],\"kind\":\"ConfigMapList\",\"metadata\":{" ++ (said ++ codes "}}\n")))

abbrev refused : List ℕ → List ℕ → List ℕ → List ℕ
refused code message reason =
    code
    ++ (codes " {\"apiVersion\":\"v1\",\"code\":"
    ++ (code
    ++ (codes ",\"kind\":\"Status\",\"message\":\"" ++ (message ++ (codes "\",\"metadata\":{},\"reason\":\"" ++ (reason ++ codes "\",\"status\":\"Failure\"}\n"))))))

abbrev success : List ℕ
success = codes "200 {\"apiVersion\":\"v1\",\"kind\":\"Status\",\"metadata\":{},\"status\":\"Success\"}\n"

abbrev five_creates : List ℕ
five_creates = create (codes "a") ++ create (codes "b") ++ create (codes "c") ++ create (codes "d") ++ create (codes "e")

abbrev five_created : List ℕ
five_created = created (codes "a") 2 ++ created (codes "b") 3 ++ created (codes "c") 4 ++ created (codes "d") 5 ++ created (codes "e") 6

-- a page says how to go on and how many follow; the next one is of the same list, whatever has happened since; what is compacted is gone
abbrev pub PagesGoOn : Type 0
PagesGoOn =
    replay
    (five_creates
    ++ codes "GET /api/v1/namespaces/default/configmaps?limit=2\n"
    ++ codes "DELETE /api/v1/namespaces/default/configmaps/d\n"
    ++ codes "GET /api/v1/namespaces/default/configmaps?limit=2&continue=eyJuYW1lIjoiYiIsIm5hbWVzcGFjZSI6ImRlZmF1bHQiLCJydiI6IjYifQ\n"
    ++ codes "COMPACT 7\n"
    ++ codes "GET /api/v1/namespaces/default/configmaps?limit=2&continue=eyJuYW1lIjoiYiIsIm5hbWVzcGFjZSI6ImRlZmF1bHQiLCJydiI6IjYifQ\n")
    ≡ five_created
    ++ page (item (codes "a") 2 ++ codes "," ++ item (codes "b") 3) (codes "\"continue\":\"eyJuYW1lIjoiYiIsIm5hbWVzcGFjZSI6ImRlZmF1bHQiLCJydiI6IjYifQ\",\"remainingItemCount\":3,\"resourceVersion\":\"6\"")
    ++ codes "200 {\"apiVersion\":\"v1\",\"details\":{\"kind\":\"configmaps\",\"name\":\"d\",\"uid\":\"00000000-0000-8000-8000-000000000005\"},\"kind\":\"Status\",\"metadata\":{},\"status\":\"Success\"}\n"
    ++ page (item (codes "c") 4 ++ codes "," ++ item (codes "d") 5) (codes "\"continue\":\"eyJuYW1lIjoiZCIsIm5hbWVzcGFjZSI6ImRlZmF1bHQiLCJydiI6IjYifQ\",\"remainingItemCount\":1,\"resourceVersion\":\"6\"")
    ++ success
    ++ refused (codes "410") (codes "too old resource version: 6 (7)") (codes "Expired")

-- a watch that asks for bookmarks is told where it stands, if that is above its start; a compaction reaches no further than the present revision
abbrev pub BookmarksAreShown : Type 0
BookmarksAreShown =
    replay
    (create (codes "a")
    ++ codes "POST /api/v1/namespaces/default/pods {\"metadata\":{\"name\":\"p\"}}\n"
    ++ codes "GET /api/v1/namespaces/default/configmaps?watch=true&resourceVersion=2&allowWatchBookmarks=true\n"
    ++ codes "GET /api/v1/namespaces/default/configmaps?watch=true&resourceVersion=3&allowWatchBookmarks=true\n"
    ++ codes "GET /api/v1/namespaces/default/configmaps?watch=true&resourceVersion=0&allowWatchBookmarks=true\n"
    ++ codes "COMPACT 4\n")
    ≡ created (codes "a") 2
    ++ codes "201 {\"apiVersion\":\"v1\",\"kind\":\"Pod\",\"metadata\":{\"creationTimestamp\":\"2026-01-01T00:00:00Z\",\"name\":\"p\",\"namespace\":\"default\",\"resourceVersion\":\"3\",\"uid\":\"00000000-0000-8000-8000-000000000003\"},\"spec\":{},\"status\":{\"phase\":\"Pending\"}}\n"
    ++ codes "200 watch 1\n{\"object\":{\"apiVersion\":\"v1\",\"kind\":\"ConfigMap\",\"metadata\":{\"resourceVersion\":\"3\"}},\"type\":\"BOOKMARK\"}\n"
    ++ codes "200 watch 0\n"
    ++ (codes "200 watch 1\n{\"object\":{\"apiVersion\":\"v1\",\"kind\":\"ConfigMap\"," ++ (metadata (codes "a") 2 ++ codes ",\"type\":\"ADDED\"}\n"))
    ++ refused (codes "504") (codes "Timeout: Too large resource version: 4, current: 3") (codes "Timeout")

-- with a window of two writes, the third last is where watches and older lists begin to be served
abbrev pub WindowsForget : Type 0
WindowsForget =
    replay_with 2
    (create (codes "a")
    ++ create (codes "b")
    ++ create (codes "c")
    ++ codes "GET /api/v1/namespaces/default/configmaps?watch=true&resourceVersion=1\n"
    ++ codes "GET /api/v1/namespaces/default/configmaps?resourceVersion=1&resourceVersionMatch=Exact\n"
    ++ codes "GET /api/v1/namespaces/default/configmaps?resourceVersion=2&resourceVersionMatch=Exact\n"
    ++ codes "GET /api/v1/namespaces/default/configmaps?resourceVersion=5\n")
    ≡ created (codes "a") 2
    ++ created (codes "b") 3
    ++ created (codes "c") 4
    ++ refused (codes "410") (codes "too old resource version: 1 (2)") (codes "Expired")
    ++ refused (codes "410") (codes "too old resource version: 1 (2)") (codes "Expired")
    ++ page (item (codes "a") 2) (codes "\"resourceVersion\":\"2\"")
    ++ refused (codes "504") (codes "Timeout: Too large resource version: 5, current: 4") (codes "Timeout")
