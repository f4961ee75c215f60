-- Worked facts of watches, computed from the definitions: exact bytes of frames, and what bytes are read as.
use Rattle.std.specs.Prelude.{◌≡◌, ℕ, List, [], ◌∷◌, ◌++◌, map, length, Some, None, Result, Ok, Err, codes, replicate, true, false}
use Rattle.serde_json.specs.Data.{Data, string, object, no_members, member}
use Rattle.spec_api.specs.declared.kinds.Kind.TheVariants.{ConfigMap, Pod, Deployment}
use Rattle.spec_api.specs.declared.frames.FrameKind.TheVariants.{Added, Error}
use Rattle.spec_client_go.specs.declared.frame_fault.FrameFault.TheVariants.{NotAFrame}
use Rattle.spec_api.specs.Keys.{Key}
use Rattle.spec_api.specs.History.{History, View, unfiltered, write, compaction}
use Rattle.spec_api.specs.Refusals.{too_new}
use Rattle.spec_api.specs.Events.{events as changes}
use Rattle.spec_api.specs.Frames.{frame_text, bookmark_frame, error_frame}
use Rattle.spec_client_go.specs.ReadFrames.{reading}
use Rattle.spec_api.specs.Streams.{event, text_of_lines}
use Rattle.form_urlencoded.specs.Form.{raw_pairs}
use Rattle.spec_line_protocol.specs.Lines.{replay}
use Rattle.spec_api.specs.declared.refusals.Part.{Part}
use Rattle.spec_api.specs.declared.refusals.Part.TheVariants as part
use Rattle.spec_api.specs.declared.versions.Start.TheVariants.{After}
use Rattle.spec_api.specs.ListQueries.{Collection, watch, everything, collection_of}
use Rattle.spec_api.specs.declared.selectors.Operator.TheVariants.{In, DoesNotExist}
use Rattle.spec_api.specs.declared.selectors.SelectableField.TheVariants.{Name as NameField}

-- a ConfigMap of a name, with a value and a version
abbrev config_map : List ℕ → List ℕ → List ℕ → Data
config_map name value version =
    object
    (member (codes "data") (object (member (codes "k") (string value) no_members))
    (member (codes "metadata") (object (member (codes "name") (string name) (member (codes "resourceVersion") (string version) no_members))) no_members))

abbrev named : List ℕ → List ℕ → Key
named namespace name = record { kind = ConfigMap; namespace = namespace; name = name }

-- a create, an update, a create in another namespace, a compaction, and a removal
abbrev some_history : History
some_history =
    write (record { key = named (codes "default") (codes "a"); put = Some (config_map (codes "a") (codes "v") (codes "2")) })
    ∷ write (record { key = named (codes "default") (codes "a"); put = Some (config_map (codes "a") (codes "w") (codes "3")) })
    ∷ write (record { key = named (codes "other") (codes "b"); put = Some (config_map (codes "b") (codes "x") (codes "4")) })
    ∷ compaction 3
    ∷ write (record { key = named (codes "default") (codes "a"); put = None })
    ∷ []

abbrev in_default : View
in_default = unfiltered ConfigMap (Some (codes "default"))

abbrev added_a : List ℕ
added_a = codes "{\"object\":{\"data\":{\"k\":\"v\"},\"metadata\":{\"name\":\"a\",\"resourceVersion\":\"2\"}},\"type\":\"ADDED\"}\n"

abbrev modified_a : List ℕ
modified_a = codes "{\"object\":{\"data\":{\"k\":\"w\"},\"metadata\":{\"name\":\"a\",\"resourceVersion\":\"3\"}},\"type\":\"MODIFIED\"}\n"

abbrev added_b : List ℕ
added_b = codes "{\"object\":{\"data\":{\"k\":\"x\"},\"metadata\":{\"name\":\"b\",\"resourceVersion\":\"4\"}},\"type\":\"ADDED\"}\n"

abbrev deleted_a : List ℕ
deleted_a = codes "{\"object\":{\"data\":{\"k\":\"w\"},\"metadata\":{\"name\":\"a\",\"resourceVersion\":\"5\"}},\"type\":\"DELETED\"}\n"

-- a create, an update and a removal are seen as ADDED, MODIFIED and DELETED, the last at its own revision
abbrev pub WritesAreSeen : Type 0
WritesAreSeen = text_of_lines ConfigMap (map event (changes some_history in_default 1 5)) ≡ added_a ++ (modified_a ++ deleted_a)

-- a view of all namespaces sees all of them, one of another kind none
abbrev pub ViewsAreKept : Type 0
ViewsAreKept =
    (text_of_lines ConfigMap (map event (changes some_history (unfiltered ConfigMap None) 1 5)) ≡ added_a ++ (modified_a ++ (added_b ++ deleted_a)))
    × (changes some_history (unfiltered Pod None) 1 5 ≡ [])

-- a watch from revision 2 to 4 sees neither the create before it nor the removal after it, and one from the present revision nothing
abbrev pub WatchesBegin : Type 0
WatchesBegin = (text_of_lines ConfigMap (map event (changes some_history in_default 2 4)) ≡ modified_a) × (changes some_history in_default 5 5 ≡ [])

-- a bookmark, and the one that closes the initial events
abbrev pub BookmarksAreSaid : Type 0
BookmarksAreSaid =
    (frame_text (bookmark_frame ConfigMap false 3)
    ≡ codes "{\"object\":{\"apiVersion\":\"v1\",\"kind\":\"ConfigMap\",\"metadata\":{\"resourceVersion\":\"3\"}},\"type\":\"BOOKMARK\"}\n")
    × (length (frame_text (bookmark_frame ConfigMap false 3)) ≡ 103)
    × (frame_text (bookmark_frame Deployment true 10)
    ≡ codes "{\"object\":{\"apiVersion\":\"apps/v1\",\"kind\":\"Deployment\",\"metadata\":{\"annotations\":{\"k8s.io/initial-events-end\":\"true\"},\"resourceVersion\":\"10\"}},\"type\":\"BOOKMARK\"}\n")

-- an error in a watch that has begun
abbrev pub ErrorsAreSaid : Type 0
ErrorsAreSaid =
    frame_text (error_frame (too_new 9 5))
    ≡ codes "{\"object\":{\"apiVersion\":\"v1\",\"code\":504,\"kind\":\"Status\",\"message\":\"Timeout: Too large resource version: 9, current: 5\",\"metadata\":{},\"reason\":\"Timeout\",\"status\":\"Failure\"},\"type\":\"ERROR\"}\n"

-- a line that is whole is read, and what follows it is buffered; spaces and other members are no matter
abbrev pub FramesAreRead : Type 0
FramesAreRead =
    reading (codes "{\"type\":\"ADDED\", \"n\":1, \"object\":{\"k\":\"v\"}}\n{\"ty")
    ≡ record { events = record { kind = Added; object = object (member (codes "k") (string (codes "v")) no_members) } ∷ []; buffered = codes "{\"ty"; fault = None }

-- an empty line, another type, and an object that is none are no frames, and end what is read
abbrev pub OthersAreRefused : Type 0
OthersAreRefused =
    (reading (codes "\n{\"object\":{},\"type\":\"ERROR\"}\n") ≡ record { events = []; buffered = []; fault = Some NotAFrame })
    × (reading (codes "{\"object\":{},\"type\":\"added\"}\n") ≡ record { events = []; buffered = []; fault = Some NotAFrame })
    × (reading (codes "{\"object\":{},\"type\":\"ERROR\"}\n{\"object\":[],\"type\":\"ERROR\"}\n{}")
    ≡ record { events = record { kind = Error; object = object no_members } ∷ []; buffered = []; fault = Some NotAFrame })

abbrev create_a : List ℕ
create_a = codes "POST /api/v1/namespaces/default/configmaps {\"metadata\":{\"name\":\"a\"},\"data\":{\"k\":\"v\"}}\n"

abbrev update_a : List ℕ
update_a = codes "PUT /api/v1/namespaces/default/configmaps/a {\"metadata\":{\"name\":\"a\",\"resourceVersion\":\"2\"},\"data\":{\"k\":\"w\"}}\n"

abbrev object_a : List ℕ → List ℕ → List ℕ
object_a value version =
    codes "{\"apiVersion\":\"v1\",\"data\":{\"k\":\""
    ++ (value
    ++ (codes "\"},\"kind\":\"ConfigMap\",\"metadata\":{\"creationTimestamp\":\"2026-01-01T00:00:00Z\",\"name\":\"a\",\"namespace\":\"default\",\"resourceVersion\":\""
    ++ (version ++ codes "\",\"uid\":\"00000000-0000-8000-8000-000000000002\"}}")))

-- a watch shows how many changes there are since its revision, and these; one from a revision that is not there yet is refused
abbrev pub WatchesAreReplayed : Type 0
WatchesAreReplayed =
    replay
    (create_a
    ++ update_a
    ++ codes "GET /api/v1/namespaces/default/configmaps?watch=true&resourceVersion=2\n"
    ++ codes "GET /api/v1/configmaps?resourceVersion=3&watch=1\n"
    ++ codes "GET /api/v1/namespaces/default/configmaps?watch=true&resourceVersion=4\n")
    ≡ (codes "201 " ++ object_a (codes "v") (codes "2") ++ codes "\n")
    ++ (codes "200 " ++ object_a (codes "w") (codes "3") ++ codes "\n")
    ++ (codes "200 watch 1\n{\"object\":" ++ object_a (codes "w") (codes "3") ++ codes ",\"type\":\"MODIFIED\"}\n")
    ++ codes "200 watch 0\n"
    ++ codes "504 {\"apiVersion\":\"v1\",\"code\":504,\"kind\":\"Status\",\"message\":\"Timeout: Too large resource version: 4, current: 3\",\"metadata\":{},\"reason\":\"Timeout\",\"status\":\"Failure\"}\n"

abbrev query_in : List ℕ → Result Collection Part
query_in query = collection_of (raw_pairs query)

abbrev watching : ℕ → Collection
watching r = record { labels = []; fields = []; read = watch (record { start = After r; bookmarks = false }) }

-- of repeated members the first counts, names and values are decoded, and what is not known says nothing
abbrev pub QueriesAreRead : Type 0
QueriesAreRead =
    (query_in (codes "") ≡ Ok everything)
    × (query_in (codes "pretty=1&&x") ≡ Ok everything)
    × (query_in (codes "resourceVersion=&labelSelector=&fieldSelector") ≡ Ok everything)
    × (query_in (codes "watch=true&resourceVersion=7&watch=false&resourceVersion=x") ≡ Ok (watching 7))
    × (query_in (codes "w%61tch=%31&resource%56ersion=9007199254740991") ≡ Ok (watching 9007199254740991))
    × (query_in (codes "labelSelector=a+in+(b),%21c&fieldSelector=metadata.name!%3Dx")
    ≡ Ok
    (record {
      labels = record { key = codes "a"; operator = In; values = codes "b" ∷ [] } ∷ record { key = codes "c"; operator = DoesNotExist; values = [] } ∷ [];
      fields = record { field = NameField; wanted = false; value = codes "x" } ∷ [];
      read = everything.read;
    }))

-- what a watch or a list does not understand, or does not serve so far
abbrev pub QueriesAreRefused : Type 0
QueriesAreRefused =
    map query_in
    (codes "watch=true&resourceVersion=00" ∷ codes "watch=true&resourceVersion=-1" ∷ codes "watch=true&resourceVersion=9007199254740992" ∷ codes "limit=" ∷ codes "limit=-1" ∷ codes "resourceVersion=1.0"
    ∷ codes "resourceVersionMatch=" ∷ codes "sendInitialEvents=" ∷ codes "dryRun=" ∷ codes "labelSelector=k+in+()" ∷ codes "fieldSelector=spec.x%3Dy" ∷ codes "fieldSelector=x&continue=!!" ∷ [])
    ≡ replicate 12 (Err part.Query)

abbrev labelled_a : List ℕ → List ℕ → List ℕ
labelled_a labels version =
    codes "{\"apiVersion\":\"v1\",\"kind\":\"ConfigMap\",\"metadata\":{\"creationTimestamp\":\"2026-01-01T00:00:00Z\","
    ++ (labels
    ++ (codes "\"name\":\"a\",\"namespace\":\"default\",\"resourceVersion\":\"" ++ (version ++ codes "\",\"uid\":\"00000000-0000-8000-8000-000000000002\"}}")))

abbrev with_x : List ℕ
with_x = codes "\"labels\":{\"x\":\"1\"},"

-- an object that loses the label that a watch selects by is DELETED for it, at the revision of that change, and ADDED where it has it again
abbrev pub SelectionsAreLeft : Type 0
SelectionsAreLeft =
    replay
    (codes "POST /api/v1/namespaces/default/configmaps {\"metadata\":{\"name\":\"a\",\"labels\":{\"x\":\"1\"}}}\n"
    ++ codes "PUT /api/v1/namespaces/default/configmaps/a {\"metadata\":{\"name\":\"a\"}}\n"
    ++ codes "PUT /api/v1/namespaces/default/configmaps/a {\"metadata\":{\"name\":\"a\",\"labels\":{\"x\":\"1\"}}}\n"
    ++ codes "GET /api/v1/namespaces/default/configmaps?watch=true&resourceVersion=2&labelSelector=x%3D1\n")
    ≡ (codes "201 " ++ labelled_a with_x (codes "2") ++ codes "\n")
    ++ (codes "200 " ++ labelled_a [] (codes "3") ++ codes "\n")
    ++ (codes "200 " ++ labelled_a with_x (codes "4") ++ codes "\n")
    ++ codes "200 watch 2\n"
    ++ (codes "{\"object\":" ++ labelled_a with_x (codes "3") ++ codes ",\"type\":\"DELETED\"}\n")
    ++ (codes "{\"object\":" ++ labelled_a with_x (codes "4") ++ codes ",\"type\":\"ADDED\"}\n")
