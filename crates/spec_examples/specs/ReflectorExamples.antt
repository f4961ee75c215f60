-- Worked facts of reflectors, computed from the definitions: what exact bytes do.
use Rattle.std.specs.Prelude.{◌≡◌, ℕ, List, [], ◌∷◌, ◌++◌, Some, None, codes, false}
use Rattle.serde_json.specs.Data.{string, object, no_members, member}
use Rattle.spec_api.specs.declared.kinds.Kind.TheVariants.{ConfigMap, Pod}
use Rattle.spec_client_go.specs.declared.reflectors.End.{End}
use Rattle.spec_client_go.specs.declared.reflectors.End.TheVariants.{Expired, Unreadable}
use Rattle.spec_client_go.specs.declared.reflectors.Phase.TheVariants.{Listing, Watching}
use Rattle.spec_api.specs.Objects.{Object}
use Rattle.spec_client_go.specs.Reflectors.{Reflector, none_yet, Fed, list_of, put, remove, mark, fed}

-- the ConfigMap `a` with a value, at a version
abbrev a_map : List ℕ → List ℕ → Object
a_map value version =
    record {
      kind = ConfigMap;
      value =
          object
          (member (codes "apiVersion") (string (codes "v1"))
          (member (codes "data") (object (member (codes "k") (string value) no_members))
          (member (codes "kind") (string (codes "ConfigMap"))
          (member (codes "metadata")
          (object
          (member (codes "creationTimestamp") (string (codes "2026-01-01T00:00:00Z"))
          (member (codes "name") (string (codes "a"))
          (member (codes "namespace") (string (codes "default"))
          (member (codes "resourceVersion") (string version) (member (codes "uid") (string (codes "00000000-0000-8000-8000-000000000002")) no_members))))))
          no_members))));
    }

-- an item of a list, which says no kind
abbrev item_a : List ℕ
item_a =
    codes "{\"data\":{\"k\":\"v\"},\"metadata\":{\"creationTimestamp\":\"2026-01-01T00:00:00Z\",\"name\":\"a\",\"namespace\":\"default\",\"resourceVersion\":\"2\",\"uid\":\"00000000-0000-8000-8000-000000000002\"}}"

-- the list of ConfigMaps at 2 with these items
abbrev list_text : List ℕ → List ℕ
list_text items = codes "{\"apiVersion\":\"v1\",\"items\":[" ++ (items ++ codes "],\"kind\":\"ConfigMapList\",\"metadata\":{\"resourceVersion\":\"2\"}}")

-- the list of ConfigMaps is read with the kind of each filled in; as a list of Pods it is none, nor with one object twice
abbrev pub ListsAreTakenIn : Type 0
ListsAreTakenIn =
    (list_of ConfigMap (list_text item_a) ≡ Some (record { revision = 2; objects = a_map (codes "v") (codes "2") ∷ [] })) × (list_of Pod (list_text item_a) ≡ None)
    × (list_of ConfigMap (list_text (item_a ++ (codes "," ++ item_a))) ≡ None)

abbrev frame : List ℕ → List ℕ → List ℕ
frame type version =
    codes "{\"object\":{\"apiVersion\":\"v1\",\"data\":{\"k\":\"w\"},\"kind\":\"ConfigMap\",\"metadata\":{\"creationTimestamp\":\"2026-01-01T00:00:00Z\",\"name\":\"a\",\"namespace\":\"default\",\"resourceVersion\":\""
    ++ (version ++ (codes "\",\"uid\":\"00000000-0000-8000-8000-000000000002\"}},\"type\":\"" ++ (type ++ codes "\"}\n")))

-- a reflector of ConfigMaps that watches from a revision, with bytes buffered
abbrev watching : ℕ → List ℕ → Reflector
watching r buffered = record { kind = ConfigMap; revision = r; phase = Watching; buffered = buffered; is_streaming = false; initial = none_yet }

-- the first update puts the object and moves the revision to 3, its removal takes it away at 4
abbrev pub ChangesAreTakenIn : Type 0
ChangesAreTakenIn =
    (fed (watching 2 []) (frame (codes "MODIFIED") (codes "3")) ≡ record { deltas = put (a_map (codes "w") (codes "3")) ∷ []; ended = None; after = watching 3 [] })
    × (fed (watching 3 []) (frame (codes "DELETED") (codes "4"))
    ≡ record { deltas = remove 4 (record { kind = ConfigMap; namespace = codes "default"; name = codes "a" }) ∷ []; ended = None; after = watching 4 [] })

abbrev half : List ℕ
half = codes "{\"object\":{\"apiVersion\":\"v1\",\"kind\":\"ConfigMap\",\"metadata\":{\"resourceVersion\":\"7\"}},"

-- of half a bookmark nothing comes; with the other half the revision moves, and the map stays
abbrev pub PartsAreHeld : Type 0
PartsAreHeld =
    (fed (watching 3 []) half ≡ record { deltas = []; ended = None; after = watching 3 half })
    × (fed (watching 3 half) (codes "\"type\":\"BOOKMARK\"}\n") ≡ record { deltas = mark 7 ∷ []; ended = None; after = watching 7 [] })

-- nothing comes of the frame but this end, after which a list is asked for
abbrev ends : End → Fed
ends e = record { deltas = []; ended = Some e; after = record { kind = ConfigMap; revision = 3; phase = Listing; buffered = []; is_streaming = false; initial = none_yet } }

abbrev error : List ℕ → List ℕ
error code = codes "{\"object\":{\"apiVersion\":\"v1\",\"code\":" ++ (code ++ codes ",\"kind\":\"Status\",\"status\":\"Failure\"},\"type\":\"ERROR\"}\n")

-- an error of 410 is an expiry and another is not; a revision that was reached before can't be read, nor what is no frame
abbrev pub EndsAreSeen : Type 0
EndsAreSeen =
    (fed (watching 3 []) (error (codes "410")) ≡ ends Expired) × (fed (watching 3 []) (error (codes "500")) ≡ ends Unreadable)
    × (fed (watching 3 []) (frame (codes "MODIFIED") (codes "3")) ≡ ends Unreadable) × (fed (watching 3 []) (codes "{}\n") ≡ ends Unreadable)
