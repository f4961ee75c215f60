-- Worked facts of reflectors whose stream is cut, expires, or says what can't be read.
use Rattle.std.specs.Prelude.{◌≡◌, ◌==◌, ℕ, false, List, [], ◌∷◌, ◌++◌, length, Some, None, codes}
use Rattle.std.specs.List.{All}
use Rattle.serde_json.specs.Data.{string, object, no_members, member}
use Rattle.spec_api.specs.declared.kinds.Kind.TheVariants.{ConfigMap}
use Rattle.spec_client_go.specs.declared.reflectors.Ask.TheVariants as ask
use Rattle.spec_client_go.specs.declared.reflectors.End.{End}
use Rattle.spec_client_go.specs.declared.reflectors.End.TheVariants.{Expired, Unreadable}
use Rattle.spec_client_go.specs.declared.reflectors.Phase.TheVariants.{Listing, Watching}
use Rattle.spec_api.specs.Objects.{Object}
use Rattle.spec_client_go.specs.Reflectors.{Reflector, none_yet, Fed, Delta, put, mark, asks, cut, expired, fed}

-- a reflector of ConfigMaps that watches from revision 3, with bytes buffered
abbrev pub at_three : List ℕ → Reflector
at_three buffered = record { kind = ConfigMap; revision = 3; phase = Watching; buffered = buffered; is_streaming = false; initial = none_yet }

-- this came of the bytes, and the reflector watches from a revision, with nothing buffered
abbrev gives : List Delta → ℕ → Fed
gives ds r = record { deltas = ds; ended = None; after = record { kind = ConfigMap; revision = r; phase = Watching; buffered = []; is_streaming = false; initial = none_yet } }

-- nothing came of the bytes, and they are buffered
abbrev pub holds : List ℕ → Fed
holds buffered = record { deltas = []; ended = None; after = at_three buffered }

-- nothing came of the bytes but this end, and a list is asked for
abbrev pub ends : End → Fed
ends e = record { deltas = []; ended = Some e; after = record { kind = ConfigMap; revision = 3; phase = Listing; buffered = []; is_streaming = false; initial = none_yet } }

abbrev a_map : Object
a_map =
    record {
      kind = ConfigMap;
      value =
          object
          (member (codes "apiVersion") (string (codes "v1"))
          (member (codes "kind") (string (codes "ConfigMap"))
          (member (codes "metadata")
          (object
          (member (codes "creationTimestamp") (string (codes "2026-01-01T00:00:00Z"))
          (member (codes "name") (string (codes "a"))
          (member (codes "namespace") (string (codes "default"))
          (member (codes "resourceVersion") (string (codes "4")) (member (codes "uid") (string (codes "00000000-0000-8000-8000-000000000002")) no_members))))))
          no_members)));
    }

-- ---- a cut

-- a frame that puts the ConfigMap `a` at 4, in two parts
abbrev first_part : List ℕ
first_part = codes "{\"object\":{\"apiVersion\":\"v1\",\"kind\":\"ConfigMap\",\"metadata\":{\"creationTimestamp\":\"2026-01-01T00:00:00Z\",\"name\":\"a\",\"name"

abbrev second_part : List ℕ
second_part = codes "space\":\"default\",\"resourceVersion\":\"4\",\"uid\":\"00000000-0000-8000-8000-000000000002\"}},\"type\":\"ADDED\"}\n"

-- of the first part nothing comes; it is dropped where the stream is cut, and the revision stays, and so does what is asked for;
-- then the whole frame is taken in as ever, while the second part alone would be no frame
pub record CutsDropParts : Type 0 where
  pub is_held : fed (at_three []) first_part ≡ holds first_part
  pub is_dropped : cut (at_three first_part) ≡ at_three []
  pub asks_again : asks (cut (at_three first_part)) ≡ ask.Watch 3
  pub is_whole_again : fed (cut (at_three first_part)) (first_part ++ second_part) ≡ gives (put a_map ∷ []) 4
  pub is_joined_without_a_cut : fed (at_three first_part) second_part ≡ gives (put a_map ∷ []) 4
  pub second_alone : fed (cut (at_three first_part)) second_part ≡ ends Unreadable

-- ---- an expiry

abbrev error : List ℕ → List ℕ
error code = codes "{\"object\":{\"apiVersion\":\"v1\",\"code\":" ++ (code ++ codes ",\"kind\":\"Status\",\"status\":\"Failure\"},\"type\":\"ERROR\"}\n")

-- after an ERROR of 410 a list is asked for, and what comes then of the watch is nothing; one of another code, or of none, can't be read
pub record ExpiriesAskForLists : Type 0 where
  pub is_expired : fed (at_three []) (error (codes "410")) ≡ ends Expired
  pub asks_for_a_list : asks (fed (at_three []) (error (codes "410"))).after ≡ ask.List
  pub gives_nothing_then : fed (fed (at_three []) (error (codes "410"))).after (first_part ++ second_part) ≡ record { deltas = []; ended = None; after = expired (at_three []) }
  pub another_code : fed (at_three []) (error (codes "504")) ≡ ends Unreadable
  pub no_code : fed (at_three []) (error (codes "\"410\"")) ≡ ends Unreadable
  pub frames_before_count : fed (at_three []) (first_part ++ (second_part ++ error (codes "410")))
      ≡ record { deltas = put a_map ∷ []; ended = Some Expired; after = record { kind = ConfigMap; revision = 4; phase = Listing; buffered = []; is_streaming = false; initial = none_yet } }

-- ---- bookmarks

abbrev bookmark : List ℕ → List ℕ → List ℕ
bookmark kind version = codes "{\"object\":{\"apiVersion\":\"v1\",\"kind\":\"" ++ (kind ++ (codes "\",\"metadata\":{\"resourceVersion\":\"" ++ (version ++ codes "\"}},\"type\":\"BOOKMARK\"}\n")))

-- a bookmark may say the last revision again, or a later one, and no earlier one; one of another kind, or without a revision, can't be read
pub record BookmarksAreReached : Type 0 where
  pub equal : fed (at_three []) (bookmark (codes "ConfigMap") (codes "3")) ≡ gives (mark 3 ∷ []) 3
  pub later : fed (at_three []) (bookmark (codes "ConfigMap") (codes "9")) ≡ gives (mark 9 ∷ []) 9
  pub lower : fed (at_three []) (bookmark (codes "ConfigMap") (codes "2")) ≡ ends Unreadable
  pub other_kind : fed (at_three []) (bookmark (codes "Pod") (codes "4")) ≡ ends Unreadable
  pub no_revision : fed (at_three []) (bookmark (codes "ConfigMap") (codes "")) ≡ ends Unreadable

-- ---- a line too long

abbrev pub has_no_newline : List ℕ → Type 0
has_no_newline line = All (λ b. (b == 10) ≡ false) line

-- a line of 2,097,151 bytes may still become a frame; with one more it is too long, whole or not
pub record LongLinesEnd : Type 0 where
  pub longest_is_held : (line : List ℕ) → has_no_newline line → length line ≡ 2097151 → fed (at_three []) line ≡ holds line
  pub too_long : (line : List ℕ) → has_no_newline line → length line ≡ 2097152 → fed (at_three []) line ≡ ends Unreadable
  pub too_long_and_whole : (line : List ℕ) → has_no_newline line → length line ≡ 2097152 → fed (at_three []) (line ++ 10 ∷ []) ≡ ends Unreadable
