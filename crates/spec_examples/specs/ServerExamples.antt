-- Worked facts of servers, computed from the definitions.
use Rattle.std.specs.Prelude.{◌≡◌, ℕ, List, [], ◌∷◌, ◌++◌, map, None, Result, Ok, Err, codes}
use Rattle.std.specs.Result.{result_map_both}
use Rattle.spec_api.specs.declared.kinds.Kind.TheVariants.{ConfigMap, Pod}
use Rattle.spec_api.specs.History.{View, Entries, unfiltered}
use Rattle.spec_api.specs.Refusals.{Refusal, expired, too_new}
use Rattle.spec_api.specs.Streams.{bookmark}
use Rattle.spec_api.specs.declared.versions.At.TheVariants.{Present, NotOlder, Exact}
use Rattle.spec_api.specs.Versions.{listed_as, list_for, Watched, watched_from, compacts}
use Rattle.spec_api.specs.WatchReplies.{lines_from}
use Rattle.spec_server.specs.Servers.{Server, opened_server, after_entries, after_compaction, list_by, watch_by, compact_by}
use Rattle.spec_examples.specs.WindowExamples.{named, stored, puts, six_writes, config_maps, at_three, at_five}

abbrev pods : View
pods = unfiltered Pod None

-- `b` is removed at 6, and `a` is put at 7
abbrev at_seven : Entries
at_seven = (named ConfigMap (codes "a"), stored (codes "a") (codes "7")) ∷ (named ConfigMap (codes "c"), stored (codes "c") (codes "5")) ∷ []

-- a server with windows of four that has taken in the six writes, at revisions 2 to 7
abbrev server_of_four : Server
server_of_four = after_entries (opened_server 4) six_writes

-- the revisions of the changes that a watch is given, and where it then stands
abbrev given : Result Watched Refusal → Result (List ℕ × ℕ) Refusal
given r = result_map_both (λ w. (map (λ c. c.revision) w.events, w.stands)) (λ f. f) r

-- lists at single revisions, down to the floor and no further; one that need not be so new is the present one
abbrev pub ListsAreAnswered : Type 0
ListsAreAnswered =
    (list_for 4 six_writes config_maps (Exact 5) ≡ Ok (listed_as 5 at_five))
    × (list_for 4 six_writes config_maps (Exact 3) ≡ Ok (listed_as 3 at_three))
    × (list_for 4 six_writes config_maps (Exact 2) ≡ Err (expired 2 3))
    × (list_for 4 six_writes config_maps (Exact 8) ≡ Err (too_new 8 7))
    × (list_for 4 six_writes config_maps (NotOlder 2) ≡ Ok (listed_as 7 at_seven))
    × (list_for 4 six_writes config_maps (NotOlder 8) ≡ Err (too_new 8 7))
    × (list_for 4 six_writes config_maps Present ≡ Ok (listed_as 7 at_seven))
    × (list_by server_of_four config_maps (Exact 5) ≡ Ok (listed_as 5 at_five))
    × (list_by server_of_four config_maps (NotOlder 2) ≡ Ok (listed_as 7 at_seven))

-- a watch that is given two of four changes stands at the second; one that is given all, or none, at the present revision, which may
-- be that of a write of another kind, and a bookmark shows it where no change does
abbrev pub WatchesAreGiven : Type 0
WatchesAreGiven =
    (given (watched_from 4 six_writes config_maps 3 2) ≡ Ok ((4 ∷ 5 ∷ []), 5))
    × (given (watched_from 4 six_writes config_maps 3 4) ≡ Ok ((4 ∷ 5 ∷ 6 ∷ 7 ∷ []), 7))
    × (given (watched_from 4 (six_writes ++ puts Pod (codes "p") (codes "8") ∷ []) config_maps 3 4) ≡ Ok ((4 ∷ 5 ∷ 6 ∷ 7 ∷ []), 8))
    × (given (watched_from 4 six_writes config_maps 7 2) ≡ Ok ([], 7))
    × (result_map_both (lines_from 7) (λ f. f) (watched_from 4 six_writes config_maps 7 2) ≡ Ok [])
    × (given (watched_from 4 six_writes pods 3 2) ≡ Ok ([], 7))
    × (result_map_both (lines_from 3) (λ f. f) (watched_from 4 six_writes pods 3 2) ≡ Ok (bookmark 7 ∷ []))
    × (watched_from 4 six_writes config_maps 2 2 ≡ Err (expired 2 3))
    × (given (watch_by server_of_four config_maps 3 2) ≡ Ok ((4 ∷ 5 ∷ []), 5))
    × (given (watch_by server_of_four pods 3 2) ≡ Ok ([], 7))

-- a compaction is not above the present revision, and moves the floor of each window
abbrev pub CompactionsMoveFloors : Type 0
CompactionsMoveFloors =
    (compacts six_writes 8 ≡ Err (too_new 8 7))
    × (compact_by server_of_four 8 ≡ Err (too_new 8 7))
    × (compact_by server_of_four 5 ≡ Ok (after_compaction server_of_four 5))
    × (list_by (after_compaction server_of_four 5) config_maps (Exact 5) ≡ Ok (listed_as 5 at_five))
    × (list_by (after_compaction server_of_four 5) config_maps (Exact 4) ≡ Err (expired 4 5))
    × (list_by (after_compaction server_of_four 5) pods (Exact 4) ≡ Err (expired 4 5))
