-- Worked facts of looks for some changes, all or none, computed from the definitions.
use Rattle.std.specs.Prelude.{◌≡◌, ℕ, List, [], ◌∷◌, ◌++◌, map, None, true, false, Result, Ok, Err, codes}
use Rattle.std.specs.Result.{result_map_both}
use Rattle.spec_api.specs.declared.kinds.Kind.TheVariants.{ConfigMap, Pod}
use Rattle.spec_api.specs.declared.versions.Start.TheVariants.{Listed}
use Rattle.spec_api.specs.History.{View, unfiltered}
use Rattle.spec_api.specs.Refusals.{Refusal, expired, too_new}
use Rattle.spec_api.specs.Streams.{Line, event, bookmark, initial, initial_end}
use Rattle.spec_api.specs.Versions.{Watched, watched_from}
use Rattle.spec_api.specs.WatchReplies.{lines_from, watch_lines}
use Rattle.spec_examples.specs.WindowExamples.{named, stored, puts, six_writes, config_maps}

abbrev pods : View
pods = unfiltered Pod None

-- what a line says of itself: the revision of a change or of a bookmark, 0 of an object that was there
abbrev said : Line → ℕ
said (event c) = c.revision
said (bookmark r) = r
said (initial n d) = 0
said (initial_end r) = r

-- what the lines say, and where the watch then stands
abbrev shown : ℕ → Result Watched Refusal → Result (List ℕ × ℕ) Refusal
shown a r = result_map_both (λ w. (map said (lines_from a w), w.stands)) (λ f. f) r

-- of none of four changes nothing is shown, and the watch stays where it was; where there is none to come, or none of the kind,
-- it stands at the present revision, and a bookmark says so
abbrev pub NoneMayBeAsked : Type 0
NoneMayBeAsked =
    (shown 3 (watched_from 4 six_writes config_maps 3 0) ≡ Ok ([], 3))
    × (shown 7 (watched_from 4 six_writes config_maps 7 0) ≡ Ok ([], 7))
    × (shown 3 (watched_from 4 six_writes pods 3 0) ≡ Ok ((7 ∷ []), 7))
    × (watched_from 4 six_writes config_maps 2 0 ≡ Err (expired 2 3))
    × (watched_from 4 six_writes config_maps 8 0 ≡ Err (too_new 8 7))

-- four changes, two at a time, are shown by two looks; by the third, after a write of another kind, a bookmark
abbrev pub SomeMayBeLeft : Type 0
SomeMayBeLeft =
    (shown 3 (watched_from 4 six_writes config_maps 3 1) ≡ Ok ((4 ∷ []), 4))
    × (shown 3 (watched_from 4 six_writes config_maps 3 2) ≡ Ok ((4 ∷ 5 ∷ []), 5))
    × (shown 5 (watched_from 4 six_writes config_maps 5 2) ≡ Ok ((6 ∷ 7 ∷ []), 7))
    × (shown 7 (watched_from 4 (six_writes ++ puts Pod (codes "p") (codes "8") ∷ []) config_maps 7 2) ≡ Ok ((8 ∷ []), 8))

-- a watch from no revision begins with what is there in order, with bookmarks or without, and with nothing where nothing is there
abbrev pub ListsComeFirst : Type 0
ListsComeFirst =
    (watch_lines 4 six_writes config_maps (record { start = Listed; bookmarks = false })
    ≡ Ok (initial (named ConfigMap (codes "a")) (stored (codes "a") (codes "7")) ∷ initial (named ConfigMap (codes "c")) (stored (codes "c") (codes "5")) ∷ []))
    × (watch_lines 4 six_writes config_maps (record { start = Listed; bookmarks = true })
    ≡ Ok (initial (named ConfigMap (codes "a")) (stored (codes "a") (codes "7")) ∷ initial (named ConfigMap (codes "c")) (stored (codes "c") (codes "5")) ∷ []))
    × (watch_lines 4 six_writes pods (record { start = Listed; bookmarks = true }) ≡ Ok [])
