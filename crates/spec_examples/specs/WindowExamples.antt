-- Worked facts of windows, computed from the definitions.
use Rattle.std.specs.Prelude.{◌≡◌, ℕ, List, [], ◌∷◌, ◌++◌, map, Some, None, Result, Ok, Err, codes}
use Rattle.serde_json.specs.Data.{Data, string, object, no_members, member}
use Rattle.spec_api.specs.declared.kinds.Kind.{Kind}
use Rattle.spec_api.specs.declared.kinds.Kind.TheVariants.{ConfigMap, Pod}
use Rattle.spec_api.specs.Keys.{Key}
use Rattle.spec_api.specs.History.{History, Entry, write, compaction, View, Entries, unfiltered, list}
use Rattle.spec_api.specs.Refusals.{Refusal, expired, too_new}
use Rattle.spec_api.specs.Events.{Event}
use Rattle.spec_api.specs.Windows.{Change, changes_of, floor, since, list_within}
use Rattle.spec_server.specs.Recorded.{Window, opened, recorded, recorded_since, recorded_list}

abbrev pub named : Kind → List ℕ → Key
named kind name = record { kind = kind; namespace = codes "default"; name = name }

-- an object of a name, with a version
abbrev pub stored : List ℕ → List ℕ → Data
stored name version = object (member (codes "metadata") (object (member (codes "name") (string name) (member (codes "resourceVersion") (string version) no_members))) no_members)

abbrev pub puts : Kind → List ℕ → List ℕ → Entry
puts kind name version = write (record { key = named kind name; put = Some (stored name version) })

abbrev removes : Kind → List ℕ → Entry
removes kind name = write (record { key = named kind name; put = None })

-- six writes of ConfigMaps, at revisions 2 to 7
abbrev pub six_writes : History
six_writes =
    puts ConfigMap (codes "a") (codes "2")
    ∷ puts ConfigMap (codes "b") (codes "3")
    ∷ puts ConfigMap (codes "a") (codes "4")
    ∷ puts ConfigMap (codes "c") (codes "5")
    ∷ removes ConfigMap (codes "b")
    ∷ puts ConfigMap (codes "a") (codes "7")
    ∷ []

abbrev pub config_maps : View
config_maps = unfiltered ConfigMap None

abbrev pub at_three : Entries
at_three = (named ConfigMap (codes "a"), stored (codes "a") (codes "2")) ∷ (named ConfigMap (codes "b"), stored (codes "b") (codes "3")) ∷ []

abbrev pub at_five : Entries
at_five =
    (named ConfigMap (codes "a"), stored (codes "a") (codes "4"))
    ∷ (named ConfigMap (codes "b"), stored (codes "b") (codes "3"))
    ∷ (named ConfigMap (codes "c"), stored (codes "c") (codes "5"))
    ∷ []

-- a window after these writes, one after another
abbrev after_writes : Window → List Change → Window
after_writes s [] = s
after_writes s (k ∷ ks) = after_writes (recorded s k) ks

-- a window of four that has recorded the six writes
abbrev window_of_four : Window
window_of_four = after_writes (opened ConfigMap 4) (changes_of ConfigMap six_writes)

abbrev revisions : Result (List Event) Refusal → Result (List ℕ) Refusal
revisions (Ok cs) = Ok (map (λ c. c.revision) cs)
revisions (Err f) = Err f

-- a window of four has the last four writes, and answers from the one before them; one of six answers from the beginning;
-- the greatest compaction above the floor moves it, and a write of another kind does not
abbrev pub FloorsAreReached : Type 0
FloorsAreReached =
    (map (λ k. k.revision) window_of_four.kept ≡ 4 ∷ 5 ∷ 6 ∷ 7 ∷ [])
    × (window_of_four.floor ≡ 3)
    × (floor ConfigMap 4 six_writes ≡ 3)
    × (floor ConfigMap 6 six_writes ≡ 1)
    × (floor ConfigMap 4 (six_writes ++ compaction 2 ∷ compaction 5 ∷ compaction 4 ∷ []) ≡ 5)
    × (floor ConfigMap 4 (six_writes ++ puts Pod (codes "p") (codes "8") ∷ []) ≡ 3)

-- a watch gets the changes after its revision, as many as it asks for; below the floor and above the present one it is refused
abbrev pub WatchesReachBack : Type 0
WatchesReachBack =
    (since 4 six_writes config_maps 2 9 ≡ Err (expired 2 3))
    × (revisions (since 4 six_writes config_maps 3 9) ≡ Ok (4 ∷ 5 ∷ 6 ∷ 7 ∷ []))
    × (revisions (recorded_since window_of_four 7 config_maps 3 9) ≡ Ok (4 ∷ 5 ∷ 6 ∷ 7 ∷ []))
    × (revisions (since 4 six_writes config_maps 3 1) ≡ Ok (4 ∷ []))
    × (revisions (since 4 six_writes config_maps 5 9) ≡ Ok (6 ∷ 7 ∷ []))
    × (revisions (since 4 six_writes config_maps 7 9) ≡ Ok [])
    × (since 4 six_writes config_maps 8 9 ≡ Err (too_new 8 7))

-- the present list with two writes undone, a removal and an update, is the list at 5, and with all four the list at the floor
abbrev pub ListsReachBack : Type 0
ListsReachBack =
    (list_within 4 six_writes config_maps 5 ≡ Ok at_five)
    × (recorded_list window_of_four 7 (list six_writes config_maps 7) config_maps 5 ≡ Ok at_five)
    × (recorded_list window_of_four 7 (list six_writes config_maps 7) config_maps 3 ≡ Ok at_three)
    × (list_within 4 six_writes config_maps 2 ≡ Err (expired 2 3))
    × (list_within 4 six_writes config_maps 8 ≡ Err (too_new 8 7))
