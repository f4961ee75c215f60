-- What looks are told, with bookmarks or without.
use Rattle.std.proofs.Common.{◌≡◌, ◌≤◌, ℕ, ◌+◌, ◌-◌, List, [], ◌∷◌, ◌++◌, map, length, take, drop, Bool, true, false, Ok, refl, sym, ap, ap₂, ◌∙◌, subst, arith}
use Rattle.std.specs.Prelude.{nat_le}
use Rattle.std.specs.List.{AllByRecursion}
use Rattle.std.specs.Result.{result_map_both}
use Rattle.std.proofs.lemmas.Bool.{leb-false}
use Rattle.std.proofs.lemmas.List.{take_all, drop_all}
use Rattle.spec_api.specs.declared.frames.ChangeKind.{ChangeKind}
use Rattle.spec_api.specs.declared.frames.ChangeKind.TheVariants as change
use Rattle.spec_api.specs.declared.frames.FrameKind.TheVariants.{Bookmark}
use Rattle.spec_api.specs.declared.kinds.Kind.{Kind}
use Rattle.spec_api.specs.Events.{Event, events}
use Rattle.spec_api.specs.Frames.{frame_kind}
use Rattle.spec_api.specs.History.{History, View, Entries, write, compaction, present, writes, up_to, list}
use Rattle.spec_api.specs.Reached.{IsReached}
use Rattle.spec_api.specs.Streams.{event, added_lines, IsStream}
use Rattle.spec_api.specs.Versions.{watched, watched_from}
use Rattle.spec_api.specs.WatchReplies.{told_lines}
use Rattle.spec_api.specs.Windows.{changes_after, changes_of, all_but, last_revision, floor, within}
use Rattle.spec_server.specs.Recorded.{above}
use Rattle.spec_laws.specs.FloorLaws.{NonePassed, IsRemembered}
use Rattle.spec_laws.specs.Happening.{Follows}
use Rattle.spec_laws.specs.LookLaws.{Look, AreLooks, last_history, last_stand, look_lines}
use Rattle.spec_laws.proofs.AppliedEvents.{goes_on}
use Rattle.spec_laws.proofs.Limited.{happens}
use Rattle.spec_laws.proofs.Looks.{none_at, goes_further, looks_are_one_stream}
use Rattle.spec_laws.proofs.Floors.{remembered_served}
use Rattle.spec_laws.proofs.RecordedChanges.{last_n_above}
use Rattle.spec_laws.proofs.ServedWindows.{within_is, revisions_served}
use Rattle.spec_laws.proofs.StandingWatches.{given_stands, changes_past}
use Rattle.spec_laws.proofs.WatchStarts.{present_empty}
use Rattle.sim_cluster_laws.specs.ServedStreamLaws.{told_looks, IsNoBookmark, UnmarkedStreamsShowChanges, PresentStartsGoOn}
use Rattle.sim_cluster_laws.proofs.Answered.{answered_unmarked}

-- ---- events of looks

map_append : (cs ds : List Event) → map event (cs ++ ds) ≡ map event cs ++ map event ds
map_append [] ds = refl
map_append (c ∷ cs) ds = ap (λ z. event c ∷ z) (map_append cs ds)

pub unmarked : (size : ℕ) (v : View) (h : History) (a : ℕ) (ls : List Look) → AreLooks size v h a ls → told_looks false a ls ≡ map event (events (last_history h ls) v a (last_stand a ls))
unmarked size v h a [] is = ap (map event) (sym (none_at h v a))
unmarked size v h a (l ∷ ls) is =
    let s = (given_stands size l.history v a l.most l.given is.1).3 in
    let far = goes_further size v l.history l.given.stands ls is.2 in
    let b = last_stand l.given.stands ls in
    let rest = looks_are_one_stream size l.history v l.given.stands ls is.2 in
    let here : events (last_history l.history ls) v a l.given.stands ≡ l.given.events = ap (λ z. events z v a l.given.stands) far.1 ∙ changes_past l.history far.0 v a l.given.stands s.0 s.1 ∙ s.3 in
    ap (λ z. map event l.given.events ++ z) (unmarked size v l.history l.given.stands ls is.2)
    ∙ sym (map_append l.given.events (events (last_history l.history ls) v l.given.stands b))
    ∙ ap (λ cs. map event (cs ++ events (last_history l.history ls) v l.given.stands b)) (sym here)
    ∙ ap (map event) (sym (goes_on (last_history l.history ls) v a l.given.stands b s.0 rest.0))

marked : (a : ℕ) (ls : List Look) → told_looks true a ls ≡ look_lines a ls
marked a [] = refl
marked a (l ∷ ls) = ap (λ z. told_lines true a l.given ++ z) (marked l.given.stands ls)

-- ---- no bookmark

change_shows : (kind : ChangeKind) → frame_kind kind ≡ Bookmark → ⊥
change_shows change.Added is = cc
change_shows change.Modified is = cc
change_shows change.Deleted is = cc

changes_show : (k : Kind) (cs : List Event) → AllByRecursion (IsNoBookmark k) (map event cs)
changes_show k [] = tt
changes_show k (c ∷ cs) = (change_shows c.kind, changes_show k cs)

all_show : (k : Kind) (ms : Entries) (cs : List Event) → AllByRecursion (IsNoBookmark k) (added_lines ms ++ map event cs)
all_show k [] cs = changes_show k cs
all_show k (m ∷ ms) cs = ((λ is. cc), all_show k ms cs)

pub unmarked_streams : UnmarkedStreamsShowChanges
unmarked_streams size h v least opening ls is looks =
    let cs = events (last_history h ls) v (present h) (last_stand (present h) ls) in
    let all : opening ++ told_looks false (present h) ls ≡ added_lines (list h v (present h)) ++ map event cs = ap₂ (λ x y. x ++ y) (answered_unmarked size h v least opening is) (unmarked size v h (present h) ls looks) in
    (all, subst (AllByRecursion (IsNoBookmark v.kind)) (sym all) (all_show v.kind (list h v (present h)) cs))

-- ---- the floor of what is reached

none_passed : (h : History) (now r : ℕ) → Follows now h → length (writes h) + now ≤ r → NonePassed r h
none_passed [] now r is le = tt
none_passed (write w ∷ h) now r is le = none_passed h (now + 1) r is (omega (arith, le))
none_passed (compaction c ∷ h) now r is le = let first = is.0 in (omega (arith, first, le), none_passed h now r is.1 le)

-- no change is above the present revision
none_above : (k : Kind) (h : History) → above (present h) (changes_of k h) ≡ []
none_above k h =
    let ks = changes_of k h in
    let none : length ks - length ks ≡ 0 = omega arith in
    let first : all_but (length ks) ks ≡ [] = ap (λ i. take i ks) none in
    let low : last_revision 1 (all_but (length ks) ks) ≤ present h = subst (λ z. last_revision 1 z ≤ present h) (sym first) (omega arith) in
    ap (λ i. above (present h) (drop i ks)) (sym none) ∙ last_n_above k (length ks) (writes h) (present h) low (omega arith)
    ∙ ap (changes_after k (up_to (present h) h)) (drop_all (present h - 1) (writes h) (omega arith))

pub floor_low : (size : ℕ) (h : History) (v : View) → IsReached h → floor v.kind size h ≤ present h
floor_low size h v reached =
    let few = ap length (none_above v.kind h) in
    let remembered : IsRemembered size h v (present h) =
    record {
      is_one = omega arith;
      has_happened = omega arith;
      is_compacted_no_further = none_passed h 1 (present h) (happens h reached) (omega arith);
      has_room = omega (arith, few);
    } in
    ((revisions_served size h v (present h) 0).0.0 ((remembered_served size h v (present h) 0).0.1 remembered)).0

-- ---- from the present revision

abbrev the_none : List Event
the_none = []

none_watched : (now n : ℕ) (b : Bool) → nat_le 0 n ≡ b → watched now now n [] ≡ record { events = []; stands = now }
none_watched now n true m = rw (take_all n the_none (omega arith), m) refl
none_watched now n false m = let above = leb-false 0 n m in absurd (omega (arith, above))

stands_there : (size : ℕ) (h : History) (v : View) (n : ℕ) → floor v.kind size h ≤ present h → watched_from size h v (present h) n ≡ Ok (record { events = []; stands = present h })
stands_there size h v n low =
    let now = present h in
    ap (λ es. result_map_both (watched now now n) (λ f. f) (within (floor v.kind size h) now now (take (n + 1) es))) (none_at h v now)
    ∙ (ap (λ es. result_map_both (watched now now n) (λ f. f) (within (floor v.kind size h) now now es)) (take_all (n + 1) the_none (omega arith))
    ∙ (ap (result_map_both (watched now now n) (λ f. f)) (within_is (floor v.kind size h) now now the_none low (omega arith))
    ∙ ap Ok (none_watched now n (nat_le 0 n) refl)))

pub present_starts : PresentStartsGoOn
present_starts size h v reached =
    let low = floor_low size h v reached in (
      λ bookmarks. present_empty size h v bookmarks low,
      λ bookmarks. present_empty size h v bookmarks low,
      λ n. stands_there size h v n low,
      λ ls looks. (
        subst (IsStream (last_history h ls) v (present h) (last_stand (present h) ls)) (sym (marked (present h) ls)) (looks_are_one_stream size h v (present h) ls looks).1,
        unmarked size v h (present h) ls looks,
      ),
      λ more bookmarks. refl,
    )
