-- The lines of an initial stream of what is reached are read back.
use Rattle.std.proofs.Common.{◌≤◌, ◌<◌, ◌^◌, ℕ, List, [], ◌∷◌, ◌++◌, false, refl, sym, subst, arith}
use Rattle.std.specs.List.{AllByRecursion}
use Rattle.spec_api.specs.declared.kinds.Kind.{Kind}
use Rattle.spec_api.specs.declared.frames.FrameKind.TheVariants.{Bookmark}
use Rattle.spec_api.specs.Events.{Event, events}
use Rattle.spec_api.specs.Frames.{bookmark_data, frame_kind}
use Rattle.spec_api.specs.History.{History, Entries, list, present}
use Rattle.spec_api.specs.Reached.{IsParsed, IsReached}
use Rattle.spec_api.specs.Reading.{reading}
use Rattle.spec_api.specs.Streams.{Line, event, bookmark, initial, initial_end, added_lines, AreEventsWithBookmarks, IsInitialStream}
use Rattle.spec_laws.specs.SentLaws.{whole, IsTold}
use Rattle.spec_laws.proofs.Limited.{limited}
use Rattle.spec_laws.proofs.SentChanges.{changes_told}
use Rattle.reflector.specs.Laws.{IsReadWithin}
use Rattle.reflector.proofs.Opened.{IsOf, all_listed}
use Rattle.sim_cluster_laws.proofs.FramesRead.{AreParsedEvents, bookmark_parsed, clean_at, events_parsed, frame_back}
use Rattle.sim_cluster_laws.proofs.OpeningsRead.{closing_back, object_back}

-- ---- bookmarks and changes

bookmark_back : (k : Kind) (r : ℕ) → r < 2 ^ 64 → IsReadWithin k (bookmark r)
bookmark_back k r low = frame_back Bookmark (bookmark_data k false r) (bookmark_parsed k r low) refl

event_back : (k : Kind) (c : Event) → IsParsed c.object → IsTold k c → IsReadWithin k (event c)
event_back k c p told = frame_back (frame_kind c.kind) c.object p (clean_at k c.object (reading k c.object) _ refl told.shows)

-- ---- lines

lines_back : (k : Kind) (ls : List Line) (at b : ℕ) (cs : List Event) → b < 2 ^ 64 → AreEventsWithBookmarks at b cs ls → AreParsedEvents cs → AllByRecursion (IsTold k) cs → AllByRecursion (IsReadWithin k) ls
lines_back k [] at b cs low g p told = tt
lines_back k (event d ∷ ls) at b [] low g p told = absurd g
lines_back k (event d ∷ ls) at b (c ∷ cs) low g p told =
    (subst (λ (x : Event). IsReadWithin k (event x)) (sym g.0) (event_back k c p.0 told.0), lines_back k ls c.revision b cs low g.1 p.1 told.1)
lines_back k (bookmark r ∷ ls) at b [] low g p told = let up = g.1 in (bookmark_back k r (omega (arith, up, low)), lines_back k ls r b [] low g.2 p told)
lines_back k (bookmark r ∷ ls) at b (c ∷ cs) low g p told = let up = g.1 in (bookmark_back k r (omega (arith, up, low)), lines_back k ls r b (c ∷ cs) low g.3 p told)
lines_back k (initial n d ∷ ls) at b [] low g p told = absurd g
lines_back k (initial n d ∷ ls) at b (c ∷ cs) low g p told = absurd g
lines_back k (initial_end r ∷ ls) at b [] low g p told = absurd g
lines_back k (initial_end r ∷ ls) at b (c ∷ cs) low g p told = absurd g

opening_back : (k : Kind) (a : ℕ) (ms : Entries) (more : List Line) → a < 2 ^ 64 → AllByRecursion (IsOf k a) ms → AllByRecursion (IsReadWithin k) more
    → AllByRecursion (IsReadWithin k) (added_lines ms ++ initial_end a ∷ more)
opening_back k a [] more low all later = (closing_back k a low, later)
opening_back k a (m ∷ ms) more low all later = (object_back k a m all.0, opening_back k a ms more low all.1 later)

pub initial_lines_back : (h : History) (k : Kind) (a b : ℕ) (ls : List Line) → IsReached h → a ≤ b → b ≤ present h → IsInitialStream h (whole k) a b ls → AllByRecursion (IsReadWithin k) ls
initial_lines_back h k a b ls reached forward up is =
    let few : present h ≤ 9007199254740991 = (limited h reached).1 in
    let later = lines_back k is.0 a b (events h (whole k) a b) (omega (arith, up, few)) is.2 (events_parsed h (whole k) a b reached forward) (changes_told h k a b reached forward).0 in
    subst (AllByRecursion (IsReadWithin k)) (sym is.1) (opening_back k a (list h (whole k) a) is.0 (omega (arith, forward, up, few)) (all_listed h k a reached) later)
