-- What a watch shows is a stream.
use Rattle.std.proofs.Common.{◌≡◌, ◌≤◌, ℕ, ◌+◌, List, [], ◌∷◌, map, length, Bool, true, false, refl, sym, ap, ◌∙◌, subst, arith}
use Rattle.std.specs.Prelude.{Result, Ok, Err}
use Rattle.std.specs.Result.{result_map_both}
use Rattle.std.proofs.lemmas.Bool.{le-leb}
use Rattle.spec_api.specs.Events.{Event, events}
use Rattle.spec_api.specs.History.{History, View, present}
use Rattle.spec_api.specs.Refusals.{Refusal}
use Rattle.spec_laws.specs.SentLaws.{WatchesAreStreams}
use Rattle.spec_api.specs.Streams.{Line, event, AreEventsWithBookmarks, IsStream}
use Rattle.spec_api.specs.Versions.{Watched, watched, watched_from}
use Rattle.spec_api.specs.WatchReplies.{lines_from, told_lines}
use Rattle.spec_laws.specs.WatchLaws.{AreBetween}
use Rattle.spec_laws.proofs.AppliedEvents.{lie_between}
use Rattle.spec_laws.proofs.StandingWatches.{given_stands, lines_stream}

few_between : (cs : List Event) (a b : ℕ) → a ≤ b → AreBetween a b cs → length cs + a ≤ b
few_between [] a b le h = omega (arith, le)
few_between (c ∷ cs) a b le h =
    let more = few_between cs c.revision b h.1 h.2 in
    let first = h.0 in omega (arith, more, first)

stands_there : (now a n : ℕ) (cs : List Event) → length cs ≤ n → (watched now a n cs).stands ≡ now
stands_there now a n cs few = rw (le-leb (length cs) n few) refl

-- a watch that is given as many changes as there are revisions is given all
all_stand : (size : ℕ) (h : History) (v : View) (a : ℕ) (w : Watched) → watched_from size h v a (present h) ≡ Ok w → w.stands ≡ present h
all_stand size h v a w is =
    let given = given_stands size h v a (present h) w is in
    let few = few_between (events h v a (present h)) a (present h) given.1 (lie_between h v a (present h)) in
    ap (λ z. z.stands) (sym given.2) ∙ stands_there (present h) a (present h) (events h v a (present h)) (omega (arith, few))

goes_alone : (at b : ℕ) (cs : List Event) → AreEventsWithBookmarks at b cs (map event cs)
goes_alone at b [] = tt
goes_alone at b (c ∷ cs) = (refl, goes_alone c.revision b cs)

lines_told : (bookmarks : Bool) (size : ℕ) (h : History) (v : View) (a : ℕ) (w : Watched) → watched_from size h v a (present h) ≡ Ok w → IsStream h v a (present h) (told_lines bookmarks a w)
lines_told true size h v a w is = subst (λ b. IsStream h v a b (lines_from a w)) (all_stand size h v a w is) (lines_stream h v a w (given_stands size h v a (present h) w is).3)
lines_told false size h v a w is =
    let s = (given_stands size h v a (present h) w is).3 in
    let same : events h v a (present h) ≡ w.events = ap (λ b. events h v a b) (sym (all_stand size h v a w is)) ∙ s.3 in
    subst (λ cs. AreEventsWithBookmarks a (present h) cs (map event w.events)) (sym same) (goes_alone a (present h) w.events)

shown_at : (r : Result Watched Refusal) (bookmarks : Bool) (size : ℕ) (h : History) (v : View) (a : ℕ) (ls : List Line) → watched_from size h v a (present h) ≡ r
    → result_map_both (told_lines bookmarks a) (λ f. f) r ≡ Ok ls → (a ≤ present h) × IsStream h v a (present h) ls
shown_at (Err f) bookmarks size h v a ls is e = cc
shown_at (Ok w) bookmarks size h v a ls is e =
    let same : told_lines bookmarks a w ≡ ls = cc in
    ((given_stands size h v a (present h) w is).1, subst (IsStream h v a (present h)) same (lines_told bookmarks size h v a w is))

pub watches_stream : WatchesAreStreams
watches_stream size h v a bookmarks ls e = shown_at (watched_from size h v a (present h)) bookmarks size h v a ls refl e
