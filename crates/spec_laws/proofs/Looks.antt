-- Looks of a watch, one after another, are one stream.
use Rattle.std.proofs.Common.{zero, suc, ◌≡◌, ◌≤◌, ◌<◌, ℕ, ◌+◌, ◌-◌, List, [], ◌∷◌, ◌++◌, map, length, take, Bool, true, false, Some, None, refl, sym, ap, ◌∙◌, subst, arith, append_assoc, append-nil}
use Rattle.std.specs.Prelude.{nat_lt, nat_le, IsOk}
use Rattle.std.specs.Result.{result_map_both}
use Rattle.std.proofs.lemmas.Bool.{ltb-false, le-leb}
use Rattle.std.proofs.lemmas.List.{drop_all, length-take}
use Rattle.spec_api.specs.declared.frames.FrameKind.TheVariants.{Added}
use Rattle.spec_api.specs.Events.{Event, events, events_after}
use Rattle.spec_api.specs.History.{History, View, Entries, up_to, present, writes, list}
use Rattle.spec_laws.specs.LookLaws.{Look, AreLooks, last_history, last_stand, look_lines, LooksAskForAnyNumber, LooksAreOneStream, WatchesBeginWithTheList}
use Rattle.spec_api.specs.Streams.{Line, event, bookmark, initial, initial_end, frame_of, AreEventsWithBookmarks, IsStream, applied_lines, added_lines}
use Rattle.spec_api.specs.Versions.{watched}
use Rattle.spec_api.specs.WatchReplies.{lines_from}
use Rattle.spec_laws.specs.WatchLaws.{AreBetween}
use Rattle.spec_api.specs.Windows.{floor, within}
use Rattle.spec_laws.proofs.AppliedEvents.{goes_on, lie_between}
use Rattle.spec_laws.proofs.ServedWindows.{within_is}
use Rattle.spec_laws.proofs.StandingWatches.{given_stands, lines_stream, changes_past}
use Rattle.spec_laws.proofs.Streamed.{stream_applied, all_put, list_ascending}

-- ---- two streams in a row

-- a stream may be taken up earlier, where nothing is between
goes_from : (ls : List Line) (at b c : ℕ) (cs : List Event) → at ≤ b → AreEventsWithBookmarks b c cs ls → AreEventsWithBookmarks at c cs ls
goes_from [] at b c [] le g = tt
goes_from [] at b c (d ∷ ds) le g = absurd g
goes_from (event e ∷ ls) at b c [] le g = absurd g
goes_from (event e ∷ ls) at b c (d ∷ ds) le g = g
goes_from (bookmark r ∷ ls) at b c [] le g = let first = g.0 in (omega (arith, le, first), g.1, g.2)
goes_from (bookmark r ∷ ls) at b c (d ∷ ds) le g = let first = g.0 in (omega (arith, le, first), g.1, g.2, g.3)
goes_from (initial n d ∷ ls) at b c [] le g = absurd g
goes_from (initial n d ∷ ls) at b c (e ∷ es) le g = absurd g
goes_from (initial_end r ∷ ls) at b c [] le g = absurd g
goes_from (initial_end r ∷ ls) at b c (e ∷ es) le g = absurd g

both_go : (ls ms : List Line) (at b c : ℕ) (cs ds : List Event) → at ≤ b → b ≤ c → AreBetween at b cs → AreBetween b c ds → AreEventsWithBookmarks at b cs ls → AreEventsWithBookmarks b c ds ms → AreEventsWithBookmarks at c (cs ++ ds) (ls ++ ms)
both_go [] ms at b c [] ds l k p q g n = goes_from ms at b c ds l n
both_go [] ms at b c (d ∷ cs) ds l k p q g n = absurd g
both_go (event e ∷ ls) ms at b c [] ds l k p q g n = absurd g
both_go (event e ∷ ls) ms at b c (d ∷ cs) ds l k p q g n = (g.0, both_go ls ms d.revision b c cs ds p.1 k p.2 q g.1 n)
both_go (bookmark r ∷ ls) ms at b c [] [] l k p q g n = let last = g.1 in (g.0, omega (arith, last, k), both_go ls ms r b c [] [] g.1 k tt q g.2 n)
both_go (bookmark r ∷ ls) ms at b c [] (d ∷ ds) l k p q g n =
    let last = g.1 in
    let above = q.0 in
    (g.0, omega (arith, last, k), omega (arith, last, above), both_go ls ms r b c [] (d ∷ ds) g.1 k tt q g.2 n)
both_go (bookmark r ∷ ls) ms at b c (d ∷ cs) ds l k p q g n =
    let last = g.1 in
    (g.0, omega (arith, last, k), g.2, both_go ls ms r b c (d ∷ cs) ds g.1 k (g.2, p.1, p.2) q g.3 n)
both_go (initial m d ∷ ls) ms at b c [] ds l k p q g n = absurd g
both_go (initial m d ∷ ls) ms at b c (e ∷ es) ds l k p q g n = absurd g
both_go (initial_end r ∷ ls) ms at b c [] ds l k p q g n = absurd g
both_go (initial_end r ∷ ls) ms at b c (e ∷ es) ds l k p q g n = absurd g

pub streams_join : (h : History) (v : View) (a b c : ℕ) (ls ms : List Line) → a ≤ b → b ≤ c → IsStream h v a b ls → IsStream h v b c ms → IsStream h v a c (ls ++ ms)
streams_join h v a b c ls ms l k s t =
    subst (λ cs. AreEventsWithBookmarks a c cs (ls ++ ms)) (sym (goes_on h v a b c l k))
    (both_go ls ms a b c (events h v a b) (events h v b c) l k (lie_between h v a b) (lie_between h v b c) s t)

-- from a revision to itself there is nothing
pub none_at : (h : History) (v : View) (a : ℕ) → events h v a a ≡ []
none_at h v a = let few = length-take (a - 1) (writes h) in ap (events_after v (up_to a h)) (drop_all (a - 1) (up_to a h) (omega (arith, few)))

-- ---- looks

-- what has happened by the last look begins with what had happened before
pub goes_further : (size : ℕ) (v : View) (h : History) (a : ℕ) (ls : List Look) → AreLooks size v h a ls → (more : History) × (last_history h ls ≡ h ++ more)
goes_further size v h a [] is = ([], sym (append-nil h))
goes_further size v h a (l ∷ ls) is =
    let rest = goes_further size v l.history l.given.stands ls is.2 in
    (is.0.0 ++ rest.0, rest.1 ∙ ap (λ z. z ++ rest.0) is.0.1 ∙ append_assoc h is.0.0 rest.0)

-- what was a stream of what had happened by a look is one of all that happened
pub still_streams : (h more : History) (v : View) (a b : ℕ) (ls : List Line) → a ≤ b → b ≤ present h → IsStream h v a b ls → IsStream (h ++ more) v a b ls
still_streams h more v a b ls l k s = subst (λ cs. AreEventsWithBookmarks a b cs ls) (sym (changes_past h more v a b l k)) s

looks_stream : (size : ℕ) (h : History) (v : View) (a : ℕ) (ls : List Look) → AreLooks size v h a ls
    → (a ≤ last_stand a ls) × IsStream (last_history h ls) v a (last_stand a ls) (look_lines a ls)
looks_stream size h v a [] is = (omega arith, subst (λ cs. AreEventsWithBookmarks a a cs []) (sym (none_at h v a)) tt)
looks_stream size h v a (l ∷ ls) is =
    let s = (given_stands size l.history v a l.most l.given is.1).3 in
    let far = goes_further size v l.history l.given.stands ls is.2 in
    let rest = looks_stream size l.history v l.given.stands ls is.2 in
    let here = still_streams l.history far.0 v a l.given.stands (lines_from a l.given) s.0 s.1 (lines_stream l.history v a l.given s) in
    let first = s.0 in
    let later = rest.0 in (
      omega (arith, first, later),
      streams_join (last_history l.history ls) v a l.given.stands (last_stand l.given.stands ls) (lines_from a l.given) (look_lines l.given.stands ls) s.0 rest.0
          (subst (λ z. IsStream z v a l.given.stands (lines_from a l.given)) (sym far.1) here) rest.1,
    )

pub looks_are_one_stream : LooksAreOneStream
looks_are_one_stream size h v a ls is =
    let s = looks_stream size h v a ls is in
    (s.0, s.1, stream_applied (last_history h ls) v a (last_stand a ls) (look_lines a ls) s.0 s.1)

-- ---- any number

few_left : (n : ℕ) (cs : List Event) → length (take n cs) < n → nat_le (length cs) n ≡ true
few_left n cs few = let all = length-take n cs in le-leb (length cs) n (omega (arith, all, few))

few_stand : (now a n : ℕ) (cs : List Event) → length (take n cs) < n → (watched now a n cs).stands ≡ now
few_stand now a n cs few = rw (few_left n cs few) refl

no_more : (n : ℕ) (cs : List Event) → length (take n cs) ≤ n
no_more n cs = let all = length-take n cs in omega (arith, all)

mapped_served : (now a n floor : ℕ) (cs : List Event) (b c : Bool) → nat_lt a floor ≡ b → nat_lt now a ≡ c
    → IsOk (result_map_both (watched now a n) (λ f. f) (within floor now a cs)) → (floor ≤ a) × (a ≤ now)
mapped_served now a n floor cs true c l m ok = let none = rw l at ok in cc
mapped_served now a n floor cs false true l m ok = let none = rw (l, m) at ok in cc
mapped_served now a n floor cs false false l m ok = (ltb-false a floor l, ltb-false now a m)

pub looks_ask_for_any_number : LooksAskForAnyNumber
looks_ask_for_any_number size h v a n = (
  (
    mapped_served (present h) a n (floor v.kind size h) (take (n + 1) (events h v a (present h))) (nat_lt a (floor v.kind size h)) (nat_lt (present h) a) refl refl,
    λ p. rw (within_is (floor v.kind size h) (present h) a (take (n + 1) (events h v a (present h))) p.0 p.1) refl,
  ),
  λ w is.
      let given = given_stands size h v a n w is in
      let cs = events h v a (present h) in (
        subst (λ z. length z.events ≤ n) given.2 (no_more n cs),
        lines_stream h v a w given.3,
        subst (λ z. length z.events < n → z.stands ≡ present h) given.2 (few_stand (present h) a n cs),
      ),
)

-- ---- the list first

as_added : (v : View) (ms : Entries) → map (frame_of v.kind) (added_lines ms) ≡ map (λ m. record { kind = Added; object = m.1 }) ms
as_added v [] = refl
as_added v (m ∷ ms) = ap (λ z. record { kind = Added; object = m.1 } ∷ z) (as_added v ms)

added_applied : (h : History) (v : View) (r : ℕ) → applied_lines [] (added_lines (list h v r)) ≡ list h v r
added_applied h v r = ap (applied_lines []) (sym (append-nil (added_lines (list h v r)))) ∙ all_put (list h v r) [] [] (list_ascending h v r)

pub list_comes_first : WatchesBeginWithTheList
list_comes_first size h v None bookmarks none = (added_lines (list h v (present h)), refl, as_added v (list h v (present h)), added_applied h v (present h))
list_comes_first size h v (Some zero) bookmarks none = (added_lines (list h v (present h)), refl, as_added v (list h v (present h)), added_applied h v (present h))
list_comes_first size h v (Some (suc r)) bookmarks none = absurd (omega (arith, none))
