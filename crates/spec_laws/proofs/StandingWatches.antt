-- Where a watch stands that has been given its first changes.
use Rattle.std.proofs.Common.{zero, suc, ◌≡◌, ◌≤◌, ℕ, ◌+◌, ◌-◌, List, [], ◌∷◌, ◌++◌, map, length, take, drop, filter, Bool, true, false, cond, refl, sym, ap, ap₂, ◌∙◌, subst, arith, append-nil}
use Rattle.std.specs.Prelude.{nat_lt, nat_le, Ok}
use Rattle.std.specs.Result.{result_map_both}
use Rattle.std.proofs.lemmas.Bool.{ltb-false, ltb-true, le-ltb, leb-true, leb-false, le-leb, lt-leb}
use Rattle.std.proofs.lemmas.List.{take-append-drop, take-append-le, take-take, take_all, length-take}
use Rattle.std.proofs.lemmas.List.Elements.{filter-append}
use Rattle.spec_api.specs.History.{History, View, writes, present, up_to, list}
use Rattle.spec_api.specs.Events.{Event, events, events_after, applied}
use Rattle.spec_api.specs.Streams.{Line, event, bookmark, AreEventsWithBookmarks, IsStream}
use Rattle.spec_laws.specs.WatchLaws.{AreBetween}
use Rattle.spec_api.specs.Windows.{floor, within}
use Rattle.spec_api.specs.Versions.{Watched, last_change, watched, watched_from}
use Rattle.spec_api.specs.WatchReplies.{lines_from}
use Rattle.spec_laws.specs.ServerLaws.{WatchesStand, WatchesGoOn}
use Rattle.spec_laws.proofs.Past.{writes-append}
use Rattle.spec_laws.proofs.AppliedEvents.{list_applied, goes_on, lie_between}
use Rattle.spec_laws.proofs.Streamed.{stream_applied}

-- ---- changes up to a revision

abbrev up_to_revision : ℕ → List Event → List Event
up_to_revision b cs = filter (λ c. nat_le c.revision b) cs

all_up_to : (lo b : ℕ) (cs : List Event) → AreBetween lo b cs → up_to_revision b cs ≡ cs
all_up_to lo b [] h = refl
all_up_to lo b (c ∷ cs) h = rw (le-leb c.revision b h.1) (ap (λ z. c ∷ z) (all_up_to c.revision b cs h.2))

none_up_to : (b lo hi : ℕ) (cs : List Event) → b ≤ lo → AreBetween lo hi cs → up_to_revision b cs ≡ []
none_up_to b lo hi [] le h = refl
none_up_to b lo hi (c ∷ cs) le h =
    let first = h.0 in
    rw (lt-leb c.revision b (omega (arith, le, first))) (none_up_to b c.revision hi cs (omega (arith, le, first)) h.2)

first_up_to : (a b hi : ℕ) (cs ds : List Event) → AreBetween a b cs → AreBetween b hi ds → up_to_revision b (cs ++ ds) ≡ cs
first_up_to a b hi cs ds below above =
    filter-append (λ c. nat_le c.revision b) cs ds ∙ ap₂ (λ x y. x ++ y) (all_up_to a b cs below) (none_up_to b b hi ds (omega arith) above) ∙ append-nil cs

-- the first n and the others, by the revision of the last of the first
cut_between : (n lo hi : ℕ) (cs : List Event) → lo ≤ hi → AreBetween lo hi cs
    → AreBetween lo (last_change lo (take n cs)) (take n cs)
    × AreBetween (last_change lo (take n cs)) hi (drop n cs)
    × (lo ≤ last_change lo (take n cs))
    × (last_change lo (take n cs) ≤ hi)
cut_between zero lo hi cs le h = (tt, h, omega arith, le)
cut_between (suc n) lo hi [] le h = (tt, tt, omega arith, le)
cut_between (suc n) lo hi (c ∷ cs) le h =
    let more = cut_between n c.revision hi cs h.1 h.2 in
    let first = h.0 in
    let least = more.2 in
    ((first, least, more.0), more.1, omega (arith, first, least), more.3)

-- the first n changes are those up to the last one's revision
first_changes : (h : History) (v : View) (a n : ℕ) → a ≤ present h
    → (let b : ℕ = last_change a (take n (events h v a (present h))) in events h v a b ≡ take n (events h v a (present h)))
first_changes h v a n le =
    let cs = events h v a (present h) in
    let b = last_change a (take n cs) in
    let cut = cut_between n a (present h) cs le (lie_between h v a (present h)) in
    sym (first_up_to a b (present h) (events h v a b) (events h v b (present h)) (lie_between h v a b) (lie_between h v b (present h)))
    ∙ ap (up_to_revision b) (sym (goes_on h v a b (present h) cut.2 cut.3) ∙ sym (take-append-drop n cs))
    ∙ first_up_to a b (present h) (take n cs) (drop n cs) cut.0 cut.1

-- ---- where it stands

-- what is given are all changes up to where the watch stands
abbrev pub Stands : History → View → ℕ → Watched → Type 0
Stands h v a w = (a ≤ w.stands) × (w.stands ≤ present h) × (last_change a w.events ≤ w.stands) × (events h v a w.stands ≡ w.events)

stands_at : (b : Bool) (h : History) (v : View) (a n : ℕ) → a ≤ present h → nat_le (length (events h v a (present h))) n ≡ b
    → Stands h v a (record { events = take n (events h v a (present h)); stands = cond b (present h) (last_change a (take n (events h v a (present h)))) })
stands_at true h v a n le all =
    let cut = cut_between n a (present h) (events h v a (present h)) le (lie_between h v a (present h)) in
    (le, omega arith, cut.3, sym (take_all n (events h v a (present h)) (leb-true (length (events h v a (present h))) n all)))
stands_at false h v a n le all =
    let cut = cut_between n a (present h) (events h v a (present h)) le (lie_between h v a (present h)) in
    (cut.2, cut.3, omega arith, first_changes h v a n le)

-- one more than n tells whether there are more
longer_at : (b : Bool) (n : ℕ) (cs : List Event) → nat_le (length cs) n ≡ b → nat_le (length (take (n + 1) cs)) n ≡ b
longer_at true n cs h = let long = length-take (n + 1) cs in let all = leb-true (length cs) n h in le-leb (length (take (n + 1) cs)) n (omega (arith, long, all))
longer_at false n cs h = let long = length-take (n + 1) cs in let more = leb-false (length cs) n h in lt-leb (length (take (n + 1) cs)) n (omega (arith, long, more))

abbrev stand_with : ℕ → ℕ → Bool → List Event → Watched
stand_with now a b cs = record { events = cs; stands = cond b now (last_change a cs) }

one_more_tells : (now a n : ℕ) (cs : List Event) → watched now a n (take (n + 1) cs) ≡ watched now a n cs
one_more_tells now a n cs =
    ap₂ (stand_with now a) (longer_at (nat_le (length cs) n) n cs refl) (take-take n (n + 1) cs (omega arith))

-- what a watch is given is given from the floor up to the present revision
given_at : (b c : Bool) (floor now a : ℕ) (f : List Event → Watched) (cs : List Event) (w : Watched) → nat_lt a floor ≡ b → nat_lt now a ≡ c
    → result_map_both f (λ e. e) (within floor now a cs) ≡ Ok w → (floor ≤ a) × (a ≤ now) × (f cs ≡ w)
given_at true c floor now a f cs w l m is = let none = rw l at is in cc
given_at false true floor now a f cs w l m is = let none = rw (l, m) at is in cc
given_at false false floor now a f cs w l m is = (ltb-false a floor l, ltb-false now a m, (let given = rw (l, m) at is in cc))

-- ---- its lines

bookmark_goes : (c : Bool) (at b : ℕ) → nat_lt at b ≡ c → AreEventsWithBookmarks at b [] (cond c (bookmark b ∷ []) [])
bookmark_goes true at b l = let below = ltb-true at b l in (omega (arith, below), omega arith, tt)
bookmark_goes false at b l = tt

lines_go : (cs : List Event) (a b : ℕ) (ls : List Line) → AreEventsWithBookmarks (last_change a cs) b [] ls → AreEventsWithBookmarks a b cs (map event cs ++ ls)
lines_go [] a b ls g = g
lines_go (c ∷ cs) a b ls g = (refl, lines_go cs c.revision b ls g)

pub lines_stream : (h : History) (v : View) (a : ℕ) (w : Watched) → Stands h v a w → IsStream h v a w.stands (lines_from a w)
lines_stream h v a w s =
    subst (λ cs. AreEventsWithBookmarks a w.stands cs (lines_from a w)) (sym s.3)
    (lines_go w.events a w.stands (cond (nat_lt (last_change a w.events) w.stands) (bookmark w.stands ∷ []) []) (bookmark_goes (nat_lt (last_change a w.events) w.stands) (last_change a w.events) w.stands refl))

-- a watch that is given something stands
pub given_stands : (size : ℕ) (h : History) (v : View) (a n : ℕ) (w : Watched) → watched_from size h v a n ≡ Ok w
    → (floor v.kind size h ≤ a) × (a ≤ present h) × (watched (present h) a n (events h v a (present h)) ≡ w) × Stands h v a w
given_stands size h v a n w is =
    let given = given_at (nat_lt a (floor v.kind size h)) (nat_lt (present h) a) (floor v.kind size h) (present h) a (watched (present h) a n) (take (n + 1) (events h v a (present h))) w refl refl is in
    let same : watched (present h) a n (events h v a (present h)) ≡ w = sym (one_more_tells (present h) a n (events h v a (present h))) ∙ given.2 in
    (given.0, given.1, same, subst (Stands h v a) same (stands_at (nat_le (length (events h v a (present h))) n) h v a n given.1 refl))

pub watches_stand : WatchesStand
watches_stand size h v a n w is =
    let given = given_stands size h v a n w is in
    let s = given.3 in
    let stream = lines_stream h v a w s in (
      rw (le-ltb a (floor v.kind size h) given.0, le-ltb (present h) a given.1) (ap (λ z. Ok z.events) given.2),
      s.0,
      s.1,
      stream,
      ap (applied (list h v a)) (sym s.3) ∙ list_applied h v a w.stands s.0,
      stream_applied h v a w.stands (lines_from a w) s.0 stream,
      goes_on h v a w.stands (present h) s.0 s.1 ∙ ap (λ cs. cs ++ events h v w.stands (present h)) s.3,
    )

-- ---- after it

pub writes_past : (h more : History) (r : ℕ) → r ≤ present h → up_to r (h ++ more) ≡ up_to r h
writes_past h more r le = ap (take (r - 1)) (writes-append h more) ∙ take-append-le (r - 1) (writes h) (writes more) (omega arith)

pub changes_past : (h more : History) (v : View) (a b : ℕ) → a ≤ b → b ≤ present h → events (h ++ more) v a b ≡ events h v a b
changes_past h more v a b le lt = ap₂ (λ before ws. events_after v before (drop (a - 1) ws)) (writes_past h more a (omega (arith, le, lt))) (writes_past h more b lt)

pub watches_go_on : WatchesGoOn
watches_go_on size h more v a n b w is le =
    let s = (given_stands size h v a n w is).3 in
    goes_on (h ++ more) v a w.stands b s.0 le ∙ ap (λ cs. cs ++ events (h ++ more) v w.stands b) (changes_past h more v a w.stands s.0 s.1 ∙ s.3)
