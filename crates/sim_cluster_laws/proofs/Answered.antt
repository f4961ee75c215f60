-- What a watch is answered that asks for initial events.
use Rattle.std.proofs.Common.{◌≡◌, ◌≤◌, ◌<◌, ℕ, List, [], Bool, true, false, Option, Some, None, unwrap_or, Ok, Err, refl, sym, ap, ◌∙◌, subst, append-nil}
use Rattle.std.specs.Prelude.{nat_lt}
use Rattle.std.proofs.lemmas.Bool.{le-ltb, lt-ltb, ltb-true}
use Rattle.spec_api.specs.History.{History, View, Entries, present, list}
use Rattle.spec_api.specs.Refusals.{Refusal, too_new}
use Rattle.spec_api.specs.Streams.{Line, added_lines, AreEventsWithBookmarks, IsInitialStream}
use Rattle.spec_api.specs.Versions.{once_present}
use Rattle.spec_api.specs.WatchReplies.{Initial, initial_at, initial_from, opening_lines}
use Rattle.spec_laws.proofs.InitialStreams.{begun}
use Rattle.spec_laws.proofs.Looks.{none_at}
use Rattle.sim_cluster_laws.specs.ServedStreamLaws.{initial_watch, InitialWatchesAreAnswered, FutureStreamsAreRefused, OnlyTheFutureIsRefused, InitialsAreOfThePresent}

-- ---- lines

not_above : (now r : ℕ) (ls : List Line) → r ≤ now → once_present now r ls ≡ Ok ls
not_above now r ls le = rw (le-ltb now r le) refl

answered : (size : ℕ) (h : History) (v : View) (least : Option ℕ) (bookmarks : Bool) → unwrap_or least 0 ≤ present h
    → initial_watch size h v least bookmarks ≡ Ok (opening_lines bookmarks (present h) (list h v (present h)))
answered size h v None bookmarks le = refl
answered size h v (Some r) bookmarks le = not_above (present h) r (opening_lines bookmarks (present h) (list h v (present h))) le

closed_stream : (h : History) (v : View) (a : ℕ) → IsInitialStream h v a a (opening_lines true a (list h v a))
closed_stream h v a = ([], refl, subst (λ cs. AreEventsWithBookmarks a a cs []) (sym (none_at h v a)) tt)

pub watches_answered : InitialWatchesAreAnswered
watches_answered size h v least le = (
  answered size h v least true le,
  closed_stream h v (present h),
  answered size h v least false le ∙ ap Ok (append-nil (added_lines (list h v (present h)))),
)

pub future_refused : FutureStreamsAreRefused
future_refused size h v r bookmarks above = rw (lt-ltb (present h) r above) refl

given_at : {X : Type 0} (b : Bool) (now r : ℕ) (x y : X) → nat_lt now r ≡ b → once_present now r x ≡ Ok y → y ≡ x
given_at true now r x y m is = let none = rw m at is in cc
given_at false now r x y m is = let some = rw m at is in cc

-- without bookmarks, where it is answered
pub answered_unmarked : (size : ℕ) (h : History) (v : View) (least : Option ℕ) (ls : List Line) → initial_watch size h v least false ≡ Ok ls → ls ≡ added_lines (list h v (present h))
answered_unmarked size h v None ls is = let same : ls ≡ opening_lines false (present h) (list h v (present h)) = cc in same ∙ append-nil (added_lines (list h v (present h)))
answered_unmarked size h v (Some r) ls is =
    given_at (nat_lt (present h) r) (present h) r (opening_lines false (present h) (list h v (present h))) ls refl is ∙ append-nil (added_lines (list h v (present h)))

-- ---- a server's initial events

refused_at : (b : Bool) (now r : ℕ) (i : Initial) (f : Refusal) → nat_lt now r ≡ b → once_present now r i ≡ Err f → (now < r) × (f ≡ too_new r now)
refused_at true now r i f m is = (ltb-true now r m, (let told = rw m at is in cc))
refused_at false now r i f m is = let none = rw m at is in cc

refused_by : (now : ℕ) (ms : Entries) (least : Option ℕ) (f : Refusal) → initial_from now ms least ≡ Err f → (r : ℕ) × (least ≡ Some r) × (now < r) × (f ≡ too_new r now)
refused_by now ms None f is = cc
refused_by now ms (Some r) f is = let told = refused_at (nat_lt now r) now r (initial_at now ms) f refl is in (r, refl, told.0, told.1)

pub only_future : OnlyTheFutureIsRefused
only_future size s h v least f stands is = refused_by (present h) (list h v (present h)) least f (sym (begun size s h v least stands) ∙ is)

given_by : (now : ℕ) (ms : Entries) (least : Option ℕ) (i : Initial) → initial_from now ms least ≡ Ok i → i ≡ initial_at now ms
given_by now ms None i is = cc
given_by now ms (Some r) i is = given_at (nat_lt now r) now r (initial_at now ms) i refl is

pub of_the_present : InitialsAreOfThePresent
of_the_present size s h v least i stands is =
    let same = given_by (present h) (list h v (present h)) least i (sym (begun size s h v least stands) ∙ is) in
    (same, ap (λ (j : Initial). j.revision) same)
