-- What servers answer.
use Rattle.std.proofs.Common.{◌≡◌, ◌≤◌, ℕ, ◌+◌, Bool, true, false, refl, sym, ap, ◌∙◌}
use Rattle.std.specs.Prelude.{nat_lt, ◌↔◌, Option, Some, None, Result, Ok, Err, IsOk}
use Rattle.std.specs.Result.{result_map_both}
use Rattle.std.proofs.lemmas.Bool.{le-ltb, ltb-false}
use Rattle.spec_api.specs.History.{History, View, Entries, present, viewed, list}
use Rattle.spec_api.specs.Refusals.{Refusal}
use Rattle.spec_server.specs.Recorded.{recorded_list, recorded_since}
use Rattle.spec_api.specs.Windows.{list_within, since}
use Rattle.spec_api.specs.declared.versions.At.{At}
use Rattle.spec_api.specs.declared.versions.At.TheVariants.{Present, NotOlder, Exact}
use Rattle.spec_api.specs.declared.versions.Start.{Start}
use Rattle.spec_api.specs.declared.versions.Start.TheVariants as begins
use Rattle.spec_api.specs.Versions.{listed_as, once_present, listed_at, watched, watched_from}
use Rattle.spec_api.specs.Lists.{list_answer}
use Rattle.spec_server.specs.Servers.{Server, window_of, watch_by, IsServerAfter}
use Rattle.spec_api.specs.WatchReplies.{told_lines, opening_lines, lines_by}
use Rattle.spec_api.specs.Streams.{added_lines}
use Rattle.spec_laws.specs.ServerLaws.{ServersList, ServersWatch, ServersAnswerLists, ServersShow, ListsAreServed}
use Rattle.spec_laws.proofs.ServedWindows.{watch_served, list_undone, revisions_served}

earlier_same : (at : At) (now : ℕ) (ms : Entries) (f g : ℕ → Result Entries Refusal) → ((r : ℕ) → f r ≡ g r) → listed_at now ms f at ≡ listed_at now ms g at
earlier_same Present now ms f g same = refl
earlier_same (NotOlder r) now ms f g same = refl
earlier_same (Exact r) now ms f g same = ap (result_map_both (listed_as r) (λ e. e)) (same r)

pub lists_held : ServersList
lists_held size s h v at is =
    let existing = is.1 v.kind in
    ap (λ z. listed_at z.revision (viewed v z.members) (recorded_list (window_of v.kind s) z.revision (viewed v z.members) v) at) is.0
    ∙ earlier_same at (present h) (list h v (present h)) (recorded_list (window_of v.kind s) (present h) (list h v (present h)) v) (list_within size h v)
    (λ r. list_undone (window_of v.kind s) h v r existing.2 (sym existing.0) ∙ ap (λ n. list_within n h v r) existing.1)

pub watches_held : ServersWatch
watches_held size s h v a n is =
    let existing = is.1 v.kind in
    ap (λ z. result_map_both (watched z.revision a n) (λ f. f) (recorded_since (window_of v.kind s) z.revision v a (n + 1))) is.0
    ∙ ap (result_map_both (watched (present h) a n) (λ f. f)) (watch_served (window_of v.kind s) h v a (n + 1) existing.2 (sym existing.0) ∙ ap (λ k. since k h v a (n + 1)) existing.1)

-- ---- where lists are answered

mapped_ok : {X Y E : Type 0} (f : X → Y) (r : Result X E) → IsOk (result_map_both f (λ e. e) r) ↔ IsOk r
mapped_ok f (Ok x) = (λ p. refl, λ p. refl)
mapped_ok f (Err e) = (λ p. cc, λ p. cc)

present_at : {X : Type 0} (b : Bool) (now r : ℕ) (x : X) → nat_lt now r ≡ b → IsOk (once_present now r x) → r ≤ now
present_at true now r x m ok = let none = rw m at ok in cc
present_at false now r x m ok = ltb-false now r m

pub lists_answered : ListsAreServed
lists_answered size h v r =
    let served = (revisions_served size h v r 0).1 in
    let mapped = mapped_ok (listed_as r) (list_within size h v r) in (
      (λ p. served.0 (mapped.0 p), λ p. mapped.1 (served.1 p)),
      (λ p. present_at (nat_lt (present h) r) (present h) r (listed_as (present h) (list h v (present h))) refl p, λ p. rw (le-ltb (present h) r p) refl),
      refl,
    )

pub pages_held : ServersAnswerLists
pages_held size s h v o is = ap (list_answer v o) (lists_held size s h v o.at is)

-- by how the watch begins
shown_by : (size : ℕ) (s : Server) (h : History) (v : View) (bookmarks : Bool) (start : Start) → IsServerAfter size s h
    → lines_by s.snapshot.revision (viewed v s.snapshot.members) (λ a. watch_by s v a s.snapshot.revision) bookmarks start
    ≡ lines_by (present h) (list h v (present h)) (λ a. watched_from size h v a (present h)) bookmarks start
shown_by size s h v bookmarks begins.Listed is = ap (λ z. Ok (added_lines (viewed v z.members))) is.0
shown_by size s h v bookmarks (begins.Streamed None) is = ap (λ z. Ok (opening_lines bookmarks z.revision (viewed v z.members))) is.0
shown_by size s h v bookmarks (begins.Streamed (Some r)) is = ap (λ z. once_present z.revision r (opening_lines bookmarks z.revision (viewed v z.members))) is.0
shown_by size s h v bookmarks (begins.After a) is =
    ap (λ z. result_map_both (told_lines bookmarks a) (λ f. f) (watch_by s v a z.revision)) is.0
    ∙ ap (result_map_both (told_lines bookmarks a) (λ f. f)) (watches_held size s h v a (present h) is)
shown_by size s h v bookmarks begins.Present is =
    ap (λ z. result_map_both (told_lines bookmarks z.revision) (λ f. f) (watch_by s v z.revision z.revision)) is.0
    ∙ ap (result_map_both (told_lines bookmarks (present h)) (λ f. f)) (watches_held size s h v (present h) (present h) is)

pub lines_held : ServersShow
lines_held size s h v o is = shown_by size s h v o.bookmarks o.start is
