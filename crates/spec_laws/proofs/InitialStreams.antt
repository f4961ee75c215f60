-- Initial events, the bookmark that closes them, and the looks after it are one stream.
use Rattle.std.proofs.Common.{◌≡◌, ◌≤◌, ℕ, ◌-◌, List, [], ◌∷◌, ◌++◌, map, take, Bool, true, false, Option, Some, None, Ok, refl, sym, ap, ◌∙◌, subst, arith, append_assoc, append-nil}
use Rattle.std.specs.Result.{result_map_both}
use Rattle.std.proofs.lemmas.List.{take-append-le}
use Rattle.serde_json.specs.Data.{Data}
use Rattle.spec_api.specs.Keys.{Key}
use Rattle.spec_api.specs.declared.kinds.Kind.{Kind}
use Rattle.spec_api.specs.History.{History, View, Entries, writes, up_to, present, viewed, after_all, list}
use Rattle.spec_api.specs.Frames.{frame_text}
use Rattle.spec_api.specs.Streams.{Line, event, initial, initial_end, frame_of, added_lines, text_of_lines, IsInitialStream}
use Rattle.spec_api.specs.Versions.{once_present, watched_from}
use Rattle.spec_api.specs.WatchReplies.{Initial, initial_at, initial_from, lines_from, opening_lines, opened_lines, closing_lines, added_events}
use Rattle.spec_laws.proofs.Looks.{goes_further, looks_are_one_stream}
use Rattle.spec_laws.proofs.StandingWatches.{writes_past}
use Rattle.spec_laws.proofs.ServerAnswers.{watches_held}
use Rattle.spec_laws.specs.LookLaws.{Look, AreLooks, last_history, last_stand, look_lines}
use Rattle.spec_server.specs.Servers.{Server, IsServerAfter, watch_by}
use Rattle.spec_laws.specs.StreamLaws.{ServersBegin, OpeningsAreLists, InitialStreamsAreServed, InitialStreamsAreSent, FirstLooksAreSent, InitialsAreServed, EarlyClosingsAreNone}
use Rattle.std.specs.Prelude.{nat_lt, IsOk, ◌↔◌}
use Rattle.std.proofs.lemmas.Bool.{ltb-false, ltb-true}

-- ---- servers

pub begun : ServersBegin
begun size s h v least is = ap (λ z. initial_from z.revision (viewed v z.members) least) is.0

-- ---- the text of a list

before_closing : (k : Kind) (a : ℕ) (ms : Entries) (rest : List Line) → text_of_lines k (map event (added_events a ms) ++ rest) ≡ text_of_lines k (added_lines ms ++ rest)
before_closing k a [] rest = refl
before_closing k a (m ∷ ms) rest = ap (λ t. frame_text (frame_of k (initial m.0 m.1)) ++ t) (before_closing k a ms rest)

pub openings : OpeningsAreLists
openings k bookmarks a ms = before_closing k a ms (closing_lines bookmarks a)

-- ---- an initial stream

-- the list at a revision stays what it is
list_past : (h more : History) (v : View) → list (h ++ more) v (present h) ≡ list h v (present h)
list_past h more v = ap (λ ws. viewed v (after_all [] ws)) (writes_past h more (present h) (omega arith))

pub initial_streams : InitialStreamsAreServed
initial_streams size h v ls is =
    let far = goes_further size v h (present h) ls is in
    let all = looks_are_one_stream size h v (present h) ls is in
    let same : list (last_history h ls) v (present h) ≡ list h v (present h) = ap (λ z. list z v (present h)) far.1 ∙ list_past h far.0 v in (
      all.0,
      (
        look_lines (present h) ls,
        append_assoc (added_lines (list h v (present h))) (initial_end (present h) ∷ []) (look_lines (present h) ls)
            ∙ ap (λ ms. added_lines ms ++ initial_end (present h) ∷ look_lines (present h) ls) (sym same),
        all.1,
      ),
    )

text_append : (k : Kind) (ls ms : List Line) → text_of_lines k (ls ++ ms) ≡ text_of_lines k ls ++ text_of_lines k ms
text_append k [] ms = refl
text_append k (l ∷ ls) ms = ap (λ t. frame_text (frame_of k l) ++ t) (text_append k ls ms) ∙ sym (append_assoc (frame_text (frame_of k l)) (text_of_lines k ls) (text_of_lines k ms))

is_initial : (b : Bool) (now r : ℕ) (ms : Entries) (i : Initial) → nat_lt now r ≡ b → once_present now r (initial_at now ms) ≡ Ok i → initial_at now ms ≡ i
is_initial true now r ms i m is = let none = rw m at is in cc
is_initial false now r ms i m is = let some = rw m at is in cc

given_is : (now : ℕ) (ms : Entries) (least : Option ℕ) (i : Initial) → initial_from now ms least ≡ Ok i → initial_at now ms ≡ i
given_is now ms None i is = cc
given_is now ms (Some r) i is = is_initial (nat_lt now r) now r ms i refl is

-- what is sent of these initial events, and of the looks from their revision
abbrev IsSent : ℕ → History → View → List Look → Initial → Type 0
IsSent size h v ls i =
    AreLooks size v h i.revision ls
    → (all : List Line)
    × (text_of_lines v.kind (opened_lines true i) ++ text_of_lines v.kind (look_lines i.revision ls) ≡ text_of_lines v.kind all)
    × IsInitialStream (last_history h ls) v i.revision (last_stand i.revision ls) all

sent_at : (size : ℕ) (h : History) (v : View) (ls : List Look) → IsSent size h v ls (initial_at (present h) (list h v (present h)))
sent_at size h v ls is =
    let opening = opening_lines true (present h) (list h v (present h)) in (
      opening ++ look_lines (present h) ls,
      ap (λ t. t ++ text_of_lines v.kind (look_lines (present h) ls)) (openings v.kind true (present h) (list h v (present h))) ∙ sym (text_append v.kind opening (look_lines (present h) ls)),
      (initial_streams size h v ls is).1,
    )

pub streams_sent : InitialStreamsAreSent
streams_sent size s h v least i ls stands gives is =
    subst (IsSent size h v ls) (given_is (present h) (list h v (present h)) least i (sym (begun size s h v least stands) ∙ gives)) (sent_at size h v ls) is

pub first_looks_sent : FirstLooksAreSent
first_looks_sent size s t h more v least n i w stands after gives looks =
    let look : Look = record { history = h ++ more; most = n; given = w } in
    let sent = streams_sent size s h v least i (look ∷ []) stands gives ((more, refl), sym (watches_held size t (h ++ more) v i.revision n after) ∙ looks, tt) in
    (sent.0, ap (λ ls. text_of_lines v.kind (opened_lines true i) ++ text_of_lines v.kind ls) (sym (append-nil (lines_from i.revision w))) ∙ sent.1, sent.2)

served_at : (b : Bool) (now r : ℕ) (i : Initial) → nat_lt now r ≡ b → IsOk (once_present now r i) ↔ (r ≤ now)
served_at true now r i m = (λ ok. let none = rw m at ok in cc, λ le. let above = ltb-true now r m in absurd (omega (arith, above, le)))
served_at false now r i m = (λ ok. ltb-false now r m, λ le. rw m refl)

pub initials_served : InitialsAreServed
initials_served h v None = (λ ok. omega arith, λ le. refl)
initials_served h v (Some r) = served_at (nat_lt (present h) r) (present h) r (initial_at (present h) (list h v (present h))) refl

-- ---- a closing bookmark comes last

not_early : (ms : Entries) (n : Key) (d : Data) (a c : ℕ) (more others : List Line) → added_lines ms ++ initial_end c ∷ initial n d ∷ more ≡ added_lines (ms ++ (n, d) ∷ []) ++ initial_end a ∷ others → ⊥
not_early [] n d a c more others is = cc
not_early (m ∷ ms) n d a c more others is = let rest : added_lines ms ++ initial_end c ∷ initial n d ∷ more ≡ added_lines (ms ++ (n, d) ∷ []) ++ initial_end a ∷ others = cc in not_early ms n d a c more others rest

pub early_closings : EarlyClosingsAreNone
early_closings h v a b c ms n d more listed is = not_early ms n d a c more is.0 (is.1 ∙ ap (λ es. added_lines es ++ initial_end a ∷ is.0) listed)
