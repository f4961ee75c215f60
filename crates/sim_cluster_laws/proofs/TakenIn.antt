-- A server's initial events and the looks after them, taken in.
use Rattle.std.proofs.Common.{◌≡◌, ◌≤◌, ◌⊎◌, ◌<◌, ℕ, List, [], ◌∷◌, ◌++◌, length, true, Option, refl, sym, ap, ◌∙◌, subst, arith, append_assoc}
use Rattle.std.specs.List.{AllByRecursion}
use Rattle.spec_api.specs.declared.kinds.Kind.{Kind}
use Rattle.spec_api.specs.Frames.{frame_text}
use Rattle.spec_api.specs.History.{History, View, Entries, present, after_all, viewed, list}
use Rattle.spec_api.specs.Streams.{Line, initial_end, added_lines, frame_of, text_of_lines}
use Rattle.spec_api.specs.WatchReplies.{Initial, opening_lines}
use Rattle.spec_client_go.specs.Reflectors.{Reflector, Fed, apply_deltas, all_fed}
use Rattle.spec_server.specs.Servers.{Server}
use Rattle.spec_laws.specs.LookLaws.{Look, AreLooks, last_history, last_stand, look_lines}
use Rattle.spec_laws.specs.SentLaws.{whole}
use Rattle.spec_laws.proofs.InitialStreams.{initial_streams, openings}
use Rattle.spec_laws.proofs.Looks.{goes_further, looks_are_one_stream}
use Rattle.spec_laws.proofs.StandingWatches.{given_stands, writes_past}
use Rattle.reflector.specs.Laws.{IsAt, IsAtStart, IsReadWithin, IsServedInitial, Waits, Replaces, whole_lines}
use Rattle.reflector.proofs.Cutting.{flat}
use Rattle.reflector.proofs.Opened as opened
use Rattle.sim_cluster_laws.specs.ServedStreamLaws.{IsStreamed, sent_bytes, SentStreamsAreServed, ServedStreamsAreTakenIn, CutServedStreamsAreTakenIn}
use Rattle.sim_cluster_laws.proofs.Answered.{of_the_present}
use Rattle.sim_cluster_laws.proofs.LastLines.{last_look}
use Rattle.sim_cluster_laws.proofs.LinesRead.{initial_lines_back}
use Rattle.sim_cluster_laws.proofs.Standing.{StandsAt, stands}

-- looks stand at what has happened
stand_reached : (size : ℕ) (v : View) (h : History) (a : ℕ) (ls : List Look) → a ≤ present h → AreLooks size v h a ls → last_stand a ls ≤ present (last_history h ls)
stand_reached size v h a [] le is = le
stand_reached size v h a (l ∷ ls) le is = stand_reached size v l.history l.given.stands ls (given_stands size l.history v a l.most l.given is.1).3.1 is.2

-- what is told of a list stays so
list_past : (size : ℕ) (h : History) (v : View) (a : ℕ) (ls : List Look) → AreLooks size v h a ls → list (last_history h ls) v (present h) ≡ list h v (present h)
list_past size h v a ls is =
    let far = goes_further size v h a ls is in
    ap (λ z. list z v (present h)) far.1 ∙ ap (λ ws. viewed v (after_all [] ws)) (writes_past h far.0 (present h) (omega arith))

text_append : (k : Kind) (ls ms : List Line) → text_of_lines k (ls ++ ms) ≡ text_of_lines k ls ++ text_of_lines k ms
text_append k [] ms = refl
text_append k (l ∷ ls) ms = ap (λ t. frame_text (frame_of k l) ++ t) (text_append k ls ms) ∙ sym (append_assoc (frame_text (frame_of k l)) (text_of_lines k ls) (text_of_lines k ms))

module _ (size : ℕ) (s : Server) (h : History) (k : Kind) (least : Option ℕ) (i : Initial) (ls : List Look) (is : IsStreamed size s h k least i ls) where
  abbrev ms : Entries
  ms = list h (whole k) (present h)

  -- what is sent
  abbrev sent : List Line
  sent = opening_lines true (present h) ms ++ look_lines (present h) ls

  now : i.revision ≡ present h
  now = (of_the_present size s h (whole k) least i is.server is.begins).1

  looks : AreLooks size (whole k) h (present h) ls
  looks = subst (λ r. AreLooks size (whole k) h r ls) now is.looks

  text : sent_bytes k i ls ≡ text_of_lines k sent
  text =
      ap (λ (j : Initial). sent_bytes k j ls) (of_the_present size s h (whole k) least i is.server is.begins).0
      ∙ ap (λ t. t ++ text_of_lines k (look_lines (present h) ls)) (openings k true (present h) ms) ∙ sym (text_append k (opening_lines true (present h) ms) (look_lines (present h) ls))

  served : IsServedInitial (last_history h ls) k (present h) (last_stand (present h) ls) sent
  served =
      let streams = initial_streams size h (whole k) ls looks in
      let up = stand_reached size (whole k) h (present h) ls (omega arith) looks in
      record {
        happened = is.reached;
        forward = streams.0;
        reached = up;
        stream = streams.1;
        read = initial_lines_back (last_history h ls) k (present h) (last_stand (present h) ls) sent is.reached streams.0 up streams.1;
      }

  same_list : list (last_history h ls) (whole k) (present h) ≡ ms
  same_list = list_past size h (whole k) (present h) ls looks

-- ---- as a reflector may be sent them

pub sent_served : SentStreamsAreServed
sent_served size s h k least i ls is = (
  sent size s h k least i ls is,
  text size s h k least i ls is,
  subst (λ r. IsServedInitial (last_history h ls) k (present h) (last_stand r ls) (sent size s h k least i ls is)) (sym (now size s h k least i ls is)) (served size s h k least i ls is),
)

-- ---- all of them

stands_after : (size : ℕ) (s : Server) (h : History) (least : Option ℕ) (i : Initial) (ls : List Look) (r : Reflector) (pieces : List (List ℕ)) (is : IsStreamed size s h r.kind least i ls) → IsAtStart r
    → flat pieces ≡ sent_bytes r.kind i ls → StandsAt (last_stand (present h) ls) (all_fed r pieces).after
stands_after size s h least i ls r pieces is at e =
    let k = r.kind in
    let after = last_history h ls in
    let b = last_stand (present h) ls in
    let was = served size s h k least i ls is in
    let lines = added_lines (list after (whole k) (present h)) ++ initial_end (present h) ∷ look_lines (present h) ls in
    let same : sent size s h k least i ls is ≡ lines =
    append_assoc (added_lines (list h (whole k) (present h))) (initial_end (present h) ∷ []) (look_lines (present h) ls)
    ∙ ap (λ ms. added_lines ms ++ initial_end (present h) ∷ look_lines (present h) ls) (sym (same_list size s h k least i ls is)) in
    let goes = (looks_are_one_stream size h (whole k) (present h) ls (looks size s h k least i ls is)).1 in
    let stood = stands after (present h) b (look_lines (present h) ls) r pieces is.reached was.forward was.reached goes (subst (AllByRecursion (IsReadWithin k)) same was.read) at
    (e ∙ text size s h k least i ls is ∙ ap (text_of_lines k) same) in
    subst (λ n. StandsAt n (all_fed r pieces).after) (last_look size (whole k) h (present h) ls (looks size s h k least i ls is)) stood

-- what is to be shown where the looks stand
abbrev Ends : History → Kind → ℕ → ℕ → Fed → Type 0
Ends h k a b f = Replaces h k a b f × ((ms : Entries) → apply_deltas ms f.deltas ≡ list h (whole k) b) × IsAt f.after b

pub taken_in : ServedStreamsAreTakenIn
taken_in size s h least i ls r pieces is at e =
    let k = r.kind in
    let f = all_fed r pieces in
    let after = last_history h ls in
    let b = last_stand (present h) ls in
    let done : Replaces after k (present h) b f × ((ms : Entries) → apply_deltas ms f.deltas ≡ list after (whole k) b) =
    opened.whole_initial_streams after (present h) b (sent size s h k least i ls is) r pieces at (served size s h k least i ls is) (e ∙ text size s h k least i ls is) in
    let stood = stands_after size s h least i ls r pieces is at e in
    subst (λ q. Ends after k (present h) (last_stand q ls) f) (sym (now size s h k least i ls is))
    (done.0, done.1, record { watches = done.0.goes_on.watches; revision = stood.revision; holds = stood.holds })

-- ---- any part of them

abbrev Follows : History → Kind → ℕ → ℕ → ℕ → ℕ → ℕ → Fed → Type 0
Follows h k r n m a b f = ((n ≤ m) × Waits r f) ⊎ ((m < n) × Replaces h k a b f)

pub cut_taken_in : CutServedStreamsAreTakenIn
cut_taken_in size s h least i ls r pieces more is at e =
    let k = r.kind in
    let f = all_fed r pieces in
    let n = whole_lines (flat pieces) in
    let b = last_stand (present h) ls in
    let after = last_history h ls in
    let part : Follows after k r.revision n (length (list after (whole k) (present h))) (present h) b f =
    opened.initial_streams after (present h) b (sent size s h k least i ls is) r pieces more at (served size s h k least i ls is) (e ∙ text size s h k least i ls is) in
    subst (λ q. Follows after k r.revision n (length (list h (whole k) (present h))) (present h) (last_stand q ls) f) (sym (now size s h k least i ls is))
    (subst (λ ms. Follows after k r.revision n (length ms) (present h) b f) (same_list size s h k least i ls is) part)
