-- A stream of initial events is taken in: nothing until the closing bookmark, then the list.
use Rattle.std.proofs.Common.{◌≡◌, ◌≤◌, ◌<◌, ◌+◌, ◌-◌, ◌^◌, ◌⊎◌, inl, inr, ℕ, max, List, [], ◌∷◌, ◌++◌, length, map, Bool, true, false, cond, IfSome, IsSome, Option, Some, None, option_map, Ok, refl, sym, ap, ◌∙◌, subst, arith, append_assoc, append-nil}
use Rattle.std.proofs.Math.Nat.{max-le}
use Rattle.std.proofs.lemmas.List.{length-take}
use Rattle.std.specs.List.{AllByRecursion}
use Rattle.serde_json.specs.Data.{Data, object, null, boolean, number, string, array}
use Rattle.serde_json.specs.Find.{as_object}
use Rattle.spec_api.specs.declared.kinds.Kind.{Kind}
use Rattle.spec_api.specs.declared.frames.FrameKind.TheVariants.{Added}
use Rattle.spec_api.specs.Keys.{Key, key_cmp}
use Rattle.spec_api.specs.History.{History, Write, Entries, list, up_to, writes, after_all, put_or_remove, in_view, viewed, present}
use Rattle.spec_api.specs.Reading.{is_body}
use Rattle.spec_api.specs.Reached.{IsReached}
use Rattle.spec_api.specs.Events.{events}
use Rattle.spec_api.specs.Frames.{Frame, bookmark_frame}
use Rattle.spec_api.specs.Streams.{Line, initial, initial_end, IsStream, added_lines, frame_of, text_of_lines}
use Rattle.spec_api.proofs.PutLaws.{IsAscending}
use Rattle.spec_client_go.specs.ReadFrames.{Read, reading}
use Rattle.spec_client_go.specs.Reflectors.{Shown, replace, name_in, run, apply_deltas, put_all, Initial, none_yet, objects_of, under_way, opening, opening_step, opens_on, open_run, stays, closes, Course, Reflector, Fed, ran, fed, all_fed}
use Rattle.spec_laws.specs.SentLaws.{whole, objects_in}
use Rattle.spec_laws.proofs.EachWrite.{AllPut, held_all}
use Rattle.spec_laws.proofs.Limited.{limited}
use Rattle.spec_laws.proofs.SentChanges.{shown_is, name_is, same_kind, read_body, nests, changes_told}
use Rattle.spec_laws.proofs.SentLists.{lists_put}
use Rattle.spec_laws.proofs.SentObjects.{IsStored}
use Rattle.spec_laws.proofs.Stored.{AreStored, AreStored-up_to, all_stored}
use Rattle.spec_laws.proofs.Streamed.{put_last, list_ascending}
use Rattle.framing.specs.Texts.{IsWithin}
use Rattle.framing.proofs.Bookmarks.{IsWithin-bookmark}
use Rattle.framing.proofs.FrameTexts.{frame_bytes}
use Rattle.serde_json.specs.Written.{compact_text}
use Rattle.spec_client_go.specs.declared.reflectors.Phase.TheVariants.{Streaming}
use Rattle.reflector.specs.Laws.{IsReadBack, IsReadWithin, IsAtStart, Waits, Replaces, whole_lines, InitialStreamsAreFollowed, WholeInitialStreamsAreFollowed, CutsOpenAgain}
use Rattle.reflector.proofs.Cutting.{flat, no_cutting_at, at_place}
use Rattle.reflector.proofs.Followed.{follows}
use Rattle.reflector.proofs.Marks.{closing_step}
use Rattle.reflector.proofs.Served.{length-framed, all_back as events_back}
use Rattle.reflector.proofs.Streamed.{Begins, begins, nothing_after, all_back as lines_read}

-- ---- the objects of a list were stored by its revision

abbrev pub IsHeldBy : ℕ → Key → Data → Type 0
IsHeldBy a n d = (r : ℕ) × IsStored n r d × (r ≤ a)

held_one : (n : Key) (r a : ℕ) (o : Option Data) → r ≤ a → IfSome o (IsStored n r) → IfSome o (IsHeldBy a n)
held_one n r a None low s = tt
held_one n r a (Some d) low s = (r, s, low)

held_by : (a r : ℕ) (ws : List Write) → length ws ≤ a + 1 - r → AreStored r ws → AllPut (IsHeldBy a) ws
held_by a r [] low s = tt
held_by a r (w ∷ ws) low s = (held_one w.key r a w.put (omega (arith, low)) s.0, held_by a (r + 1) ws (omega (arith, low)) s.1)

abbrev pub IsOf : Kind → ℕ → Key × Data → Type 0
IsOf k a m = (k ≡ m.0.kind) × IsHeldBy a m.0 m.1

of_if : (k : Kind) (a : ℕ) (b : Bool) (m : Key × Data) (ms : Entries) → in_view (whole k) m.0 m.1 ≡ b → IsHeldBy a m.0 m.1 → AllByRecursion (IsOf k a) ms → AllByRecursion (IsOf k a) (cond b (m ∷ ms) ms)
of_if k a true m ms is h all = ((same_kind k m.0.kind is, h), all)
of_if k a false m ms is h all = all

all_of : (k : Kind) (a : ℕ) (ms : Entries) → AllByRecursion (λ (m : Key × Data). IsHeldBy a m.0 m.1) ms → AllByRecursion (IsOf k a) (viewed (whole k) ms)
all_of k a [] h = tt
all_of k a (m ∷ ms) h = of_if k a (in_view (whole k) m.0 m.1) m (viewed (whole k) ms) refl h.0 (all_of k a ms h.1)

few_writes : (h : History) (a : ℕ) → length (up_to a h) ≤ a + 1 - 2
few_writes h a = omega (arith, length-take (a - 1) (writes h))

pub all_listed : (h : History) (k : Kind) (a : ℕ) → IsReached h → AllByRecursion (IsOf k a) (list h (whole k) a)
all_listed h k a reached =
    all_of k a (after_all [] (up_to a h)) (held_all (IsHeldBy a) (up_to a h) [] (held_by a 2 (up_to a h) (few_writes h a) (AreStored-up_to h a (all_stored h reached))) tt)

-- ---- the frame of one

initial_step : (k : Kind) (a : ℕ) (i : Initial) (m : Key × Data) → (here : IsOf k a m)
    → opening_step k i (frame_of k (initial m.0 m.1)) ≡ Ok (under_way (record { members = put_or_remove i.members m.0 (Some m.1); highest = max i.highest here.1.0 }))
initial_step k a i m here =
    let r = here.1.0 in
    let stored = here.1.1 in
    ap (λ o. opening (option_map (λ (s : Shown). under_way (record { members = put_or_remove i.members (name_in s.object) (Some s.object.value); highest = max i.highest s.revision })) o)) (shown_is k m.0 r m.1 here.0 stored.kept stored.low)
    ∙ ap (λ n. Ok (under_way (record { members = put_or_remove i.members n (Some m.1); highest = max i.highest r }))) (name_is k m.0 r m.1 here.0 stored.kept)

-- ---- frames

-- initial events are under way
pub record IsUnderWay (ms : Entries) (last : ℕ) (es : List Frame) (c : Course) : Type 0 where
  pub few : length es ≤ length ms
  pub so_far : Initial
  pub is : c ≡ stays Streaming last so_far None

-- they were closed, and frames came after them
pub record IsClosed (k : Kind) (a : ℕ) (all ms : Entries) (ls : List Line) (es later : List Frame) (c : Course) : Type 0 where
  pub many : length ms < length es
  pub then : List Frame
  pub rest : then ++ later ≡ map (frame_of k) ls
  pub so_far : Initial
  pub members : so_far.members ≡ all
  pub is : c ≡ closes a so_far (run k a then)

abbrev pub Plays : Kind → ℕ → ℕ → Entries → Entries → List Line → List Frame → List Frame → Course → Type 0
Plays k a last all ms ls es later c = IsUnderWay ms last es c ⊎ IsClosed k a all ms ls es later c

one_more : (k : Kind) (a last : ℕ) (all ms : Entries) (m : Key × Data) (ls : List Line) (f : Frame) (es later : List Frame) (c d : Course) → d ≡ c → Plays k a last all ms ls es later c → Plays k a last all (m ∷ ms) ls (f ∷ es) later d
one_more k a last all ms m ls f es later c d e (inl u) = inl (record { few = omega (arith, u.few); so_far = u.so_far; is = e ∙ u.is })
one_more k a last all ms m ls f es later c d e (inr u) = inr (record { many = omega (arith, u.many); then = u.then; rest = u.rest; so_far = u.so_far; members = u.members; is = e ∙ u.is })

pub plays : (k : Kind) (a last : ℕ) (ms done : Entries) (i : Initial) (es later : List Frame) (ls : List Line) → AllByRecursion (IsOf k a) ms → IsAscending key_cmp (done ++ ms) → i.members ≡ done → i.highest ≤ a → a < 2 ^ 53
    → es ++ later ≡ map (frame_of k) (added_lines ms ++ initial_end a ∷ ls) → Plays k a last (done ++ ms) ms ls es later (open_run k last i es)
plays k a last ms done i [] later ls all up at low top e = inl (record { few = omega arith; so_far = i; is = refl })
plays k a last [] done i (f ∷ es) later ls all up at low top e =
    let first : f ≡ bookmark_frame k true a = cc in
    let others : es ++ later ≡ map (frame_of k) ls = cc in
    inr (record {
      many = omega arith;
      then = es;
      rest = others;
      so_far = i;
      members = at ∙ sym (append-nil done);
      is = ap (λ o. opens_on last i (λ j. open_run k last j es) (λ r. run k r es) o) (ap (opening_step k i) first ∙ closing_step k i a low top);
    })
plays k a last (m ∷ ms) done i (f ∷ es) later ls all up at low top e =
    let first : f ≡ frame_of k (initial m.0 m.1) = cc in
    let others : es ++ later ≡ map (frame_of k) (added_lines ms ++ initial_end a ∷ ls) = cc in
    let j : Initial = record { members = put_or_remove i.members m.0 (Some m.1); highest = max i.highest all.0.1.0 } in
    let put : j.members ≡ done ++ m ∷ [] = ap (λ z. put_or_remove z m.0 (Some m.1)) at ∙ put_last done m ms up in
    let up_next = subst (IsAscending key_cmp) (sym (append_assoc done (m ∷ []) ms)) up in
    let rest = plays k a last ms (done ++ m ∷ []) j es later ls all.1 up_next put (max-le low all.0.1.2) top others in
    one_more k a last (done ++ m ∷ ms) ms m ls f es later (open_run k last j es) (open_run k last i (f ∷ es))
    (ap (λ o. opens_on last i (λ j. open_run k last j es) (λ r. run k r es) o) (ap (opening_step k i) first ∙ initial_step k a i m all.0))
    (subst (λ z. Plays k a last z ms ls es later (open_run k last j es)) (append_assoc done (m ∷ []) ms) rest)

-- ---- the objects of the map

objects_are : (k : Kind) (a : ℕ) (ms : Entries) → AllByRecursion (IsOf k a) ms → objects_of ms ≡ objects_in k ms
objects_are k a [] h = refl
objects_are k a (m ∷ ms) h = ap (λ z. record { kind = z; value = m.1 } ∷ objects_of ms) (sym h.0.0) ∙ ap (λ os. record { kind = k; value = m.1 } ∷ os) (objects_are k a ms h.1)

-- ---- the lines are read back

is_object : (d : Data) → is_body d ≡ true → IsSome (as_object d)
is_object (object ms) h = refl
is_object null h = cc
is_object (boolean b) h = cc
is_object (number n) h = cc
is_object (string s) h = cc
is_object (array ds) h = cc

within : (k : Kind) (a : ℕ) (m : Key × Data) → IsOf k a m → IsWithin (frame_of k (initial m.0 m.1))
within k a m here =
    let stored = here.1.1 in
    let body = read_body m.0.kind m.1 m.1 stored.kept.reads in
    record {
      is_object = is_object m.1 body;
      nests = omega (arith, nests m.1 body);
      fits = omega (arith, ap length (frame_bytes Added m.1), length-framed Added (compact_text m.1), stored.fits);
    }

initial_back : (k : Kind) (a : ℕ) (ms : Entries) (ls : List Line) → AllByRecursion (IsOf k a) ms → a < 2 ^ 64 → (AllByRecursion (IsReadWithin k) ls → AllByRecursion (IsReadBack k) ls)
    → AllByRecursion (IsReadWithin k) (added_lines ms ++ initial_end a ∷ ls) → AllByRecursion (IsReadBack k) (added_lines ms ++ initial_end a ∷ ls)
initial_back k a [] ls all low later read = (read.0 (IsWithin-bookmark k true a low), later read.1)
initial_back k a (m ∷ ms) ls all low later read = (read.0 (within k a m all.0), initial_back k a ms ls all.1 low later read.1)

-- ---- all of it

-- what is to be shown of who asks for a stream
abbrev pub Follows : History → Kind → ℕ → ℕ → List ℕ → ℕ → Fed → Type 0
Follows h k a b bytes r f = ((whole_lines bytes ≤ length (list h (whole k) a)) × Waits r f) ⊎ ((length (list h (whole k) a) < whole_lines bytes) × Replaces h k a b f)

-- what was given makes of any map the list at b
abbrev pub Ends : History → Kind → ℕ → Fed → Type 0
Ends h k b f = (before : Entries) → apply_deltas before f.deltas ≡ list h (whole k) b

-- the same, with what is shown where nothing is to come
abbrev pub Fares : History → Kind → ℕ → ℕ → List ℕ → ℕ → List Frame → Fed → Type 0
Fares h k a b bytes r later f =
    ((whole_lines bytes ≤ length (list h (whole k) a)) × Waits r f) ⊎ ((length (list h (whole k) a) < whole_lines bytes) × Replaces h k a b f × (later ≡ [] → Ends h k b f))

follows_of : (h : History) (k : Kind) (a b : ℕ) (bytes : List ℕ) (r : ℕ) (later : List Frame) (f : Fed) → Fares h k a b bytes r later f → Follows h k a b bytes r f
follows_of h k a b bytes r later f (inl x) = inl x
follows_of h k a b bytes r later f (inr x) = inr (x.0, x.1)

more_lines : (k : Kind) (a : ℕ) (ms : Entries) (ls : List Line) → length ms < length (map (frame_of k) (added_lines ms ++ initial_end a ∷ ls))
more_lines k a [] ls = omega arith
more_lines k a (m ∷ ms) ls = let rest = more_lines k a ms ls in omega (arith, rest)

module _ (h : History) (k : Kind) (a b : ℕ) (ls : List Line) (happened : IsReached h) (forward : a ≤ b) (reached : b ≤ present h) (stream : IsStream h (whole k) a b ls) where
  abbrev ms : Entries
  ms = list h (whole k) a

  abbrev lines : List Line
  lines = added_lines ms ++ initial_end a ∷ ls

  low : b ≤ 9007199254740991
  low = let few : present h ≤ 9007199254740991 = (limited h happened).1 in omega (arith, reached, few)

  pub back : AllByRecursion (IsReadWithin k) lines → AllByRecursion (IsReadBack k) lines
  back read =
      initial_back k a ms ls (all_listed h k a happened) (omega (arith, forward, low)) (events_back k ls a b (events h (whole k) a b) low stream (changes_told h k a b happened forward).1) read

  replaces : (i : Initial) (read : Read) (then later : List Frame) → i.members ≡ ms → read.fault ≡ None → then ++ later ≡ map (frame_of k) ls
      → (s : Reflector) → (let f = ran (closes a i (run k a then)) read s in Replaces h k a b f × (later ≡ [] → Ends h k b f))
  replaces i read then later at none rest s =
      let reach = follows ls then later h k a b (events h (whole k) a b) forward (omega (arith, low)) refl stream (changes_told h k a b happened forward).0 rest in
      let listed : objects_of i.members ≡ objects_in k ms = ap objects_of at ∙ objects_are k a ms (all_listed h k a happened) in
      let put : put_all [] (objects_of i.members) ≡ ms = ap (put_all []) listed ∙ lists_put h k a happened in
      rw (reach.ended, none) (
        record {
          later = (run k a then).deltas;
          deltas = ap (λ os. replace a os ∷ (run k a then).deltas) listed;
          goes_on = record { ended = refl; watches = refl; above = reach.above; below = reach.below; applies = reach.applies };
          applies = λ before. ap (λ z. apply_deltas z (run k a then).deltas) put ∙ reach.applies;
        },
        λ nothing before. ap (λ z. apply_deltas z (run k a then).deltas) put ∙ reach.applies ∙ reach.last nothing,
      )

  abbrev at_start : Bool → ℕ → Reflector
  at_start streaming r = at_place streaming k (record { phase = Streaming; revision = r; initial = none_yet }) []

  played_at : (streaming : Bool) (r : ℕ) (bytes unread : List ℕ) → (start : Begins (map (frame_of k) lines) bytes unread) → Fares h k a b bytes r start.later (fed (at_start streaming r) bytes)
  played_at streaming r bytes unread start =
      by (plays k a r ms [] none_yet (reading bytes).events start.later ls (all_listed h k a happened) (list_ascending h (whole k) a) refl (omega arith) (omega (arith, forward, low)) start.events)
    where
      by : Plays k a r ms ms ls (reading bytes).events start.later (open_run k r none_yet (reading bytes).events) → Fares h k a b bytes r start.later (fed (at_start streaming r) bytes)
      by (inl u) =
          inl (u.few, subst (λ c. Waits r (ran c (reading bytes) (at_start streaming r))) (sym u.is) (rw start.fault (record { deltas = refl; ended = refl; streams = refl; revision = refl })))
      by (inr u) =
          let done = subst (λ c. (let f = ran c (reading bytes) (at_start streaming r) in Replaces h k a b f × (start.later ≡ [] → Ends h k b f))) (sym u.is) (replaces u.so_far (reading bytes) u.then start.later u.members start.fault u.rest (at_start streaming r)) in
          inr (u.many, done.0, done.1)

  pub followed_at : (streaming : Bool) (r : ℕ) (pieces : List (List ℕ)) (unread : List ℕ) → AllByRecursion (IsReadWithin k) lines → flat pieces ++ unread ≡ text_of_lines k lines
      → Follows h k a b (flat pieces) r (all_fed (at_start streaming r) pieces)
  followed_at streaming r pieces unread read e =
      let start = begins k lines (flat pieces) unread (back read) e in
      subst (Follows h k a b (flat pieces) r) (sym (no_cutting_at streaming k (record { phase = Streaming; revision = r; initial = none_yet }) pieces))
      (follows_of h k a b (flat pieces) r start.later (fed (at_start streaming r) (flat pieces)) (played_at streaming r (flat pieces) unread start))

  ended_at : (bytes : List ℕ) (r : ℕ) (later : List Frame) (f : Fed) → length ms < whole_lines bytes → later ≡ [] → Fares h k a b bytes r later f → Replaces h k a b f × Ends h k b f
  ended_at bytes r later f many none (inl x) = absurd (omega (arith, many, x.0))
  ended_at bytes r later f many none (inr x) = (x.1, x.2 none)

  pub whole_at : (streaming : Bool) (r : ℕ) (pieces : List (List ℕ)) → AllByRecursion (IsReadWithin k) lines → flat pieces ≡ text_of_lines k lines
      → (let f = all_fed (at_start streaming r) pieces in Replaces h k a b f × Ends h k b f)
  whole_at streaming r pieces read e =
      let start = begins k lines (flat pieces) [] (back read) (append-nil (flat pieces) ∙ e) in
      let all : (reading (flat pieces)).events ≡ map (frame_of k) lines = ap (λ (r : Read). r.events) (ap reading e ∙ lines_read k lines (back read)) in
      let none : start.later ≡ [] = nothing_after (reading (flat pieces)).events start.later (start.events ∙ sym all) in
      let many : length ms < whole_lines (flat pieces) = subst (λ (n : ℕ). length ms < n) (sym (ap length all)) (more_lines k a ms ls) in
      subst (λ (f : Fed). Replaces h k a b f × Ends h k b f) (sym (no_cutting_at streaming k (record { phase = Streaming; revision = r; initial = none_yet }) pieces))
      (ended_at (flat pieces) r start.later (fed (at_start streaming r) (flat pieces)) many none (played_at streaming r (flat pieces) [] start))

starts : (s : Reflector) → IsAtStart s → at_place s.is_streaming s.kind (record { phase = Streaming; revision = s.revision; initial = none_yet }) [] ≡ s
starts s at = λ i. record { kind = s.kind; revision = s.revision; phase = sym at.streams i; buffered = sym at.holds i; is_streaming = s.is_streaming; initial = sym at.initial i }

pub initial_streams : InitialStreamsAreFollowed
initial_streams h a b ls s pieces rest at served e =
    let lines = added_lines (list h (whole s.kind) a) ++ initial_end a ∷ served.stream.0 in
    let same : ls ≡ lines = served.stream.1 in
    subst (λ t. Follows h s.kind a b (flat pieces) s.revision (all_fed t pieces)) (starts s at)
    (followed_at h s.kind a b served.stream.0 served.happened served.forward served.reached served.stream.2 s.is_streaming s.revision pieces rest
    (subst (AllByRecursion (IsReadWithin s.kind)) same served.read) (e ∙ ap (text_of_lines s.kind) same))

pub whole_initial_streams : WholeInitialStreamsAreFollowed
whole_initial_streams h a b ls s pieces at served e =
    let lines = added_lines (list h (whole s.kind) a) ++ initial_end a ∷ served.stream.0 in
    let same : ls ≡ lines = served.stream.1 in
    subst (λ t. (let f = all_fed t pieces in Replaces h s.kind a b f × Ends h s.kind b f)) (starts s at)
    (whole_at h s.kind a b served.stream.0 served.happened served.forward served.reached served.stream.2 s.is_streaming s.revision pieces
    (subst (AllByRecursion (IsReadWithin s.kind)) same served.read) (e ∙ ap (text_of_lines s.kind) same))

pub cuts_open_again : CutsOpenAgain
cuts_open_again s pieces waits =
    (record { streams = waits.streams; initial = refl; holds = refl }, rw waits.streams refl, waits.revision)
