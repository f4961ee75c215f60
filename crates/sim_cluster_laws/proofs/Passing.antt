-- Each delta that waits is the next change, or tells that there was none.
use Rattle.std.proofs.Common.{◌≡◌, ◌⊎◌, inl, inr, ◌≤◌, ◌<◌, ℕ, List, [], ◌∷◌, ◌++◌, map, true, false, Option, None, IfSome, Ok, refl, sym, ap, ◌∙◌, subst, arith, append-nil, append_assoc}
use Rattle.std.specs.List.{AllByRecursion}
use Rattle.spec_api.specs.declared.kinds.Kind.{Kind}
use Rattle.spec_api.specs.Events.{Event, events}
use Rattle.spec_api.specs.Frames.{Frame, bookmark_frame}
use Rattle.spec_api.specs.History.{History, Entries, present, list}
use Rattle.spec_api.specs.Reached.{IsReached}
use Rattle.spec_api.specs.Refusals.{Refusal}
use Rattle.spec_api.specs.Revisions.{greatest_revision}
use Rattle.spec_api.specs.Streams.{Line, event, bookmark, initial, initial_end, AreEventsWithBookmarks, frame_of, text_of_lines}
use Rattle.spec_api.specs.WatchReplies.{opening_lines}
use Rattle.spec_server.specs.Snapshots.{Snapshot}
use Rattle.spec_laws.proofs.AppliedEvents.{goes_on}
use Rattle.spec_client_go.specs.Informers.{applied, all_applied}
use Rattle.spec_client_go.specs.ReadFrames.{reading}
use Rattle.spec_client_go.specs.Reflectors.{Reflector, Delta, replace, Fed, Step, Course, Initial, none_yet, objects_of, open_run, fed, joined, run, step, going_on, mark_step, apply_delta, put_all}
use Rattle.spec_laws.specs.SentLaws.{whole, IsTold}
use Rattle.spec_laws.proofs.SentLists.{lists_put}
use Rattle.reflector.specs.Laws.{IsSent, IsReadBack}
use Rattle.reflector.proofs.Cutting.{fed_twice}
use Rattle.reflector.proofs.Marks.{bookmark_step}
use Rattle.reflector.proofs.Opened.{Plays, all_listed}
use Rattle.informer_laws.proofs.Publishing.{fed_names, step_names}
use Rattle.sim_cluster_laws.specs.FollowerLaws.{list_at, refusal_text, IsRefusalRead, Begins, watching, streaming}
use Rattle.sim_cluster_laws.specs.LeadLaws.{Leads}
use Rattle.sim_cluster_laws.specs.PassLaws.{GivesAll, IsQuiet, Passes}
use Rattle.sim_cluster_laws.proofs.Feeding.{Beginning, before, whole_of, begun_frames, refused_run, refused_opening}
use Rattle.sim_cluster_laws.proofs.Growing.{list_past}
use Rattle.sim_cluster_laws.proofs.Leading.{lead_to, objects_are, watches_by, streams_by, bytes_lead, low_start, played}
use Rattle.reflector.proofs.FrameSteps.{first_change, at_bookmark, change_step_at}

-- ---- deltas after deltas

pub passes_both : (h : History) (k : Kind) (m : Snapshot) (ds es : List Delta) → Passes h k m ds → Passes h k (all_applied m ds) es → Passes h k m (ds ++ es)
passes_both h k m [] es first then = then
passes_both h k m (d ∷ ds) es first then = (first.0, passes_both h k (applied m d) ds es first.1 then)

passes_then : (h : History) (k : Kind) (m : Snapshot) (ds es : List Delta) → Passes h k m (ds ++ es) → Passes h k (all_applied m ds) es
passes_then h k m [] es all = all
passes_then h k m (d ∷ ds) es all = passes_then h k (applied m d) ds es all.1

-- whatever else happens at the server
pub passes_past : (h more : History) (k : Kind) (m : Snapshot) (ds : List Delta) → Leads h k m ds → Passes h k m ds → Passes (h ++ more) k m ds
passes_past h more k m [] led all = tt
passes_past h more k m (d ∷ ds) led all = (by all.0, passes_past h more k (applied m d) ds led.3 all.1)
  where
    by : GivesAll d ⊎ IsQuiet h k m d → GivesAll d ⊎ IsQuiet (h ++ more) k m d
    by (inl x) = inl x
    by (inr quiet) = inr (λ r low high. ap (λ (s : Snapshot). s.members) (list_past h more k r (omega (arith, high, led.1))) ∙ quiet r low high)

-- ---- frames

-- one frame more
pass_step : (h : History) (k : Kind) (at r : ℕ) (f : Frame) (es : List Frame) (t : Step) → step k at f ≡ Ok t → t.revision ≡ r → apply_delta (list h (whole k) at) t.delta ≡ list h (whole k) r
    → ((s : ℕ) → at ≤ s → s < r → list h (whole k) s ≡ list h (whole k) at) → Passes h k (list_at h k r) (run k r es).deltas → Passes h k (list_at h k at) (run k at (f ∷ es)).deltas
pass_step h k at r f es t is to applies quiet more =
    let m = list_at h k at in
    let named : (applied m t.delta).revision ≡ t.revision = step_names f.kind k at f.object at t is in
    let there : applied m t.delta ≡ list_at h k r = λ i. record { members = applies i; revision = (named ∙ to) i } in
    subst (λ o. Passes h k m (going_on at (λ q. run k q es) o).deltas) (sym is) (
      inr (λ s low high. quiet s low (omega (arith, high, named, to))),
      subst (λ x. Passes h k x (run k t.revision es).deltas) (sym there) (subst (λ q. Passes h k (list_at h k r) (run k q es).deltas) (sym to) more),
    )

passes : (ls : List Line) (es later : List Frame) (h : History) (k : Kind) (at b : ℕ) (cs : List Event) → at ≤ b → b ≤ greatest_revision → cs ≡ events h (whole k) at b → AreEventsWithBookmarks at b cs ls → AllByRecursion (IsTold k) cs
    → es ++ later ≡ map (frame_of k) ls → Passes h k (list_at h k at) (run k at es).deltas
passes ls [] later h k at b cs le top e g told is = tt
passes [] (f ∷ es) later h k at b cs le top e g told is = cc
passes (event d ∷ ls) (f ∷ es) later h k at b [] le top e g told is = absurd g
passes (event d ∷ ls) (f ∷ es) later h k at b (c ∷ cs) le top e g told is =
    let shown_first : f ≡ frame_of k (event d) = cc in
    let others : es ++ later ≡ map (frame_of k) ls = cc in
    let first = first_change h (whole k) at b c cs le e in
    let does = change_step_at c.kind k at c.revision c.key c.object told.0.shows told.0.names first.0 in
    pass_step h k at c.revision f es does.0
    (ap (step k at) (shown_first ∙ ap (λ z. frame_of k (event z)) g.0) ∙ does.1) does.2 (does.3 (list h (whole k) at) ∙ first.2)
    (λ s low high. sym (at_bookmark h (whole k) at s b (c ∷ cs) low (omega (arith, high, first.1)) high e).0)
    (passes ls es later h k c.revision b cs first.1 top first.3 g.1 told.1 others)
passes (bookmark r ∷ ls) (f ∷ es) later h k at b [] le top e g told is =
    let shown_first : f ≡ bookmark_frame k false r = cc in
    let others : es ++ later ≡ map (frame_of k) ls = cc in
    let there = at_bookmark h (whole k) at r b [] g.0 g.1 tt e in
    pass_step h k at r f es (mark_step r) (ap (step k at) shown_first ∙ bookmark_step k at r g.0 (omega (arith, g.1, top))) refl there.0
    (λ s low high. sym (at_bookmark h (whole k) at s b [] low (omega (arith, high, g.1)) tt e).0)
    (passes ls es later h k r b [] g.1 top there.1 g.2 told others)
passes (bookmark r ∷ ls) (f ∷ es) later h k at b (c ∷ cs) le top e g told is =
    let shown_first : f ≡ bookmark_frame k false r = cc in
    let others : es ++ later ≡ map (frame_of k) ls = cc in
    let there = at_bookmark h (whole k) at r b (c ∷ cs) g.0 g.1 g.2 e in
    pass_step h k at r f es (mark_step r) (ap (step k at) shown_first ∙ bookmark_step k at r g.0 (omega (arith, g.1, top))) refl there.0
    (λ s low high. sym (at_bookmark h (whole k) at s b (c ∷ cs) low (omega (arith, high, g.1)) (omega (arith, high, g.2)) e).0)
    (passes ls es later h k r b (c ∷ cs) g.1 top there.1 g.3 told others)
passes (initial n d ∷ ls) (f ∷ es) later h k at b [] le top e g told is = absurd g
passes (initial n d ∷ ls) (f ∷ es) later h k at b (c ∷ cs) le top e g told is = absurd g
passes (initial_end r ∷ ls) (f ∷ es) later h k at b [] le top e g told is = absurd g
passes (initial_end r ∷ ls) (f ∷ es) later h k at b (c ∷ cs) le top e g told is = absurd g

-- ---- the frames of a watch

module _ (h : History) (k : Kind) (a b : ℕ) (ls : List Line) (sent : IsSent h k a b ls) where
  frames_pass : (es later : List Frame) → es ++ later ≡ map (frame_of k) ls → Passes h k (list_at h k a) (run k a es).deltas
  frames_pass es later e = passes ls es later h k a b (events h (whole k) a b) sent.forward sent.low refl sent.stream sent.told e

  watch_passes : (es : List Frame) (o : Option Refusal) → Beginning es (map (frame_of k) ls) o → Passes h k (list_at h k a) (run k a es).deltas
  watch_passes es o (before later e) = frames_pass es later e
  watch_passes es o (whole_of f e) =
      let fs = map (frame_of k) ls in
      subst (Passes h k (list_at h k a)) (sym (ap (λ z. (run k a z).deltas) e ∙ refused_run k f fs a)) (frames_pass fs [] (append-nil fs))

-- ---- the frames of a stream of initial events

closing_passes : (h : History) (k : Kind) (r a : ℕ) (i : Initial) (ds : List Delta) → IsReached h → i.members ≡ list h (whole k) a → Passes h k (list_at h k a) ds
    → Passes h k (list_at h k r) (replace a (objects_of i.members) ∷ ds)
closing_passes h k r a i ds happened is more =
    let put : put_all [] (objects_of i.members) ≡ list h (whole k) a =
    ap (λ ms. put_all [] (objects_of ms)) is ∙ ap (put_all []) (objects_are k a (list h (whole k) a) (all_listed h k a happened)) ∙ lists_put h k a happened in
    let there : applied (list_at h k r) (replace a (objects_of i.members)) ≡ list_at h k a = λ j. record { members = put j; revision = a } in
    (inl tt, subst (λ m. Passes h k m ds) (sym there) more)

module _ (h : History) (k : Kind) (r a b : ℕ) (ls : List Line) (happened : IsReached h) (sent : IsSent h k a b ls) (top : b ≤ present h) (low : r ≤ a) where
  abbrev there : Entries
  there = list h (whole k) a

  abbrev all_lines : List Line
  all_lines = opening_lines true a there ++ ls

  by_play : (es later : List Frame) (c : Course) → Plays k a r there there ls es later c → Passes h k (list_at h k r) c.run.deltas
  by_play es later c (inl u) = subst (λ (c : Course). Passes h k (list_at h k r) c.run.deltas) (sym u.is) tt
  by_play es later c (inr u) =
      subst (λ (c : Course). Passes h k (list_at h k r) c.run.deltas) (sym u.is)
      (closing_passes h k r a u.so_far (run k a u.then).deltas happened u.members (frames_pass h k a b ls sent u.then later u.rest))

  stream_passes : (es : List Frame) (o : Option Refusal) → Beginning es (map (frame_of k) all_lines) o → Passes h k (list_at h k r) (open_run k r none_yet es).run.deltas
  stream_passes es o (before later e) = by_play es later (open_run k r none_yet es) (played h k r a b ls happened sent top low es later e)
  stream_passes es o (whole_of f e) =
      let fs = map (frame_of k) all_lines in
      subst (Passes h k (list_at h k r)) (sym (ap (λ z. (open_run k r none_yet z).run.deltas) e ∙ refused_opening k f fs r none_yet))
      (by_play fs [] (open_run k r none_yet fs) (played h k r a b ls happened sent top low fs [] (append-nil fs)))

-- ---- the bytes of a link

module _ (h : History) (k : Kind) (a b : ℕ) (start : Reflector) (opening ls : List Line) (o : Option Refusal) (happened : IsReached h) (kind : start.kind ≡ k) (begins : Begins h k a start opening)
    (sent : IsSent h k a b ls) (back : AllByRecursion (IsReadBack k) (opening ++ ls)) (refusal : IfSome o IsRefusalRead) (top : b ≤ present h) where
  abbrev GivesPasses : List ℕ → Reflector → Type 0
  GivesPasses bytes s = Passes h k (list_at h k s.revision) (fed s bytes).deltas

  passes_as : (bytes : List ℕ) (opening : List Line) → Begins h k a start opening → Beginning (reading bytes).events (map (frame_of k) (opening ++ ls)) o → GivesPasses bytes start
  passes_as bytes opening (watching at) es =
      subst (GivesPasses bytes) (watches_by start a at)
      (subst (λ n. Passes h k (list_at h k a) (run n a (reading bytes).events).deltas) (sym kind) (watch_passes h k a b ls sent (reading bytes).events o es))
  passes_as bytes opening (streaming at low) es =
      subst (GivesPasses bytes) (streams_by start at)
      (subst (λ n. Passes h k (list_at h k start.revision) (open_run n start.revision none_yet (reading bytes).events).run.deltas) (sym kind)
      (stream_passes h k start.revision a b ls happened sent top low (reading bytes).events o es))

  bytes_pass : (bytes more : List ℕ) → bytes ++ more ≡ text_of_lines k (opening ++ ls) ++ refusal_text o → GivesPasses bytes start
  bytes_pass bytes more e = passes_as bytes opening begins (begun_frames k (opening ++ ls) o bytes more back refusal e)

  -- what more bytes give, after those that were read
  pub further_passes : (read piece more : List ℕ) → (fed start read).ended ≡ None → read ++ (piece ++ more) ≡ text_of_lines k (opening ++ ls) ++ refusal_text o
      → (let s = (fed start read).after in Passes h k (list_at h k s.revision) (fed s piece).deltas)
  further_passes read piece more goes_on e =
      let f = fed start read in
      let g = fed f.after piece in
      let at = list_at h k start.revision in
      let on =
      lead_to h k at f.deltas (low_start h k a b start opening ls o happened kind begins sent back refusal top opening begins) refl
      (bytes_lead h k a b start opening ls o happened kind begins sent back refusal top read (piece ++ more) e) in
      let named : (all_applied at f.deltas).revision ≡ f.after.revision = fed_names start read at refl in
      let there : all_applied at f.deltas ≡ list_at h k f.after.revision = on.lists ∙ ap (list_at h k) named in
      let twice : joined None f g ≡ fed start (read ++ piece) = ap (λ z. joined z f g) (sym goes_on) ∙ fed_twice start read piece in
      let both : Passes h k at (f.deltas ++ g.deltas) =
      subst (λ (z : Fed). Passes h k at z.deltas) (sym twice) (bytes_pass (read ++ piece) more (append_assoc read piece more ∙ e)) in
      subst (λ m. Passes h k m g.deltas) there (passes_then h k at f.deltas g.deltas both)
