-- Each delta that waits leads from the server's list at one revision to that at a later one.
use Rattle.std.proofs.Common.{◌≡◌, ◌≤◌, inl, inr, ℕ, List, [], ◌∷◌, ◌++◌, map, true, Option, None, IfSome, Result, Ok, Err, refl, sym, ap, ◌∙◌, subst, arith, append-nil, append_assoc}
use Rattle.std.specs.List.{AllByRecursion}
use Rattle.spec_api.specs.declared.kinds.Kind.{Kind}
use Rattle.spec_api.specs.Events.{events}
use Rattle.spec_api.specs.Frames.{Frame}
use Rattle.spec_api.specs.History.{History, Entries, present, list}
use Rattle.spec_api.specs.Reached.{IsReached}
use Rattle.spec_api.specs.Refusals.{Refusal}
use Rattle.spec_api.specs.Streams.{Line, initial_end, added_lines, frame_of, text_of_lines}
use Rattle.spec_api.specs.WatchReplies.{opening_lines}
use Rattle.spec_server.specs.Snapshots.{Snapshot}
use Rattle.spec_client_go.specs.declared.reflectors.End.{End}
use Rattle.spec_client_go.specs.declared.reflectors.Phase.TheVariants.{Streaming, Watching}
use Rattle.spec_client_go.specs.Informers.{applied, all_applied}
use Rattle.spec_client_go.specs.ReadFrames.{reading}
use Rattle.spec_client_go.specs.Reflectors.{Reflector, Delta, replace, Fed, Run, Step, Course, Initial, none_yet, objects_of, open_run, fed, joined, run, step, going_on, apply_deltas, put_all}
use Rattle.spec_laws.specs.SentLaws.{whole, objects_in}
use Rattle.spec_laws.proofs.Limited.{limited}
use Rattle.spec_laws.proofs.SentLists.{lists_put}
use Rattle.spec_laws.proofs.Streamed.{list_ascending}
use Rattle.reflector.specs.Laws.{IsSent, IsReadBack, IsAt, IsAtStart}
use Rattle.reflector.proofs.Cutting.{fed_twice, at_place}
use Rattle.reflector.proofs.Followed.{Reaches, follows}
use Rattle.reflector.proofs.Opened.{IsOf, Plays, all_listed, plays}
use Rattle.informer_laws.proofs.Publishing.{fed_names, step_names}
use Rattle.sim_cluster_laws.specs.FollowerLaws.{list_at, refusal_text, IsRefusalRead, Begins, watching, streaming}
use Rattle.sim_cluster_laws.specs.LeadLaws.{Leads}
use Rattle.sim_cluster_laws.proofs.Feeding.{Beginning, before, whole_of, begun_frames, refused_run, refused_opening, frame_rises}
use Rattle.sim_cluster_laws.proofs.Growing.{list_past, further}

-- ---- deltas after deltas

pub leads_both : (h : History) (k : Kind) (m : Snapshot) (ds es : List Delta) → Leads h k m ds → Leads h k (all_applied m ds) es → Leads h k m (ds ++ es)
leads_both h k m [] es first then = then
leads_both h k m (d ∷ ds) es first then = (first.0, first.1, first.2, leads_both h k (applied m d) ds es first.3 then)

leads_then : (h : History) (k : Kind) (m : Snapshot) (ds es : List Delta) → Leads h k m (ds ++ es) → Leads h k (all_applied m ds) es
leads_then h k m [] es all = all
leads_then h k m (d ∷ ds) es all = leads_then h k (applied m d) ds es all.3

-- whatever else happens at the server
pub leads_past : (h more : History) (k : Kind) (m : Snapshot) (ds : List Delta) → Leads h k m ds → Leads (h ++ more) k m ds
leads_past h more k m [] all = tt
leads_past h more k m (d ∷ ds) all =
    let r = (applied m d).revision in
    (all.0, omega (arith, all.1, further h more), all.2 ∙ sym (list_past h more k r all.1), leads_past h more k (applied m d) ds all.3)

-- from a list they lead to a list, which is not below it and has happened
pub record Ends (h : History) (k : Kind) (r : ℕ) (m : Snapshot) : Type 0 where
  pub above : r ≤ m.revision
  pub below : m.revision ≤ present h
  pub lists : m ≡ list_at h k m.revision

pub lead_to : (h : History) (k : Kind) (m : Snapshot) (ds : List Delta) → m.revision ≤ present h → m ≡ list_at h k m.revision → Leads h k m ds → Ends h k m.revision (all_applied m ds)
lead_to h k m [] low is all = record { above = omega arith; below = low; lists = is }
lead_to h k m (d ∷ ds) low is all =
    let more = lead_to h k (applied m d) ds all.1 all.2 all.3 in record { above = omega (arith, all.0, more.above); below = more.below; lists = more.lists }

-- ---- frames

-- what was taken in makes of what was there the list where it stands
abbrev GoesTo : History → Kind → ℕ → Snapshot → Run → Type 0
GoesTo h k b m t = (t.revision ≤ b) × (apply_deltas m.members t.deltas ≡ list h (whole k) t.revision)

-- where each beginning of frames goes to the list where it stands, each delta leads there
run_leads : (h : History) (k : Kind) (b : ℕ) (es : List Frame) (last : ℕ) (m : Snapshot) → b ≤ present h → m.revision ≡ last → ((x y : List Frame) → x ++ y ≡ es → GoesTo h k b m (run k last x)) → Leads h k m (run k last es).deltas
run_leads h k b [] last m top at goes = tt
run_leads h k b (f ∷ es) last m top at goes =
    by (λ (t : Step) (s : Snapshot) (named : s.revision ≡ t.revision) (more : (x y : List Frame) → x ++ y ≡ es → GoesTo h k b s (run k t.revision x)). run_leads h k b es t.revision s top named more)
    (step k last f) refl
  where
    by : ((t : Step) → (s : Snapshot) → s.revision ≡ t.revision → ((x y : List Frame) → x ++ y ≡ es → GoesTo h k b s (run k t.revision x)) → Leads h k s (run k t.revision es).deltas)
        → (o : Result Step End) → step k last f ≡ o → Leads h k m (going_on last (λ r. run k r es) o).deltas
    by later (Err e) is = tt
    by later (Ok t) is =
        let s = applied m t.delta in
        let named : s.revision ≡ t.revision = step_names f.kind k last f.object m.revision t is in
        let one : GoesTo h k b m (going_on last (λ r. run k r []) (Ok t)) = subst (λ o. GoesTo h k b m (going_on last (λ r. run k r []) o)) is (goes (f ∷ []) es refl) in
        let up : last ≤ t.revision = frame_rises k last f t is in
        let high : t.revision ≤ b = one.0 in
        let members : s.members ≡ list h (whole k) s.revision = one.1 ∙ ap (list h (whole k)) (sym named) in (
          omega (arith, at, up, named),
          omega (arith, named, high, top),
          (λ i. record { members = members i; revision = s.revision }),
          later t s named (λ x y e. subst (λ o. GoesTo h k b m (going_on last (λ r. run k r x) o)) is (goes (f ∷ x) y (ap (λ z. f ∷ z) e))),
        )

-- ---- the frames of a watch

module _ (h : History) (k : Kind) (a b : ℕ) (ls : List Line) (sent : IsSent h k a b ls) (top : b ≤ present h) where
  reached : (es later : List Frame) → es ++ later ≡ map (frame_of k) ls → Reaches h (whole k) a b later (run k a es)
  reached es later e = follows ls es later h k a b (events h (whole k) a b) sent.forward sent.low refl sent.stream sent.told e

  frames_lead : (es later : List Frame) → es ++ later ≡ map (frame_of k) ls → Leads h k (list_at h k a) (run k a es).deltas
  frames_lead es later e =
      run_leads h k b es a (list_at h k a) top refl
      (λ x y is. let r = reached x (y ++ later) (sym (append_assoc x y later) ∙ ap (λ z. z ++ later) is ∙ e) in (r.below, r.applies))

  watch_leads : (es : List Frame) (o : Option Refusal) → Beginning es (map (frame_of k) ls) o → Leads h k (list_at h k a) (run k a es).deltas
  watch_leads es o (before later e) = frames_lead es later e
  watch_leads es o (whole_of f e) =
      let fs = map (frame_of k) ls in
      subst (Leads h k (list_at h k a)) (sym (ap (λ z. (run k a z).deltas) e ∙ refused_run k f fs a)) (frames_lead fs [] (append-nil fs))

-- ---- the frames of a stream of initial events

pub objects_are : (k : Kind) (a : ℕ) (ms : Entries) → AllByRecursion (IsOf k a) ms → objects_of ms ≡ objects_in k ms
objects_are k a [] h = refl
objects_are k a (m ∷ ms) h = ap (λ z. record { kind = z; value = m.1 } ∷ objects_of ms) (sym h.0.0) ∙ ap (λ os. record { kind = k; value = m.1 } ∷ os) (objects_are k a ms h.1)

-- what comes at once where the initial events are closed
closing_leads : (h : History) (k : Kind) (r a : ℕ) (i : Initial) (ds : List Delta) → IsReached h → r ≤ a → a ≤ present h → i.members ≡ list h (whole k) a → Leads h k (list_at h k a) ds
    → Leads h k (list_at h k r) (replace a (objects_of i.members) ∷ ds)
closing_leads h k r a i ds happened low top is more =
    let put : put_all [] (objects_of i.members) ≡ list h (whole k) a =
    ap (λ ms. put_all [] (objects_of ms)) is ∙ ap (put_all []) (objects_are k a (list h (whole k) a) (all_listed h k a happened)) ∙ lists_put h k a happened in
    let there : applied (list_at h k r) (replace a (objects_of i.members)) ≡ list_at h k a = λ j. record { members = put j; revision = a } in
    (low, top, there, subst (λ m. Leads h k m ds) (sym there) more)

module _ (h : History) (k : Kind) (r a b : ℕ) (ls : List Line) (happened : IsReached h) (sent : IsSent h k a b ls) (top : b ≤ present h) (low : r ≤ a) where
  abbrev pub ms : Entries
  ms = list h (whole k) a

  abbrev pub all : List Line
  all = opening_lines true a ms ++ ls

  pub played : (es later : List Frame) → es ++ later ≡ map (frame_of k) all → Plays k a r ms ms ls es later (open_run k r none_yet es)
  played es later e =
      let few : present h ≤ 9007199254740991 = (limited h happened).1 in
      plays k a r ms [] none_yet es later ls (all_listed h k a happened) (list_ascending h (whole k) a) refl (omega arith) (omega (arith, sent.forward, top, few))
      (e ∙ ap (map (frame_of k)) (append_assoc (added_lines ms) (initial_end a ∷ []) ls))

  by_play : (es later : List Frame) (c : Course) → Plays k a r ms ms ls es later c → Leads h k (list_at h k r) c.run.deltas
  by_play es later c (inl u) = subst (λ (c : Course). Leads h k (list_at h k r) c.run.deltas) (sym u.is) tt
  by_play es later c (inr u) =
      subst (λ (c : Course). Leads h k (list_at h k r) c.run.deltas) (sym u.is)
      (closing_leads h k r a u.so_far (run k a u.then).deltas happened low (omega (arith, sent.forward, top)) u.members (frames_lead h k a b ls sent top u.then later u.rest))

  stream_leads : (es : List Frame) (o : Option Refusal) → Beginning es (map (frame_of k) all) o → Leads h k (list_at h k r) (open_run k r none_yet es).run.deltas
  stream_leads es o (before later e) = by_play es later (open_run k r none_yet es) (played es later e)
  stream_leads es o (whole_of f e) =
      let fs = map (frame_of k) all in
      subst (Leads h k (list_at h k r)) (sym (ap (λ z. (open_run k r none_yet z).run.deltas) e ∙ refused_opening k f fs r none_yet))
      (by_play fs [] (open_run k r none_yet fs) (played fs [] (append-nil fs)))

-- ---- the bytes of a link

-- a reflector at the beginning of a link, by its parts
pub watches_by : (s : Reflector) (a : ℕ) → IsAt s a → at_place s.is_streaming s.kind (record { phase = Watching; revision = a; initial = s.initial }) [] ≡ s
watches_by s a at = λ i. record { kind = s.kind; revision = sym at.revision i; phase = sym at.watches i; buffered = sym at.holds i; is_streaming = s.is_streaming; initial = s.initial }

pub streams_by : (s : Reflector) → IsAtStart s → at_place s.is_streaming s.kind (record { phase = Streaming; revision = s.revision; initial = none_yet }) [] ≡ s
streams_by s at = λ i. record { kind = s.kind; revision = s.revision; phase = sym at.streams i; buffered = sym at.holds i; is_streaming = s.is_streaming; initial = sym at.initial i }

module _ (h : History) (k : Kind) (a b : ℕ) (start : Reflector) (opening ls : List Line) (o : Option Refusal) (happened : IsReached h) (kind : start.kind ≡ k) (begins : Begins h k a start opening)
    (sent : IsSent h k a b ls) (back : AllByRecursion (IsReadBack k) (opening ++ ls)) (refusal : IfSome o IsRefusalRead) (top : b ≤ present h) where
  -- what is given leads from the list where the reflector was
  abbrev GivesLeads : List ℕ → Reflector → Type 0
  GivesLeads bytes s = Leads h k (list_at h k s.revision) (fed s bytes).deltas

  leads_as : (bytes : List ℕ) (opening : List Line) → Begins h k a start opening → Beginning (reading bytes).events (map (frame_of k) (opening ++ ls)) o → GivesLeads bytes start
  leads_as bytes opening (watching at) es =
      subst (GivesLeads bytes) (watches_by start a at)
      (subst (λ n. Leads h k (list_at h k a) (run n a (reading bytes).events).deltas) (sym kind) (watch_leads h k a b ls sent top (reading bytes).events o es))
  leads_as bytes opening (streaming at low) es =
      subst (GivesLeads bytes) (streams_by start at)
      (subst (λ n. Leads h k (list_at h k start.revision) (open_run n start.revision none_yet (reading bytes).events).run.deltas) (sym kind)
      (stream_leads h k start.revision a b ls happened sent top low (reading bytes).events o es))

  pub bytes_lead : (bytes more : List ℕ) → bytes ++ more ≡ text_of_lines k (opening ++ ls) ++ refusal_text o → GivesLeads bytes start
  bytes_lead bytes more e = leads_as bytes opening begins (begun_frames k (opening ++ ls) o bytes more back refusal e)

  pub low_start : (opening : List Line) → Begins h k a start opening → start.revision ≤ present h
  low_start opening (watching at) = omega (arith, at.revision, sent.forward, top)
  low_start opening (streaming at low) = omega (arith, low, sent.forward, top)

  -- what more bytes give, after those that were read
  pub further_leads : (read piece more : List ℕ) → (fed start read).ended ≡ None → read ++ (piece ++ more) ≡ text_of_lines k (opening ++ ls) ++ refusal_text o
      → (let s = (fed start read).after in (s.revision ≤ present h) × Leads h k (list_at h k s.revision) (fed s piece).deltas)
  further_leads read piece more goes_on e =
      let f = fed start read in
      let g = fed f.after piece in
      let at = list_at h k start.revision in
      let on = lead_to h k at f.deltas (low_start opening begins) refl (bytes_lead read (piece ++ more) e) in
      let named : (all_applied at f.deltas).revision ≡ f.after.revision = fed_names start read at refl in
      let there : all_applied at f.deltas ≡ list_at h k f.after.revision = on.lists ∙ ap (list_at h k) named in
      let twice : joined None f g ≡ fed start (read ++ piece) = ap (λ z. joined z f g) (sym goes_on) ∙ fed_twice start read piece in
      let both : Leads h k at (f.deltas ++ g.deltas) =
      subst (λ (z : Fed). Leads h k at z.deltas) (sym twice) (bytes_lead (read ++ piece) more (append_assoc read piece more ∙ e)) in
      (omega (arith, named, on.below), subst (λ m. Leads h k m g.deltas) there (leads_then h k at f.deltas g.deltas both))
