-- A stream of initial events gives nothing until it is closed, and then all at the revision at which it was opened.
use Rattle.std.proofs.Common.{◌≡◌, ◌≤◌, ◌⊎◌, inl, inr, ◌+◌, ℕ, List, [], ◌∷◌, ◌++◌, suc, length, map, Bool, true, false, Option, Some, None, Result, Ok, Err, refl, sym, ap, ◌∙◌, subst, arith, append-nil, append_assoc}
use Rattle.spec_api.specs.declared.kinds.Kind.{Kind}
use Rattle.spec_api.specs.Frames.{Frame}
use Rattle.spec_api.specs.History.{History, Entries, present, list}
use Rattle.spec_api.specs.Objects.{Object}
use Rattle.spec_api.specs.Reached.{IsReached}
use Rattle.spec_api.specs.Streams.{Line, initial_end, added_lines, frame_of, text_of_lines}
use Rattle.spec_api.specs.WatchReplies.{opening_lines}
use Rattle.spec_client_go.specs.declared.reflectors.End.{End}
use Rattle.spec_client_go.specs.declared.reflectors.Phase.{Phase}
use Rattle.spec_client_go.specs.declared.reflectors.Phase.TheVariants.{Listing, Streaming}
use Rattle.spec_client_go.specs.ReadFrames.{Read, reading}
use Rattle.spec_client_go.specs.Reflectors.{Reflector, Delta, replace, Fed, Initial, none_yet, objects_of, Opening, under_way, closed, opening_step, opens_on, open_run, run, Course, first_phase, phase_after, watched, fed, fed_in, joined}
use Rattle.spec_laws.specs.SentLaws.{whole}
use Rattle.spec_laws.proofs.Limited.{limited}
use Rattle.spec_laws.proofs.Streamed.{list_ascending}
use Rattle.reflector.specs.Laws.{IsAtStart}
use Rattle.reflector.proofs.Cutting.{fed_twice}
use Rattle.reflector.proofs.Opened.{IsClosed, Plays, all_listed, plays}
use Rattle.reflector.proofs.Streamed.{all_back}
use Rattle.sim_cluster_laws.proofs.Feeding.{Beginning, before, whole_of, begun_frames, refused_opening}
use Rattle.sim_cluster_laws.proofs.OpeningsRead.{opening_back}

-- all is replaced first, at this revision
abbrev pub ReplacesAt : ℕ → List Delta → Type 0
ReplacesAt a ds = (os : List Object) × (later : List Delta) × (ds ≡ replace a os ∷ later)

-- whatever part of these bytes is read next, either nothing is given or all is replaced first, at this revision; all of them do that
pub record Closes (a : ℕ) (s : Reflector) (t : List ℕ) : Type 0 where
  pub starts : (x y : List ℕ) → x ++ y ≡ t → ((fed s x).deltas ≡ []) ⊎ ReplacesAt a (fed s x).deltas
  pub replaces : ReplacesAt a (fed s t).deltas

-- ---- more is written

-- a beginning of two texts is one of the first, or goes beyond it
abbrev Part : List ℕ → List ℕ → Type 0
Part x t = ((z : List ℕ) × (x ++ z ≡ t)) ⊎ ((z : List ℕ) × (x ≡ t ++ z))

part_on : (b : ℕ) (x t : List ℕ) → Part x t → Part (b ∷ x) (b ∷ t)
part_on b x t (inl (z, e)) = inl (z, ap (λ y. b ∷ y) e)
part_on b x t (inr (z, e)) = inr (z, ap (λ y. b ∷ y) e)

part : (x y t m : List ℕ) → x ++ y ≡ t ++ m → Part x t
part [] y t m e = inl (t, refl)
part (b ∷ x) y [] m e = inr (b ∷ x, refl)
part (b ∷ x) y (c ∷ t) m e =
    let first : b ≡ c = cc in
    let others : x ++ y ≡ t ++ m = cc in subst (λ z. Part (b ∷ x) (z ∷ t)) first (part_on b x t (part x y t m others))

module _ (a : ℕ) (s : Reflector) where
  joins : (o : Option End) (f g : Fed) → ReplacesAt a f.deltas → ReplacesAt a (joined o f g).deltas
  joins (Some e) f g r = r
  joins None f g (os, later, e) = (os, later ++ g.deltas, ap (λ ds. ds ++ g.deltas) e)

  goes_beyond : (t z : List ℕ) → ReplacesAt a (fed s t).deltas → ReplacesAt a (fed s (t ++ z)).deltas
  goes_beyond t z r = subst (λ (f : Fed). ReplacesAt a f.deltas) (fed_twice s t z) (joins (fed s t).ended (fed s t) (fed (fed s t).after z) r)

  pub written : (t m : List ℕ) → Closes a s t → Closes a s (t ++ m)
  written t m c =
      record {
        starts = λ x y e. by x (part x y t m e);
        replaces = goes_beyond t m c.replaces;
      }
    where
      by : (x : List ℕ) → Part x t → ((fed s x).deltas ≡ []) ⊎ ReplacesAt a (fed s x).deltas
      by x (inl (z, e)) = c.starts x z e
      by x (inr (z, e)) = inr (subst (λ u. ReplacesAt a (fed s u).deltas) (sym e) (goes_beyond t z c.replaces))

  -- ---- a part is read that gives nothing, and comes to no end

  pub read_on : (x y : List ℕ) → (fed s x).deltas ≡ [] → (fed s x).ended ≡ None → Closes a s (x ++ y) → Closes a (fed s x).after y
  read_on x y none goes_on c =
      record {
        starts = λ u v e. subst (λ ds. (ds ≡ []) ⊎ ReplacesAt a ds) (same u) (c.starts (x ++ u) v (append_assoc x u v ∙ ap (λ z. x ++ z) e));
        replaces = subst (ReplacesAt a) (same y) c.replaces;
      }
    where
      same : (u : List ℕ) → (fed s (x ++ u)).deltas ≡ (fed (fed s x).after u).deltas
      same u =
          let g = fed (fed s x).after u in
          ap (λ (f : Fed). f.deltas) (sym (fed_twice s x u)) ∙ ap (λ o. (joined o (fed s x) g).deltas) goes_on ∙ ap (λ ds. ds ++ g.deltas) none

-- ---- what gives nothing leaves the reflector asking

-- a list or a stream is asked for
abbrev pub AsksForAll : Phase → Type 0
AsksForAll p = (p ≡ Listing) ⊎ (p ≡ Streaming)

pub asks_first : (b : Bool) → AsksForAll (first_phase b)
asks_first false = inl refl
asks_first true = inr refl

abbrev Quiet : ℕ → Course → Type 0
Quiet last c = c.run.deltas ≡ [] → (c.run.revision ≡ last) × (c.phase ≡ Streaming)

open_quiet : (k : Kind) (last : ℕ) (i : Initial) (es : List Frame) → Quiet last (open_run k last i es)
open_quiet k last i [] none = (refl, refl)
open_quiet k last i (e ∷ es) none = by (opening_step k i e) (λ j. open_quiet k last j es) none
  where
    by : (x : Result Opening End) → ((j : Initial) → Quiet last (open_run k last j es)) → Quiet last (opens_on last i (λ j. open_run k last j es) (λ r. run k r es) x)
    by (Err f) more none = (refl, refl)
    by (Ok (under_way j)) more none = more j none
    by (Ok (closed r)) more none = absurd (some none)
      where
        some : replace r (objects_of i.members) ∷ (run k r es).deltas ≡ [] → ⊥
        some e = cc

-- it names the revision that it had, and where there was no end it goes on
pub record StaysQuiet (s : Reflector) (f : Fed) : Type 0 where
  pub revision : f.after.revision ≡ s.revision
  pub asks : AsksForAll f.after.phase
  pub streams : f.ended ≡ None → f.after.phase ≡ Streaming

quiet_phase : (b : Bool) (p : Phase) (e : Option End) → p ≡ Streaming → AsksForAll (phase_after b p e)
quiet_phase b p (Some e) is = asks_first b
quiet_phase b p None is = inr is

watched_quiet : (s : Reflector) (r : Read) → (watched Streaming r s).deltas ≡ [] → StaysQuiet s (watched Streaming r s)
watched_quiet s r none =
    let c = open_run s.kind s.revision s.initial r.events in
    let is = open_quiet s.kind s.revision s.initial r.events none in
    record {
      revision = is.0;
      asks = quiet_phase s.is_streaming c.phase (watched Streaming r s).ended is.1;
      streams = λ e. ap (phase_after s.is_streaming c.phase) e ∙ is.1;
    }

pub stays_quiet : (s : Reflector) (x : List ℕ) → s.phase ≡ Streaming → (fed s x).deltas ≡ [] → StaysQuiet s (fed s x)
stays_quiet s x streams none =
    let is : fed s x ≡ watched Streaming (reading (s.buffered ++ x)) s = ap (λ p. fed_in p (s.buffered ++ x) s) streams in
    subst (StaysQuiet s) (sym is) (watched_quiet s (reading (s.buffered ++ x)) (ap (λ (f : Fed). f.deltas) (sym is) ∙ none))

-- ---- where it was opened

longer : (k : Kind) (a : ℕ) (ms : Entries) → length (map (frame_of k) (added_lines ms ++ initial_end a ∷ [])) ≡ length ms + 1
longer k a [] = refl
longer k a (m ∷ ms) = ap suc (longer k a ms) ∙ one_on (length ms)
  where
    one_on : (n : ℕ) → suc (n + 1) ≡ suc n + 1
    one_on n = omega arith

module _ (h : History) (k : Kind) (s : Reflector) (reached : IsReached h) (kind : s.kind ≡ k) (start : IsAtStart s) where
  abbrev now : ℕ
  now = present h

  abbrev ms : Entries
  ms = list h (whole k) now

  abbrev all : List Line
  all = opening_lines true now ms

  abbrev made : List Frame → Course
  made es = open_run k s.revision none_yet es

  given : (x : List ℕ) → (fed s x).deltas ≡ (made (reading x).events).run.deltas
  given x =
      ap (λ p. (fed_in p (s.buffered ++ x) s).deltas) start.streams ∙ ap (λ b. (open_run s.kind s.revision s.initial (reading (b ++ x)).events).run.deltas) start.holds
      ∙ ap (λ i. (open_run s.kind s.revision i (reading x).events).run.deltas) start.initial ∙ ap (λ j. (open_run j s.revision none_yet (reading x).events).run.deltas) kind

  played : (es later : List Frame) → es ++ later ≡ map (frame_of k) all → Plays k now s.revision ms ms [] es later (made es)
  played es later e =
      let few : now ≤ 9007199254740991 = (limited h reached).1 in
      plays k now s.revision ms [] none_yet es later [] (all_listed h k now reached) (list_ascending h (whole k) now) refl (omega arith) (omega (arith, few)) e

  closed_at : (es later : List Frame) → IsClosed k now ms ms [] es later (made es) → ReplacesAt now (made es).run.deltas
  closed_at es later u = (objects_of u.so_far.members, (run k now u.then).deltas, ap (λ (c : Course). c.run.deltas) u.is)

  by_play : (es later : List Frame) → es ++ later ≡ map (frame_of k) all → ((made es).run.deltas ≡ []) ⊎ ReplacesAt now (made es).run.deltas
  by_play es later e = by (played es later e)
    where
      by : Plays k now s.revision ms ms [] es later (made es) → ((made es).run.deltas ≡ []) ⊎ ReplacesAt now (made es).run.deltas
      by (inl u) = inl (ap (λ (c : Course). c.run.deltas) u.is)
      by (inr u) = inr (closed_at es later u)

  by_beginning : (es : List Frame) → Beginning es (map (frame_of k) all) None → ((made es).run.deltas ≡ []) ⊎ ReplacesAt now (made es).run.deltas
  by_beginning es (before later e) = by_play es later e
  by_beginning es (whole_of f e) =
      let fs = map (frame_of k) all in
      subst (λ ds. (ds ≡ []) ⊎ ReplacesAt now ds) (sym (ap (λ z. (made z).run.deltas) e ∙ refused_opening k f fs s.revision none_yet)) (by_play fs [] (append-nil fs))

  whole_closes : ReplacesAt now (made (map (frame_of k) all)).run.deltas
  whole_closes = by (played (map (frame_of k) all) [] (append-nil (map (frame_of k) all)))
    where
      by : Plays k now s.revision ms ms [] (map (frame_of k) all) [] (made (map (frame_of k) all)) → ReplacesAt now (made (map (frame_of k) all)).run.deltas
      by (inl u) = absurd (omega (arith, u.few, longer k now ms))
      by (inr u) = closed_at (map (frame_of k) all) [] u

  pub opened_closes : Closes now s (text_of_lines k all)
  opened_closes =
      let back = opening_back h k now reached (omega arith) in
      record {
        starts = λ x y e. subst (λ ds. (ds ≡ []) ⊎ ReplacesAt now ds) (sym (given x)) (by_beginning (reading x).events (begun_frames k all None x y back tt (e ∙ sym (append-nil (text_of_lines k all)))));
        replaces = subst (ReplacesAt now) (sym (given (text_of_lines k all) ∙ ap (λ (r : Read). (made r.events).run.deltas) (all_back k all back))) whole_closes;
      }
