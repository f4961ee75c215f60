-- What frames give among initial events: nothing, or one whole map by a closing bookmark.
use Rattle.std.proofs.Common.{◌≡◌, ◌≤◌, ◌⊎◌, inl, inr, ℕ, List, [], ◌∷◌, ◌++◌, Bool, Option, Some, None, option_map, Result, Ok, Err, refl, sym, ap, ◌∙◌, subst}
use Rattle.std.specs.List.{AllByRecursion}
use Rattle.serde_json.specs.Data.{Data}
use Rattle.spec_api.specs.declared.kinds.Kind.{Kind}
use Rattle.spec_api.specs.declared.frames.FrameKind.{FrameKind}
use Rattle.spec_api.specs.declared.frames.FrameKind.TheVariants.{Added, Modified, Deleted, Bookmark, Error}
use Rattle.spec_api.specs.Frames.{Frame}
use Rattle.spec_api.specs.History.{Entries}
use Rattle.spec_client_go.specs.declared.reflectors.End.{End}
use Rattle.spec_client_go.specs.declared.reflectors.Phase.{Phase}
use Rattle.spec_client_go.specs.declared.reflectors.Phase.TheVariants.{Streaming}
use Rattle.spec_client_go.specs.ReadFrames.{reading}
use Rattle.spec_client_go.specs.Reflectors.{shown_above, Step, Run, run, step, step_by, put_step, remove_step, mark_step, marked, or_unreadable, going_on, first_delta, replace, objects_of, Initial, none_yet, Opening, under_way, closed, opening_step, opens_on, open_run, Course, Reflector, Fed, end_of, phase_after, watched, fed, fed_in, all_fed}
use Rattle.reflector.proofs.Anew.{ends_open_again}
use Rattle.reflector.proofs.Cutting.{flat, no_cutting_matters}
use Rattle.sim_cluster_laws.specs.StreamingLaws.{IsNoClosing, IsClosing, ArePlayed, IsSmall, Stays, Opens, NothingIsGivenBefore, NothingIsGivenOfPieces, GivenByTheClosing, GivenOfAllFrames}
use Rattle.sim_cluster_laws.proofs.Played.{goes, closes, not_both}

-- ---- frames

record Waits (last : ℕ) (c : Course) : Type 0 where
  deltas : c.run.deltas ≡ []
  revision : c.run.revision ≡ last
  phase : c.phase ≡ Streaming

record Gives (k : Kind) (i : Initial) (es : List Frame) (c : Course) : Type 0 where
  before : List Frame
  closing : Frame
  later : List Frame
  frames : es ≡ before ++ closing ∷ later
  at : ℕ
  closes_there : IsClosing k at closing
  highest : i.highest ≤ at
  members : Entries
  plays : ArePlayed k at i.members before members
  ran : c.run ≡ first_delta (replace at (objects_of members)) (run k at later)

abbrev Parts : Kind → ℕ → Initial → List Frame → Course → Type 0
Parts k last i es c = Waits last c ⊎ Gives k i es c

one_more : (k : Kind) (last : ℕ) (i j : Initial) (e : Frame) (es : List Frame) (c : Course) → opening_step k i e ≡ Ok (under_way j) → Parts k last j es c → Parts k last i (e ∷ es) c
one_more k last i j e es c is (inl w) = inl w
one_more k last i j e es c is (inr g) =
    let at = goes k i e j is g.at g.highest in
    inr (record {
      before = e ∷ g.before;
      closing = g.closing;
      later = g.later;
      frames = ap (λ fs. e ∷ fs) g.frames;
      at = g.at;
      closes_there = g.closes_there;
      highest = at.1;
      members = g.members;
      plays = (j.members, at.0, g.plays);
      ran = g.ran;
    })

by_step : (k : Kind) (last : ℕ) (i : Initial) (e : Frame) (es : List Frame) (o : Result Opening End) → opening_step k i e ≡ o → ((j : Initial) → Parts k last j es (open_run k last j es))
    → Parts k last i (e ∷ es) (opens_on last i (λ j. open_run k last j es) (λ r. run k r es) o)
by_step k last i e es (Err x) is more = inl (record { deltas = refl; revision = refl; phase = refl })
by_step k last i e es (Ok (under_way j)) is more = one_more k last i j e es (open_run k last j es) is (more j)
by_step k last i e es (Ok (closed r)) is more =
    let at = closes k i e r is in
    inr (record {
      before = [];
      closing = e;
      later = es;
      frames = refl;
      at = r;
      closes_there = at.0;
      highest = at.1;
      members = i.members;
      plays = refl;
      ran = refl;
    })

parts : (k : Kind) (last : ℕ) (es : List Frame) (i : Initial) → Parts k last i es (open_run k last i es)
parts k last [] i = inl (record { deltas = refl; revision = refl; phase = refl })
parts k last (e ∷ es) i = by_step k last i e es (opening_step k i e) refl (λ j. parts k last es j)

-- ---- a watch's deltas

small_mapped : {X : Type 0} (f : X → Step) (o : Option X) (t : Step) → ((x : X) → IsSmall (f x).delta) → or_unreadable (option_map f o) ≡ Ok t → IsSmall t.delta
small_mapped f None t small is = cc
small_mapped f (Some x) t small is = let same : f x ≡ t = cc in subst (λ (z : Step). IsSmall z.delta) same (small x)

small_by : (kind : FrameKind) (k : Kind) (last : ℕ) (d : Data) (t : Step) → step_by kind k last d ≡ Ok t → IsSmall t.delta
small_by Added k last d t is = small_mapped put_step (shown_above k last d) t (λ s. tt) is
small_by Modified k last d t is = small_mapped put_step (shown_above k last d) t (λ s. tt) is
small_by Deleted k last d t is = small_mapped remove_step (shown_above k last d) t (λ s. tt) is
small_by Bookmark k last d t is = small_mapped mark_step (marked k last d) t (λ r. tt) is
small_by Error k last d t is = cc

small_going : (last : ℕ) (more : ℕ → Run) (o : Result Step End) → ((t : Step) → o ≡ Ok t → IsSmall t.delta) → ((r : ℕ) → AllByRecursion IsSmall (more r).deltas) → AllByRecursion IsSmall (going_on last more o).deltas
small_going last more (Err e) small rest = tt
small_going last more (Ok t) small rest = (small t refl, rest t.revision)

all_small : (k : Kind) (last : ℕ) (es : List Frame) → AllByRecursion IsSmall (run k last es).deltas
all_small k last [] = tt
all_small k last (e ∷ es) = small_going last (λ r. run k r es) (step k last e) (λ t is. small_by e.kind k last e.object t is) (λ r. all_small k r es)

-- ---- bytes

still : (b : Bool) (p : Phase) (o : Option End) → o ≡ None → phase_after b p o ≡ p
still b p None is = refl
still b p (Some e) is = cc

module _ (s : Reflector) (piece : List ℕ) (streams : s.phase ≡ Streaming) where
  abbrev es : List Frame
  es = (reading (s.buffered ++ piece)).events

  abbrev c : Course
  c = open_run s.kind s.revision s.initial es

  is_watched : fed s piece ≡ watched Streaming (reading (s.buffered ++ piece)) s
  is_watched = ap (λ p. fed_in p (s.buffered ++ piece) s) streams

  waiting : Waits s.revision c → Stays s (fed s piece)
  waiting w = record {
    deltas = ap (λ (f : Fed). f.deltas) is_watched ∙ w.deltas;
    revision = ap (λ (f : Fed). f.after.revision) is_watched ∙ w.revision;
    goes_on = λ none.
        ap (λ (f : Fed). f.after.phase) is_watched
        ∙ still s.is_streaming c.phase (end_of c.run.ended (reading (s.buffered ++ piece)).fault) (sym (ap (λ (f : Fed). f.ended) is_watched) ∙ none) ∙ w.phase;
    starts = λ e is streaming. ends_open_again s piece e streaming is;
  }

  giving : Gives s.kind s.initial es c → Opens s.kind s.initial es (fed s piece)
  giving g = record {
    before = g.before;
    closing = g.closing;
    later = g.later;
    frames = g.frames;
    revision = g.at;
    closes = g.closes_there;
    highest = g.highest;
    members = g.members;
    plays = g.plays;
    deltas = ap (λ (f : Fed). f.deltas) is_watched ∙ ap (λ (r : Run). r.deltas) g.ran;
    once = all_small s.kind g.at g.later;
    names = ap (λ (f : Fed). f.after.revision) is_watched ∙ ap (λ (r : Run). r.revision) g.ran;
  }

  given : Parts s.kind s.revision s.initial es c → Stays s (fed s piece) ⊎ Opens s.kind s.initial es (fed s piece)
  given (inl w) = inl (waiting w)
  given (inr g) = inr (giving g)

pub given_by_closing : GivenByTheClosing
given_by_closing s piece streams = given s piece streams (parts s.kind s.revision (reading (s.buffered ++ piece)).events s.initial)

-- ---- no closing bookmark

among : (before later : List Frame) (e : Frame) → AllByRecursion IsNoClosing (before ++ e ∷ later) → IsNoClosing e
among [] later e all = all.0
among (f ∷ before) later e all = among before later e all.1

stays_open : (s : Reflector) (i : Initial) (fs : List Frame) (f : Fed) → AllByRecursion IsNoClosing fs → Stays s f ⊎ Opens s.kind i fs f → Stays s f
stays_open s i fs f none (inl x) = x
stays_open s i fs f none (inr o) = absurd (not_both s.kind o.revision o.closing o.closes (among o.before o.later o.closing (subst (AllByRecursion IsNoClosing) o.frames none)))

pub nothing_given : NothingIsGivenBefore
nothing_given s piece streams none = stays_open s s.initial (reading (s.buffered ++ piece)).events (fed s piece) none (given_by_closing s piece streams)

-- ---- from the start

pub given_of_all : GivenOfAllFrames
given_of_all s pieces at =
    let at_once : Stays s (fed s (flat pieces)) ⊎ Opens s.kind s.initial (reading (s.buffered ++ flat pieces)).events (fed s (flat pieces)) = given_by_closing s (flat pieces) at.streams in
    let begun = subst (λ i. Stays s (fed s (flat pieces)) ⊎ Opens s.kind i (reading (s.buffered ++ flat pieces)).events (fed s (flat pieces))) at.initial at_once in
    let read = subst (λ (xs : List ℕ). Stays s (fed s (flat pieces)) ⊎ Opens s.kind none_yet (reading (xs ++ flat pieces)).events (fed s (flat pieces))) at.holds begun in
    subst (λ (f : Fed). Stays s f ⊎ Opens s.kind none_yet (reading (flat pieces)).events f) (sym (no_cutting_matters s pieces at.holds)) read

pub nothing_of_pieces : NothingIsGivenOfPieces
nothing_of_pieces s pieces at none = stays_open s none_yet (reading (flat pieces)).events (all_fed s pieces) none (given_of_all s pieces at)
