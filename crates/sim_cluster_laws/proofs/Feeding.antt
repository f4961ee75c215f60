-- What comes of bytes of a link: all of them are lines, and then maybe a refusal.
use Rattle.std.proofs.Common.{◌≡◌, ◌≤◌, ◌<◌, ℕ, List, [], ◌∷◌, ◌++◌, Bool, true, false, cond, nat_lt, nat_le, Option, Some, None, option_map, option_and_then, Result, Ok, Err, refl, sym, ap, ◌∙◌, subst, arith, append-nil, map, IfSome}
use Rattle.std.proofs.lemmas.Bool.{ltb-true, leb-true}
use Rattle.std.specs.List.{AllByRecursion}
use Rattle.serde_json.specs.Data.{Data}
use Rattle.spec_api.specs.declared.kinds.Kind.{Kind}
use Rattle.spec_api.specs.declared.frames.FrameKind.{FrameKind}
use Rattle.spec_api.specs.declared.frames.FrameKind.TheVariants.{Added, Modified, Deleted, Bookmark, Error}
use Rattle.spec_api.specs.Frames.{Frame, error_frame}
use Rattle.spec_api.specs.Refusals.{Refusal}
use Rattle.spec_api.specs.Streams.{Line, frame_of, text_of_lines}
use Rattle.spec_client_go.specs.declared.reflectors.Phase.{Phase}
use Rattle.spec_client_go.specs.declared.reflectors.Phase.TheVariants.{Listing, Streaming, Watching}
use Rattle.spec_client_go.specs.declared.reflectors.End.{End}
use Rattle.spec_client_go.specs.ReadFrames.{Read, reading, onto}
use Rattle.spec_client_go.specs.Reflectors.{Reflector, replace, objects_of, Step, Shown, Initial, Opening, under_way, closed, fed, fed_in, course, run, open_run, opens_on, opening_step, going_on, step, step_by, or_unreadable, shown, if_above, if_reached, is_of, revision, put_step, remove_step, mark_step, held_after, initial_after}
use Rattle.framing.specs.Decoders.{fed_after}
use Rattle.reflector.specs.Laws.{IsReadBack}
use Rattle.reflector.proofs.Cutting.{reading_twice, no_cutting_matters}
use Rattle.reflector.proofs.Streamed.{read_back}
use Rattle.sim_cluster_laws.specs.FollowerLaws.{refusal_text, IsRefusalRead, IsClear}

-- ---- all the bytes: lines, and then a refusal

-- the frame of a refusal
abbrev pub refusal_frames : Option Refusal → List Frame
refusal_frames None = []
refusal_frames (Some f) = error_frame f ∷ []

refusal_read : (o : Option Refusal) → IfSome o IsRefusalRead → reading (refusal_text o) ≡ record { events = refusal_frames o; buffered = []; fault = None }
refusal_read None h = refl
refusal_read (Some f) h = ap reading (sym (append-nil (refusal_text (Some f)))) ∙ h []

all_read : (k : Kind) (ls : List Line) (o : Option Refusal) → AllByRecursion (IsReadBack k) ls → IfSome o IsRefusalRead
    → reading (text_of_lines k ls ++ refusal_text o) ≡ record { events = map (frame_of k) ls ++ refusal_frames o; buffered = []; fault = None }
all_read k ls o h g = read_back k ls (refusal_text o) h ∙ ap (onto (map (frame_of k) ls)) (refusal_read o g)

-- ---- a beginning of them

-- frames that begin these and then one more
pub data Beginning (es fs : List Frame) (o : Option Refusal) : Type 0 where
  before : (later : List Frame) → es ++ later ≡ fs → Beginning es fs o
  whole_of : (f : Refusal) → es ≡ fs ++ error_frame f ∷ [] → Beginning es fs o

longer : (o : Option Refusal) (x : Frame) (es fs : List Frame) → Beginning es fs o → Beginning (x ∷ es) (x ∷ fs) o
longer o x es fs (before later e) = before later (ap (λ z. x ∷ z) e)
longer o x es fs (whole_of f e) = whole_of f (ap (λ z. x ∷ z) e)

beginning : (o : Option Refusal) (es later fs : List Frame) → es ++ later ≡ fs ++ refusal_frames o → Beginning es fs o
beginning o [] later fs e = before fs refl
beginning None (x ∷ es) later [] e = cc
beginning (Some f) (x ∷ []) later [] e = let first : x ≡ error_frame f = cc in whole_of f (ap (λ z. z ∷ []) first)
beginning (Some f) (x ∷ y ∷ es) later [] e = cc
beginning o (x ∷ es) later (y ∷ fs) e =
    let first : y ≡ x = cc in
    let others : es ++ later ≡ fs ++ refusal_frames o = cc in subst (λ z. Beginning (x ∷ es) (z ∷ fs) o) (sym first) (longer o x es fs (beginning o es later fs others))

-- the frames of a beginning of the bytes
pub begun_frames : (k : Kind) (ls : List Line) (o : Option Refusal) (bytes more : List ℕ) → AllByRecursion (IsReadBack k) ls → IfSome o IsRefusalRead
    → bytes ++ more ≡ text_of_lines k ls ++ refusal_text o → Beginning (reading bytes).events (map (frame_of k) ls) o
begun_frames k ls o bytes more h g e =
    let first = reading bytes in
    let then = fed_after first.fault (first.buffered ++ more) in
    let all : onto first.events then ≡ record { events = map (frame_of k) ls ++ refusal_frames o; buffered = []; fault = None } =
    sym (reading_twice bytes more) ∙ ap reading e ∙ all_read k ls o h g in
    beginning o first.events then.events (map (frame_of k) ls) (ap (λ (r : Read). r.events) all)

-- ---- a refusal gives nothing

pub refused_run : (k : Kind) (f : Refusal) (es : List Frame) (last : ℕ) → (run k last (es ++ error_frame f ∷ [])).deltas ≡ (run k last es).deltas
refused_run k f [] last = refl
refused_run k f (e ∷ es) last = by (λ r. refused_run k f es r) (step k last e)
  where
    by : ((r : ℕ) → (run k r (es ++ error_frame f ∷ [])).deltas ≡ (run k r es).deltas) → (o : Result Step End)
        → (going_on last (λ r. run k r (es ++ error_frame f ∷ [])) o).deltas ≡ (going_on last (λ r. run k r es) o).deltas
    by more (Err x) = refl
    by more (Ok t) = ap (λ ds. t.delta ∷ ds) (more t.revision)

pub refused_opening : (k : Kind) (f : Refusal) (es : List Frame) (last : ℕ) (i : Initial) → (open_run k last i (es ++ error_frame f ∷ [])).run.deltas ≡ (open_run k last i es).run.deltas
refused_opening k f [] last i = refl
refused_opening k f (e ∷ es) last i = by (λ j. refused_opening k f es last j) (opening_step k i e)
  where
    by : ((j : Initial) → (open_run k last j (es ++ error_frame f ∷ [])).run.deltas ≡ (open_run k last j es).run.deltas) → (o : Result Opening End)
        → (opens_on last i (λ j. open_run k last j (es ++ error_frame f ∷ [])) (λ r. run k r (es ++ error_frame f ∷ [])) o).run.deltas
        ≡ (opens_on last i (λ j. open_run k last j es) (λ r. run k r es) o).run.deltas
    by more (Err x) = refl
    by more (Ok (under_way j)) = more j
    by more (Ok (closed r)) = ap (λ ds. replace r (objects_of i.members) ∷ ds) (refused_run k f es r)

-- ---- a reflector after bytes

-- no bytes change nothing, where nothing is buffered
pub none_fed : (s : Reflector) → s.buffered ≡ [] → fed s [] ≡ record { deltas = []; ended = None; after = s }
none_fed s h = sym (no_cutting_matters s [] h)

kind_in : (p : Phase) (bytes : List ℕ) (s : Reflector) → (fed_in p bytes s).after.kind ≡ s.kind
kind_in Listing bytes s = refl
kind_in Streaming bytes s = refl
kind_in Watching bytes s = refl

pub same_kind : (s : Reflector) (piece : List ℕ) → (fed s piece).after.kind ≡ s.kind
same_kind s piece = kind_in s.phase (s.buffered ++ piece) s

clear_in : (p : Phase) (bytes : List ℕ) (s : Reflector) (e : End) → (fed_in p bytes s).ended ≡ Some e → IsClear (fed_in p bytes s).after
clear_in Listing bytes s e is = cc
clear_in Streaming bytes s e is =
    let r = reading bytes in
    record { holds = ap (λ z. held_after z r.buffered) is; initial = ap (λ z. initial_after z (course Streaming s.kind s.revision s.initial r.events).initial) is }
clear_in Watching bytes s e is =
    let r = reading bytes in
    record { holds = ap (λ z. held_after z r.buffered) is; initial = ap (λ z. initial_after z s.initial) is }

-- after an end it holds nothing
pub end_clears : (s : Reflector) (piece : List ℕ) (e : End) → (fed s piece).ended ≡ Some e → IsClear (fed s piece).after
end_clears s piece e is = clear_in s.phase (s.buffered ++ piece) s e is

-- ---- the revision of a watch never falls

abbrev pub NotBelow : ℕ → Result Step End → Type 0
NotBelow last (Ok t) = last ≤ t.revision
NotBelow last (Err e) = Unit {0}

put_above : (b : Bool) (last : ℕ) (s : Shown) → nat_lt last s.revision ≡ b → NotBelow last (or_unreadable (option_map put_step (cond b (Some s) None)))
put_above true last s is = let low : last < s.revision = ltb-true last s.revision is in omega (arith, low)
put_above false last s is = tt

put_shown : (last : ℕ) (o : Option Shown) → NotBelow last (or_unreadable (option_map put_step (option_and_then (if_above last) o)))
put_shown last None = tt
put_shown last (Some s) = put_above (nat_lt last s.revision) last s refl

remove_above : (b : Bool) (last : ℕ) (s : Shown) → nat_lt last s.revision ≡ b → NotBelow last (or_unreadable (option_map remove_step (cond b (Some s) None)))
remove_above true last s is = let low : last < s.revision = ltb-true last s.revision is in omega (arith, low)
remove_above false last s is = tt

remove_shown : (last : ℕ) (o : Option Shown) → NotBelow last (or_unreadable (option_map remove_step (option_and_then (if_above last) o)))
remove_shown last None = tt
remove_shown last (Some s) = remove_above (nat_lt last s.revision) last s refl

mark_above : (b : Bool) (last r : ℕ) → nat_le last r ≡ b → NotBelow last (or_unreadable (option_map mark_step (cond b (Some r) None)))
mark_above true last r is = leb-true last r is
mark_above false last r is = tt

mark_revision : (last : ℕ) (o : Option ℕ) → NotBelow last (or_unreadable (option_map mark_step (option_and_then (if_reached last) o)))
mark_revision last None = tt
mark_revision last (Some r) = mark_above (nat_le last r) last r refl

mark_kind : (b : Bool) (last : ℕ) (o : Option ℕ) → NotBelow last (or_unreadable (option_map mark_step (cond b (option_and_then (if_reached last) o) None)))
mark_kind true last o = mark_revision last o
mark_kind false last o = tt

step_rises : (e : FrameKind) (k : Kind) (last : ℕ) (d : Data) → NotBelow last (step_by e k last d)
step_rises Added k last d = put_shown last (shown k d)
step_rises Modified k last d = put_shown last (shown k d)
step_rises Deleted k last d = remove_shown last (shown k d)
step_rises Bookmark k last d = mark_kind (is_of k d) last (revision d)
step_rises Error k last d = tt

pub frame_rises : (k : Kind) (last : ℕ) (e : Frame) (t : Step) → step k last e ≡ Ok t → last ≤ t.revision
frame_rises k last e t is = subst (NotBelow last) is (step_rises e.kind k last e.object)
