-- Frames one after another, where a reflector is so far.
use Rattle.std.proofs.Common.{◌≡◌, ℕ, List, [], ◌∷◌, ◌++◌, Option, Some, None, Result, Ok, Err, refl, sym, ap, ◌∙◌, append_assoc, append-nil}
use Rattle.spec_api.specs.declared.kinds.Kind.{Kind}
use Rattle.spec_client_go.specs.declared.reflectors.End.{End}
use Rattle.spec_api.specs.Frames.{Frame}
use Rattle.spec_client_go.specs.Reflectors.{Delta, Step, run, step, going_on, Initial, Opening, under_way, closed, opening_step, opens_on, open_run, Course, course}
use Rattle.spec_client_go.specs.declared.reflectors.Phase.{Phase}
use Rattle.spec_client_go.specs.declared.reflectors.Phase.TheVariants.{Listing, Streaming, Watching}
use Rattle.reflector.specs.Courses.{Place, Advance, advance, by_opening, by_step}
use Rattle.reflector.proofs.Runs.{after_deltas}

-- a course after these deltas
abbrev pub after_course : List Delta → Course → Course
after_course ds c = record { run = after_deltas ds c.run; phase = c.phase; initial = c.initial }

abbrev pub course_at : Kind → Place → List Frame → Course
course_at k p es = course p.phase k p.revision p.initial es

-- where a place is, after these deltas
abbrev pub stood : List Delta → Place → Option End → Course
stood ds p e = record { run = record { deltas = ds; revision = p.revision; ended = e }; phase = p.phase; initial = p.initial }

abbrev pub given : Option Delta → List Delta
given None = []
given (Some d) = d ∷ []

-- a frame, and then the others
abbrev pub goes : Kind → Place → List Frame → Result Advance End → Course
goes k p es (Err x) = stood [] p (Some x)
goes k p es (Ok a) = after_course (given a.delta) (course_at k a.place es)

opens : (k : Kind) (r : ℕ) (i : Initial) (es : List Frame) (o : Result Opening End)
    → opens_on r i (λ j. open_run k r j es) (λ q. run k q es) o ≡ goes k (record { phase = Streaming; revision = r; initial = i }) es (by_opening r i o)
opens k r i es (Err x) = refl
opens k r i es (Ok (under_way j)) = refl
opens k r i es (Ok (closed q)) = refl

watches : (k : Kind) (r : ℕ) (i : Initial) (es : List Frame) (o : Result Step End)
    → record { run = going_on r (λ q. run k q es) o; phase = Watching; initial = i } ≡ goes k (record { phase = Watching; revision = r; initial = i }) es (by_step i o)
watches k r i es (Err x) = refl
watches k r i es (Ok t) = refl

step_in : (phase : Phase) (k : Kind) (r : ℕ) (i : Initial) (e : Frame) (es : List Frame)
    → (let p : Place = record { phase = phase; revision = r; initial = i } in course_at k p (e ∷ es) ≡ goes k p es (advance k p e))
step_in Listing k r i e es = refl
step_in Streaming k r i e es = opens k r i es (opening_step k i e)
step_in Watching k r i e es = watches k r i es (step k r e)

pub course_step : (k : Kind) (p : Place) (e : Frame) (es : List Frame) → course_at k p (e ∷ es) ≡ goes k p es (advance k p e)
course_step k p e es = step_in p.phase k p.revision p.initial e es

after_both : (ds gs : List Delta) (c : Course) → after_course (ds ++ gs) c ≡ after_course ds (after_course gs c)
after_both ds gs c = ap (λ z. record { run = record { deltas = z; revision = c.run.revision; ended = c.run.ended }; phase = c.phase; initial = c.initial }) (append_assoc ds gs c.run.deltas)

-- a frame that is taken in, and one that is an end
pub course_goes : (ds new : List Delta) (k : Kind) (p : Place) (e : Frame) (es : List Frame) (a : Advance) → Ok a ≡ advance k p e → new ≡ ds ++ given a.delta
    → after_course new (course_at k a.place es) ≡ after_course ds (course_at k p (e ∷ es))
course_goes ds new k p e es a h n =
    ap (λ z. after_course z (course_at k a.place es)) n ∙ after_both ds (given a.delta) (course_at k a.place es)
    ∙ ap (after_course ds) (ap (goes k p es) h ∙ sym (course_step k p e es))

pub course_stops : (ds : List Delta) (k : Kind) (p : Place) (e : Frame) (es : List Frame) (end : End) → Err end ≡ advance k p e → stood ds p (Some end) ≡ after_course ds (course_at k p (e ∷ es))
course_stops ds k p e es end h =
    ap (λ z. stood z p (Some end)) (sym (append-nil ds)) ∙ ap (after_course ds) (ap (goes k p es) h ∙ sym (course_step k p e es))

done_in : (phase : Phase) (ds : List Delta) (k : Kind) (r : ℕ) (i : Initial) → (let p : Place = record { phase = phase; revision = r; initial = i } in stood ds p None ≡ after_course ds (course_at k p []))
done_in Listing ds k r i = ap (λ z. stood z (record { phase = Listing; revision = r; initial = i }) None) (sym (append-nil ds))
done_in Streaming ds k r i = ap (λ z. stood z (record { phase = Streaming; revision = r; initial = i }) None) (sym (append-nil ds))
done_in Watching ds k r i = ap (λ z. stood z (record { phase = Watching; revision = r; initial = i }) None) (sym (append-nil ds))

pub course_done : (ds : List Delta) (k : Kind) (p : Place) → stood ds p None ≡ after_course ds (course_at k p [])
course_done ds k p = done_in p.phase ds k p.revision p.initial

-- ---- frames that are cut into two

abbrev pub course_then : Option End → Kind → Course → List Frame → Course
course_then (Some e) k c fs = c
course_then None k c fs = after_course c.run.deltas (course c.phase k c.run.revision c.initial fs)

then_on : (ds : List Delta) (e : Option End) (k : Kind) (c : Course) (fs : List Frame) → after_course ds (course_then e k c fs) ≡ course_then e k (after_course ds c) fs
then_on ds (Some e) k c fs = refl
then_on ds None k c fs = sym (after_both ds c.run.deltas (course c.phase k c.run.revision c.initial fs))

on_in : (k : Kind) (es fs : List Frame) (p : Place) (o : Result Advance End)
    → ((q : Place) → course_at k q (es ++ fs) ≡ course_then (course_at k q es).run.ended k (course_at k q es) fs)
    → goes k p (es ++ fs) o ≡ course_then (goes k p es o).run.ended k (goes k p es o) fs
on_in k es fs p (Err x) h = refl
on_in k es fs p (Ok a) h = ap (after_course (given a.delta)) (h a.place) ∙ then_on (given a.delta) (course_at k a.place es).run.ended k (course_at k a.place es) fs

none_on : (phase : Phase) (k : Kind) (r : ℕ) (i : Initial) (fs : List Frame)
    → (let p : Place = record { phase = phase; revision = r; initial = i } in course_at k p fs ≡ course_then (course_at k p []).run.ended k (course_at k p []) fs)
none_on Listing k r i fs = refl
none_on Streaming k r i fs = refl
none_on Watching k r i fs = refl

pub course_on : (k : Kind) (es fs : List Frame) (p : Place) → course_at k p (es ++ fs) ≡ course_then (course_at k p es).run.ended k (course_at k p es) fs
course_on k [] fs p = none_on p.phase k p.revision p.initial fs
course_on k (e ∷ es) fs p =
    course_step k p e (es ++ fs) ∙ on_in k es fs p (advance k p e) (λ q. course_on k es fs q) ∙ ap (λ (c : Course). course_then c.run.ended k c fs) (sym (course_step k p e es))
