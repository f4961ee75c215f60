-- What frames do, one after another, where a reflector is so far.
use Rattle.std.specs.Prelude.{◌≡◌, ℕ, Option, Some, None, Result, Ok, Err, option_map}
use Rattle.spec_api.specs.declared.kinds.Kind.{Kind}
use Rattle.spec_api.specs.Frames.{Frame}
use Rattle.spec_client_go.specs.declared.reflectors.End.{End}
use Rattle.spec_client_go.specs.Reflectors as reflectors
use Rattle.spec_client_go.specs.Reflectors.{Run, step, replace, Initial, none_yet, Opening, under_way, closed, objects_of, opening_step, Course}
use Rattle.spec_client_go.specs.declared.reflectors.Phase.{Phase}
use Rattle.spec_client_go.specs.declared.reflectors.Phase.TheVariants.{Listing, Streaming, Watching}
use Rattle.reflector.specs.declared.deltas.Delta.{Delta}
use Rattle.reflector.specs.declared.openings.Place as declared
use Rattle.reflector.specs.declared.openings.Course as course
use Rattle.reflector.specs.Deltas.{delta_of, deltas_of}

-- how far a reflector is, its revision, and the initial events under way
pub record Place : Type 0 where
  pub phase : Phase
  pub revision : ℕ
  pub initial : Initial

abbrev pub place_of : declared.Place → Place
place_of p = record { phase = p.phase; revision = p.revision; initial = p.initial }

abbrev pub course_of : course.Course → Course
course_of c = record { run = record { deltas = deltas_of c.deltas.items; revision = c.place.revision; ended = c.end }; phase = c.place.phase; initial = c.place.initial }

-- what a frame does: what it gives, and where the reflector is then
pub record Advance : Type 0 where
  pub place : Place
  pub delta : Option reflectors.Delta

abbrev pub by_opening : ℕ → Initial → Result Opening End → Result Advance End
by_opening last i (Err e) = Err e
by_opening last i (Ok (under_way j)) = Ok (record { place = record { phase = Streaming; revision = last; initial = j }; delta = None })
by_opening last i (Ok (closed r)) = Ok (record { place = record { phase = Watching; revision = r; initial = none_yet }; delta = Some (replace r (objects_of i.members)) })

abbrev pub by_step : Initial → Result reflectors.Step End → Result Advance End
by_step i (Err e) = Err e
by_step i (Ok t) = Ok (record { place = record { phase = Watching; revision = t.revision; initial = i }; delta = Some t.delta })

abbrev pub advance_in : Phase → Kind → Place → Frame → Result Advance End
advance_in Listing k p e = Ok (record { place = p; delta = None })
advance_in Streaming k p e = by_opening p.revision p.initial (opening_step k p.initial e)
advance_in Watching k p e = by_step p.initial (step k p.revision e)

abbrev pub advance : Kind → Place → Frame → Result Advance End
advance k p e = advance_in p.phase k p e

-- the frame was played, or is the closing bookmark, or is an end
abbrev pub IsOpening : Result (Option ℕ) End → Initial → Initial → Result Opening End → Type 0
IsOpening (Ok None) old new r = Ok (under_way new) ≡ r
IsOpening (Ok (Some n)) old new r = (Ok (closed n) ≡ r) × (new ≡ old)
IsOpening (Err e) old new r = (Err e ≡ r) × (new ≡ old)

-- what the frame gave, or that it is an end
abbrev pub IsAdvance : Result (Option Delta) End → Place → Place → Result Advance End → Type 0
IsAdvance (Ok d) old new r = Ok (record { place = new; delta = option_map delta_of d }) ≡ r
IsAdvance (Err e) old new r = (Err e ≡ r) × (new ≡ old)
