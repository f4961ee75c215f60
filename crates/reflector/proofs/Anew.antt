-- Where the whole map comes from, at first and again.
use Rattle.std.proofs.Common.{◌≡◌, ℕ, List, [], ◌++◌, Bool, true, false, cond, is_some, Option, Some, None, refl}
use Rattle.spec_client_go.specs.declared.reflectors.End.{End}
use Rattle.spec_client_go.specs.declared.reflectors.Ask.TheVariants as ask
use Rattle.spec_client_go.specs.declared.reflectors.Phase.{Phase}
use Rattle.spec_client_go.specs.declared.reflectors.Phase.TheVariants.{Listing, Streaming, Watching}
use Rattle.spec_client_go.specs.ReadFrames.{Read, reading}
use Rattle.spec_client_go.specs.Reflectors.{Initial, none_yet, Course, course, Reflector, ran, fed, fed_in, end_of, asks, first_phase, phase_after, initial_after, held_after}
use Rattle.reflector.specs.Laws.{IsAtStart, EndsOpenAgain, RefusalsStand, ListersWatch}

-- ---- ends

starts : (b : Bool) → b ≡ true → first_phase b ≡ Streaming
starts true is = refl
starts false is = cc

ended_phase : (b : Bool) (p : Phase) (o : Option End) (e : End) → b ≡ true → o ≡ Some e → phase_after b p o ≡ Streaming
ended_phase b p (Some x) e streams is = starts b streams
ended_phase b p None e streams is = cc

ended_initial : (o : Option End) (i : Initial) (e : End) → o ≡ Some e → initial_after o i ≡ none_yet
ended_initial (Some x) i e is = refl
ended_initial None i e is = cc

ended_buffer : (o : Option End) (bytes : List ℕ) (e : End) → o ≡ Some e → held_after o bytes ≡ []
ended_buffer (Some x) bytes e is = refl
ended_buffer None bytes e is = cc

of_course : (c : Course) (r : Read) (s : Reflector) (e : End) → s.is_streaming ≡ true → (ran c r s).ended ≡ Some e → IsAtStart (ran c r s).after
of_course c r s e streams is = record {
  streams = ended_phase s.is_streaming c.phase (end_of c.run.ended r.fault) e streams is;
  initial = ended_initial (end_of c.run.ended r.fault) c.initial e is;
  holds = ended_buffer (end_of c.run.ended r.fault) r.buffered e is;
}

starts_by : (p : Phase) (bytes : List ℕ) (s : Reflector) (e : End) → s.is_streaming ≡ true → (fed_in p bytes s).ended ≡ Some e → IsAtStart (fed_in p bytes s).after
starts_by Listing bytes s e streams is = cc
starts_by Streaming bytes s e streams is = of_course (course Streaming s.kind s.revision s.initial (reading bytes).events) (reading bytes) s e streams is
starts_by Watching bytes s e streams is = of_course (course Watching s.kind s.revision s.initial (reading bytes).events) (reading bytes) s e streams is

asks_so : (s : Reflector) → IsAtStart s → asks s ≡ ask.Stream
asks_so s at = rw at.streams refl

pub ends_open_again : EndsOpenAgain
ends_open_again s piece e streams is =
    let at = starts_by s.phase (s.buffered ++ piece) s e streams is in (at, asks_so (fed s piece).after at)

-- ---- refusals

pub refusals_stand : RefusalsStand
refusals_stand s = (refl, λ lists. (lists, rw lists refl, λ piece. rw lists refl))

-- ---- listing reflectors

lists_after : (b : Bool) (o : Option End) → b ≡ false → phase_after b Watching o ≡ cond (is_some o) Listing Watching
lists_after true o is = cc
lists_after false (Some e) is = refl
lists_after false None is = refl

pub listers_watch : ListersWatch
listers_watch s piece lists watches =
    let r = reading (s.buffered ++ piece) in
    let c = course Watching s.kind s.revision s.initial r.events in
    rw watches (refl, refl, refl, lists_after s.is_streaming (end_of c.run.ended r.fault) lists, refl, lists)
