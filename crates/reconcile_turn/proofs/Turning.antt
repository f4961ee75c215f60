-- What the fields of a turn say of it.
use Rattle.std.proofs.Common.{◌≡◌, ◌∙◌, ◌≤◌, List, [], ◌∷◌, ◌++◌, length, map, filter, drop, Option, Some, None, is_some, Bool, true, false, refl, sym, ap, subst, arith}
use Rattle.std.proofs.lemmas.List.{map-append}
use Rattle.std.specs.Arc.{arc_value}
use Rattle.std.specs.Global.{Global}
use Rattle.std.specs.declared.sync.Arc.{Arc}
use Rattle.spec_client_go.specs.Commands.{Command}
use Rattle.spec_client_go.specs.Hands.{Read}
use Rattle.spec_client_go.specs.WorkQueues.{WorkKey}
use Rattle.spec_sim.specs.NextSteps as steps
use Rattle.spec_sim.specs.NextSteps.{NextStep, Sighting, of_kind, of_expectations, next, seeing, expect, issue, finish, look, ask_satisfied, first, unseen, expecting, issuing}
use Rattle.spec_sim.specs.Turns.{Turn, Sight, Answer, Issue, Expected, expected, is_accepted, is_refused, all_accepted, left, undone, version_answered, with_issue}
use Rattle.reconcile_types.specs.Commands.{commands_of}
use Rattle.reconcile_types.specs.Hands.{reads_of}
use Rattle.reconcile_types.specs.declared.commands.Plan.{Plan}
use Rattle.object_keys.specs.WorkKeys.{work_key_of}
use Rattle.reconcile_turn.specs.Answers.{answers_of, last_version, undone_of}
use Rattle.reconcile_turn.specs.Seen.{answer_of, sight_of, key_read, command_issued, answered_to}
use Rattle.reconcile_turn.specs.Stages as phase
use Rattle.reconcile_turn.specs.Stages.{Phase, IsPlanned, IsIn, IsTurn, commands_in, issued, phase_of, turn_of}
use Rattle.reconcile_turn.specs.contracts.turn.Turn.{the_view, the_invariant}
use Rattle.reconcile_turn.specs.declared.answers.CommandAnswer.{CommandAnswer as Shared}
use Rattle.reconcile_turn.specs.declared.stages.Stage.{Stage}
use Rattle.reconcile_turn.specs.declared.stages.Stage.TheVariants.{Planned}
use Rattle.reconcile_turn.specs.declared.turn.Turn.TheInside.{Inside}
use Rattle.reconcile_turn.proofs.Issues.{issued_more, fits_more, accepted_more, last_version_issued, undone-issued}
use Rattle.reconcile_turn.proofs.Phases.{left_of}
use Rattle.reconcile_turn.proofs.Steps.{next_seeing, next_reading, next_planned, step_by}

-- a turn in this phase, with what is issued of its plan
pub record IsAt (p : Phase) (t : Turn) (as' : List Answer) (acc : Bool) : Type 0 where
  pub is_in : IsIn p t
  pub issues : t.issues ≡ issued (commands_in p) as'
  pub fits : length as' ≤ length (commands_in p)
  pub accepted : all_accepted (issued (commands_in p) as') ≡ acc

is_in_whole : (p : Phase) (k : WorkKey) (ss : List Sight) (rs : List Read) (h : Bool) (is : List Issue) → IsIn p (turn_of k ss rs) → IsIn p (record { work_key = k; sights = ss; reads = rs; has_expected = h; issues = is })
is_in_whole phase.seeing k ss rs h is at = at
is_in_whole (phase.reading n) k ss rs h is at = at
is_in_whole (phase.planned cs b) k ss rs h is at = record { seen = at.seen; asked = at.asked; commands = at.commands; pods = at.pods }

-- so is the turn that is seen
pub turn_now : (i : Inside) (t : Turn) → the_view i ≡ t → the_invariant i → IsAt (phase_of i.stage) t (answers_of i.answers.items) i.is_accepted
turn_now i t view known =
    let p = phase_of i.stage in
    let as' = answers_of i.answers.items in
    subst (λ (t : Turn). IsAt p t as' i.is_accepted) view (record {
      is_in = is_in_whole p (work_key_of i.work_key) (map sight_of i.sights.items) (reads_of i.reads.items) i.has_expected (issued (commands_in p) as') known.is_in;
      issues = refl;
      fits = known.fits;
      accepted = known.accepted;
    })

pub planned_now : (i : Inside) (t : Turn) (p : Arc Plan Global) (b : Bool) → the_view i ≡ t → the_invariant i → i.stage ≡ Planned p b
    → IsAt (phase.planned (commands_of (arc_value p)) b) t (answers_of i.answers.items) i.is_accepted
planned_now i t p b view known is = subst (λ (s : Stage). IsAt (phase_of s) t (answers_of i.answers.items) i.is_accepted) is (turn_now i t view known)

pub has_expected_now : (i : Inside) (t : Turn) → the_view i ≡ t → t.has_expected ≡ i.has_expected
has_expected_now i t view = ap (λ (t : Turn). t.has_expected) (sym view)

-- ---- where something is to be seen or read live, nothing is issued

abbrev is_of_plan : NextStep → Bool
is_of_plan (look k) = false
is_of_plan ask_satisfied = false
is_of_plan (steps.read k) = false
is_of_plan (expect e) = true
is_of_plan (issue x) = true
is_of_plan finish = true

plan_steps : (e : Option Expected) (x : Option Command) → is_of_plan (step_by None None e x) ≡ true
plan_steps None None = refl
plan_steps None (Some x) = refl
plan_steps (Some e) x = refl

none_answered : (as' : List Answer) → length as' ≤ 0 → as' ≡ []
none_answered [] fits = refl
none_answered (a ∷ as') fits = absurd (omega arith)

nothing_issued : (p : Phase) (t : Turn) (as' : List Answer) (acc : Bool) → IsAt p t as' acc → is_of_plan (next t) ≡ false → (as' ≡ []) × (acc ≡ true)
nothing_issued phase.seeing t as' acc at none =
    let e : as' ≡ [] = none_answered as' at.fits in
    (e, sym at.accepted ∙ ap (λ (bs : List Answer). all_accepted (issued [] bs)) e)
nothing_issued (phase.reading k) t as' acc at none =
    let e : as' ≡ [] = none_answered as' at.fits in
    (e, sym at.accepted ∙ ap (λ (bs : List Answer). all_accepted (issued [] bs)) e)
nothing_issued (phase.planned cs b) t as' acc at none =
    let e : is_of_plan (next t) ≡ true =
    ap is_of_plan (next_planned t (expecting t.has_expected (expected t)) (issuing (all_accepted t.issues) (left t)) at.is_in.seen at.is_in.asked refl refl)
    ∙ plan_steps (expecting t.has_expected (expected t)) (issuing (all_accepted t.issues) (left t)) in
    absurd (cc)

read_is_no_plan : (n : NextStep) → is_some (key_read n) ≡ true → is_of_plan n ≡ false
read_is_no_plan (look k) is = refl
read_is_no_plan ask_satisfied is = refl
read_is_no_plan (steps.read k) is = refl
read_is_no_plan (expect e) is = absurd (cc)
read_is_no_plan (issue x) is = absurd (cc)
read_is_no_plan finish is = absurd (cc)

-- in a turn in which nothing was issued, whatever its plan is, nothing is
pub record IsFresh (i : Inside) : Type 0 where
  pub answers : answers_of i.answers.items ≡ []
  pub accepted : i.is_accepted ≡ true

fresh : (i : Inside) (t : Turn) → the_view i ≡ t → the_invariant i → is_of_plan (next t) ≡ false → IsFresh i
fresh i t view known none =
    let n : (answers_of i.answers.items ≡ []) × (i.is_accepted ≡ true) = nothing_issued (phase_of i.stage) t (answers_of i.answers.items) i.is_accepted (turn_now i t view known) none in
    record { answers = n.0; accepted = n.1 }

pub fresh_to_see : (i : Inside) (t : Turn) (s : Sighting) → the_view i ≡ t → the_invariant i → next t ≡ seeing s → IsFresh i
fresh_to_see i t (of_kind k) view known next = fresh i t view known (ap is_of_plan next)
fresh_to_see i t of_expectations view known next = fresh i t view known (ap is_of_plan next)

pub fresh_to_read : (i : Inside) (t : Turn) → the_view i ≡ t → the_invariant i → is_some (key_read (next t)) ≡ true → IsFresh i
fresh_to_read i t view known is = fresh i t view known (read_is_no_plan (next t) is)

-- then the invariant holds of a new phase
pub fresh_invariant : (i : Inside) (p : Phase) (t : Turn) → IsFresh i → IsIn p t → IsTurn p t (answers_of i.answers.items) i.is_accepted
fresh_invariant i p t none at =
    subst (λ (as' : List Answer). IsTurn p t as' i.is_accepted) (sym none.answers) (record { is_in = at; fits = omega arith; accepted = sym none.accepted })

pub fresh_issues : (i : Inside) (p q : Phase) → IsFresh i → issued (commands_in p) (answers_of i.answers.items) ≡ issued (commands_in q) (answers_of i.answers.items)
fresh_issues i p q none = ap (issued (commands_in p)) none.answers ∙ ap (issued (commands_in q)) (sym none.answers)

-- ---- the command that comes next

-- it is the first that has no answer, and all before were accepted
pub record IsNextCommand (p : Phase) (t : Turn) (as' : List Answer) (acc : Bool) (x : Command) : Type 0 where
  pub comes : command_issued (next t) ≡ Some x
  pub is_first : first (drop (length as') (commands_in p)) ≡ Some x
  pub accepted : acc ≡ true

issuing_some : (acc : Bool) (cs : List Command) (x : Command) → issuing acc cs ≡ Some x → (acc ≡ true) × (first cs ≡ Some x)
issuing_some true cs x is = (refl, is)
issuing_some false cs x is = absurd (cc)

issued_by : (e : Option Expected) (x : Option Command) → is_some (command_issued (step_by None None e x)) ≡ true → (y : Command) × (e ≡ None) × (x ≡ Some y)
issued_by None None is = absurd (cc)
issued_by None (Some y) is = (y, refl, refl)
issued_by (Some e) x is = absurd (cc)

seeing_issues_nothing : (s : Sighting) → command_issued (seeing s) ≡ None
seeing_issues_nothing (of_kind k) = refl
seeing_issues_nothing of_expectations = refl

some_first : {A : Type 0} (o : Option A) → is_some o ≡ true → (a : A) × (o ≡ Some a)
some_first None is = absurd (cc)
some_first (Some a) is = (a, refl)

next_one : (p : Phase) (t : Turn) (as' : List Answer) (acc : Bool) → IsAt p t as' acc → is_some (command_issued (next t)) ≡ true → (x : Command) × IsNextCommand p t as' acc x
next_one phase.seeing t as' acc at is =
    let s : (s : Sighting) × (first (unseen t) ≡ Some s) = some_first (first (unseen t)) at.is_in in
    let e : command_issued (next t) ≡ None = ap command_issued (next_seeing t s.0 s.1) ∙ seeing_issues_nothing s.0 in
    absurd (cc)
next_one (phase.reading k) t as' acc at is =
    let e : command_issued (next t) ≡ None = ap command_issued (next_reading t k at.is_in.0 at.is_in.1) in
    absurd (cc)
next_one (phase.planned cs b) t as' acc at is =
    let e = expecting t.has_expected (expected t) in
    let x = issuing (all_accepted t.issues) (left t) in
    let n : next t ≡ step_by None None e x = next_planned t e x at.is_in.seen at.is_in.asked refl refl in
    let y : (y : Command) × (e ≡ None) × (x ≡ Some y) = issued_by e x (sym (ap (λ (n : NextStep). is_some (command_issued n)) n) ∙ is) in
    let all : (all_accepted t.issues ≡ true) × (first (left t) ≡ Some y.0) = issuing_some (all_accepted t.issues) (left t) y.0 y.2 in (
      y.0,
      record {
        comes = ap command_issued n ∙ ap (λ (e : Option Expected). command_issued (step_by None None e x)) y.1 ∙ ap (λ (x : Option Command). command_issued (step_by None None None x)) y.2;
        is_first = ap first (sym (left_of t cs as' at.is_in.commands at.issues at.fits)) ∙ all.1;
        accepted = sym at.accepted ∙ ap all_accepted (sym at.issues) ∙ all.0;
      },
    )

pub command_now : (i : Inside) (t : Turn) → the_view i ≡ t → the_invariant i → is_some (command_issued (next t)) ≡ true
    → (x : Command) × IsNextCommand (phase_of i.stage) t (answers_of i.answers.items) i.is_accepted x
command_now i t view known is = next_one (phase_of i.stage) t (answers_of i.answers.items) i.is_accepted (turn_now i t view known) is

-- an answer to it is one more
pub answered_invariant : (i : Inside) (t : Turn) (a : Answer) (x : Command) (u : Turn) → the_invariant i → IsNextCommand (phase_of i.stage) t (answers_of i.answers.items) i.is_accepted x → IsIn (phase_of i.stage) u
    → IsTurn (phase_of i.stage) u (answers_of i.answers.items ++ a ∷ []) (is_accepted a)
answered_invariant i t a x u known comes at =
    let cs = commands_in (phase_of i.stage) in
    let as' = answers_of i.answers.items in
    record {
      is_in = at;
      fits = fits_more cs as' a x comes.is_first;
      accepted = ap all_accepted (issued_more cs as' a x comes.is_first) ∙ accepted_more (issued cs as') (record { command = x; answer = a }) (known.accepted ∙ comes.accepted);
    }

-- ---- what is read of a plan

pub undone_now : (t : Turn) (cs : List Command) (b : Bool) (as' : List Answer) (acc : Bool) → IsAt (phase.planned cs b) t as' acc → undone t ≡ undone_of cs as'
undone_now t cs b as' acc at =
    ap (λ (is : List Issue). map (λ (i : Issue). i.command) (filter (λ (i : Issue). is_refused i.answer) is) ++ left t) at.issues
    ∙ ap (λ (ds : List Command). map (λ (i : Issue). i.command) (filter (λ (i : Issue). is_refused i.answer) (issued cs as')) ++ ds)
    (ap (λ (ds : List Command). drop (length t.issues) ds) at.is_in.commands ∙ ap (λ (is : List Issue). drop (length is) cs) at.issues)
    ∙ sym (undone-issued cs as')

pub version_now : (i : Inside) (t : Turn) → the_view i ≡ t → the_invariant i → version_answered t.issues ≡ last_version (answers_of i.answers.items)
version_now i t view known =
    let p = phase_of i.stage in
    let as' = answers_of i.answers.items in
    ap version_answered (turn_now i t view known).issues ∙ last_version_issued (commands_in p) as' known.fits

-- ---- an answer is added

pushed : (items more : List (Arc Shared Global)) (a : Arc Shared Global) (x : Shared) → more ≡ items ++ a ∷ [] → arc_value a ≡ x → answers_of more ≡ answers_of items ++ answer_of x ∷ []
pushed items more a x all is =
    ap answers_of all ∙ map-append (λ (b : Arc Shared Global). answer_of (arc_value b)) items (a ∷ []) ∙ ap (λ (y : Shared). answers_of items ++ answer_of y ∷ []) is

pub answer_invariant : (i : Inside) (t : Turn) (more : List (Arc Shared Global)) (a : Arc Shared Global) (x : Shared) (acc : Bool) → the_view i ≡ t → the_invariant i → is_some (command_issued (next t)) ≡ true
    → more ≡ i.answers.items ++ a ∷ [] → arc_value a ≡ x → acc ≡ is_accepted (answer_of x)
    → IsTurn (phase_of i.stage) (turn_of (work_key_of i.work_key) (map sight_of i.sights.items) (reads_of i.reads.items)) (answers_of more) acc
answer_invariant i t more a x acc view known some all is same =
    let u = turn_of (work_key_of i.work_key) (map sight_of i.sights.items) (reads_of i.reads.items) in
    let p = phase_of i.stage in
    let n = command_now i t view known some in
    let one : IsTurn p u (answers_of i.answers.items ++ answer_of x ∷ []) (is_accepted (answer_of x)) = answered_invariant i t (answer_of x) n.0 u known n.1 known.is_in in
    let two : IsTurn p u (answers_of more) (is_accepted (answer_of x)) = subst (λ (as' : List Answer). IsTurn p u as' (is_accepted (answer_of x))) (sym (pushed i.answers.items more a x all is)) one in
    subst (λ (b : Bool). IsTurn p u (answers_of more) b) (sym same) two

pub answer_view : (i : Inside) (t : Turn) (more : List (Arc Shared Global)) (a : Arc Shared Global) (x : Shared) → the_view i ≡ t → the_invariant i → is_some (command_issued (next t)) ≡ true
    → more ≡ i.answers.items ++ a ∷ [] → arc_value a ≡ x
    → record {
      work_key = work_key_of i.work_key;
      sights = map sight_of i.sights.items;
      reads = reads_of i.reads.items;
      has_expected = i.has_expected;
      issues = issued (commands_in (phase_of i.stage)) (answers_of more);
    }
    ≡ answered_to (command_issued (next t)) (answer_of x) t
answer_view i t more a x view known some all is =
    let p = phase_of i.stage in
    let n = command_now i t view known some in
    let issues : issued (commands_in p) (answers_of more) ≡ issued (commands_in p) (answers_of i.answers.items) ++ record { command = n.0; answer = answer_of x } ∷ [] =
    ap (issued (commands_in p)) (pushed i.answers.items more a x all is) ∙ issued_more (commands_in p) (answers_of i.answers.items) (answer_of x) n.0 n.1.is_first in
    ap (λ (is : List Issue). record { work_key = work_key_of i.work_key; sights = map sight_of i.sights.items; reads = reads_of i.reads.items; has_expected = i.has_expected; issues = is }) issues
    ∙ ap (with_issue (record { command = n.0; answer = answer_of x })) view ∙ ap (λ (o : Option Command). answered_to o (answer_of x) t) (sym n.1.comes)
