-- What each step does, by what its parts do.
use Rattle.std.proofs.Common.{◌≡◌, ◌≤◌, ℕ, Bool, true, false, Option, Some, None, Result, Ok, Err, inl, inr, refl, subst, sym}
use Rattle.std.specs.Prelude.{IfOk, OnErr, IfSome, option_map}
use Rattle.baton.specs.declared.views.Known.{Known}
use Rattle.object_keys.specs.declared.per_kind.PerKind.{PerKind}
use Rattle.spec_api.specs.Keys.{Key}
use Rattle.spec_api.specs.ObjectRequests as words
use Rattle.spec_api.specs.declared.kinds.Kind.{Kind}
use Rattle.spec_client_go.specs.Commands.{Command}
use Rattle.spec_client_go.specs.Expectations.{Owner}
use Rattle.spec_server.specs.Snapshots.{Snapshot}
use Rattle.spec_sim.specs.Managers.{is_satisfied_for, requested}
use Rattle.spec_sim.specs.NextSteps.{NextStep, next}
use Rattle.spec_sim.specs.Turns.{Turn, Answer, owner, satisfied, with_sight, with_issue}
use Rattle.http_client.specs.declared.answer.Answer as client
use Rattle.request_encoding.specs.Texts.{can_be_told}
use Rattle.control_desk.specs.Calls.{IsCall, Nothing}
use Rattle.control_desk.specs.Steps.{Step, changing, forget}
use Rattle.control_desk.specs.declared.states.WorkState.{WorkState}
use Rattle.reconcile_turn.specs.Seen.{answered_to}
use Rattle.reconcile_turn.specs.declared.answers.CommandAnswer.{CommandAnswer}
use Rattle.reconcile_turn.specs.declared.answers.CommandAnswer.TheVariants as answer
use Rattle.live_reads.specs.Finding.{FindsOf, can_be}
use Rattle.manager_worker.specs.Finding.{Adds, FoundBy, FoundIf}
use Rattle.manager_worker.specs.Learning.{AsksOnce, AsksIf, AsksAtMost, LearnsOf}
use Rattle.manager_worker.specs.Stepping.{InTurn, Sees, Asks, asking, Reads, Heeds, Issues, Takes, Steps, told}
use Rattle.manager_worker.specs.declared.answers.Learnt.{Learnt}
use Rattle.manager_worker.specs.declared.answers.Learnt.TheVariants as learnt
use Rattle.live_reads.specs.declared.found.FoundObject.{FoundObject}
use Rattle.live_reads.specs.declared.found.FoundObject.TheVariants as object
use Rattle.manager_worker.specs.declared.steps.Progress.{Progress}
use Rattle.manager_worker.specs.declared.steps.Progress.TheVariants as progress

pub each : {A : Type 0} (o : Option A) (P : A → Type 0) → ((a : A) → P a) → IfSome o P
each None P so = tt
each (Some a) P so = so a

-- ---- the board

pub sees : {S : WorkState → Type 0} (v w : Known WorkState Step) → IsCall v (λ b. None) S w → Sees v w
sees v w call = record { history = call.history; later = call.later; made = call.made; happened = call.happened; says = tt; knows = call.knows }

pub satisfied_by : (t u : Turn) (v w : Known WorkState Step) (o : Owner) (b : Bool) → owner t ≡ Some o → u ≡ with_sight (satisfied b) t
    → IsCall v (λ d. None) (λ d. b ≡ is_satisfied_for (Some o) d.board) w → Asks t v u w progress.Went
satisfied_by t u v w o b own eq call =
    let at : Option Owner → Type 0 = λ x. IsCall v (asking x t.work_key.key) (λ d. b ≡ is_satisfied_for x d.board) w in (b, eq, subst at (sym own) call)

gone : (t : Turn) (v w : Known WorkState Step) → IsCall v (changing (forget t.work_key.key)) Nothing w → IsCall v (asking None t.work_key.key) (λ d. true ≡ is_satisfied_for None d.board) w
gone t v w call = record { history = call.history; later = call.later; made = call.made; happened = call.happened; says = refl; knows = call.knows }

pub forgotten_by : (t u : Turn) (v w : Known WorkState Step) → owner t ≡ None → u ≡ with_sight (satisfied true) t
    → IsCall v (changing (forget t.work_key.key)) Nothing w → Asks t v u w progress.Went
forgotten_by t u v w own eq call =
    let at : Option Owner → Type 0 = λ x. IsCall v (asking x t.work_key.key) (λ d. true ≡ is_satisfied_for x d.board) w in (true, eq, subst at (sym own) (gone t v w call))

-- ---- what is noted

pub noted : (o : Option Command) (a : CommandAnswer) (b : Answer) (t u : Turn) → u ≡ answered_to o b t → IfSome o (λ x. u ≡ with_issue (record { command = x; answer = b }) t)
noted None a b t u is = tt
noted (Some x) a b t u is = is

pub if_weaker : {A : Type 0} (o : Option A) (P Q : A → Type 0) → ((a : A) → P a → Q a) → IfSome o P → IfSome o Q
if_weaker None P Q so is = tt
if_weaker (Some a) P Q so is = so a is

module _ {A : Type 0} (answers : A → words.Request → client.Answer → A → Type 0) where
  -- ---- live reads

  pub at_most_if : (b : Bool) (k : Key) (before after : A) (f : FoundObject) → FoundIf answers b k before f after → AsksAtMost answers before (words.get_object k) after
  at_most_if false k before after f is = inl is.1
  at_most_if true k before after f is = inr (is.0, is.1)

  pub at_most : (k : Key) (before after : A) (f : FoundObject) → FoundBy answers k before f after → AsksAtMost answers before (words.get_object k) after
  at_most k before after f is = at_most_if (can_be k) k before after f is

  pub absent : (k : Key) (before : A) → can_be k ≡ false → FoundBy answers k before object.Absent before
  absent k before is = let at : Bool → Type 0 = λ b. FoundIf answers b k before object.Absent before in subst at (sym is) (refl, refl)

  pub found : {E : Type 0} → (k : Key) (before after : A) (a : client.Answer) (r : Result FoundObject E) → can_be k ≡ true → answers before (words.get_object k) a after
      → IfOk r (FindsOf k a) → IfOk r (λ f. FoundBy answers k before f after)
  found k before after a (Ok f) is asked finds = let at : Bool → Type 0 = λ b. FoundIf answers b k before f after in subst at (sym is) (a, asked, finds)
  found k before after a (Err e) is asked finds = tt

  pub not_found : {E : Type 0} → (k : Key) (before after : A) (a : client.Answer) (r : Result FoundObject E) → answers before (words.get_object k) a after
      → OnErr r (AsksAtMost answers before (words.get_object k) after)
  not_found k before after a (Ok f) asked = tt
  not_found k before after a (Err e) asked = inr (a, asked)

  waits : (f : FoundObject) (k : Key) (t u : Turn) → Adds f k t u progress.Again → u ≡ t
  waits (object.Present o) k t u adds = let other : progress.Again ≡ progress.Went = adds.0 in absurd (cc)
  waits object.Absent k t u adds = let other : progress.Again ≡ progress.Went = adds.0 in absurd (cc)
  waits object.Refused k t u adds = let other : progress.Again ≡ progress.GivenUp = adds.0 in absurd (cc)
  waits object.Unanswered k t u adds = adds.1

  no_end : (f : FoundObject) (k : Key) (t u : Turn) → Adds f k t u progress.AtEnd → ⊥
  no_end (object.Present o) k t u adds = let other : progress.AtEnd ≡ progress.Went = adds.0 in absurd (cc)
  no_end object.Absent k t u adds = let other : progress.AtEnd ≡ progress.Went = adds.0 in absurd (cc)
  no_end object.Refused k t u adds = let other : progress.AtEnd ≡ progress.GivenUp = adds.0 in absurd (cc)
  no_end object.Unanswered k t u adds = let other : progress.AtEnd ≡ progress.Again = adds.0 in absurd (cc)

  no_cut : (f : FoundObject) (k : Key) (t u : Turn) → Adds f k t u progress.CutShort → ⊥
  no_cut (object.Present o) k t u adds = let other : progress.CutShort ≡ progress.Went = adds.0 in absurd (cc)
  no_cut object.Absent k t u adds = let other : progress.CutShort ≡ progress.Went = adds.0 in absurd (cc)
  no_cut object.Refused k t u adds = let other : progress.CutShort ≡ progress.GivenUp = adds.0 in absurd (cc)
  no_cut object.Unanswered k t u adds = let other : progress.CutShort ≡ progress.Again = adds.0 in absurd (cc)

  reads_by : (k : Key) (t u : Turn) (before after : A) (f : FoundObject) (p : Progress) → FoundBy answers k before f after → Adds f k t u p → Reads answers k t before u after p
  reads_by k t u before after f progress.Went is adds = (f, is, adds)
  reads_by k t u before after f progress.Again is adds = (waits f k t u adds, at_most k before after f is)
  reads_by k t u before after f progress.GivenUp is adds = (f, is, adds)
  reads_by k t u before after f progress.AtEnd is adds = no_end f k t u adds
  reads_by k t u before after f progress.CutShort is adds = no_cut f k t u adds

  pub reads : {E : Type 0} → (k : Key) (t u : Turn) (before after : A) (f : FoundObject) (r : Result Progress E) → FoundBy answers k before f after
      → IfOk r (λ p. Adds f k t u p) → OnErr r (u ≡ t) → Reads answers k t before u after (told r)
  reads k t u before after f (Ok p) is adds same = reads_by k t u before after f p is adds
  reads k t u before after f (Err e) is adds same = (same, at_most k before after f is)

  -- ---- commands

  pub untold : (q : words.Request) (before : A) → can_be_told q ≡ false → AsksOnce answers before q (learnt.Known (answer.Refused 400)) before
  untold q before is = let at : Bool → Type 0 = λ b. AsksIf answers b before q (learnt.Known (answer.Refused 400)) before in subst at (sym is) (refl, refl)

  pub asked : (q : words.Request) (before after : A) (a : client.Answer) (l : Learnt) → can_be_told q ≡ true → answers before q a after → LearnsOf a l → AsksOnce answers before q l after
  asked q before after a l is was learns = let at : Bool → Type 0 = λ b. AsksIf answers b before q l after in subst at (sym is) (a, was, learns)

  issued_by : (x : Command) (t u : Turn) (before after : A) (l : Learnt) (p : Progress) → AsksOnce answers before (requested t x) l after → Heeds x l t u p → Issues answers x t before u after p
  issued_by x t u before after (learnt.Known a) progress.Went asks heeds = (a, asks, heeds)
  issued_by x t u before after (learnt.Known a) progress.Again asks heeds = absurd heeds
  issued_by x t u before after (learnt.Known a) progress.GivenUp asks heeds = absurd heeds
  issued_by x t u before after (learnt.Known a) progress.AtEnd asks heeds = absurd heeds
  issued_by x t u before after (learnt.Known a) progress.CutShort asks heeds = (a, asks, heeds)
  issued_by x t u before after learnt.Again progress.Went asks heeds = let other : progress.Went ≡ progress.Again = heeds.0 in absurd (cc)
  issued_by x t u before after learnt.Again progress.Again asks heeds = (heeds.1, inr asks)
  issued_by x t u before after learnt.Again progress.GivenUp asks heeds = let other : progress.GivenUp ≡ progress.Again = heeds.0 in absurd (cc)
  issued_by x t u before after learnt.Again progress.AtEnd asks heeds = let other : progress.AtEnd ≡ progress.Again = heeds.0 in absurd (cc)
  issued_by x t u before after learnt.Again progress.CutShort asks heeds = let other : progress.CutShort ≡ progress.Again = heeds.0 in absurd (cc)

  the_same : {X : Type 0} (a b : X) → Some a ≡ Some b → a ≡ b
  the_same a b e = cc

  pub issued : (o : Option Command) (t u : Turn) (before after : A) (q : words.Request) (l : Learnt) (p : Progress) → Some q ≡ option_map (requested t) o
      → AsksOnce answers before q l after → IfSome o (λ x. Heeds x l t u p) → IfSome o (λ x. Issues answers x t before u after p)
  issued None t u before after q l p is asks heeds = tt
  issued (Some x) t u before after q l p is asks heeds =
      let at : words.Request → Type 0 = λ r. AsksOnce answers before r l after in issued_by x t u before after l p (subst at (the_same q (requested t x) is) asks) heeds

module _ {L A : Type 0} (shows : L → Kind → Option Snapshot → L → Type 0) (answers : A → words.Request → client.Answer → A → Type 0) (handled : PerKind ℕ) where
  pub stepped : (s z : InTurn L A) (n : NextStep) (p : Progress) → next s.turn ≡ n → Takes shows answers handled n s z p → Steps shows answers handled s z p
  stepped s z n p at takes = let by : NextStep → Type 0 = λ m. Takes shows answers handled m s z p in subst by (sym at) takes
