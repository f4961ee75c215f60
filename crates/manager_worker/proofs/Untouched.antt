-- Nothing of a turn is expected or issued while something is still to be seen or read.
use Rattle.std.proofs.Common.{◌≡◌, ◌∙◌, ◌⊎◌, ℕ, List, [], ◌∷◌, Bool, true, false, Option, Some, None, inl, inr, refl, sym, ap, subst}
use mathlib.Core.Bool.{true≢false}
use Rattle.serde_json.specs.Data.{Data}
use Rattle.object_keys.specs.declared.per_kind.PerKind.{PerKind}
use Rattle.spec_api.specs.Keys.{Key}
use Rattle.spec_api.specs.ObjectRequests as words
use Rattle.spec_api.specs.declared.kinds.Kind.{Kind}
use Rattle.spec_client_go.specs.Commands.{Command}
use Rattle.spec_server.specs.Snapshots.{Snapshot}
use Rattle.spec_sim.specs.NextSteps.{NextStep, Sighting, of_kind, of_expectations, next, look, ask_satisfied, read, expect, issue, finish, first, seeing, unseen, expecting, issuing}
use Rattle.spec_sim.specs.Turns.{Turn, Answer, asks, expected, all_accepted, left, looked, lost, satisfied, with_sight, with_read, with_expected, with_issue}
use Rattle.http_client.specs.declared.answer.Answer as client
use Rattle.reconcile_turn.specs.Seen.{answer_of}
use Rattle.reconcile_turn.specs.declared.answers.CommandAnswer.{CommandAnswer}
use Rattle.reconcile_turn.proofs.Steps.{step_by, next_seeing, next_reading, next_planned}
use Rattle.manager_worker.specs.Ending.{IsUntouched}
use Rattle.manager_worker.specs.Finding.{Adds}
use Rattle.manager_worker.specs.Stepping.{InTurn, Notes, Takes, Steps, Reaches, none, more, sees}
use Rattle.live_reads.specs.declared.found.FoundObject.{FoundObject}
use Rattle.live_reads.specs.declared.found.FoundObject.TheVariants as object
use Rattle.manager_worker.specs.declared.steps.Progress.{Progress}
use Rattle.manager_worker.specs.declared.steps.Progress.TheVariants as progress

-- whether something is to be seen or read first
abbrev pub is_early : NextStep → Bool
is_early (look k) = true
is_early ask_satisfied = true
is_early (read k) = true
is_early (expect e) = false
is_early (issue x) = false
is_early finish = false

-- all that is to be seen and read was
pub record IsPlanned (t : Turn) : Type 0 where
  pub seen : unseen t ≡ []
  pub asked : asks t ≡ []

abbrev IsInOrder : Turn → Type 0
IsInOrder t = IsPlanned t ⊎ IsUntouched t

-- ---- the step that is next

early_sight : (s : Sighting) → is_early (seeing s) ≡ true
early_sight (of_kind k) = refl
early_sight of_expectations = refl

planned_late : (t : Turn) → IsPlanned t → is_early (next t) ≡ false
planned_late t is =
    ap is_early (next_planned t (expecting t.has_expected (expected t)) (issuing (all_accepted t.issues) (left t)) is.seen is.asked refl refl)
    ∙ elim (expecting t.has_expected (expected t)) as (λ e. is_early (step_by None None e (issuing (all_accepted t.issues) (left t))) ≡ false) [
      | Some e ↦ refl
      | None ↦ elim (issuing (all_accepted t.issues) (left t)) as (λ x. is_early (step_by None None None x) ≡ false) [ Some x ↦ refl | None ↦ refl ]
    ]

planned_by_reads : (t : Turn) (ks : List Key) → unseen t ≡ [] → asks t ≡ ks → is_early (next t) ≡ false → IsPlanned t
planned_by_reads t [] seen asked late = record { seen = seen; asked = asked }
planned_by_reads t (k ∷ ks) seen asked late = absurd (true≢false (sym (ap is_early (next_reading t k seen (ap first asked))) ∙ late))

planned_by_sights : (t : Turn) (ss : List Sighting) → unseen t ≡ ss → is_early (next t) ≡ false → IsPlanned t
planned_by_sights t [] seen late = planned_by_reads t (asks t) seen refl late
planned_by_sights t (s ∷ ss) seen late = absurd (true≢false (sym (ap is_early (next_seeing t s (ap first seen)) ∙ early_sight s) ∙ late))

pub planned : (t : Turn) (s : NextStep) → next t ≡ s → is_early s ≡ false → IsPlanned t
planned t s at late = planned_by_sights t (unseen t) refl (ap is_early at ∙ late)

untouched_by : (t : Turn) → is_early (next t) ≡ true → IsInOrder t → IsUntouched t
untouched_by t early (inl is) = absurd (true≢false (sym early ∙ planned_late t is))
untouched_by t early (inr is) = is

untouched : (t : Turn) (s : NextStep) → next t ≡ s → is_early s ≡ true → IsInOrder t → IsUntouched t
untouched t s at early is = untouched_by t (ap is_early at ∙ early) is

-- ---- one step after another

as_before : (t u : Turn) → u ≡ t → IsInOrder t → IsInOrder u
as_before t u same is = subst (λ (v : Turn). IsInOrder v) (sym same) is

-- what was found, and what is noted, as a turn has it
pub added : (f : FoundObject) (k : Key) (t u : Turn) → Adds f k t u progress.Went → (found : Option Data) × (u ≡ with_read (record { key = k; found = found }) t)
added (object.Present o) k t u adds = (Some o.value, adds.1)
added object.Absent k t u adds = (None, adds.1)
added object.Refused k t u adds = let other : progress.Went ≡ progress.GivenUp = adds.0 in absurd (cc)
added object.Unanswered k t u adds = let other : progress.Went ≡ progress.Again = adds.0 in absurd (cc)

pub given_up : (f : FoundObject) (k : Key) (t u : Turn) → Adds f k t u progress.GivenUp → u ≡ t
given_up (object.Present o) k t u adds = let other : progress.GivenUp ≡ progress.Went = adds.0 in absurd (cc)
given_up object.Absent k t u adds = let other : progress.GivenUp ≡ progress.Went = adds.0 in absurd (cc)
given_up object.Refused k t u adds = adds.1
given_up object.Unanswered k t u adds = adds.1

pub noted : (x : Command) (a : CommandAnswer) (t u : Turn) → Notes x a t u → (b : Answer) × (u ≡ with_issue (record { command = x; answer = b }) t)
noted x a t u (inl e) = (answer_of a, e)
noted x a t u (inr e) = (lost, e)

module _ {L A : Type 0} (shows : L → Kind → Option Snapshot → L → Type 0) (answers : A → words.Request → client.Answer → A → Type 0) (handled : PerKind ℕ) where
  kept_at : (s z : InTurn L A) (n : NextStep) (p : Progress) → next s.turn ≡ n → Takes shows answers handled n s z p → IsInOrder s.turn → IsInOrder z.turn
  kept_at s z (look k) progress.Went at takes is =
      let was = untouched s.turn (look k) at refl is in
      as_before (with_sight (looked k takes.0.0) s.turn) z.turn takes.0.3 (inr (record { expected = was.expected; issued = was.issued }))
  kept_at s z (look k) progress.Again at takes is = as_before s.turn z.turn takes.0.3 is
  kept_at s z (look k) progress.GivenUp at takes is = as_before s.turn z.turn takes.0.3 is
  kept_at s z (look k) progress.AtEnd at takes is = absurd takes.0
  kept_at s z (look k) progress.CutShort at takes is = absurd takes.0
  kept_at s z ask_satisfied progress.Went at takes is =
      let was = untouched s.turn ask_satisfied at refl is in
      as_before (with_sight (satisfied takes.0.0) s.turn) z.turn takes.0.1 (inr (record { expected = was.expected; issued = was.issued }))
  kept_at s z ask_satisfied progress.Again at takes is = as_before s.turn z.turn takes.0.0 is
  kept_at s z ask_satisfied progress.GivenUp at takes is = absurd takes.0
  kept_at s z ask_satisfied progress.AtEnd at takes is = absurd takes.0
  kept_at s z ask_satisfied progress.CutShort at takes is = absurd takes.0
  kept_at s z (read k) progress.Went at takes is =
      let was = untouched s.turn (read k) at refl is in
      let what = added takes.0.0 k s.turn z.turn takes.0.2 in
      as_before (with_read (record { key = k; found = what.0 }) s.turn) z.turn what.1 (inr (record { expected = was.expected; issued = was.issued }))
  kept_at s z (read k) progress.Again at takes is = as_before s.turn z.turn takes.0.0 is
  kept_at s z (read k) progress.GivenUp at takes is = as_before s.turn z.turn (given_up takes.0.0 k s.turn z.turn takes.0.2) is
  kept_at s z (read k) progress.AtEnd at takes is = absurd takes.0
  kept_at s z (read k) progress.CutShort at takes is = absurd takes.0
  kept_at s z (expect e) progress.Went at takes is =
      let is_planned = planned s.turn (expect e) at refl in
      as_before (with_expected s.turn) z.turn takes.0.0 (inl (record { seen = is_planned.seen; asked = is_planned.asked }))
  kept_at s z (expect e) progress.Again at takes is = as_before s.turn z.turn takes.0.0 is
  kept_at s z (expect e) progress.GivenUp at takes is = absurd takes.0
  kept_at s z (expect e) progress.AtEnd at takes is = absurd takes.0
  kept_at s z (expect e) progress.CutShort at takes is = absurd takes.0
  kept_at s z (issue x) progress.Went at takes is =
      let is_planned = planned s.turn (issue x) at refl in
      let what = noted x takes.0.0 s.turn z.turn takes.0.2 in
      as_before (with_issue (record { command = x; answer = what.0 }) s.turn) z.turn what.1 (inl (record { seen = is_planned.seen; asked = is_planned.asked }))
  kept_at s z (issue x) progress.Again at takes is = as_before s.turn z.turn takes.0.0 is
  kept_at s z (issue x) progress.GivenUp at takes is = absurd takes.0
  kept_at s z (issue x) progress.AtEnd at takes is = absurd takes.0
  kept_at s z (issue x) progress.CutShort at takes is = as_before s.turn z.turn takes.0.2 is
  kept_at s z finish p at takes is = as_before s.turn z.turn (ap (λ (v : InTurn L A). v.turn) takes.1) is

  kept : {s z : InTurn L A} → Reaches shows answers handled s z → IsInOrder s.turn → IsInOrder z.turn
  kept none is = is
  kept (more m v p reached takes going) is = kept_at m v (next m.turn) p refl takes (kept reached is)
  kept (sees m w reached seen) is = kept reached is

  early_where_given_up : (s z : InTurn L A) (n : NextStep) → Takes shows answers handled n s z progress.GivenUp → is_early n ≡ true
  early_where_given_up s z (look k) takes = refl
  early_where_given_up s z ask_satisfied takes = absurd takes.0
  early_where_given_up s z (read k) takes = refl
  early_where_given_up s z (expect e) takes = absurd takes.0
  early_where_given_up s z (issue x) takes = absurd takes.0
  early_where_given_up s z finish takes = let other : progress.GivenUp ≡ progress.AtEnd = takes.0 in absurd (cc)

  -- where a turn is given up nothing is expected or issued, if nothing was when it began
  pub untouched_where_given_up : (s z : InTurn L A) → Reaches shows answers handled s z → IsUntouched s.turn → (u : InTurn L A) → Steps shows answers handled z u progress.GivenUp
      → IsUntouched z.turn
  untouched_where_given_up s z reached was u takes = untouched_by z.turn (early_where_given_up z u (next z.turn) takes) (kept reached (inr was))
