-- How a turn goes on, and how it is given up.
use Rattle.std.proofs.Common.{◌≡◌, ℕ, true, Option, Result, Ok, Err, inl, inr, refl, subst, sym}
use Rattle.std.specs.Result.{IsErr}
use mathlib.Core.Bool.{true≢false}
use Rattle.baton.specs.declared.views.Known.{Known}
use Rattle.object_keys.specs.declared.work_key.WorkKey.{WorkKey}
use Rattle.object_keys.specs.declared.per_kind.PerKind.{PerKind}
use Rattle.spec_api.specs.Keys.{Key}
use Rattle.spec_api.specs.ObjectRequests as words
use Rattle.spec_api.specs.declared.kinds.Kind.{Kind}
use Rattle.spec_server.specs.Snapshots.{Snapshot}
use Rattle.spec_sim.specs.NextSteps.{NextStep, next, look, ask_satisfied, read, expect, issue, finish}
use Rattle.http_client.specs.declared.answer.Answer as client
use Rattle.control_desk.specs.Steps.{Step}
use Rattle.control_desk.specs.declared.states.WorkState.{WorkState}
use Rattle.manager_worker.specs.Ending.{giving_back, course_of, is_over, Makes, Follows, at_end, given_up, Advances}
use Rattle.manager_worker.specs.Stepping.{InTurn, in_turn, OnlySees, Takes, Steps, Reaches, none, more, sees, is_going}
use Rattle.manager_worker.specs.declared.steps.Progress.{Progress}
use Rattle.manager_worker.specs.declared.steps.Progress.TheVariants as progress
use Rattle.manager_worker.specs.declared.turning.Course.{Course}
use Rattle.manager_worker.specs.declared.turning.Course.TheVariants as course

-- where memory runs out a turn is not over
pub fails : {E : Type 0} (r : Result Course E) (P : Course → Type 0) → IsErr r → P course.GoesOn → P (course_of r)
fails (Ok c) P is so = absurd (true≢false (sym is))
fails (Err e) P is so = so

pub not_over : {E : Type 0} (r : Result Course E) → IsErr r → is_over (course_of r) ≡ true → ⊥
not_over (Ok c) is e = absurd (true≢false (sym is))
not_over (Err x) is e = true≢false (sym e)

module _ {L A : Type 0} (shows : L → Kind → Option Snapshot → L → Type 0) (answers : A → words.Request → client.Answer → A → Type 0) (handled : PerKind ℕ) where
  went_on : (k : WorkKey) (s u : InTurn L A) (p : Progress) (w : Known WorkState Step) (c : Course) → is_going p ≡ true → Steps shows answers handled s u p
      → c ≡ course.GoesOn → w ≡ u.known → Advances shows answers handled k s (in_turn u.turn u.listers u.server w) c
  went_on k s u p w course.GoesOn going takes e same =
      let reaches : Known WorkState Step → Type 0 = λ v. Reaches shows answers handled s (in_turn u.turn u.listers u.server v) in
      subst reaches (sym same) (more s u p none takes going)
  went_on k s u p w course.Over going takes e same = absurd (cc)
  went_on k s u p w course.CutShort going takes e same = absurd (cc)

  was_cut : (k : WorkKey) (s u : InTurn L A) (w : Known WorkState Step) (c : Course) → Steps shows answers handled s u progress.CutShort
      → c ≡ course.CutShort → w ≡ u.known → Advances shows answers handled k s (in_turn u.turn u.listers u.server w) c
  was_cut k s u w course.CutShort takes e same =
      let steps : Known WorkState Step → Type 0 = λ v. Steps shows answers handled s (in_turn u.turn u.listers u.server v) progress.CutShort in subst steps (sym same) takes
  was_cut k s u w course.Over takes e same = absurd (cc)
  was_cut k s u w course.GoesOn takes e same = absurd (cc)

  pub advances : (k : WorkKey) (s u : InTurn L A) (p : Progress) (w : Known WorkState Step) (c : Course) → Steps shows answers handled s u p → Follows k u.server.patience p u.known w c
      → Advances shows answers handled k s (in_turn u.turn u.listers u.server w) c
  advances k s u progress.Went w c takes is = went_on k s u progress.Went w c refl takes is.0 is.1
  advances k s u progress.Again w c takes is = went_on k s u progress.Again w c refl takes is.0 is.1
  advances k s u progress.AtEnd w c takes is = went_on k s u progress.AtEnd w c refl takes is.0 is.1
  advances k s u progress.CutShort w c takes is = was_cut k s u w c takes is.0 is.1
  advances k s u progress.GivenUp w course.GoesOn takes is = sees u w (more s u progress.GivenUp none takes refl) is
  advances k s u progress.GivenUp w course.Over takes is = given_up u takes is refl
  advances k s u progress.GivenUp w course.CutShort takes is = absurd is

  -- where no step went before
  pub not_taken : (k : WorkKey) (s z : InTurn L A) → Steps shows answers handled s z progress.Again → Advances shows answers handled k s z course.GoesOn
  not_taken k s z takes = more s z progress.Again none takes refl

  pub ended : (k : WorkKey) (s : InTurn L A) (w : Known WorkState Step) → next s.turn ≡ finish → Makes (giving_back k finish s.turn s.server.patience) s.known w
      → Advances shows answers handled k s (in_turn s.turn s.listers s.server w) course.Over
  ended k s w at makes = at_end at makes refl

  pub not_ended : (k : WorkKey) (s : InTurn L A) (w : Known WorkState Step) → OnlySees s.known w → Advances shows answers handled k s (in_turn s.turn s.listers s.server w) course.GoesOn
  not_ended k s w (inl same) = let reaches : Known WorkState Step → Type 0 = λ v. Reaches shows answers handled s (in_turn s.turn s.listers s.server v) in subst reaches (sym same) none
  not_ended k s w (inr seen) = sees s w none seen

  pub joined : {s u z : InTurn L A} → Reaches shows answers handled s u → Reaches shows answers handled u z → Reaches shows answers handled s z
  joined first none = first
  joined first (more m z p reached takes going) = more m z p (joined first reached) takes going
  joined first (sees m w reached seen) = sees m w (joined first reached) seen
