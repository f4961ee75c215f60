-- That no command which may have been carried out is issued again in its turn.
use Rattle.std.specs.Prelude.{◌≡◌, ◌⊎◌, ◌++◌, ℕ, List, ◌∷◌, [], Bool, true, false, Option, None, Some, IfSome}
use mathlib.Core.Logic.{inl, inr}
use Rattle.object_keys.specs.declared.per_kind.PerKind.{PerKind}
use Rattle.spec_api.specs.ObjectRequests as words
use Rattle.spec_api.specs.declared.kinds.Kind.{Kind}
use Rattle.spec_client_go.specs.Commands.{Command}
use Rattle.spec_server.specs.Snapshots.{Snapshot}
use Rattle.spec_sim.specs.Managers.{requested}
use Rattle.spec_sim.specs.NextSteps.{next, issue, first}
use Rattle.spec_sim.specs.Turns.{Turn, Issue, all_accepted, left}
use Rattle.http_client.specs.declared.answer.Answer as client
use Rattle.http_client.specs.declared.answer.Answer.TheVariants as outcome
use Rattle.request_encoding.specs.Texts.{can_be_told}
use Rattle.manager_worker.specs.Learning.{AsksIf, AsksOnce}
use Rattle.manager_worker.specs.Patience.{Hears}
use Rattle.manager_worker.specs.Stepping.{InTurn, Issues, Reaches}
use Rattle.manager_worker.specs.declared.answers.Learnt.{Learnt}
use Rattle.manager_worker.specs.declared.answers.Learnt.TheVariants as learnt
use Rattle.manager_worker.specs.declared.steps.Progress.TheVariants as progress

-- whether a command with this answer may have been carried out: not where it was not sent
abbrev pub may_be_done : client.Answer → Bool
may_be_done outcome.NotSent = false
may_be_done (outcome.Replied r) = true
may_be_done outcome.Lost = true

module _ {A : Type 0} (answers : A → words.Request → client.Answer → A → Type 0) where
  -- what the server answered, where it was asked
  abbrev pub answer_if : (b : Bool) (before : A) (q : words.Request) (l : Learnt) (after : A) → AsksIf answers b before q l after → Option client.Answer
  answer_if false before q l after is = None
  answer_if true before q l after is = Some is.0

  abbrev pub answer_again : (q : words.Request) (before after : A) → (after ≡ before) ⊎ AsksOnce answers before q learnt.Again after → Option client.Answer
  answer_again q before after (inl same) = None
  answer_again q before after (inr asks) = answer_if (can_be_told q) before q learnt.Again after asks

  -- where a command is to be issued again it was not carried out, by what the server answered, if it was asked; where it is not, it is noted
  pub record AreIssuedOnce : Type 0 where
    pub again : (x : Command) (t u : Turn) (before after : A) (is : Issues answers x t before u after progress.Again)
        → (u ≡ t) × IfSome (answer_again (requested t x) before after is.1) (λ a. may_be_done a ≡ false)
    pub noted : (x : Command) (t u : Turn) (before after : A) → Issues answers x t before u after progress.Went → (i : Issue) × (i.command ≡ x) × (u.issues ≡ t.issues ++ i ∷ [])

module _ {L A : Type 0} (shows : L → Kind → Option Snapshot → L → Type 0) (answers : A → words.Request → client.Answer → A → Type 0) where
  -- what is noted stays, and the command that is issued next is the one of the plan that follows all that is noted, and all of that was accepted
  pub record AreIssuedInOrder : Type 0 where
    pub once : AreIssuedOnce (Hears answers)
    pub stay : (handled : PerKind ℕ) (s z : InTurn L A) → Reaches shows answers handled s z → (rest : List Issue) × (z.turn.issues ≡ s.turn.issues ++ rest)
    pub next : (t : Turn) (x : Command) → next t ≡ issue x → (first (left t) ≡ Some x) × (all_accepted t.issues ≡ true)
