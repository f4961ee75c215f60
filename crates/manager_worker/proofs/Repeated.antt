-- No command that may have been carried out is issued again in its turn.
use Rattle.std.proofs.Common.{◌≡◌, ◌∙◌, ◌⊎◌, ◌++◌, ℕ, List, [], ◌∷◌, Bool, true, false, nat_eq, Option, Some, None, inl, inr, refl, sym, ap, append_assoc, append-nil}
use Rattle.std.specs.Prelude.{IfSome, not}
use mathlib.Core.Bool.{true≢false}
use Rattle.object_keys.specs.declared.per_kind.PerKind.{PerKind}
use Rattle.spec_api.specs.Keys.{Key}
use Rattle.spec_api.specs.ObjectRequests as words
use Rattle.spec_api.specs.declared.kinds.Kind.{Kind}
use Rattle.spec_client_go.specs.Commands.{Command}
use Rattle.spec_server.specs.Snapshots.{Snapshot}
use Rattle.spec_sim.specs.Managers.{requested}
use Rattle.spec_sim.specs.NextSteps.{NextStep, Sighting, next, look, ask_satisfied, read, expect, issue, finish, first, seeing, of_kind, of_expectations, unseen, expecting, issuing}
use Rattle.spec_sim.specs.Turns.{Turn, Issue, Expected, lost, all_accepted, asks, expected, left}
use Rattle.http_client.specs.declared.answer.Answer as client
use Rattle.http_client.specs.declared.answer.Answer.TheVariants as outcome
use Rattle.request_encoding.specs.Texts.{can_be_told}
use Rattle.reconcile_turn.specs.Seen.{answer_of}
use Rattle.reconcile_turn.specs.declared.answers.CommandAnswer.{CommandAnswer}
use Rattle.reconcile_turn.proofs.Steps.{step_by}
use Rattle.manager_worker.proofs.Untouched.{given_up, added, noted}
use Rattle.manager_worker.specs.Learning.{AsksIf, AsksOnce, LearnsOf}
use Rattle.manager_worker.specs.Patience.{Hears}
use Rattle.manager_worker.specs.Repeating.{may_be_done, answer_if, answer_again, AreIssuedOnce, AreIssuedInOrder}
use Rattle.manager_worker.specs.Stepping.{InTurn, Notes, Issues, Takes, Reaches, none, more, sees}
use Rattle.manager_worker.specs.declared.answers.Learnt.TheVariants as learnt
use Rattle.manager_worker.specs.declared.steps.Progress.{Progress}
use Rattle.manager_worker.specs.declared.steps.Progress.TheVariants as progress

-- ---- what says that nothing was done

undone : (a : client.Answer) → LearnsOf a learnt.Again → may_be_done a ≡ false
undone (outcome.Replied r) is = absurd (cc)
undone outcome.NotSent is = refl
undone outcome.Lost is = absurd (cc)

module _ {A : Type 0} (answers : A → words.Request → client.Answer → A → Type 0) where
  undone_if : (b : Bool) (before : A) (q : words.Request) (after : A) (is : AsksIf answers b before q learnt.Again after)
      → IfSome (answer_if answers b before q learnt.Again after is) (λ a. may_be_done a ≡ false)
  undone_if false before q after is = tt
  undone_if true before q after is = undone is.0 is.2

  undone_again : (q : words.Request) (before after : A) (is : (after ≡ before) ⊎ AsksOnce answers before q learnt.Again after)
      → IfSome (answer_again answers q before after is) (λ a. may_be_done a ≡ false)
  undone_again q before after (inl same) = tt
  undone_again q before after (inr asks) = undone_if (can_be_told q) before q after asks

  one_noted : (x : Command) (a : CommandAnswer) (t u : Turn) → Notes x a t u → (i : Issue) × (i.command ≡ x) × (u.issues ≡ t.issues ++ i ∷ [])
  one_noted x a t u (inl e) = (record { command = x; answer = answer_of a }, refl, ap (λ (v : Turn). v.issues) e)
  one_noted x a t u (inr e) = (record { command = x; answer = lost }, refl, ap (λ (v : Turn). v.issues) e)

  issued_once : AreIssuedOnce answers
  issued_once =
      record {
        again = λ x t u before after is. (is.0, undone_again (requested t x) before after is.1);
        noted = λ x t u before after is. one_noted x is.0 t u is.2;
      }

-- ---- what comes next

abbrev issued_in : NextStep → Option Command
issued_in (look k) = None
issued_in ask_satisfied = None
issued_in (read k) = None
issued_in (expect e) = None
issued_in (issue x) = Some x
issued_in finish = None

none_seen : (s : Sighting) → issued_in (seeing s) ≡ None
none_seen (of_kind k) = refl
none_seen of_expectations = refl

nothing : (x : Command) → None ≡ Some x → ⊥
nothing x e = absurd (cc)

issued_by : (s : Option Sighting) (k : Option Key) (e : Option Expected) (c : Option Command) (x : Command) → issued_in (step_by s k e c) ≡ Some x → c ≡ Some x
issued_by (Some s) k e c x is = absurd (nothing x (sym (none_seen s) ∙ is))
issued_by None (Some k) e c x is = absurd (nothing x is)
issued_by None None (Some e) c x is = absurd (nothing x is)
issued_by None None None (Some c) x is = is
issued_by None None None None x is = absurd (nothing x is)

next_if : (b : Bool) (cs : List Command) (x : Command) → issuing b cs ≡ Some x → (first cs ≡ Some x) × (b ≡ true)
next_if true cs x is = (is, refl)
next_if false cs x is = absurd (nothing x is)

pub next_issued : (t : Turn) (x : Command) → next t ≡ issue x → (first (left t) ≡ Some x) × (all_accepted t.issues ≡ true)
next_issued t x at =
    next_if (all_accepted t.issues) (left t) x
    (issued_by (first (unseen t)) (first (asks t)) (expecting t.has_expected (expected t)) (issuing (all_accepted t.issues) (left t)) x (ap issued_in at))

-- ---- what is noted stays

abbrev More : Turn → Turn → Type 0
More t u = (rest : List Issue) × (u.issues ≡ t.issues ++ rest)

no_more : (t u : Turn) → u.issues ≡ t.issues → More t u
no_more t u same = ([], same ∙ sym (append-nil t.issues))

module _ {L A : Type 0} (shows : L → Kind → Option Snapshot → L → Type 0) (answers : A → words.Request → client.Answer → A → Type 0) (handled : PerKind ℕ) where
  more_at : (s z : InTurn L A) (n : NextStep) (p : Progress) → Takes shows answers handled n s z p → More s.turn z.turn
  more_at s z (look k) progress.Went takes = no_more s.turn z.turn (ap (λ (v : Turn). v.issues) takes.0.3)
  more_at s z (look k) progress.Again takes = no_more s.turn z.turn (ap (λ (v : Turn). v.issues) takes.0.3)
  more_at s z (look k) progress.GivenUp takes = no_more s.turn z.turn (ap (λ (v : Turn). v.issues) takes.0.3)
  more_at s z (look k) progress.AtEnd takes = absurd takes.0
  more_at s z (look k) progress.CutShort takes = absurd takes.0
  more_at s z ask_satisfied progress.Went takes = no_more s.turn z.turn (ap (λ (v : Turn). v.issues) takes.0.1)
  more_at s z ask_satisfied progress.Again takes = no_more s.turn z.turn (ap (λ (v : Turn). v.issues) takes.0.0)
  more_at s z ask_satisfied progress.GivenUp takes = absurd takes.0
  more_at s z ask_satisfied progress.AtEnd takes = absurd takes.0
  more_at s z ask_satisfied progress.CutShort takes = absurd takes.0
  more_at s z (read k) progress.Went takes = no_more s.turn z.turn (ap (λ (v : Turn). v.issues) (added takes.0.0 k s.turn z.turn takes.0.2).1)
  more_at s z (read k) progress.Again takes = no_more s.turn z.turn (ap (λ (v : Turn). v.issues) takes.0.0)
  more_at s z (read k) progress.GivenUp takes = no_more s.turn z.turn (ap (λ (v : Turn). v.issues) (given_up takes.0.0 k s.turn z.turn takes.0.2))
  more_at s z (read k) progress.AtEnd takes = absurd takes.0
  more_at s z (read k) progress.CutShort takes = absurd takes.0
  more_at s z (expect e) progress.Went takes = no_more s.turn z.turn (ap (λ (v : Turn). v.issues) takes.0.0)
  more_at s z (expect e) progress.Again takes = no_more s.turn z.turn (ap (λ (v : Turn). v.issues) takes.0.0)
  more_at s z (expect e) progress.GivenUp takes = absurd takes.0
  more_at s z (expect e) progress.AtEnd takes = absurd takes.0
  more_at s z (expect e) progress.CutShort takes = absurd takes.0
  more_at s z (issue x) progress.Went takes = let what = noted x takes.0.0 s.turn z.turn takes.0.2 in (record { command = x; answer = what.0 } ∷ [], ap (λ (v : Turn). v.issues) what.1)
  more_at s z (issue x) progress.Again takes = no_more s.turn z.turn (ap (λ (v : Turn). v.issues) takes.0.0)
  more_at s z (issue x) progress.GivenUp takes = absurd takes.0
  more_at s z (issue x) progress.AtEnd takes = absurd takes.0
  more_at s z (issue x) progress.CutShort takes = no_more s.turn z.turn (ap (λ (v : Turn). v.issues) takes.0.2)
  more_at s z finish p takes = no_more s.turn z.turn (ap (λ (v : InTurn L A). v.turn.issues) takes.1)

  then_more : (t u v : Turn) → More t u → More u v → More t v
  then_more t u v a b = (a.0 ++ b.0, b.1 ∙ ap (λ (is : List Issue). is ++ b.0) a.1 ∙ append_assoc t.issues a.0 b.0)

  stay : {s z : InTurn L A} → Reaches shows answers handled s z → More s.turn z.turn
  stay {s = s} none = no_more s.turn s.turn refl
  stay {s = s} (more m z p reached takes going) = then_more s.turn m.turn z.turn (stay reached) (more_at m z (next m.turn) p takes)
  stay (sees m w reached seen) = stay reached

module _ {L A : Type 0} (shows : L → Kind → Option Snapshot → L → Type 0) (answers : A → words.Request → client.Answer → A → Type 0) where
  pub issued_in_order : AreIssuedInOrder shows answers
  issued_in_order = record { once = issued_once (Hears answers); stay = λ handled s z reached. stay shows answers handled reached; next = next_issued }
