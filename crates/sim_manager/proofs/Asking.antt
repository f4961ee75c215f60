-- What actions ask of the server.
use Rattle.std.proofs.Common.{◌≡◌, ℕ, Option, Some, None, Bool, true, false, refl, ap}
use Rattle.spec_client_go.specs.Commands.{Command}
use Rattle.spec_api.specs.declared.kinds.Kind.{Kind}
use Rattle.spec_sim.specs.Managers.{Client, Manager, Action, Acted, act, act_in, carry_out, closed, delivery_of, is_for, is_take, look, ask_satisfied, read_live, expect, finish}
use Rattle.spec_sim.specs.NextSteps as steps
use Rattle.spec_sim.specs.NextSteps.{NextStep, next}
use Rattle.spec_sim.specs.Turns.{Turn}
use Rattle.std.specs.Prelude.{slice_get, if◌then◌else◌}

neither_asks : (b : Bool) (x y : Acted) → x.request ≡ None → y.request ≡ None → (if b then x else y).request ≡ None
neither_asks true x y a b = a
neither_asks false x y a b = b

-- an action that issues no command
module _ (a : Action) (issues_none : (x : Command) → is_for a (steps.issue x) ≡ false) (takes_none : is_take a ≡ false) where
  asks_at : (c : Client) (w : ℕ) (t : Turn) (m : Manager) (n : NextStep) → (if is_for a n then carry_out c w t (delivery_of a) n m else closed m).request ≡ None
  asks_at c w t m (steps.look k) = neither_asks (is_for a (steps.look k)) _ (closed m) refl refl
  asks_at c w t m steps.ask_satisfied = neither_asks (is_for a steps.ask_satisfied) _ (closed m) refl refl
  asks_at c w t m (steps.read k) = neither_asks (is_for a (steps.read k)) _ (closed m) refl refl
  asks_at c w t m (steps.expect e) = neither_asks (is_for a (steps.expect e)) _ (closed m) refl refl
  asks_at c w t m (steps.issue x) = ap (λ (b : Bool). (if b then carry_out c w t (delivery_of a) (steps.issue x) m else closed m).request) (issues_none x)
  asks_at c w t m steps.finish = neither_asks (is_for a steps.finish) _ (closed m) refl refl

  asks_in : (c : Client) (w : ℕ) (s : Option (Option Turn)) (m : Manager) → (act_in c w a s m).request ≡ None
  asks_in c w None m = refl
  asks_in c w (Some None) m = rw takes_none refl
  asks_in c w (Some (Some t)) m = asks_at c w t m (next t)

  asks_nothing : (c : Client) (w : ℕ) (m : Manager) → (act c w a m).request ≡ None
  asks_nothing c w m = asks_in c w (slice_get m.turns w) m

pub look_asks_nothing : (c : Client) (w : ℕ) (k : Kind) (m : Manager) → (act c w (look k) m).request ≡ None
look_asks_nothing c w k m = asks_nothing (look k) (λ x. refl) refl c w m

pub ask_asks_nothing : (c : Client) (w : ℕ) (m : Manager) → (act c w ask_satisfied m).request ≡ None
ask_asks_nothing c w m = asks_nothing ask_satisfied (λ x. refl) refl c w m

pub read_asks_nothing : (c : Client) (w : ℕ) (m : Manager) → (act c w read_live m).request ≡ None
read_asks_nothing c w m = asks_nothing read_live (λ x. refl) refl c w m

pub expect_asks_nothing : (c : Client) (w : ℕ) (m : Manager) → (act c w expect m).request ≡ None
expect_asks_nothing c w m = asks_nothing expect (λ x. refl) refl c w m

pub finish_asks_nothing : (c : Client) (w : ℕ) (m : Manager) → (act c w finish m).request ≡ None
finish_asks_nothing c w m = asks_nothing finish (λ x. refl) refl c w m
