-- An action is closed, or it takes a key, or it goes on with a turn.
use Rattle.std.proofs.Common.{◌≡◌, ℕ, Bool, true, false, ◌&&◌, Option, Some, None, slice_get, refl, cond}
use Rattle.spec_client_go.specs.WorkQueues.{handed}
use Rattle.spec_sim.specs.Managers.{Client, Manager, Action, Acted, Delivery, closed, take_key, carry_out, is_take, is_for, delivery_of, act_in, act}
use Rattle.spec_sim.specs.NextSteps.{next}
use Rattle.spec_sim.specs.Turns.{Turn}

either : (P : Acted → Type 0) (b : Bool) (x y : Acted) → (b ≡ true → P x) → P y → P (cond b x y)
either P true x y p q = p refl
either P false x y p q = q

second : (a b : Bool) → (a && b) ≡ true → b ≡ true
second true b e = e
second false b e = cc

module _ (P : Acted → Type 0) (c : Client) (w : ℕ) (a : Action) (m : Manager) where
  pub by_act_in : (o : Option (Option Turn)) → slice_get m.turns w ≡ o
      → P (closed m)
      → (slice_get m.turns w ≡ Some None → c.has_synced ≡ true → P (take_key w (handed m.board.work) m))
      → ((t : Turn) (d : Delivery) → slice_get m.turns w ≡ Some (Some t) → P (carry_out c w t d (next t) m))
      → P (act_in c w a o m)
  by_act_in None e still taking going = still
  by_act_in (Some None) e still taking going = either P (is_take a && c.has_synced) (take_key w (handed m.board.work) m) (closed m) (λ b. taking e (second (is_take a) c.has_synced b)) still
  by_act_in (Some (Some t)) e still taking going = either P (is_for a (next t)) (carry_out c w t (delivery_of a) (next t) m) (closed m) (λ b. going t (delivery_of a) e) still

  pub by_act : P (closed m)
      → (slice_get m.turns w ≡ Some None → c.has_synced ≡ true → P (take_key w (handed m.board.work) m))
      → ((t : Turn) (d : Delivery) → slice_get m.turns w ≡ Some (Some t) → P (carry_out c w t d (next t) m))
      → P (act c w a m)
  by_act = by_act_in (slice_get m.turns w) refl
