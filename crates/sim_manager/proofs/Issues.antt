-- The command that a turn issues next, and what a manager makes of it.
use Rattle.std.proofs.Common.{◌≡◌, ◌<◌, refl, sym, ap, subst, ◌∙◌, ℕ, [], ◌∷◌, ◌++◌, Option, Some, None, option_map, length, IfSome, Result, Ok, Err, OnOk, IfOk}
use Rattle.std.specs.Prelude.{slice_get, slice_set, if◌then◌else◌}
use Rattle.std.proofs.lemmas.Option.{slice_get_within}
use Rattle.spec_client_go.specs.Commands.{Command}
use Rattle.sim_cluster.specs.ClusterStates.{ClusterState}
use Rattle.sim_cluster.specs.Requested.{IsWriteOf, written}
use Rattle.spec_api.specs.History.{Write}
use Rattle.spec_api.specs.ObjectRequests.{Request}
use Rattle.spec_api.specs.Verbs.{write_of}
use Rattle.spec_api.specs.Reached.{CanBeRead}
use Rattle.spec_sim.specs.Managers.{Client, Manager, Delivery, Acted, act, act_in, carry_out, closed, issue, issue_command, is_for}
use Rattle.spec_sim.specs.NextSteps as steps
use Rattle.spec_sim.specs.NextSteps.{NextStep, next}
use Rattle.spec_sim.specs.Outcomes.{Outcome}
use Rattle.spec_sim.specs.Turns.{Turn}
use Rattle.line_session.specs.SessionStates.{SessionState, accepted}
use Rattle.reconcile_turn.specs.Seen.{command_issued}
use Rattle.sim_manager.specs.Issuing.{Coming, coming}
use Rattle.sim_manager.specs.Reached.{client_of, after_request, write_reaching}
use Rattle.sim_worker_slots.specs.Slots.{Slots, in_slot, turn_of}

-- ---- a turn in its slot

slot_of : (s : Option (Option Turn)) (t : Turn) → in_slot s ≡ Some t → s ≡ Some (Some t)
slot_of None t is = cc
slot_of (Some s) t is = ap Some is

pub slot_within : (w : ℕ) (ts : Slots) (t : Turn) → turn_of w ts ≡ Some t → w < length ts
slot_within w ts t is = slice_get_within ts w (Some t) (slot_of (slice_get ts w) t is)

-- ---- an issue

abbrev issued_next : Client → ℕ → Delivery → Turn → Option Command → Manager → Acted
issued_next c w d t None m = closed m
issued_next c w d t (Some x) m = issue_command c w t x d m

at_next : (c : Client) (w : ℕ) (d : Delivery) (t : Turn) (m : Manager) (n : NextStep) → (if is_for (issue d) n then carry_out c w t d n m else closed m) ≡ issued_next c w d t (command_issued n) m
at_next c w d t m (steps.look k) = refl
at_next c w d t m steps.ask_satisfied = refl
at_next c w d t m (steps.read k) = refl
at_next c w d t m (steps.expect e) = refl
at_next c w d t m (steps.issue x) = refl
at_next c w d t m steps.finish = refl

issue_in : (c : Client) (w : ℕ) (d : Delivery) (t : Turn) (m : Manager) → turn_of w m.turns ≡ Some t → act c w (issue d) m ≡ issued_next c w d t (command_issued (next t)) m
issue_in c w d t m is = ap (λ s. act_in c w (issue d) s m) (slot_of (slice_get m.turns w) t is) ∙ at_next c w d t m (next t)

issue_open : (c : Client) (w : ℕ) (d : Delivery) (t : Turn) (x : Command) (m : Manager) → turn_of w m.turns ≡ Some t → command_issued (next t) ≡ Some x → act c w (issue d) m ≡ issue_command c w t x d m
issue_open c w d t x m is some = issue_in c w d t m is ∙ ap (λ x. issued_next c w d t x m) some

-- ---- what comes of it

given : {A B : Type 0} (f : A → B) (o : Option A) (b : B) → Some b ≡ option_map f o → (a : A) × (o ≡ Some a) × (b ≡ f a)
given f None b is = absurd (none is)
  where
    none : {B : Type 0} {b : B} → Some b ≡ None → ⊥
    none is = cc
given f (Some a) b is = (a, refl, same is)
  where
    same : {B : Type 0} {b c : B} → Some b ≡ Some c → b ≡ c
    same is = cc

-- what a request that can be read writes
writes_of : (s : SessionState) (q : Request) → CanBeRead q → (o : Option Write) → write_of (accepted s q) ≡ o → IfSome o (λ v. IsWriteOf s (Some v))
writes_of s q read None is = tt
writes_of s q read (Some v) is = (q, read, is)

writes_reaching : (s : SessionState) (o : Option Request) → IfSome o CanBeRead → IfSome (write_reaching s o) (λ v. IsWriteOf s (Some v))
writes_reaching s None read = tt
writes_reaching s (Some q) read = writes_of s q read (write_of (accepted s q)) refl

module _ (v : ClusterState) (w : ℕ) (d : Delivery) (t : Turn) (m : Manager) (i : Coming) (here : turn_of w m.turns ≡ Some t)
    (is : Some i ≡ option_map (coming v.session w t d) (command_issued (next t))) where
  abbrev done : Acted
  done = act (client_of v) w (issue d) m

  manager_is : record m { turns = slice_set m.turns w (Some i.turn); issued = m.issued ++ i.issued ∷ [] } ≡ done.manager
  manager_is =
      let x = given (coming v.session w t d) (command_issued (next t)) i is in
      ap (λ (i : Coming). record m { turns = slice_set m.turns w (Some i.turn); issued = m.issued ++ i.issued ∷ [] }) x.2
      ∙ ap (λ (a : Acted). a.manager) (sym (issue_open (client_of v) w d t x.0 m here x.1))

  outcome_is : i.outcome ≡ done.outcome
  outcome_is =
      let x = given (coming v.session w t d) (command_issued (next t)) i is in
      ap (λ (i : Coming). i.outcome) x.2 ∙ ap (λ (a : Acted). a.outcome) (sym (issue_open (client_of v) w d t x.0 m here x.1))

  write_is : i.write ≡ write_reaching v.session done.request
  write_is =
      let x = given (coming v.session w t d) (command_issued (next t)) i is in
      ap (λ (i : Coming). i.write) x.2 ∙ ap (λ (a : Acted). write_reaching v.session a.request) (sym (issue_open (client_of v) w d t x.0 m here x.1))

  pub writes_it : IfSome done.request CanBeRead → IfSome i.write (λ o. IsWriteOf v.session (Some o))
  writes_it read = subst (λ w. IfSome w (λ o. IsWriteOf v.session (Some o))) (sym write_is) (writes_reaching v.session done.request read)

  -- where it was made
  pub manager_made : {X E : Type 0} (r : Result X E) (n : Manager) → OnOk r (n ≡ record m { turns = slice_set m.turns w (Some i.turn); issued = m.issued ++ i.issued ∷ [] })
      → OnOk r (n ≡ (act (client_of v) w (issue d) m).manager)
  manager_made (Ok x) n made = made ∙ manager_is
  manager_made (Err e) n made = tt

  pub told_made : {X E : Type 0} (told : X → Outcome) (r : Result X E) → IfOk r (λ x. told x ≡ i.outcome) → IfOk r (λ x. told x ≡ (act (client_of v) w (issue d) m).outcome)
  told_made told (Ok x) made = made ∙ outcome_is
  told_made told (Err e) made = tt

  pub cluster_made : {X E : Type 0} (r : Result X E) (u : ClusterState) → OnOk r (u ≡ written i.write v) → OnOk r (u ≡ after_request (act (client_of v) w (issue d) m).request v)
  cluster_made (Ok x) u made = made ∙ ap (λ o. written o v) write_is
  cluster_made (Err e) u made = tt
