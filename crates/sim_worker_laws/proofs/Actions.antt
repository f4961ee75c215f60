-- What a worker's actions do.
use Rattle.std.proofs.Common.{◌≡◌, ◌⊎◌, inl, inr, ◌+◌, ◌-◌, ℕ, zero, suc, List, [], ◌∷◌, ◌++◌, map, length, filter, drop, replicate, min, Bool, true, false, cond, Option, Some, None, unwrap_or, slice_get, refl, sym, ap, ◌∙◌, arith}
use Rattle.std.specs.Cmp.{eq_by_cmp_equiv}
use Rattle.std.specs.FinMap as map_of
use Rattle.std.specs.FinMap.{get-insert, get-remove}
use Rattle.std.specs.Ordering.{eq_by_cmp}
use Rattle.spec_client_go.specs.Commands.{Command}
use Rattle.spec_client_go.specs.Delays.{delay_after, earlier, failures}
use Rattle.spec_client_go.specs.Expectations.{Owner, Expectation, Table, change, created, deleted}
use Rattle.spec_client_go.specs.WorkQueues.{WorkKey, work_key_cmp, handed}
use Rattle.spec_client_go.proofs.Expected.{get_put}
use Rattle.spec_client_go.proofs.WorkKeyOrder.{work_key_total}
use Rattle.spec_laws.specs.ExpectationLaws.{creations_of, creations_left}
use Rattle.spec_client_go.specs.Boards.{Board, Observation, creation_observed, deletion_observed, all_lowered, finished, requeued}
use Rattle.spec_sim.specs.ControlPlanes.{client}
use Rattle.spec_sim.specs.Managers.{Client, Manager, Action, Delivery, Acted, closed, act, act_in, carry_out, take_key, is_for, delivery_of, requested, ended, ask, is_satisfied_for, forgotten_unless}
use Rattle.spec_sim.specs.Managers as action
use Rattle.spec_sim.specs.NextSteps as next_step
use Rattle.spec_sim.specs.Outcomes as outcome
use Rattle.std.specs.FinSet as set
use Rattle.std.specs.List.{filter_map}
use Rattle.spec_sim.specs.NextSteps.{NextStep, next}
use Rattle.spec_sim.specs.Turns.{Turn, Issue, refused, lost, is_refused, commands, all_accepted, creates_pod, pod_deleted, undone, taken_back, taken_back_by}
use Rattle.sim_worker_laws.specs.ActionLaws.{IsAt, member, IssuesAreTied, OnlyIssuesAsk, LostIsNotDropped, LiveReadsFindWhatIsThere, AnswersAreTheBoards, LostMayBeDone, UndoneIsExpectedNoMore, FailedKeysWait}
use Rattle.sim_worker_laws.proofs.Acting.{by_act}

-- an action that is for the next step carries it out
acts : (c : Client) (w : ℕ) (a : Action) (t : Turn) (n : NextStep) (m : Manager) → IsAt w t n m → is_for a n ≡ true → act c w a m ≡ carry_out c w t (delivery_of a) n m
acts c w a t n m is met =
    ap (λ o. act_in c w a o m) is.0
    ∙ ap (λ x. cond (is_for a x) (carry_out c w t (delivery_of a) x m) (closed m)) is.1
    ∙ ap (λ b. cond b (carry_out c w t (delivery_of a) n m) (closed m)) met

-- ---- commands

pub issues_tied : IssuesAreTied
issues_tied c w t x d m is =
    let r : act c w (action.issue d) m ≡ carry_out c w t d (next_step.issue x) m = acts c w (action.issue d) t (next_step.issue x) m is refl in (
      ap (λ (a : Acted). a.manager.issued) r,
      ap (λ (a : Acted). a.manager.turns) r,
      ap (λ (a : Acted). a.manager.board) r,
      ap (λ (a : Acted). a.request) r,
      ap (λ (a : Acted). a.outcome) r,
    )

module _ (c : Client) (w : ℕ) (m : Manager) where
  abbrev Asks : Acted → Type 0
  Asks r =
      ((r.manager.issued ≡ m.issued) × (r.request ≡ None))
      ⊎ ((t : Turn) × (x : Command) × (d : Delivery) × IsAt w t (next_step.issue x) m × (r.manager.issued ≡ m.issued ++ member c t x d ∷ []) × (r.request ≡ action.reaching d (requested t x)))

  takes : (o : Option WorkKey) → Asks (take_key w o m)
  takes None = inl (refl, refl)
  takes (Some k) = inl (refl, refl)

  goes_on : (t : Turn) (d : Delivery) → slice_get m.turns w ≡ Some (Some t) → (n : NextStep) → next t ≡ n → Asks (carry_out c w t d n m)
  goes_on t d here (next_step.look k) is = inl (refl, refl)
  goes_on t d here next_step.ask_satisfied is = inl (refl, refl)
  goes_on t d here (next_step.read k) is = inl (refl, refl)
  goes_on t d here (next_step.expect e) is = inl (refl, refl)
  goes_on t d here (next_step.issue x) is = inr (t, x, d, (here, is), refl, refl)
  goes_on t d here next_step.finish is = inl (refl, refl)

pub only_issues : OnlyIssuesAsk
only_issues c w a m =
    by_act (Asks c w m) c w a m (inl (refl, refl)) (λ here synced. takes c w m (handed m.board.work)) (λ t d here. goes_on c w m t d here (next t) refl)

pub lost_not_dropped : LostIsNotDropped
lost_not_dropped = record { is_delivered = λ q o. (refl, refl); is_served = λ q o. (refl, refl); is_not_served = λ q o. (refl, refl) }

-- ---- what is seen

pub reads_find : LiveReadsFindWhatIsThere
reads_find c w t k m is =
    let r : act (client c) w action.read_live m ≡ carry_out (client c) w t action.delivered (next_step.read k) m = acts (client c) w action.read_live t (next_step.read k) m is refl in
    (ap (λ (a : Acted). a.manager.turns) r, ap (λ (a : Acted). a.outcome) r)

asked : (c : Client) (w : ℕ) (t : Turn) (m : Manager) → IsAt w t next_step.ask_satisfied m → act c w action.ask_satisfied m ≡ ask w t m
asked c w t m is = acts c w action.ask_satisfied t next_step.ask_satisfied m is refl

pub answers_boards : AnswersAreTheBoards
answers_boards =
    record {
      of_a_set = λ c w t o m is some.
          let r = asked c w t m is in (
            ap (λ (a : Acted). a.outcome) r ∙ ap (λ x. outcome.satisfied w (is_satisfied_for x m.board)) some,
            ap (λ (a : Acted). a.manager.board) r ∙ ap (λ x. forgotten_unless x t.work_key.key m.board) some,
          );
      of_none = λ c w t m is none.
          let r = asked c w t m is in (
            ap (λ (a : Acted). a.outcome) r ∙ ap (λ x. outcome.satisfied w (is_satisfied_for x m.board)) none,
            ap (λ (a : Acted). a.manager.board) r ∙ ap (λ x. forgotten_unless x t.work_key.key m.board) none,
          );
    }

-- ---- what is not done

after_one : (i : Issue) (js : List Issue) (cs : List Command) → js ≡ []
    → map (λ (j : Issue). j.command) (filter (λ (j : Issue). is_refused j.answer) (js ++ i ∷ [])) ++ drop (length (js ++ i ∷ [])) cs
    ≡ map (λ (j : Issue). j.command) (filter (λ (j : Issue). is_refused j.answer) (i ∷ [])) ++ drop 1 cs
after_one i [] cs e = refl
after_one i (j ∷ js) cs e = cc

pub lost_may : LostMayBeDone
lost_may =
    record {
      of_lost = λ t x rest none all. after_one (record { command = x; answer = lost }) t.issues (commands t) none ∙ ap (drop 1) all;
      of_refused = λ t x rest code none all. after_one (record { command = x; answer = refused code }) t.issues (commands t) none ∙ ap (λ cs. x ∷ drop 1 cs) all;
    }

module _ (o : Owner) where
  one_less : (t : Table) → creations_left o (created o t) ≡ creations_left o t - 1
  one_less t = by (map_of.get t o) refl
    where
      by : (x : Option Expectation) → map_of.get t o ≡ x → creations_of (map_of.get (change x (λ e. record e { creations = e.creations - 1 }) o t) o) ≡ creations_of (map_of.get t o) - 1
      by None is = ap creations_of is ∙ sym (ap (λ x. creations_of x - 1) is)
      by (Some e) is = ap creations_of (get_put t o (record e { creations = e.creations - 1 })) ∙ sym (ap (λ x. creations_of x - 1) is)

  same_left : (t : Table) (pod : List ℕ) → creations_left o (deleted o pod t) ≡ creations_left o t
  same_left t pod = by (map_of.get t o) refl
    where
      by : (x : Option Expectation) → map_of.get t o ≡ x
          → creations_of (map_of.get (change x (λ e. record e { deletions = set.remove e.deletions pod }) o t) o) ≡ creations_of (map_of.get t o)
      by None is = refl
      by (Some e) is = ap creations_of (get_put t o (record e { deletions = set.remove e.deletions pod })) ∙ sym (ap creations_of is)

  after_deletions : (pods : List (List ℕ)) (t : Table) → creations_left o (all_lowered (map (deletion_observed o) pods) t) ≡ creations_left o t
  after_deletions [] t = refl
  after_deletions (p ∷ ps) t = after_deletions ps (deleted o p t) ∙ same_left t p

  after_creations : (n : ℕ) (ss : List Observation) (k : ℕ) (t : Table) → ((u : Table) → creations_left o (all_lowered ss u) ≡ creations_left o u)
      → creations_left o t ≡ k → creations_left o (all_lowered (replicate n (creation_observed o) ++ ss) t) ≡ k - n
  after_creations zero ss k t rest is = let all : k ≡ k - 0 = omega arith in rest t ∙ is ∙ all
  after_creations (suc n) ss k t rest is =
      let more : creations_left o (all_lowered (replicate n (creation_observed o) ++ ss) (created o t)) ≡ (k - 1) - n =
      after_creations n ss (k - 1) (created o t) rest (one_less t ∙ ap (λ x. x - 1) is) in
      let less : (k - 1) - n ≡ k - suc n = omega arith in more ∙ less

ended_table : (b : Bool) (t : Turn) (x : Board) → b ≡ false → (cond b (finished t.work_key x) (requeued t.work_key (taken_back t) x)).expected ≡ all_lowered (taken_back t) x.expected
ended_table true t x e = cc
ended_table false t x e = refl

pub undone_no_more : UndoneIsExpectedNoMore
undone_no_more t o b failed_turn some =
    ap (creations_left o) (ended_table (all_accepted t.issues) t b failed_turn ∙ ap (λ x. all_lowered (taken_back_by x (undone t)) b.expected) some)
    ∙ after_creations o (length (filter creates_pod (undone t))) (map (deletion_observed o) (filter_map pod_deleted (undone t))) (creations_left o b.expected) b.expected
    (after_deletions o (filter_map pod_deleted (undone t))) refl

-- ---- the key

same_key : (k : WorkKey) → eq_by_cmp work_key_cmp k k ≡ true
same_key k = (eq_by_cmp_equiv work_key_total).refl k

waits : (b : Bool) (t : Turn) (x : Board) → b ≡ false
    → (let after = cond b (finished t.work_key x) (requeued t.work_key (taken_back t) x) in
    let n = failures t.work_key x.failures in
    (map_of.get after.delays t.work_key ≡ Some (earlier (map_of.get x.delays t.work_key) (x.time + delay_after n))) × (failures t.work_key after.failures ≡ min (n + 1) 32))
waits true t x e = cc
waits false t x e =
    let k = t.work_key in
    let at = earlier (map_of.get x.delays k) (x.time + delay_after (failures k x.failures)) in
    let n = min (failures k x.failures + 1) 32 in (
      get-insert work_key_total x.delays k at k ∙ ap (λ y. cond y (Some at) (map_of.get x.delays k)) (same_key k),
      ap (λ y. unwrap_or y 0) (get-insert work_key_total x.failures k n k ∙ ap (λ y. cond y (Some n) (map_of.get x.failures k)) (same_key k)),
    )

forgets : (b : Bool) (t : Turn) (x : Board) → b ≡ true
    → (let after = cond b (finished t.work_key x) (requeued t.work_key (taken_back t) x) in (failures t.work_key after.failures ≡ 0) × (after.delays ≡ x.delays))
forgets false t x e = cc
forgets true t x e =
    let k = t.work_key in (ap (λ y. unwrap_or y 0) (get-remove work_key_total x.failures k k ∙ ap (λ y. cond y None (map_of.get x.failures k)) (same_key k)), refl)

pub failed_wait : FailedKeysWait
failed_wait = record { it_waits = λ t b e. waits (all_accepted t.issues) t b e; it_is_forgotten = λ t b e. forgets (all_accepted t.issues) t b e }
