-- From its take to its end: what is looked at, read and issued in a turn comes after the take.
use Rattle.std.proofs.Common.{◌≡◌, ℕ, List, [], ◌∷◌, ◌++◌, Bool, true, false, Option, Some, None, IfSome, option_map, slice_get, refl, sym, ap, ◌∙◌, subst, append_assoc, append-nil}
use Rattle.std.specs.Option.{option_or, unwrap_or}
use Rattle.spec_api.specs.declared.kinds.Kind.{Kind}
use Rattle.spec_api.specs.History.{present, state}
use Rattle.spec_api.specs.Keys.{Key}
use Rattle.spec_server.specs.Snapshots.{Snapshot}
use Rattle.spec_client_go.specs.Commands.{Command}
use Rattle.spec_client_go.specs.Hands.{Read}
use Rattle.spec_client_go.specs.WorkQueues.{WorkKey}
use Rattle.spec_sim.specs.Clusters.{history, follower}
use Rattle.spec_sim.specs.ControlPlanes.{ControlPlane, Step, works, step, run}
use Rattle.spec_sim.specs.Managers as action
use Rattle.spec_sim.specs.Managers.{is_satisfied_for}
use Rattle.spec_sim.specs.NextSteps as next_step
use Rattle.spec_sim.specs.NextSteps.{NextStep, Sighting, of_kind, of_expectations, unseen, seeing, first, expecting, issuing, next}
use Rattle.spec_sim.specs.Turns.{Turn, Sight, looked, satisfied, Issue, Expected, begun, asks as asked, expected, all_accepted, left, owner}
use Rattle.sim_worker_laws.specs.IssuedLaws.{IsSeen}
use Rattle.sim_worker_laws.specs.OwedLaws.{NoRestart}
use Rattle.sim_worker_laws.specs.TakeLaws.{HasInHand}
use Rattle.sim_worker_laws.proofs.IssuedRuns.{run_one}
use Rattle.sim_worker_laws.proofs.Lists.{all_push, all_map}
use Rattle.sim_worker_laws.proofs.Owed.{first_of_none}
use Rattle.sim_rest_laws.specs.TurnRunLaws.{issue_of, Becomes, stays, looks, asks, reads, expects, issues, ends, ShownSince, ThereSince, IssuedSince, IsSince, Goes, goes_on, has_ended, TurnsGoFromTheirTake}
use Rattle.sim_rest_laws.proofs.TurnSteps.{turns_go}

-- ---- one step more

module _ (q : ControlPlane) (x : List Step) (s : Step) where
  abbrev more : List Step
  more = x ++ s ∷ []

  longer : (a b : List Step) → x ≡ a ++ b → more ≡ a ++ (b ++ s ∷ [])
  longer a b e = ap (λ l. l ++ s ∷ []) e ∙ append_assoc a b (s ∷ [])

  shown_more : (k : Kind) (l : Snapshot) → ShownSince q x k l → ShownSince q more k l
  shown_more k l y = (y.0, y.1 ++ s ∷ [], longer y.0 y.1 y.2, y.3)

  sight_more : (z : Sight) → IsSeen (ShownSince q x) z → IsSeen (ShownSince q more) z
  sight_more (looked k l) y = shown_more k l y
  sight_more (satisfied b) y = tt

  there_more : (r : Read) → ThereSince q x r → ThereSince q more r
  there_more r y = (y.0, y.1 ++ s ∷ [], longer y.0 y.1 y.2, y.3)

  issued_more : (w : ℕ) (j : WorkKey) (i : Issue) → IssuedSince q x w j i → IssuedSince q more w j i
  issued_more w j i y =
      record {
        before = y.before;
        after = y.after ++ s ∷ [];
        turn = y.turn;
        delivery = y.delivery;
        is = longer y.before (works w (action.issue y.delivery) ∷ y.after) y.is;
        hand = y.hand;
        next = y.next;
        answer = y.answer;
        key = y.key;
        looks = y.looks;
        reads = y.reads;
      }

  since_more : (w : ℕ) (j : WorkKey) (t : Turn) → IsSince q x w j t → IsSince q more w j t
  unfolding issued_more
  since_more w j t y =
      record {
        key = y.key;
        looks = all_map (IsSeen (ShownSince q x)) (IsSeen (ShownSince q more)) sight_more t.sights y.looks;
        reads = all_map (ThereSince q x) (ThereSince q more) there_more t.reads y.reads;
        issued = all_map (IssuedSince q x w j) (IssuedSince q more w j) (issued_more w j) t.issues y.issued;
        first = λ i is e. let s = y.first i is e in (issued_more w j i s.0, s.1);
      }

  -- at the point of this step
  here_now : more ≡ x ++ (s ∷ [])
  here_now = refl

  on : (w : ℕ) (j : WorkKey) (t : Turn) (o : Option Turn) → HasInHand w t (run q x) → Becomes (run q x) s w t o → IsSince q x w j t → IfSome o (IsSince q more w j)
  on w j t o here stays y = since_more w j t y
  on w j t o here (looks k n) y =
      let z = since_more w j t y in
      record { key = z.key; looks = all_push (IsSeen (ShownSince q more)) t.sights (looked k (follower k (run q x).cluster).informer.published) z.looks (x, s ∷ [], here_now, refl); reads = z.reads; issued = z.issued; first = z.first }
  on w j t o here (asks n) y =
      let z = since_more w j t y in record { key = z.key; looks = all_push (IsSeen (ShownSince q more)) t.sights (satisfied (is_satisfied_for (owner t) (run q x).manager.board)) z.looks tt; reads = z.reads; issued = z.issued; first = z.first }
  on w j t o here (reads k n) y =
      let z = since_more w j t y in
      record { key = z.key; looks = z.looks; reads = all_push (ThereSince q more) t.reads (record { key = k; found = state (history (run q x).cluster) (present (history (run q x).cluster)) k }) z.reads (x, s ∷ [], here_now, refl); issued = z.issued; first = z.first }
  on w j t o here (expects e n) y = let z = since_more w j t y in record { key = z.key; looks = z.looks; reads = z.reads; issued = z.issued; first = z.first }
  on w j t o here (issues c d is n) y =
      let z = since_more w j t y in
      record {
        key = z.key;
        looks = z.looks;
        reads = z.reads;
        issued = all_push (IssuedSince q more w j) t.issues (issue_of (run q x) t c d) z.issued (record { before = x; after = []; turn = t; delivery = d; is = ap (λ l. x ++ l ∷ []) is; hand = here; next = n; answer = refl; key = y.key; looks = y.looks; reads = y.reads });
        first = λ i js e. first_of t.issues refl i js e;
      }
    where
      head : {A : Type 0} (a b : A) (as' bs : List A) → a ∷ as' ≡ b ∷ bs → a ≡ b
      head a b as' bs e = cc

      first_of : (ks : List Issue) → t.issues ≡ ks → (i : Issue) (js : List Issue) → ks ++ issue_of (run q x) t c d ∷ [] ≡ i ∷ js → (s : IssuedSince q more w j i) × (s.turn.issues ≡ [])
      first_of [] none i js e =
          subst (λ (a : Issue). (s : IssuedSince q more w j a) × (s.turn.issues ≡ [])) (head (issue_of (run q x) t c d) i [] js e) ((record { before = x; after = []; turn = t; delivery = d; is = ap (λ l. x ++ l ∷ []) is; hand = here; next = n; answer = refl; key = y.key; looks = y.looks; reads = y.reads }), none)
      first_of (k ∷ ks) all i js e =
          subst (λ (a : Issue). (s : IssuedSince q more w j a) × (s.turn.issues ≡ [])) (head k i (ks ++ issue_of (run q x) t c d ∷ []) js e) ((since_more w j t y).first k ks all)
  on w j t o here (ends is n) y = tt

-- ---- all steps

module _ (q : ControlPlane) (w : ℕ) (j : WorkKey) where
  goes : (x ss : List Step) (t : Turn) → HasInHand w t (run q x) → IsSince q x w j t → NoRestart ss → Goes q (x ++ ss) w j
  goes x [] t here since none = subst (λ l. Goes q l w j) (sym (append-nil x)) (goes_on t here since)
  goes x (s ∷ ss) t here since none =
      let two = first_of_none s ss none in
      let b = turns_go (run q x) s w t two.0 here in
      by b.0 b.1 b.2
      (λ u at is. subst (λ l. Goes q l w j) (append_assoc x (s ∷ []) ss) (goes (x ++ s ∷ []) ss u (ap (λ (r : ControlPlane). slice_get r.manager.turns w) (run_one q x s) ∙ at) is two.1))
    where
      ended : Becomes (run q x) s w t None → Goes q (x ++ s ∷ ss) w j
      ended (ends is n) = has_ended x ss t (ap (λ z. x ++ z ∷ ss) is) here n since

      by : (o : Option Turn) → slice_get (step (run q x) s).plane.manager.turns w ≡ Some o → Becomes (run q x) s w t o
          → ((u : Turn) → slice_get (step (run q x) s).plane.manager.turns w ≡ Some (Some u) → IsSince q (x ++ s ∷ []) w j u → Goes q (x ++ s ∷ ss) w j)
          → Goes q (x ++ s ∷ ss) w j
      by (Some u) at b then = then u at (on q x s w j t (Some u) here b since)
      by None at b then = ended b

pub from_take : TurnsGoFromTheirTake
from_take q steps w j here none = goes q w j [] steps (begun j) here (record { key = refl; looks = tt; reads = tt; issued = tt; first = λ i is e. absurd (not_none i is e) }) none
  where
    not_none : (i : Issue) (is : List Issue) → [] ≡ i ∷ is → ⊥
    not_none i is e = cc

-- ---- at the end

ended_with : (ss : List Sighting) (ks : List Key) (e : Option Expected) (b : Bool) (xs : List Command)
    → unwrap_or (option_or (option_map seeing (first ss)) (option_or (option_map next_step.read (first ks)) (option_or (option_map next_step.expect e) (option_map next_step.issue (issuing b xs))))) next_step.finish ≡ next_step.finish
    → b ≡ true → (ss ≡ []) × (ks ≡ []) × (xs ≡ [])
ended_with (of_kind k ∷ ss) ks e b xs h is = cc
ended_with (of_expectations ∷ ss) ks e b xs h is = cc
ended_with [] (k ∷ ks) e b xs h is = cc
ended_with [] [] (Some e) b xs h is = cc
ended_with [] [] None false xs h is = cc
ended_with [] [] None true (x ∷ xs) h is = cc
ended_with [] [] None true [] h is = (refl, refl, refl)

-- a turn that ends, and in which all was accepted, has seen, read and issued all
pub all_done : (t : Turn) → next t ≡ next_step.finish → all_accepted t.issues ≡ true → (unseen t ≡ []) × (asked t ≡ []) × (left t ≡ [])
all_done t n is = ended_with (unseen t) (asked t) (expecting t.has_expected (expected t)) (all_accepted t.issues) (left t) n is
