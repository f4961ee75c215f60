-- Each turn is as its steps made it, in their order, and each command that was issued was the next one.
use Rattle.std.proofs.Common.{◌≡◌, ℕ, zero, suc, List, [], ◌∷◌, ◌++◌, map, replicate, true, false, is_some, Option, Some, None, slice_get, slice_set, refl, sym, ap, ◌∙◌, subst, append-nil}
use Rattle.std.specs.List.{AllByRecursion}
use Rattle.std.specs.Option.{IfSome}
use Rattle.spec_api.specs.declared.kinds.Kind.{Kind}
use Rattle.spec_api.specs.Keys.{Key}
use Rattle.spec_server.specs.Snapshots.{Snapshot}
use Rattle.spec_client_go.specs.Commands.{Command}
use Rattle.spec_client_go.specs.Hands.{Read}
use Rattle.spec_client_go.specs.WorkQueues.{WorkKey, handed}
use Rattle.spec_sim.specs.Managers.{Client, Manager, Issued, Action, Delivery, learnt, requested, take_key, carry_out, act, is_satisfied_for}
use Rattle.spec_sim.specs.NextSteps.{Sighting, order, unseen, NextStep, look, ask_satisfied, read, expect, issue, finish, next}
use Rattle.spec_sim.specs.Turns.{Turn, Sight, looked, satisfied, Issue, begun, with_sight, with_read, with_expected, with_issue, asks, commands, expected, all_accepted, left, owner}
use Rattle.sim_worker_laws.specs.IssuedLaws.{IsSeen, sighting_of, commands_of, IsNext}
use Rattle.sim_worker_laws.proofs.Acting.{by_act}
use Rattle.sim_worker_laws.proofs.Lists.{grows, untouched, all_push, all_map}
use Rattle.sim_worker_laws.proofs.Nexts.{Stands, to_look, to_ask, to_read, to_expect, to_issue, to_finish, stands}

-- nothing is expected or issued yet, or all was seen and read
pub data Stage (t : Turn) : Type 0 where
  early : t.issues ≡ [] → t.has_expected ≡ false → Stage t
  late : unseen t ≡ [] → asks t ≡ [] → Stage t

pub record Follows (IsLook : Kind → Snapshot → Type 0) (IsRead : Read → Type 0) (t : Turn) : Type 0 where
  pub order : map sighting_of t.sights ++ unseen t ≡ order t.work_key.controller
  pub looks : AllByRecursion (IsSeen IsLook) t.sights
  pub reads : AllByRecursion IsRead t.reads
  pub done : commands_of t.issues ++ left t ≡ commands t
  pub stage : Stage t

abbrev pub IsWell : (Kind → Snapshot → Type 0) → (Read → Type 0) → Issued → Type 0
IsWell IsLook IsRead i = IsNext IsLook IsRead i.turn i.command

-- all turns, and all that was issued
abbrev pub AllFollow : (Kind → Snapshot → Type 0) → (Read → Type 0) → Manager → Type 0
AllFollow IsLook IsRead m = AllByRecursion (λ o. IfSome o (Follows IsLook IsRead)) m.turns × AllByRecursion (IsWell IsLook IsRead) m.issued

-- ---- places

all_set : (P : Option Turn → Type 0) (n : ℕ) (o : Option Turn) (os : List (Option Turn)) → P o → AllByRecursion P os → AllByRecursion P (slice_set os n o)
all_set P n o [] p h = tt
all_set P zero o (x ∷ os) p h = (p, h.1)
all_set P (suc n) o (x ∷ os) p h = (h.0, all_set P n o os p h.1)

pub at_place : (Q : Turn → Type 0) (n : ℕ) (t : Turn) (os : List (Option Turn)) → slice_get os n ≡ Some (Some t) → AllByRecursion (λ o. IfSome o Q) os → Q t
at_place Q n t [] e a = cc
at_place Q zero t (None ∷ os) e a = cc
at_place Q zero t (Some u ∷ os) e a = let is : u ≡ t = cc in subst Q is a.0
at_place Q (suc n) t (o ∷ os) e a = at_place Q n t os e a.1

-- ---- a weaker meaning

module _ (L M : Kind → Snapshot → Type 0) (R S : Read → Type 0) (f : (k : Kind) (s : Snapshot) → L k s → M k s) (g : (r : Read) → R r → S r) where
  seen_more : (s : Sight) → IsSeen L s → IsSeen M s
  seen_more (looked k s) x = f k s x
  seen_more (satisfied b) x = tt

  pub follows_more : (t : Turn) → Follows L R t → Follows M S t
  follows_more t x =
      record { order = x.order; looks = all_map (IsSeen L) (IsSeen M) seen_more t.sights x.looks; reads = all_map R S g t.reads x.reads; done = x.done; stage = x.stage }

  pub place_more : (o : Option Turn) → IfSome o (Follows L R) → IfSome o (Follows M S)
  place_more None x = tt
  place_more (Some t) x = follows_more t x

  next_more : (i : Issued) → IsWell L R i → IsWell M S i
  next_more i x =
      record {
        seen = x.seen;
        looks = all_map (IsSeen L) (IsSeen M) seen_more i.turn.sights x.looks;
        reads = all_map R S g i.turn.reads x.reads;
        read = x.read;
        expects = x.expects;
        accepted = x.accepted;
        next = x.next;
      }

  pub all_more : (m : Manager) → AllFollow L R m → AllFollow M S m
  all_more m x = (all_map (λ o. IfSome o (Follows L R)) (λ o. IfSome o (Follows M S)) place_more m.turns x.0, all_map (IsWell L R) (IsWell M S) next_more m.issued x.1)

-- ---- an action

module _ (L : Kind → Snapshot → Type 0) (R : Read → Type 0) where
  pub begun_follows : (k : WorkKey) → Follows L R (begun k)
  begun_follows k = record { order = refl; looks = tt; reads = tt; done = refl; stage = early refl refl }

  -- nothing is issued before all is seen and read
  sees_early : (t : Turn) (s : Sighting) (rest : List Sighting) → unseen t ≡ s ∷ rest → Stage t → (t.issues ≡ []) × (t.has_expected ≡ false)
  sees_early t s rest e (early i x) = (i, x)
  sees_early t s rest e (late u a) = cc

  reads_early : (t : Turn) (k : Key) (rest : List Key) → asks t ≡ k ∷ rest → Stage t → (t.issues ≡ []) × (t.has_expected ≡ false)
  reads_early t k rest e (early i x) = (i, x)
  reads_early t k rest e (late u a) = cc

  sight_follows : (t : Turn) (s : Sight) (rest : List Sighting) → unseen t ≡ sighting_of s ∷ rest → IsSeen L s → Follows L R t → Follows L R (with_sight s t)
  sight_follows t s rest e is x =
      let none = sees_early t (sighting_of s) rest e x.stage in
      record {
        order = grows sighting_of t.sights s (order t.work_key.controller) rest x.order e;
        looks = all_push (IsSeen L) t.sights s x.looks is;
        reads = x.reads;
        done = untouched (λ (i : Issue). i.command) t.issues (commands (with_sight s t)) none.0;
        stage = early none.0 none.1;
      }

  read_follows : (t : Turn) (r : Read) (rest : List Key) → asks t ≡ r.key ∷ rest → R r → Follows L R t → Follows L R (with_read r t)
  read_follows t r rest e is x =
      let none = reads_early t r.key rest e x.stage in
      record {
        order = x.order;
        looks = x.looks;
        reads = all_push R t.reads r x.reads is;
        done = untouched (λ (i : Issue). i.command) t.issues (commands (with_read r t)) none.0;
        stage = early none.0 none.1;
      }

  expected_follows : (t : Turn) → unseen t ≡ [] → asks t ≡ [] → Follows L R t → Follows L R (with_expected t)
  expected_follows t u a x = record { order = x.order; looks = x.looks; reads = x.reads; done = x.done; stage = late u a }

  issue_follows : (t : Turn) (i : Issue) (rest : List Command) → unseen t ≡ [] → asks t ≡ [] → left t ≡ i.command ∷ rest → Follows L R t → Follows L R (with_issue i t)
  issue_follows t i rest u a e x =
      record { order = x.order; looks = x.looks; reads = x.reads; done = grows (λ (j : Issue). j.command) t.issues i (commands t) rest x.done e; stage = late u a }

  pub issues_next : (t : Turn) (c : Command) (rest : List Command) → unseen t ≡ [] → asks t ≡ [] → (is_some (expected t) ≡ true → t.has_expected ≡ true) → all_accepted t.issues ≡ true → left t ≡ c ∷ rest
      → Follows L R t → IsNext L R t c
  issues_next t c rest u a expects accepted e x =
      record {
        seen = sym (append-nil (map sighting_of t.sights)) ∙ ap (λ ss. map sighting_of t.sights ++ ss) (sym u) ∙ x.order;
        looks = x.looks;
        reads = x.reads;
        read = a;
        expects = expects;
        accepted = accepted;
        next = (rest, sym x.done ∙ ap (λ cs. commands_of t.issues ++ cs) e);
      }

  module _ (c : Client) (reads : (k : Key) → R (record { key = k; found = c.live k })) where
    goes_on : (w : ℕ) (m : Manager) (t : Turn) (d : Delivery) → ((k : Kind) → L k (c.published k)) → Follows L R t → AllFollow L R m → (n : NextStep) → Stands t n → AllFollow L R (carry_out c w t d n m).manager
    goes_on w m t d looks is all (look k) (to_look _ rest u) =
        (all_set (λ o. IfSome o (Follows L R)) w _ m.turns (sight_follows t (looked k (c.published k)) rest u (looks k) is) all.0, all.1)
    goes_on w m t d looks is all ask_satisfied (to_ask rest u) =
        (all_set (λ o. IfSome o (Follows L R)) w _ m.turns (sight_follows t (satisfied (is_satisfied_for (owner t) m.board)) rest u tt is) all.0, all.1)
    goes_on w m t d looks is all (read k) (to_read _ rest u a) =
        (all_set (λ o. IfSome o (Follows L R)) w _ m.turns (read_follows t (record { key = k; found = c.live k }) rest a (reads k) is) all.0, all.1)
    goes_on w m t d looks is all (expect e) (to_expect _ u a none some) = (all_set (λ o. IfSome o (Follows L R)) w _ m.turns (expected_follows t u a is) all.0, all.1)
    goes_on w m t d looks is all (issue x) (to_issue _ rest u a expects accepted e) =
        let answer = learnt d (c.answer (requested t x)) in (
          all_set (λ o. IfSome o (Follows L R)) w _ m.turns (issue_follows t (record { command = x; answer = answer }) rest u a e is) all.0,
          all_push (IsWell L R) m.issued (record { turn = t; command = x; answer = answer }) all.1 (issues_next t x rest u a expects accepted e is),
        )
    goes_on w m t d looks is all finish to_finish = (all_set (λ o. IfSome o (Follows L R)) w None m.turns tt all.0, all.1)

    takes : (w : ℕ) (m : Manager) (o : Option WorkKey) → AllFollow L R m → AllFollow L R (take_key w o m).manager
    takes w m None all = all
    takes w m (Some k) all = (all_set (λ o. IfSome o (Follows L R)) w (Some (begun k)) m.turns (begun_follows k) all.0, all.1)

    pub act_follows : (w : ℕ) (a : Action) (m : Manager) → ((t : Turn) → slice_get m.turns w ≡ Some (Some t) → (k : Kind) → L k (c.published k)) → AllFollow L R m → AllFollow L R (act c w a m).manager
    act_follows w a m looks all =
        by_act (λ x. AllFollow L R x.manager) c w a m all (λ here synced. takes w m (handed m.board.work) all)
        (λ t d here. goes_on w m t d (looks t here) (at_place (Follows L R) w t m.turns here all.0) all (next t) (stands t))

  pub none_begun : (n : ℕ) → AllByRecursion (λ o. IfSome o (Follows L R)) (replicate n None)
  none_begun zero = tt
  none_begun (suc n) = (tt, none_begun n)

  pub none_restarted : (os : List (Option Turn)) → AllByRecursion (λ o. IfSome o (Follows L R)) (map (λ t. None) os)
  none_restarted [] = tt
  none_restarted (o ∷ os) = (tt, none_restarted os)
