-- The keys in process are those in hands, step by step.
use Rattle.std.proofs.Common.{◌≡◌, ◌≢◌, ⊎_elim, ℕ, ◌+◌, List, [], ◌∷◌, ◌++◌, append-nil, append_assoc, map as list_map, refl, sym, ap, ◌∙◌, subst, Bool, true, false, true≢false, ◌||◌, if◌then◌else◌}
use Rattle.std.specs.Prelude.{Option, Some, None}
use Rattle.std.specs.FinSet as set
use Rattle.std.specs.FinSet.{contains-empty}
use Rattle.baton.specs.Marks.{entries, made_by, CanHappen}
use Rattle.baton.proofs.Entries.{made_here_one, made_else_one, made_none}
use Rattle.spec_client_go.specs.Boards.{Board, begun, all_added, may_tick, passed, ticked}
use Rattle.spec_client_go.specs.Delays.{due}
use Rattle.spec_client_go.specs.WorkQueues as queues
use Rattle.spec_client_go.specs.WorkQueues.{WorkKey, work_key_cmp, WorkQueue, added, got, got_from, handed, front}
use Rattle.spec_laws.proofs.WorkQueueRuns.{IsSound, after-sound, runs_are_sound, idle-sound, queued_is_free, front_is_queued}
use Rattle.control_desk.specs.Steps.{Step, take, finish, requeue, observe, add, expect_creations, expect_deletions, forget, tick, after, after_steps, in_hand, in_hand_from, in_hand_after}
use Rattle.control_desk.specs.Hands.{board, MayFollow, hand, HandsAreApart}
use Rattle.spec_client_go.proofs.WorkKeyOrder.{work_key_total, work_key_tells}
use Rattle.spec_client_go.specs.KeysInHands.{AreHands}
use Rattle.spec_client_go.proofs.KeysInHands.{same_name, some_same, not_both, kept_hands, taken_hands, emptied_hands}

-- ---- what steps do to the work

added_holds : (k : WorkKey) (w : WorkQueue) → (added k w).processing ≡ w.processing
added_holds k w = by (w.is_shut || set.contains w.dirty k)
  where
    by : (b : Bool) → (if b then w else record w { queue = if set.contains w.processing k then w.queue else w.queue ++ k ∷ []; dirty = set.insert w.dirty k }).processing ≡ w.processing
    by true = refl
    by false = refl

all_added_holds : (ks : List WorkKey) (w : WorkQueue) → (all_added ks w).processing ≡ w.processing
all_added_holds [] w = refl
all_added_holds (k ∷ ks) w = all_added_holds ks (added k w) ∙ added_holds k w

all_added_sound : (ks : List WorkKey) (w : WorkQueue) → IsSound w → IsSound (all_added ks w)
all_added_sound ks w s = runs_are_sound w (list_map queues.add ks) s

step_sound : (b : Board) (e : Step) → IsSound b.work → IsSound (after b e).work
step_sound b (take k) s = after-sound b.work queues.get s
step_sound b (finish k) s = after-sound b.work (queues.finish k) s
step_sound b (requeue k ss least) s = after-sound b.work (queues.finish k) s
step_sound b (observe k r ss ks) s = all_added_sound ks b.work s
step_sound b (add ks) s = all_added_sound ks b.work s
step_sound b (expect_creations o n) s = s
step_sound b (expect_deletions o pods) s = s
step_sound b (forget k) s = s
step_sound b (tick n) s = by (may_tick n b)
  where
    by : (m : Bool) → IsSound (if m then passed (b.time + n) b else b).work
    by true = all_added_sound (due (b.time + n) b.delays) b.work s
    by false = s

-- time adds keys, and takes none
ticked_holds : (n : ℕ) (b : Board) → (ticked n b).work.processing ≡ b.work.processing
ticked_holds n b = by (may_tick n b)
  where
    by : (m : Bool) → (if m then passed (b.time + n) b else b).work.processing ≡ b.work.processing
    by true = all_added_holds (due (b.time + n) b.delays) b.work
    by false = refl

got_holds : (w : WorkQueue) (k : WorkKey) → handed w ≡ Some k → (got w).processing ≡ set.insert w.processing k
got_holds w k e = by w.queue e
  where
    by : (ks : List WorkKey) → front ks ≡ Some k → (got_from ks w).processing ≡ set.insert w.processing k
    by [] e = let e' : None ≡ Some k = e in absurd (cc)
    by (j ∷ ks) e = ap (set.insert w.processing) (some_same j k (Some j) refl e)

pub done_holds : (k : WorkKey) (w : WorkQueue) → set.contains w.processing k ≡ true → (queues.done k w).processing ≡ set.remove w.processing k
done_holds k w e = ap (λ b. (if b then record w { queue = if set.contains w.dirty k then w.queue ++ k ∷ [] else w.queue; processing = set.remove w.processing k } else w).processing) e

-- ---- histories

in_hand_more : (mine : Option WorkKey) (es : List Step) (e : Step) → in_hand_from mine (es ++ e ∷ []) ≡ in_hand_after (in_hand_from mine es) e
in_hand_more mine [] e = refl
in_hand_more mine (x ∷ es) e = in_hand_more (in_hand_after mine x) es e

pub in_hand_snoc : (es : List Step) (e : Step) → in_hand (es ++ e ∷ []) ≡ in_hand_after (in_hand es) e
in_hand_snoc es e = in_hand_more None es e

hand_here : (h : List (ℕ × Step)) (name : ℕ) (e : Step) → hand (h ++ (name, e) ∷ []) name ≡ in_hand_after (hand h name) e
hand_here h name e = ap in_hand (made_here_one name h (Some e)) ∙ in_hand_snoc (made_by name h) e

hand_else : (h : List (ℕ × Step)) (name : ℕ) (e : Step) (i : ℕ) → i ≢ name → hand (h ++ (name, e) ∷ []) i ≡ hand h i
hand_else h name e i apart = ap in_hand (made_else_one i name h (Some e) (λ is. apart (sym is)))

after_more : (b : Board) (es : List Step) (e : Step) → after_steps b (es ++ e ∷ []) ≡ after (after_steps b es) e
after_more b [] e = refl
after_more b (x ∷ es) e = after_more (after b x) es e

entries_more : (h : List (ℕ × Step)) (name : ℕ) (e : Step) → entries (h ++ (name, e) ∷ []) ≡ entries h ++ e ∷ []
entries_more [] name e = refl
entries_more (x ∷ h) name e = ap (λ l. x.1 ∷ l) (entries_more h name e)

board_more : (h : List (ℕ × Step)) (name : ℕ) (e : Step) → board (h ++ (name, e) ∷ []) ≡ after (board h) e
board_more h name e = ap (after_steps begun) (entries_more h name e) ∙ after_more begun (entries h) e

-- ---- step by step

record IsStanding (h : List (ℕ × Step)) : Type 0 where
  pub sound : IsSound (board h).work
  pub hands : AreHands (hand h) (board h).work.processing

unchanged : (h : List (ℕ × Step)) (name : ℕ) (e : Step) → hand (h ++ (name, e) ∷ []) name ≡ hand h name → (i : ℕ) → hand (h ++ (name, e) ∷ []) i ≡ hand h i
unchanged h name e here i = ⊎_elim (λ (a : i ≡ name). ap (hand (h ++ (name, e) ∷ [])) a ∙ here ∙ ap (hand h) (sym a)) (λ (a : i ≢ name). hand_else h name e i a) (same_name i name)

hands_stay : (h : List (ℕ × Step)) (name : ℕ) (e : Step) → IsStanding h → hand (h ++ (name, e) ∷ []) name ≡ hand h name → AreHands (hand (h ++ (name, e) ∷ [])) (board h).work.processing
hands_stay h name e s here = kept_hands work_key_cmp work_key_total work_key_tells (hand h) (hand (h ++ (name, e) ∷ [])) (board h).work.processing s.hands (unchanged h name e here)

hands_after : (h : List (ℕ × Step)) (name : ℕ) (e : Step) → IsStanding h → MayFollow h name e → AreHands (hand (h ++ (name, e) ∷ [])) (after (board h) e).work.processing
hands_after h name (take k) s may =
    subst (AreHands (hand (h ++ (name, take k) ∷ []))) (sym (got_holds (board h).work k may.1.1))
    (taken_hands work_key_cmp work_key_total work_key_tells (hand h) (hand (h ++ (name, take k) ∷ [])) (board h).work.processing s.hands name k may.1.0 (hand_here h name (take k)) (hand_else h name (take k))
    (queued_is_free _ _ _ (s.sound.1 k) (front_is_queued _ k may.1.1)))
hands_after h name (finish k) s may =
    subst (AreHands (hand (h ++ (name, finish k) ∷ []))) (sym (done_holds k (board h).work (s.hands.processed name k may.1)))
    (emptied_hands work_key_cmp work_key_total work_key_tells (hand h) (hand (h ++ (name, finish k) ∷ [])) (board h).work.processing s.hands name k may.1 (hand_here h name (finish k)) (hand_else h name (finish k)))
hands_after h name (requeue k ss least) s may =
    subst (AreHands (hand (h ++ (name, requeue k ss least) ∷ []))) (sym (done_holds k (board h).work (s.hands.processed name k may.1)))
    (emptied_hands work_key_cmp work_key_total work_key_tells (hand h) (hand (h ++ (name, requeue k ss least) ∷ [])) (board h).work.processing s.hands name k may.1 (hand_here h name (requeue k ss least)) (hand_else h name (requeue k ss least)))
hands_after h name (observe k r ss ks) s may =
    subst (AreHands (hand (h ++ (name, observe k r ss ks) ∷ []))) (sym (all_added_holds ks (board h).work)) (hands_stay h name (observe k r ss ks) s (hand_here h name (observe k r ss ks)))
hands_after h name (add ks) s may =
    subst (AreHands (hand (h ++ (name, add ks) ∷ []))) (sym (all_added_holds ks (board h).work)) (hands_stay h name (add ks) s (hand_here h name (add ks)))
hands_after h name (expect_creations o n) s may = hands_stay h name (expect_creations o n) s (hand_here h name (expect_creations o n))
hands_after h name (expect_deletions o pods) s may = hands_stay h name (expect_deletions o pods) s (hand_here h name (expect_deletions o pods))
hands_after h name (forget k) s may = hands_stay h name (forget k) s (hand_here h name (forget k))
hands_after h name (tick n) s may =
    subst (AreHands (hand (h ++ (name, tick n) ∷ []))) (sym (ticked_holds n (board h))) (hands_stay h name (tick n) s (hand_here h name (tick n)))

stands_after : (h : List (ℕ × Step)) (name : ℕ) (e : Step) → IsStanding h → MayFollow h name e → IsStanding (h ++ (name, e) ∷ [])
stands_after h name e s may = record {
  sound = subst (λ (b : Board). IsSound b.work) (sym (board_more h name e)) (step_sound (board h) e s.sound);
  hands = subst (λ (b : Board). AreHands (hand (h ++ (name, e) ∷ [])) b.work.processing) (sym (board_more h name e)) (hands_after h name e s may);
}

stands_from : (h rest : List (ℕ × Step)) → IsStanding h → CanHappen MayFollow (h ++ rest) → IsStanding (h ++ rest)
stands_from h [] s can = subst IsStanding (sym (append-nil h)) s
stands_from h (x ∷ rest) s can =
    let is = append_assoc h (x ∷ []) rest in
    subst IsStanding is (stands_from (h ++ x ∷ []) rest (stands_after h x.0 x.1 s (can h x.0 x.1 rest refl)) (subst (CanHappen MayFollow) (sym is) can))

no_hands : (i : ℕ) → hand [] i ≡ None
no_hands i = ap in_hand (made_none i)

stands_first : IsStanding []
stands_first = record {
  sound = idle-sound;
  hands = record {
    taken = λ k e. absurd (true≢false (sym e ∙ contains-empty work_key_cmp k));
    processed = λ i k e. not_both k (hand [] i) e (no_hands i);
    apart = λ i j k a b. not_both k (hand [] i) a (no_hands i);
  };
}

pub hands_apart : HandsAreApart
hands_apart h can = (stands_from [] h stands_first can).hands
