-- The keys in process are those in hands, step by step.
use Rattle.std.proofs.Common.{◌≡◌, ◌≢◌, ⊎_elim, ℕ, List, [], ◌∷◌, ◌++◌, append-nil, append_assoc, max, refl, sym, ap, ◌∙◌, subst, Bool, true, false, true≢false, ◌||◌, if◌then◌else◌}
use Rattle.std.specs.Prelude.{Option, Some, None}
use Rattle.std.specs.Cmp.{IsTotalOrder}
use Rattle.std.specs.FinSet as set
use Rattle.std.specs.FinSet.{IsAntisymmetric, contains-empty}
use Rattle.std.specs.declared.cmp.Ordering.{Ordering}
use Rattle.baton.specs.Marks.{entries, made_by, CanHappen}
use Rattle.baton.proofs.Entries.{made_here_one, made_else_one, made_none}
use Rattle.keyed_queues.specs.Queues as queues
use Rattle.keyed_queues.specs.Queues.{KeyQueue, added, added_all, got, got_from, handed, front}
use Rattle.keyed_queues.specs.QueueLaws as calls
use Rattle.spec_client_go.proofs.KeyQueueRuns.{IsSound, after-sound, idle-sound, queued_is_free, front_is_queued}
use Rattle.keyed_queues.specs.Delays.{due}
use Rattle.keyed_board.specs.Boards.{KeyBoard, begun}
use Rattle.keyed_board.specs.Steps.{Step, add, add_after, take, finish, tick, shut_down, after, after_all}
use Rattle.keyed_board.specs.declared.outcome.Outcome.{Outcome}
use Rattle.keyed_board.specs.declared.outcome.Outcome.TheVariants.{Done, LookAgain, Failed}
use Rattle.shared_keyed_board.specs.Histories.{History, board, MayFollow, hand, in_hand, in_hand_from, in_hand_after, HandsAreApart}
use Rattle.spec_client_go.specs.KeysInHands.{AreHands}
use Rattle.spec_client_go.proofs.KeysInHands.{same_name, some_same, not_both, kept_hands, taken_hands, emptied_hands}

-- ---- histories

module _ {N : Type 0} where
  in_hand_more : (mine : Option N) (es : List (Step N)) (e : Step N) → in_hand_from mine (es ++ e ∷ []) ≡ in_hand_after (in_hand_from mine es) e
  in_hand_more mine [] e = refl
  in_hand_more mine (x ∷ es) e = in_hand_more (in_hand_after mine x) es e

  pub in_hand_snoc : (es : List (Step N)) (e : Step N) → in_hand (es ++ e ∷ []) ≡ in_hand_after (in_hand es) e
  in_hand_snoc es e = in_hand_more None es e

  pub hand_here : (h : History N) (name : ℕ) (e : Step N) → hand (h ++ (name, e) ∷ []) name ≡ in_hand_after (hand h name) e
  hand_here h name e = ap in_hand (made_here_one name h (Some e)) ∙ in_hand_snoc (made_by name h) e

  pub hand_else : (h : History N) (name : ℕ) (e : Step N) (i : ℕ) → i ≢ name → hand (h ++ (name, e) ∷ []) i ≡ hand h i
  hand_else h name e i apart = ap in_hand (made_else_one i name h (Some e) (λ is. apart (sym is)))

  entries_more : (h : History N) (name : ℕ) (e : Step N) → entries (h ++ (name, e) ∷ []) ≡ entries h ++ e ∷ []
  entries_more [] name e = refl
  entries_more (x ∷ h) name e = ap (λ l. x.1 ∷ l) (entries_more h name e)

  unchanged : (h : History N) (name : ℕ) (e : Step N) → hand (h ++ (name, e) ∷ []) name ≡ hand h name → (i : ℕ) → hand (h ++ (name, e) ∷ []) i ≡ hand h i
  unchanged h name e here i = ⊎_elim (λ (a : i ≡ name). ap (hand (h ++ (name, e) ∷ [])) a ∙ here ∙ ap (hand h) (sym a)) (λ (a : i ≢ name). hand_else h name e i a) (same_name i name)

  no_hands : (i : ℕ) → hand {N = N} [] i ≡ None
  no_hands i = ap in_hand (made_none i)

module _ {N : Type 0} (R : N → N → Ordering) where
  after_more : (b : KeyBoard R) (es : List (Step N)) (e : Step N) → after_all b (es ++ e ∷ []) ≡ after (after_all b es) e
  after_more b [] e = refl
  after_more b (x ∷ es) e = after_more (after b x) es e

  pub board_more : (h : History N) (name : ℕ) (e : Step N) → board R (h ++ (name, e) ∷ []) ≡ after (board R h) e
  board_more h name e = ap (after_all begun) (entries_more h name e) ∙ after_more begun (entries h) e

  -- ---- what steps do to the work

  added_holds : (k : N) (w : KeyQueue R) → (added k w).processing ≡ w.processing
  added_holds k w = by (w.is_shut || set.contains w.dirty k)
    where
      by : (b : Bool) → (if b then w else record w { queue = if set.contains w.processing k then w.queue else w.queue ++ k ∷ []; dirty = set.insert w.dirty k }).processing ≡ w.processing
      by true = refl
      by false = refl

  all_added_holds : (ks : List N) (w : KeyQueue R) → (added_all ks w).processing ≡ w.processing
  all_added_holds [] w = refl
  all_added_holds (k ∷ ks) w = all_added_holds ks (added k w) ∙ added_holds k w

  got_holds : (w : KeyQueue R) (k : N) → handed w ≡ Some k → (got w).processing ≡ set.insert w.processing k
  got_holds w k e = by w.queue e
    where
      by : (ks : List N) → front ks ≡ Some k → (got_from ks w).processing ≡ set.insert w.processing k
      by [] e = let e' : None ≡ Some k = e in absurd (cc)
      by (j ∷ ks) e = ap (set.insert w.processing) (some_same j k (Some j) refl e)

  done_holds : (k : N) (w : KeyQueue R) → set.contains w.processing k ≡ true → (queues.done k w).processing ≡ set.remove w.processing k
  done_holds k w e = ap (λ b. (if b then record w { queue = if set.contains w.dirty k then w.queue ++ k ∷ [] else w.queue; processing = set.remove w.processing k } else w).processing) e

  pub finished_work : (k : N) (o : Outcome) (b : KeyBoard R) → (after b (finish k o)).work ≡ queues.done k b.work
  finished_work k Done b = refl
  finished_work k (LookAgain milliseconds) b = refl
  finished_work k (Failed failure) b = refl

module _ {N : Type 0} (R : N → N → Ordering) (total : IsTotalOrder R) where
  all_added_sound : (ks : List N) (w : KeyQueue R) → IsSound R total w → IsSound R total (added_all ks w)
  all_added_sound [] w s = s
  all_added_sound (k ∷ ks) w s = all_added_sound ks (added k w) (after-sound R total w (calls.add k) s)

  step_sound : (b : KeyBoard R) (e : Step N) → IsSound R total b.work → IsSound R total (after b e).work
  step_sound b (add ks) s = all_added_sound ks b.work s
  step_sound b (add_after k milliseconds) s = s
  step_sound b (take k) s = after-sound R total b.work calls.get s
  step_sound b (finish k o) s = subst (IsSound R total) (sym (finished_work R k o b)) (after-sound R total b.work (calls.finish k) s)
  step_sound b (tick now) s = all_added_sound (due (max b.time now) b.delays) b.work s
  step_sound b shut_down s = after-sound R total b.work calls.shut_down s

-- ---- step by step

module _ {N : Type 0} (R : N → N → Ordering) (total : IsTotalOrder R) (tells : IsAntisymmetric R) where
  pub record IsStanding (h : History N) : Type 0 where
    pub sound : IsSound R total (board R h).work
    pub hands : AreHands (hand h) (board R h).work.processing

  hands_stay : (h : History N) (name : ℕ) (e : Step N) → IsStanding h → hand (h ++ (name, e) ∷ []) name ≡ hand h name → AreHands (hand (h ++ (name, e) ∷ [])) (board R h).work.processing
  hands_stay h name e s here = kept_hands R total tells (hand h) (hand (h ++ (name, e) ∷ [])) (board R h).work.processing s.hands (unchanged h name e here)

  hands_after : (h : History N) (name : ℕ) (e : Step N) → IsStanding h → MayFollow R h name e → AreHands (hand (h ++ (name, e) ∷ [])) (after (board R h) e).work.processing
  hands_after h name (add ks) s may = subst (AreHands (hand (h ++ (name, add ks) ∷ []))) (sym (all_added_holds R ks (board R h).work)) (hands_stay h name (add ks) s (hand_here h name (add ks)))
  hands_after h name (add_after k n) s may = hands_stay h name (add_after k n) s (hand_here h name (add_after k n))
  hands_after h name (take k) s may =
      subst (AreHands (hand (h ++ (name, take k) ∷ []))) (sym (got_holds R (board R h).work k may.1))
      (taken_hands R total tells (hand h) (hand (h ++ (name, take k) ∷ [])) (board R h).work.processing s.hands name k may.0 (hand_here h name (take k)) (hand_else h name (take k))
      (queued_is_free _ _ _ (s.sound.1 k) (front_is_queued R total (board R h).work.queue k may.1)))
  hands_after h name (finish k o) s may =
      subst (AreHands (hand (h ++ (name, finish k o) ∷ []))) (sym (ap (λ w. w.processing) (finished_work R k o (board R h)) ∙ done_holds R k (board R h).work (s.hands.processed name k may)))
      (emptied_hands R total tells (hand h) (hand (h ++ (name, finish k o) ∷ [])) (board R h).work.processing s.hands name k may (hand_here h name (finish k o)) (hand_else h name (finish k o)))
  hands_after h name (tick now) s may =
      subst (AreHands (hand (h ++ (name, tick now) ∷ []))) (sym (all_added_holds R (due (max (board R h).time now) (board R h).delays) (board R h).work)) (hands_stay h name (tick now) s (hand_here h name (tick now)))
  hands_after h name shut_down s may = hands_stay h name shut_down s (hand_here h name shut_down)

  stands_after : (h : History N) (name : ℕ) (e : Step N) → IsStanding h → MayFollow R h name e → IsStanding (h ++ (name, e) ∷ [])
  stands_after h name e s may = record {
    sound = subst (λ (b : KeyBoard R). IsSound R total b.work) (sym (board_more R h name e)) (step_sound R total (board R h) e s.sound);
    hands = subst (λ (b : KeyBoard R). AreHands (hand (h ++ (name, e) ∷ [])) b.work.processing) (sym (board_more R h name e)) (hands_after h name e s may);
  }

  stands_from : (h rest : History N) → IsStanding h → CanHappen (MayFollow R) (h ++ rest) → IsStanding (h ++ rest)
  stands_from h [] s can = subst IsStanding (sym (append-nil h)) s
  stands_from h (x ∷ rest) s can =
      let is = append_assoc h (x ∷ []) rest in
      subst IsStanding is (stands_from (h ++ x ∷ []) rest (stands_after h x.0 x.1 s (can h x.0 x.1 rest refl)) (subst (CanHappen (MayFollow R)) (sym is) can))

  stands_first : IsStanding []
  stands_first = record {
    sound = idle-sound R total;
    hands = record {
      taken = λ k e. absurd (true≢false (sym e ∙ contains-empty R k));
      processed = λ i k e. not_both k (hand [] i) e (no_hands i);
      apart = λ i j k a b. not_both k (hand [] i) a (no_hands i);
    };
  }

  pub stands : (h : History N) → CanHappen (MayFollow R) h → IsStanding h
  stands h can = stands_from [] h stands_first can

  pub hands_apart : HandsAreApart R
  hands_apart h can = (stands h can).hands
