-- A key that is to be looked at stays so, or is taken, step by step.
use Rattle.std.proofs.Common.{◌≡◌, ◌⊎◌, inl, inr, ⊎_elim, ℕ, ◌≤◌, ◌<◌, List, [], ◌∷◌, ◌++◌, append-nil, append_assoc, max, cond, is_some, nat_le, refl, sym, ap, ◌∙◌, subst, Bool, true, false, true≢false, ◌||◌, Contains, arith}
use Rattle.std.specs.Prelude.{Option, Some, None}
use Rattle.std.proofs.lemmas.Bool.Decides.{nat_tests}
use Rattle.std.proofs.lemmas.List.Elements.{Contains-append_left, Contains-append_right, Contains-append_cases, Contains-push, Contains-push_cases, at_from_Contains}
use Rattle.std.proofs.lemmas.Map.Views.{Contains-from_any}
use Rattle.std.specs.Cmp.{IsTotalOrder}
use Rattle.std.specs.FinMap as map
use Rattle.std.specs.FinMap.{get-insert}
use Rattle.std.specs.FinSet as set
use Rattle.std.specs.FinSet.{IsAntisymmetric}
use Rattle.std.specs.List.{list_any}
use Rattle.std.specs.Ordering.{eq_by_cmp}
use Rattle.std.specs.declared.cmp.Ordering.{Ordering}
use Rattle.spec_client_go.specs.Delays.{delay_after, earlier}
use Rattle.baton.specs.Marks.{CanHappen}
use Rattle.keyed_queues.specs.Failures.{failures}
use Rattle.keyed_queues.specs.Delays.{KeyDelays, delayed, due, still_delayed}
use Rattle.keyed_queues.specs.QueueLaws as calls
use Rattle.spec_client_go.proofs.DueKeys.{have_come, still_later}
use Rattle.spec_client_go.proofs.KeyQueueRuns.{wanted_is_served, added-wanted, wanted_is_somewhere}
use Rattle.keyed_queues.specs.Queues as queues
use Rattle.keyed_queues.specs.Queues.{KeyQueue, added, added_all, got, handed}
use Rattle.keyed_board.specs.Boards.{KeyBoard, moment_in}
use Rattle.keyed_board.specs.Steps.{Step, add, add_after, take, finish, tick, shut_down, after}
use Rattle.keyed_board.specs.declared.outcome.Outcome.{Outcome}
use Rattle.keyed_board.specs.Patience.{milliseconds_asked}
use Rattle.keyed_board.specs.declared.outcome.Outcome.TheVariants.{Done, LookAgain, Failed}
use Rattle.keyed_board.proofs.Shutting.{added_shut, all_added_shut, got_shut, done_shut}
use Rattle.shared_keyed_board.specs.Histories.{History, board, MayFollow}
use Rattle.shared_keyed_board.specs.Remembered.{Asks, WasTaken, IsRemembered, NothingIsForgotten}
use Rattle.spec_client_go.proofs.KeysInHands as hands
use Rattle.shared_keyed_board.proofs.Standing.{board_more, finished_work, stands}

or_false : (a : Bool) → (a || false) ≡ true → a ≡ true
or_false true e = refl
or_false false e = e

or_cases : (a b : Bool) → (a || b) ≡ true → (a ≡ true) ⊎ (b ≡ true)
or_cases true b e = inl refl
or_cases false b e = inr e

some_is : (o : Option ℕ) → is_some o ≡ true → (n : ℕ) × (o ≡ Some n)
some_is None e = absurd (true≢false (sym e))
some_is (Some n) e = (n, refl)

in_none : {X : Type 0} (x : X) → Contains [] x → ⊥
in_none x c = let a = at_from_Contains [] x c in omega (arith, a.1)

only : {X : Type 0} (y x : X) → Contains (y ∷ []) x → y ≡ x
only y x c = ⊎_elim (λ (n : Contains [] x). absurd (in_none x n)) (λ (is : y ≡ x). is) (Contains-push_cases [] y x c)

has_come_or_not : (at now : ℕ) → (at ≤ now) ⊎ (now < at)
has_come_or_not at now = by (nat_le at now) refl
  where
    by : (b : Bool) → nat_le at now ≡ b → (at ≤ now) ⊎ (now < at)
    by true e = inl (grind (arith, nat_tests))
    by false e = inr (grind (arith, nat_tests))

module _ {N : Type 0} (R : N → N → Ordering) where
  -- ---- the shut-down is for good

  abbrev IsOpen : KeyBoard R → Type 0
  IsOpen b = b.work.is_shut ≡ false

  open_before : (b : KeyBoard R) (e : Step N) → IsOpen (after b e) → IsOpen b
  open_before b (add ks) o = sym (all_added_shut R ks b.work) ∙ o
  open_before b (add_after k n) o = o
  open_before b (take k) o = sym (got_shut R b.work) ∙ o
  open_before b (finish k o) h = sym (ap (λ w. w.is_shut) (finished_work R k o b) ∙ done_shut R k b.work) ∙ h
  open_before b (tick now) o = sym (all_added_shut R (due (max b.time now) b.delays) b.work) ∙ o
  open_before b shut_down o = absurd (true≢false o)

  open_in_front : (h rest : History N) → IsOpen (board R (h ++ rest)) → IsOpen (board R h)
  open_in_front h [] o = subst (λ (g : History N). IsOpen (board R g)) (append-nil h) o
  open_in_front h (x ∷ rest) o =
      open_before (board R h) x.1 (subst IsOpen (board_more R h x.0 x.1) (open_in_front (h ++ x ∷ []) rest (subst (λ (g : History N). IsOpen (board R g)) (sym (append_assoc h (x ∷ []) rest)) o)))

module _ {N : Type 0} (R : N → N → Ordering) (total : IsTotalOrder R) (tells : IsAntisymmetric R) (k : N) where
  -- ---- a key that wants a look

  abbrev Wants : KeyQueue R → Type 0
  Wants w = set.contains w.dirty k ≡ true

  added_wants : (j : N) (w : KeyQueue R) → Wants w → Wants (added j w)
  added_wants j w d = or_false _ (wanted_is_served R total k w (calls.add j ∷ []) d)

  all_added_wants : (ks : List N) (w : KeyQueue R) → Wants w → Wants (added_all ks w)
  all_added_wants [] w d = d
  all_added_wants (j ∷ ks) w d = all_added_wants ks (added j w) (added_wants j w d)

  done_wants : (j : N) (w : KeyQueue R) → Wants w → Wants (queues.done j w)
  done_wants j w d = or_false _ (wanted_is_served R total k w (calls.finish j ∷ []) d)

  got_wants : (j : N) (w : KeyQueue R) → handed w ≡ Some j → Wants w → Wants (got w) ⊎ (j ≡ k)
  got_wants j w is d =
      ⊎_elim (λ (a : set.contains (got w).dirty k ≡ true). inl a) (λ (b : (calls.is_key R k (handed w) || false) ≡ true). inr (sym (hands.tells R total tells k j (sym (ap (calls.is_key R k) is) ∙ or_false _ b))))
      (or_cases _ _ (wanted_is_served R total k w (calls.get ∷ []) d))

  -- a key that is among those that are added wants a look
  added_among : (ks : List N) (w : KeyQueue R) → w.is_shut ≡ false → Contains ks k → Wants (added_all ks w)
  added_among [] w o c = absurd (in_none k c)
  added_among (j ∷ ks) w o c =
      ⊎_elim (λ (a : Contains (j ∷ []) k). all_added_wants ks (added j w) (subst (λ (i : N). set.contains (added j w).dirty i ≡ true) (only j k a) (added-wanted R total j w o)))
      (λ (b : Contains ks k). added_among ks (added j w) (added_shut R j w ∙ o) b) (Contains-append_cases (j ∷ []) ks k c)

  -- ---- a key that is delayed

  abbrev Waits : KeyDelays R → Type 0
  Waits m = map.contains_key m k ≡ true

  put_waits : (j : N) (at : ℕ) (m : KeyDelays R) → Waits m → Waits (delayed j at m)
  put_waits j at m d = ap is_some (get-insert total m j (earlier (map.get m j) at) k) ∙ by (eq_by_cmp R k j)
    where
      by : (b : Bool) → is_some (cond b (Some (earlier (map.get m j) at)) (map.get m k)) ≡ true
      by true = refl
      by false = d

  put_itself : (at : ℕ) (m : KeyDelays R) → Waits (delayed k at m)
  put_itself at m = ap is_some (get-insert total m k (earlier (map.get m k) at) k ∙ ap (λ b. cond b (Some (earlier (map.get m k) at)) (map.get m k)) (hands.same_itself R total tells k))

  -- ---- a key that is still to be looked at

  abbrev IsAwaited : KeyBoard R → Type 0
  IsAwaited b = Wants b.work ⊎ Waits b.delays

  both : (v w : KeyQueue R) (m n : KeyDelays R) → (Wants v → Wants w) → (Waits m → Waits n) → Wants v ⊎ Waits m → Wants w ⊎ Waits n
  both v w m n f g = ⊎_elim (λ (a : Wants v). inl (f a)) (λ (b : Waits m). inr (g b))

  -- time brings a key due, or leaves it delayed
  ticked_waits : (now : ℕ) (w : KeyQueue R) (m : KeyDelays R) → w.is_shut ≡ false → Waits m → Wants (added_all (due now m) w) ⊎ Waits (still_delayed now m)
  ticked_waits now w m o d =
      let at = some_is (map.get m k) d in
      ⊎_elim (λ (come : at.0 ≤ now). inl (added_among (due now m) w o ((have_come R total tells now m k).1 (at.0, at.1, come))))
      (λ (late : now < at.0). inr (ap is_some ((still_later R total tells now m k at.0).1 (at.1, late)))) (has_come_or_not at.0 now)

  finish_awaited : (j : N) (o : Outcome) (b : KeyBoard R) → IsAwaited b → IsAwaited (after b (finish j o))
  finish_awaited j Done b a = both b.work (queues.done j b.work) b.delays b.delays (done_wants j b.work) (λ d. d) a
  finish_awaited j (LookAgain n) b a = both b.work (queues.done j b.work) b.delays (delayed j (moment_in n b) b.delays) (done_wants j b.work) (put_waits j (moment_in n b) b.delays) a
  finish_awaited j (Failed failure) b a =
      let at = moment_in (max (delay_after (failures j b.failures)) (milliseconds_asked failure)) b in both b.work (queues.done j b.work) b.delays (delayed j at b.delays) (done_wants j b.work) (put_waits j at b.delays) a

  step_awaited : (h : History N) (name : ℕ) (e : Step N) → MayFollow R h name e → IsOpen R (board R h) → IsAwaited (board R h) → IsAwaited (after (board R h) e) ⊎ (e ≡ take k)
  step_awaited h name (add ks) may o a = inl (both (board R h).work (added_all ks (board R h).work) (board R h).delays (board R h).delays (all_added_wants ks (board R h).work) (λ d. d) a)
  step_awaited h name (add_after j n) may o a =
      let at = moment_in n (board R h) in inl (both (board R h).work (board R h).work (board R h).delays (delayed j at (board R h).delays) (λ d. d) (put_waits j at (board R h).delays) a)
  step_awaited h name (take j) may o a =
      ⊎_elim
      (λ (d : Wants (board R h).work). ⊎_elim (λ (w : Wants (got (board R h).work)). inl (inl w)) (λ (is : j ≡ k). inr (ap (λ i. take i) is)) (got_wants j (board R h).work may.1 d))
      (λ (d : Waits (board R h).delays). inl (inr d)) a
  step_awaited h name (finish j out) may o a = inl (finish_awaited j out (board R h) a)
  step_awaited h name (tick now) may o a =
      let b = board R h in let t = max b.time now in
      inl (⊎_elim (λ (d : Wants b.work). inl (all_added_wants (due t b.delays) b.work d)) (λ (d : Waits b.delays). ticked_waits t b.work b.delays o d) a)
  step_awaited h name shut_down may o a = inl a

  -- a step that asks for a look
  asked : (b : KeyBoard R) (e : Step N) → Asks k e → IsOpen R b → IsAwaited (after b e)
  asked b (add ks) q o = inl (added_among ks b.work o q)
  asked b (add_after j n) q o = inr (subst (λ (i : N). map.contains_key (delayed i (moment_in n b) b.delays) k ≡ true) (sym q) (put_itself (moment_in n b) b.delays))
  asked b (take j) q o = absurd q
  asked b (finish j Done) q o = absurd q
  asked b (finish j (LookAgain n)) q o = inr (subst (λ (i : N). map.contains_key (delayed i (moment_in n b) b.delays) k ≡ true) (sym q) (put_itself (moment_in n b) b.delays))
  asked b (finish j (Failed failure)) q o =
      inr
      (subst (λ (i : N). map.contains_key (delayed i (moment_in (max (delay_after (failures i b.failures)) (milliseconds_asked failure)) b) b.delays) k ≡ true) (sym q)
      (put_itself (moment_in (max (delay_after (failures k b.failures)) (milliseconds_asked failure)) b) b.delays))
  asked b (tick now) q o = absurd q
  asked b shut_down q o = absurd q

  -- ---- over the rest of a history

  taken_later : (x : ℕ × Step N) (rest : History N) → WasTaken k rest → WasTaken k (x ∷ rest)
  taken_later x rest t = (t.0, Contains-append_right (x ∷ []) rest (t.0, take k) t.1)

  taken_here : (x : ℕ × Step N) (rest : History N) → x.1 ≡ take k → WasTaken k (x ∷ rest)
  taken_here x rest is = (x.0, subst (λ (e : Step N). Contains (x ∷ rest) (x.0, e)) is (Contains-append_left (x ∷ []) rest x (Contains-push [] x)))

  rest_awaited : (h rest : History N) → CanHappen (MayFollow R) (h ++ rest) → IsOpen R (board R (h ++ rest)) → IsAwaited (board R h) → IsAwaited (board R (h ++ rest)) ⊎ WasTaken k rest
  rest_awaited h [] can o a = inl (subst (λ (g : History N). IsAwaited (board R g)) (sym (append-nil h)) a)
  rest_awaited h (x ∷ rest) can o a =
      let is = append_assoc h (x ∷ []) rest in
      ⊎_elim
      (λ (s : IsAwaited (after (board R h) x.1)).
      ⊎_elim (λ (t : IsAwaited (board R ((h ++ x ∷ []) ++ rest))). inl (subst (λ (g : History N). IsAwaited (board R g)) is t)) (λ (t : WasTaken k rest). inr (taken_later x rest t))
      (rest_awaited (h ++ x ∷ []) rest (subst (CanHappen (MayFollow R)) (sym is) can) (subst (λ (g : History N). IsOpen R (board R g)) (sym is) o) (subst IsAwaited (sym (board_more R h x.0 x.1)) s)))
      (λ (s : x.1 ≡ take k). inr (taken_here x rest s)) (step_awaited h x.0 x.1 (can h x.0 x.1 rest refl) (open_in_front R h (x ∷ rest) o) a)

  -- a key that wants a look is queued, or in a hand
  somewhere : (h rest : History N) → CanHappen (MayFollow R) h → Wants (board R h).work → IsRemembered R k h rest
  somewhere h rest can d =
      let s = stands R total tells h can in
      ⊎_elim (λ (q : list_any (eq_by_cmp R k) (board R h).work.queue ≡ true). inl (Contains-from_any (hands.tells R total tells) k (board R h).work.queue q))
      (λ (p : set.contains (board R h).work.processing k ≡ true). let held = s.hands.taken k p in inr (inr (inl (held.0, held.1, d))))
      (or_cases _ _ (wanted_is_somewhere _ _ _ (s.sound.1 k) d))

  remembered : (front rest : History N) (name : ℕ) (e : Step N) → Asks k e → CanHappen (MayFollow R) (front ++ (name, e) ∷ rest) → IsOpen R (board R (front ++ (name, e) ∷ rest)) → IsRemembered R k (front ++ (name, e) ∷ rest) rest
  remembered front rest name e q can o =
      let is = append_assoc front ((name, e) ∷ []) rest in
      ⊎_elim
      (λ (a : IsAwaited (board R ((front ++ (name, e) ∷ []) ++ rest))).
      ⊎_elim (λ (d : Wants (board R (front ++ (name, e) ∷ rest)).work). somewhere (front ++ (name, e) ∷ rest) rest can d) (λ (d : Waits (board R (front ++ (name, e) ∷ rest)).delays). inr (inl d))
      (subst (λ (g : History N). IsAwaited (board R g)) is a))
      (λ (t : WasTaken k rest). inr (inr (inr t)))
      (rest_awaited (front ++ (name, e) ∷ []) rest (subst (CanHappen (MayFollow R)) (sym is) can) (subst (λ (g : History N). IsOpen R (board R g)) (sym is) o)
      (subst IsAwaited (sym (board_more R front name e)) (asked (board R front) e q (open_in_front R front ((name, e) ∷ rest) o))))

module _ {N : Type 0} (R : N → N → Ordering) (total : IsTotalOrder R) (tells : IsAntisymmetric R) where
  pub nothing_forgotten : NothingIsForgotten R
  nothing_forgotten front rest name e k q can o = remembered R total tells k front rest name e q can o
