-- A key that is to be looked at stays so, or is taken, step by step.
use Rattle.std.proofs.Common.{◌≡◌, ◌⊎◌, inl, inr, ⊎_elim, ℕ, ◌+◌, ◌≤◌, ◌<◌, List, [], ◌∷◌, ◌++◌, append-nil, append_assoc, max, cond, is_some, nat_le, refl, sym, ap, ◌∙◌, subst, Bool, true, false, true≢false, if◌then◌else◌, ◌||◌, Contains, arith}
use Rattle.std.specs.Prelude.{Option, Some, None}
use Rattle.std.proofs.lemmas.Bool.Decides.{nat_tests}
use Rattle.std.proofs.lemmas.List.Elements.{Contains-append_left, Contains-append_right, Contains-append_cases, Contains-push, Contains-push_cases, at_from_Contains}
use Rattle.std.proofs.lemmas.Map.Views.{Contains-from_any}
use Rattle.std.specs.FinMap as map
use Rattle.std.specs.FinMap.{get-insert}
use Rattle.std.specs.FinSet as set
use Rattle.std.specs.List.{list_any}
use Rattle.std.specs.Ordering.{eq_by_cmp}
use Rattle.baton.specs.Marks.{CanHappen}
use Rattle.spec_client_go.specs.Boards.{Board, Observation, all_added, may_tick, passed, ticked}
use Rattle.spec_client_go.specs.Delays.{Delays, delay_after, delayed, due, earlier, failures, still_delayed}
use Rattle.spec_client_go.specs.WorkQueues as queues
use Rattle.spec_client_go.specs.WorkQueues.{WorkKey, work_key_cmp, WorkQueue, added, got, handed}
use Rattle.spec_client_go.proofs.KeysInHands as hands
use Rattle.spec_client_go.proofs.WorkKeyOrder.{work_key_total, work_key_tells}
use Rattle.spec_laws.proofs.DueKeys.{have_come, still_later}
use Rattle.spec_laws.proofs.WorkQueueRuns.{wanted_is_served, added-wanted, wanted_is_somewhere}
use Rattle.spec_laws.specs.WorkQueueLaws.{is_key}
use Rattle.control_desk.specs.Hands.{board, MayFollow}
use Rattle.control_desk.specs.Steps.{Step, take, finish, requeue, observe, add, expect_creations, expect_deletions, forget, tick, after}
use Rattle.control_desk.proofs.Standing.{hands_apart}
use Rattle.control_desk_laws.specs.Remembered.{Asks, WasTaken, IsRemembered, NothingIsForgotten}
use Rattle.control_desk_laws.proofs.Steps.{stays_open, stays_sound, board_more}

or_false : (a : Bool) → (a || false) ≡ true → a ≡ true
or_false true e = refl
or_false false e = e

or_cases : (a b : Bool) → (a || b) ≡ true → (a ≡ true) ⊎ (b ≡ true)
or_cases true b e = inl refl
or_cases false b e = inr e

some_is : (o : Option ℕ) → is_some o ≡ true → (n : ℕ) × (o ≡ Some n)
some_is None e = absurd (true≢false (sym e))
some_is (Some n) e = (n, refl)

in_none : {X : Type 0} (x : X) → Contains [] x → ⊥
in_none x c = let a = at_from_Contains [] x c in omega (arith, a.1)

only : {X : Type 0} (y x : X) → Contains (y ∷ []) x → y ≡ x
only y x c = ⊎_elim (λ (n : Contains [] x). absurd (in_none x n)) (λ (is : y ≡ x). is) (Contains-push_cases [] y x c)

has_come_or_not : (at now : ℕ) → (at ≤ now) ⊎ (now < at)
has_come_or_not at now = by (nat_le at now) refl
  where
    by : (b : Bool) → nat_le at now ≡ b → (at ≤ now) ⊎ (now < at)
    by true e = inl (grind (arith, nat_tests))
    by false e = inr (grind (arith, nat_tests))

module _ (k : WorkKey) where
  -- ---- a key that wants a look

  abbrev Wants : WorkQueue → Type 0
  Wants w = set.contains w.dirty k ≡ true

  added_wants : (j : WorkKey) (w : WorkQueue) → Wants w → Wants (added j w)
  added_wants j w d = or_false _ (wanted_is_served k w (queues.add j ∷ []) d)

  all_added_wants : (ks : List WorkKey) (w : WorkQueue) → Wants w → Wants (all_added ks w)
  all_added_wants [] w d = d
  all_added_wants (j ∷ ks) w d = all_added_wants ks (added j w) (added_wants j w d)

  done_wants : (j : WorkKey) (w : WorkQueue) → Wants w → Wants (queues.done j w)
  done_wants j w d = or_false _ (wanted_is_served k w (queues.finish j ∷ []) d)

  got_wants : (j : WorkKey) (w : WorkQueue) → handed w ≡ Some j → Wants w → Wants (got w) ⊎ (j ≡ k)
  got_wants j w is d =
      ⊎_elim (λ (a : set.contains (got w).dirty k ≡ true). inl a)
      (λ (b : (is_key k (handed w) || false) ≡ true). inr (sym (hands.tells work_key_cmp work_key_total work_key_tells k j (sym (ap (is_key k) is) ∙ or_false _ b))))
      (or_cases _ _ (wanted_is_served k w (queues.get ∷ []) d))

  added_shut : (j : WorkKey) (w : WorkQueue) → w.is_shut ≡ false → (added j w).is_shut ≡ false
  added_shut j w o = by (w.is_shut || set.contains w.dirty j)
    where
      by : (b : Bool) → (if b then w else record w { queue = if set.contains w.processing j then w.queue else w.queue ++ j ∷ []; dirty = set.insert w.dirty j }).is_shut ≡ false
      by true = o
      by false = o

  -- a key that is among those that are added wants a look
  added_among : (ks : List WorkKey) (w : WorkQueue) → w.is_shut ≡ false → Contains ks k → Wants (all_added ks w)
  added_among [] w o c = absurd (in_none k c)
  added_among (j ∷ ks) w o c =
      ⊎_elim (λ (a : Contains (j ∷ []) k). all_added_wants ks (added j w) (subst (λ (i : WorkKey). set.contains (added j w).dirty i ≡ true) (only j k a) (added-wanted j w o)))
      (λ (b : Contains ks k). added_among ks (added j w) (added_shut j w o) b) (Contains-append_cases (j ∷ []) ks k c)

  -- ---- a key that is delayed

  abbrev Waits : Delays → Type 0
  Waits m = map.contains_key m k ≡ true

  put_waits : (j : WorkKey) (at : ℕ) (m : Delays) → Waits m → Waits (delayed j at m)
  put_waits j at m d = ap is_some (get-insert work_key_total m j (earlier (map.get m j) at) k) ∙ by (eq_by_cmp work_key_cmp k j)
    where
      by : (b : Bool) → is_some (cond b (Some (earlier (map.get m j) at)) (map.get m k)) ≡ true
      by true = refl
      by false = d

  put_itself : (at : ℕ) (m : Delays) → Waits (delayed k at m)
  put_itself at m =
      ap is_some
      (get-insert work_key_total m k (earlier (map.get m k) at) k ∙ ap (λ b. cond b (Some (earlier (map.get m k) at)) (map.get m k)) (hands.same_itself work_key_cmp work_key_total work_key_tells k))

  -- ---- a key that is still to be looked at

  abbrev IsAwaited : Board → Type 0
  IsAwaited b = Wants b.work ⊎ Waits b.delays

  both : (v w : WorkQueue) (m n : Delays) → (Wants v → Wants w) → (Waits m → Waits n) → Wants v ⊎ Waits m → Wants w ⊎ Waits n
  both v w m n f g = ⊎_elim (λ (a : Wants v). inl (f a)) (λ (b : Waits m). inr (g b))

  -- time brings a key due, or leaves it delayed
  due_waits : (now : ℕ) (w : WorkQueue) (m : Delays) → w.is_shut ≡ false → Waits m → Wants (all_added (due now m) w) ⊎ Waits (still_delayed now m)
  due_waits now w m o d =
      let at = some_is (map.get m k) d in
      ⊎_elim (λ (come : at.0 ≤ now). inl (added_among (due now m) w o ((have_come now m k).1 (at.0, at.1, come)))) (λ (late : now < at.0). inr (ap is_some ((still_later now m k at.0).1 (at.1, late))))
      (has_come_or_not at.0 now)

  ticked_awaited : (n : ℕ) (b : Board) → b.work.is_shut ≡ false → IsAwaited b → IsAwaited (ticked n b)
  ticked_awaited n b o a = by (may_tick n b)
    where
      by : (m : Bool) → IsAwaited (if m then passed (b.time + n) b else b)
      by true = ⊎_elim (λ (d : Wants b.work). inl (all_added_wants (due (b.time + n) b.delays) b.work d)) (λ (d : Waits b.delays). due_waits (b.time + n) b.work b.delays o d) a
      by false = a

  requeued_awaited : (j : WorkKey) (ss : List Observation) (least : ℕ) (b : Board) → IsAwaited b → IsAwaited (after b (requeue j ss least))
  requeued_awaited j ss least b a =
      let at = b.time + max (delay_after (failures j b.failures)) least in both b.work (queues.done j b.work) b.delays (delayed j at b.delays) (done_wants j b.work) (put_waits j at b.delays) a

  step_awaited : (h : List (ℕ × Step)) (name : ℕ) (e : Step) → MayFollow h name e → IsAwaited (board h) → IsAwaited (after (board h) e) ⊎ (e ≡ take k)
  step_awaited h name (take j) may a =
      ⊎_elim
      (λ (d : Wants (board h).work). ⊎_elim (λ (w : Wants (got (board h).work)). inl (inl w)) (λ (is : j ≡ k). inr (ap (λ i. take i) is)) (got_wants j (board h).work may.1.1 d))
      (λ (d : Waits (board h).delays). inl (inr d)) a
  step_awaited h name (finish j) may a = inl (both (board h).work (queues.done j (board h).work) (board h).delays (board h).delays (done_wants j (board h).work) (λ d. d) a)
  step_awaited h name (requeue j ss least) may a = inl (requeued_awaited j ss least (board h) a)
  step_awaited h name (observe kind r ss ks) may a = inl (both (board h).work (all_added ks (board h).work) (board h).delays (board h).delays (all_added_wants ks (board h).work) (λ d. d) a)
  step_awaited h name (add ks) may a = inl (both (board h).work (all_added ks (board h).work) (board h).delays (board h).delays (all_added_wants ks (board h).work) (λ d. d) a)
  step_awaited h name (expect_creations o n) may a = inl a
  step_awaited h name (expect_deletions o pods) may a = inl a
  step_awaited h name (forget j) may a = inl a
  step_awaited h name (tick n) may a = inl (ticked_awaited n (board h) (stays_open h) a)

  -- a step that asks for a look
  asked : (b : Board) (e : Step) → Asks k e → b.work.is_shut ≡ false → IsAwaited (after b e)
  asked b (take j) q o = absurd q
  asked b (finish j) q o = absurd q
  asked b (requeue j ss least) q o =
      inr
      (subst (λ (i : WorkKey). map.contains_key (delayed i (b.time + max (delay_after (failures i b.failures)) least) b.delays) k ≡ true) (sym q)
      (put_itself (b.time + max (delay_after (failures k b.failures)) least) b.delays))
  asked b (observe kind r ss ks) q o = inl (added_among ks b.work o q)
  asked b (add ks) q o = inl (added_among ks b.work o q)
  asked b (expect_creations p n) q o = absurd q
  asked b (expect_deletions p pods) q o = absurd q
  asked b (forget j) q o = absurd q
  asked b (tick n) q o = absurd q

  -- ---- over the rest of a history

  taken_later : (x : ℕ × Step) (rest : List (ℕ × Step)) → WasTaken k rest → WasTaken k (x ∷ rest)
  taken_later x rest t = (t.0, Contains-append_right (x ∷ []) rest (t.0, take k) t.1)

  taken_here : (x : ℕ × Step) (rest : List (ℕ × Step)) → x.1 ≡ take k → WasTaken k (x ∷ rest)
  taken_here x rest is = (x.0, subst (λ (e : Step). Contains (x ∷ rest) (x.0, e)) is (Contains-append_left (x ∷ []) rest x (Contains-push [] x)))

  rest_awaited : (h rest : List (ℕ × Step)) → CanHappen MayFollow (h ++ rest) → IsAwaited (board h) → IsAwaited (board (h ++ rest)) ⊎ WasTaken k rest
  rest_awaited h [] can a = inl (subst (λ (g : List (ℕ × Step)). IsAwaited (board g)) (sym (append-nil h)) a)
  rest_awaited h (x ∷ rest) can a =
      let is = append_assoc h (x ∷ []) rest in
      ⊎_elim
      (λ (s : IsAwaited (after (board h) x.1)).
      ⊎_elim (λ (t : IsAwaited (board ((h ++ x ∷ []) ++ rest))). inl (subst (λ (g : List (ℕ × Step)). IsAwaited (board g)) is t)) (λ (t : WasTaken k rest). inr (taken_later x rest t))
      (rest_awaited (h ++ x ∷ []) rest (subst (CanHappen MayFollow) (sym is) can) (subst IsAwaited (sym (board_more h x.0 x.1)) s)))
      (λ (s : x.1 ≡ take k). inr (taken_here x rest s)) (step_awaited h x.0 x.1 (can h x.0 x.1 rest refl) a)

  -- a key that wants a look is queued, or in a hand
  somewhere : (h rest : List (ℕ × Step)) → CanHappen MayFollow h → Wants (board h).work → IsRemembered k h rest
  somewhere h rest can d =
      ⊎_elim
      (λ (q : list_any (eq_by_cmp work_key_cmp k) (board h).work.queue ≡ true). inl (Contains-from_any (hands.tells work_key_cmp work_key_total work_key_tells) k (board h).work.queue q))
      (λ (p : set.contains (board h).work.processing k ≡ true). let held = (hands_apart h can).taken k p in inr (inr (inl (held.0, held.1, d))))
      (or_cases _ _ (wanted_is_somewhere _ _ _ ((stays_sound h).1 k) d))

  remembered : (before rest : List (ℕ × Step)) (name : ℕ) (e : Step) → Asks k e → CanHappen MayFollow (before ++ (name, e) ∷ rest) → IsRemembered k (before ++ (name, e) ∷ rest) rest
  remembered before rest name e q can =
      let is = append_assoc before ((name, e) ∷ []) rest in
      let all = before ++ (name, e) ∷ rest in
      ⊎_elim
      (λ (a : IsAwaited (board ((before ++ (name, e) ∷ []) ++ rest))).
      ⊎_elim (λ (d : Wants (board all).work). somewhere all rest can d) (λ (d : Waits (board all).delays). inr (inl d)) (subst (λ (g : List (ℕ × Step)). IsAwaited (board g)) is a))
      (λ (t : WasTaken k rest). inr (inr (inr t)))
      (rest_awaited (before ++ (name, e) ∷ []) rest (subst (CanHappen MayFollow) (sym is) can) (subst IsAwaited (sym (board_more before name e)) (asked (board before) e q (stays_open before))))

pub nothing_forgotten : NothingIsForgotten
nothing_forgotten before rest name e k q can = remembered k before rest name e q can
