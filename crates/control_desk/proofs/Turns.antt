-- A state that is what a history gives, and a step of a pass that is added to the history.
use Rattle.std.proofs.Common.{◌≡◌, ◌≢◌, ⊎_elim, ℕ, ◌+◌, List, [], ◌∷◌, ◌++◌, length, refl, sym, ap, ◌∙◌, subst, append-nil, true, false, true≢false, Bool, not, ◌&&◌, if◌then◌else◌, arith}
use Rattle.std.specs.Prelude.{Option, Some, None, IfSome, unwrap_or}
use Rattle.std.specs.FinSet as set
use Rattle.std.specs.FinSet.{contains-remove}
use Rattle.baton.specs.Marks.{StartsWith, entries, made_by, marked, CanHappen}
use Rattle.baton.specs.Passes.{Met, Longer, Taken}
use Rattle.baton.specs.declared.views.Known.{Known}
use Rattle.baton.specs.declared.views.PassView as views
use Rattle.spec_client_go.specs.Boards.{Board, Observation, taken}
use Rattle.spec_client_go.specs.WorkQueues as queues
use Rattle.spec_client_go.specs.WorkQueues.{WorkKey, work_key_cmp, WorkQueue, got, got_from, handed, front}
use Rattle.spec_client_go.proofs.WorkKeyOrder.{work_key_total, work_key_tells}
use Rattle.baton.proofs.Entries.{happens}
use Rattle.control_desk.specs.Calls.{IsCall, HasTaken, CallsCanHappen, after_give}
use Rattle.control_desk.specs.Hands.{board, opened, state, IsBegun, MayFollow}
use Rattle.control_desk.specs.Steps.{Step, take, finish, requeue, after, next_state, state_after, is_same, changing, taking, taking_of, in_hand, in_hand_after, IsAllowed}
use Rattle.control_desk.specs.Taken.{after_take}
use Rattle.control_desk.specs.declared.states.WorkState.{WorkState}
use Rattle.spec_client_go.proofs.KeysInHands.{same_itself}
use Rattle.control_desk.proofs.Same.{same_is, differs, apart}
use Rattle.control_desk.proofs.Standing.{hands_apart, done_holds, in_hand_snoc}

-- ---- one step more

changed : (s : WorkState) (e : Step) (name : ℕ) → state_after s (entries (marked name (changing e s))) ≡ next_state s e
changed s e name = by (is_same (next_state s e) s) refl
  where
    by : (r : Bool) → is_same (next_state s e) s ≡ r → state_after s (entries (marked name (if r then None else Some e))) ≡ next_state s e
    by true same = sym (same_is (next_state s e) s same)
    by false same = refl

entries-append : (g h : List (ℕ × Step)) → entries (g ++ h) ≡ entries g ++ entries h
entries-append [] h = refl
entries-append (x ∷ g) h = ap (λ l. x.1 ∷ l) (entries-append g h)

after_more : (s : WorkState) (es fs : List Step) → state_after s (es ++ fs) ≡ state_after (state_after s es) fs
after_more s [] fs = refl
after_more s (x ∷ es) fs = after_more (next_state s x) es fs

some_same : {X : Type 0} (x y : X) (p : Option X) → p ≡ Some x → p ≡ Some y → x ≡ y
some_same x y p a b = ap (λ q. unwrap_or q y) (sym a ∙ b)

-- the state that a pass gives back is the one that its history with the step gives
gives : (h : List (ℕ × Step)) (name : ℕ) (change : Option Step) (t opening : WorkState) (p : Option WorkState) → p ≡ Some opened → t ≡ state_after (state h) (entries (marked name change)) → p ≡ Some opening
    → t ≡ state_after opening (entries (h ++ marked name change))
gives h name change t opening p named is so =
    is ∙ sym (ap (state_after opened) (entries-append h (marked name change)) ∙ after_more opened (entries h) (entries (marked name change)))
    ∙ ap (λ o. state_after o (entries (h ++ marked name change))) (some_same opened opening p named so)

pub gives_step : (h : List (ℕ × Step)) (name : ℕ) (change : Option Step) (e : Step) (s t opening : WorkState) (p : Option WorkState) → p ≡ Some opened → s ≡ state h → t ≡ next_state s e → change ≡ changing e (state h) → p ≡ Some opening
    → t ≡ state_after opening (entries (h ++ marked name change))
gives_step h name change e s t opening p named is done entry so =
    gives h name change t opening p named (done ∙ ap (λ x. next_state x e) is ∙ sym (changed (state h) e name) ∙ ap (λ c. state_after (state h) (entries (marked name c))) (sym entry)) so

-- a step that is allowed may follow, where it changes something
pub follows_step : (h : List (ℕ × Step)) (name : ℕ) (change : Option Step) (e : Step) → IsAllowed (in_hand (made_by name h)) (board h) e → change ≡ changing e (state h) → IfSome change (λ d. MayFollow h name d)
follows_step h name change e allowed entry = subst (λ (c : Option Step). IfSome c (λ d. MayFollow h name d)) (sym entry) (by (is_same (next_state (state h) e) (state h)) refl)
  where
    by : (r : Bool) → is_same (next_state (state h) e) (state h) ≡ r → IfSome (if r then None else Some e) (λ d. MayFollow h name d)
    by true same = tt
    by false same = (apart (next_state (state h) e) (state h) same, allowed)

-- ---- takes

taken_none : (b : Board) → handed b.work ≡ None → taken b ≡ b
taken_none b e = by b.work.queue e
  where
    by : (ks : List WorkKey) → front ks ≡ None → record b { work = got_from ks b.work } ≡ b
    by [] e = refl
    by (k ∷ ks) e = let e' : Some k ≡ None = e in absurd (cc)

shorter : (ks : List WorkKey) (w : WorkQueue) (k : WorkKey) → front ks ≡ Some k → length (got_from ks w).queue + 1 ≡ length ks
shorter [] w k e = let e' : None ≡ Some k = e in absurd (cc)
shorter (j ∷ ks) w k e = omega arith

take_changes : (s : WorkState) (k : WorkKey) → handed s.board.work ≡ Some k → is_same (next_state s (take k)) s ≡ false
take_changes s k e =
    differs (next_state s (take k)) s (λ is. let n : length (got s.board.work).queue ≡ length s.board.work.queue = ap (λ z. length z.board.work.queue) is in let m = shorter s.board.work.queue s.board.work k e in omega (arith, n, m))

took : (s : WorkState) (name : ℕ) → state_after s (entries (marked name (taking s))) ≡ after_take s
took s name = by (handed s.board.work) refl
  where
    by : (o : Option WorkKey) → handed s.board.work ≡ o → state_after s (entries (marked name (taking_of o s))) ≡ after_take s
    by None e = ap (λ (b : Board). record { board = b; handled = s.handled }) (sym (taken_none s.board e))
    by (Some k) e = changed s (take k) name

pub gives_take : (h : List (ℕ × Step)) (name : ℕ) (change : Option Step) (s t opening : WorkState) (p : Option WorkState) → p ≡ Some opened → s ≡ state h → t ≡ after_take s → change ≡ taking (state h) → p ≡ Some opening
    → t ≡ state_after opening (entries (h ++ marked name change))
gives_take h name change s t opening p named is done entry so =
    gives h name change t opening p named (done ∙ ap after_take is ∙ sym (took (state h) name) ∙ ap (λ c. state_after (state h) (entries (marked name c))) (sym entry)) so

-- ---- the key in hand

in_hand_marked : (made : List Step) (name : ℕ) (e : Step) → in_hand (made ++ entries (marked name (Some e))) ≡ in_hand_after (in_hand made) e
in_hand_marked made name e = in_hand_snoc made e

-- a take leaves in hand the key that was next
pub key_is_taken : (s : WorkState) (made : List Step) (name : ℕ) (change : Option Step) (o : Option WorkKey) → in_hand made ≡ None → o ≡ handed s.board.work → change ≡ taking s → in_hand (made ++ entries (marked name change)) ≡ o
key_is_taken s made name change o free next entry = ap (λ c. in_hand (made ++ entries (marked name c))) entry ∙ by (handed s.board.work) refl ∙ sym next
  where
    by : (p : Option WorkKey) → handed s.board.work ≡ p → in_hand (made ++ entries (marked name (taking_of p s))) ≡ p
    by None e = ap in_hand (append-nil made) ∙ free
    by (Some k) e = ap (λ r. in_hand (made ++ entries (marked name (if r then None else Some (take k))))) (take_changes s k e) ∙ in_hand_marked made name (take k)

-- what keeps the hand keeps it whether or not it changes something
pub key_stays : (s : WorkState) (made : List Step) (name : ℕ) (change : Option Step) (e : Step) → ((mine : Option WorkKey) → in_hand_after mine e ≡ mine) → change ≡ changing e s → in_hand (made ++ entries (marked name change)) ≡ in_hand made
key_stays s made name change e keeps entry = ap (λ c. in_hand (made ++ entries (marked name c))) entry ∙ by (is_same (next_state s e) s)
  where
    by : (r : Bool) → in_hand (made ++ entries (marked name (if r then None else Some e))) ≡ in_hand made
    by true = ap in_hand (append-nil made)
    by false = in_hand_marked made name e ∙ keeps (in_hand made)

-- what a pass holds is in process
in_process : (h : List (ℕ × Step)) (name : ℕ) (made : List Step) (k : WorkKey) → CanHappen MayFollow h → made_by name h ≡ made → in_hand made ≡ Some k → set.contains (board h).work.processing k ≡ true
in_process h name made k can is mine = (hands_apart h can).processed name k (ap in_hand is ∙ mine)

removed : (k : WorkKey) (w : WorkQueue) → set.contains w.processing k ≡ true → set.contains (queues.done k w).processing k ≡ false
removed k w e = ap (λ s. set.contains s k) (done_holds k w e) ∙ contains-remove work_key_total w.processing k k ∙ ap (λ b. not b && set.contains w.processing k) (same_itself work_key_cmp work_key_total work_key_tells k)

emptied : (s : WorkState) (made : List Step) (name : ℕ) (change : Option Step) (e : Step) (k : WorkKey) → (after s.board e).work ≡ queues.done k s.board.work → ((mine : Option WorkKey) → in_hand_after mine e ≡ None) → set.contains s.board.work.processing k ≡ true → change ≡ changing e s
    → in_hand (made ++ entries (marked name change)) ≡ None
emptied s made name change e k is drops there entry =
    let apart : is_same (next_state s e) s ≡ false = differs (next_state s e) s (λ same. true≢false (sym there ∙ ap (λ z. set.contains z.board.work.processing k) (sym same) ∙ ap (λ w. set.contains w.processing k) is ∙ removed k s.board.work there)) in
    ap (λ c. in_hand (made ++ entries (marked name c))) entry ∙ ap (λ r. in_hand (made ++ entries (marked name (if r then None else Some e)))) apart ∙ in_hand_marked made name e ∙ drops (in_hand made)

-- who gives its key back holds none
pub key_finished : (h : List (ℕ × Step)) (made : List Step) (name : ℕ) (change : Option Step) (k : WorkKey) → CanHappen MayFollow h → made_by name h ≡ made → in_hand made ≡ Some k → change ≡ changing (finish k) (state h)
    → in_hand (made ++ entries (marked name change)) ≡ None
key_finished h made name change k can is mine entry = emptied (state h) made name change (finish k) k refl (λ m. refl) (in_process h name made k can is mine) entry

pub key_requeued : (h : List (ℕ × Step)) (made : List Step) (name : ℕ) (change : Option Step) (k : WorkKey) (ss : List Observation) (least : ℕ) → CanHappen MayFollow h → made_by name h ≡ made → in_hand made ≡ Some k → change ≡ changing (requeue k ss least) (state h)
    → in_hand (made ++ entries (marked name change)) ≡ None
key_requeued h made name change k ss least can is mine entry = emptied (state h) made name change (requeue k ss least) k refl (λ m. refl) (in_process h name made k can is mine) entry

-- ---- a whole call

pub calls : (v w x : Known WorkState Step) (change : WorkState → Option Step) (Says : WorkState → Type 0) → HasTaken v w → Says (state w.seen) → x ≡ after_give w (change (state w.seen)) → IsCall v change Says x
calls v w x change Says t says is = record {
  history = w.seen;
  later = t.later;
  made = t.made;
  happened = t.happened;
  says = says;
  knows = is ∙ (λ i. after_give (t.same i) (change (state w.seen)))
      ∙ (λ i. record v { seen = w.seen ++ marked v.name (change (state w.seen)); made = v.made ++ entries (marked v.name (change (state w.seen))); holds = sym t.free i });
}

-- what a pass has seen after a call
pub calls_happen : CallsCanHappen
calls_happen v w h change can made allowed is =
    let may : IfSome change (λ e. MayFollow h v.name e) = subst (λ (m : List Step). IfSome change (λ e. (next_state (state h) e ≢ state h) × IsAllowed (in_hand m) (board h) e)) (sym made) allowed in
    subst (λ (g : List (ℕ × Step)). CanHappen MayFollow g) (sym (ap (λ z. z.seen) is)) (happens MayFollow h v.name change can may)

-- two passes that met hold no key both
pub meet_apart : (v w : Known WorkState Step) → Met IsBegun state_after MayFollow v w → (k : WorkKey) → in_hand v.made ≡ Some k → in_hand w.made ≢ Some k
meet_apart v w met k a b =
    ⊎_elim (λ (x : Longer IsBegun state_after MayFollow v w). met.0 ((hands_apart v.seen x.3).apart v.name w.name k (ap in_hand x.1 ∙ a) (ap in_hand x.2 ∙ b)))
    (λ (x : Longer IsBegun state_after MayFollow w v). met.0 ((hands_apart w.seen x.3).apart v.name w.name k (ap in_hand x.2 ∙ a) (ap in_hand x.1 ∙ b))) met.1

-- ---- a take

seen_then : (v w : views.PassView WorkState Step) (x : WorkState) (t : Taken IsBegun state_after MayFollow v x w) → w.own.seen ≡ t.history
seen_then v w x t = ap (λ z. z.own.seen) t.knows

-- what a take tells of the pass
pub taken_by : (v w : views.PassView WorkState Step) (x : WorkState) → Taken IsBegun state_after MayFollow v x w → v.own.holds ≡ false → HasTaken v.own w.own
taken_by v w x t free =
    let seen : w.own.seen ≡ t.history = seen_then v w x t in
    record {
      later = subst (λ (h : List (ℕ × Step)). StartsWith h v.own.seen) (sym seen) t.later;
      made = subst (λ (h : List (ℕ × Step)). made_by v.own.name h ≡ v.own.made) (sym seen) t.made;
      happened = subst (λ (h : List (ℕ × Step)). CanHappen MayFollow h) (sym seen) t.happened;
      same = ap (λ z. z.own) t.knows ∙ (λ i. record v.own { seen = sym seen i; holds = true });
      free = free;
    }

-- and of the state
pub state_of : (v w : views.PassView WorkState Step) (x : WorkState) (t : Taken IsBegun state_after MayFollow v x w) → v.own.opening ≡ Some opened → x ≡ state w.own.seen
state_of v w x t is = (t.state opened is).1 ∙ ap state (sym (seen_then v w x t))
