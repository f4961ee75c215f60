-- At rest, what each command of a last turn wrote was published later, by changes that owed its key nothing.
use Rattle.std.proofs.Common.{◌≡◌, ◌≤◌, ◌<◌, ◌+◌, ◌&&◌, ℕ, nat_lt, ltb-true, ltb-false, List, [], ◌∷◌, ◌++◌, Bool, true, false, cond, Some, refl, sym, ap, ◌∙◌, subst, is_eq, slice_get, append_assoc, append-nil, arith, length-append, length}
use mathlib.Core.Bool.{true≢false}
use Rattle.std.proofs.lemmas.Cmp.{tied_itself}
use Rattle.std.specs.List.{AllByRecursion}
use Rattle.spec_api.specs.declared.kinds.Kind.{Kind}
use Rattle.spec_api.specs.Verbs.{Outcome, accept, with_write, history_after}
use Rattle.spec_api.specs.History.{History, Write, write, writes, found, list, present, state}
use Rattle.spec_api.proofs.PutLaws.{name_cmp_total}
use Rattle.spec_server.specs.Snapshots.{Snapshot}
use Rattle.spec_client_go.specs.Commands.{Command}
use Rattle.spec_client_go.specs.Informers.{all_applied}
use Rattle.spec_client_go.specs.Reflectors.{Delta, replace, put, remove, mark, apply_deltas}
use Rattle.spec_client_go.specs.Shifts.{Shift, all_shifts}
use Rattle.spec_client_go.specs.WorkQueues.{WorkKey}
use Rattle.spec_laws.specs.SentLaws.{whole}
use Rattle.spec_laws.proofs.Past.{writes-append, set}
use Rattle.spec_laws.proofs.Runs.{Begins}
use Rattle.spec_sim.specs.declared.initial_syncs.InitialSync.{InitialSync}
use Rattle.spec_sim.specs.Clusters.{history}
use Rattle.spec_sim.specs.ControlPlanes.{ControlPlane, Step, client, after_request, works, opened, step_in, step, run}
use Rattle.spec_sim.specs.Managers as action
use Rattle.spec_sim.specs.Managers.{Client, Manager, Acted, Delivery, delivered, answer_lost, dropped, act, act_in, carry_out, is_for, delivery_of, answer_of, learnt, requested}
use Rattle.spec_sim.specs.NextSteps as next_step
use Rattle.spec_sim.specs.NextSteps.{NextStep, next}
use Rattle.spec_sim.specs.Turns.{Turn, Issue, Answer, is_accepted, all_accepted}
use Rattle.sim_worker_laws.specs.OwedLaws.{NoRestart}
use Rattle.sim_worker_laws.specs.TakeLaws.{HasInHand}
use Rattle.sim_worker_laws.proofs.Growing.{state_stands, present_grows}
use Rattle.sim_worker_laws.proofs.Counting.{by_counted}
use Rattle.sim_rest_laws.specs.Rests.{IsAtRest}
use Rattle.sim_rest_laws.specs.ShiftRunLaws.{members, all_deltas, all_published, NoReplace, Lead, shifts}
use Rattle.sim_rest_laws.specs.TurnRunLaws.{IssuedSince}
use Rattle.sim_rest_laws.specs.LastTurnLaws.{BeganOnce, IsLastTurn, at_take, since_take}
use Rattle.sim_rest_laws.specs.StillLaws.{OwedNothing, ShownIn}
use Rattle.sim_rest_laws.proofs.LastTurns.{settled}
use Rattle.sim_rest_laws.proofs.Shifted.{ascending_deltas, lead_deltas}
use Rattle.sim_rest_laws.proofs.ShiftRuns.{members_run, run_both, none_split, none_later, all_shifts_both, applied_members, shown, shown_run, applied_both, changes_run}
use Rattle.sim_rest_laws.proofs.Still.{all_from, unowed}
use Rattle.sim_rest_laws.proofs.Whole.{begins_at}
use Rattle.sim_rest_plane_laws.specs.PlanePassLaws.{WroteUnowed, LastWritesAreUnowed}
use Rattle.sim_rest_plane_laws.proofs.ReadsLead.{Through, through, all_later, found_in, still_told, at_end, after_is, none_replaced, apply_both, ascending_at, reaches, none_before, all_earlier}

-- ---- what is accepted was delivered

pub delivered_is : (d : Delivery) (o : Outcome) (a : Answer) → a ≡ learnt d o → is_accepted a ≡ true → d ≡ delivered
delivered_is delivered o a e acc = refl
delivered_is answer_lost o a e acc = absurd (true≢false (sym acc ∙ ap is_accepted e))
delivered_is dropped o a e acc = absurd (true≢false (sym acc ∙ ap is_accepted e))

pub all_true : (is : List Issue) → all_accepted is ≡ true → AllByRecursion (λ (i : Issue). is_accepted i.answer ≡ true) is
all_true [] e = tt
all_true (i ∷ is) e = by (is_accepted i.answer) refl e (all_true is)
  where
    by : (b : Bool) → is_accepted i.answer ≡ b → (b && all_accepted is) ≡ true → (all_accepted is ≡ true → AllByRecursion (λ (i : Issue). is_accepted i.answer ≡ true) is)
        → (is_accepted i.answer ≡ true) × AllByRecursion (λ (i : Issue). is_accepted i.answer ≡ true) is
    by true a f rest = (a, rest f)
    by false a f rest = absurd (true≢false (sym f))

all_two : {A : Type 0} (P Q R : A → Type 0) → ((a : A) → P a → Q a → R a) → (xs : List A) → AllByRecursion P xs → AllByRecursion Q xs → AllByRecursion R xs
all_two P Q R f [] a b = tt
all_two P Q R f (x ∷ xs) a b = (f x a.0 b.0, all_two P Q R f xs a.1 b.1)

-- ---- what the server does

issues_act : (c : Client) (w : ℕ) (t : Turn) (x : Command) (m : Manager) → slice_get m.turns w ≡ Some (Some t) → next t ≡ next_step.issue x
    → act c w (action.issue delivered) m ≡ carry_out c w t delivered (next_step.issue x) m
issues_act c w t x m here is =
    ap (λ o. act_in c w (action.issue delivered) o m) here
    ∙ ap (λ n. cond (is_for (action.issue delivered) n) (carry_out c w t (delivery_of (action.issue delivered)) n m) (action.closed m)) is

pub happens : (p : ControlPlane) (w : ℕ) (t : Turn) (x : Command) → HasInHand w t p → next t ≡ next_step.issue x
    → history (step p (works w (action.issue delivered))).plane.cluster ≡ history_after (history p.cluster) (accept (requested t x) (history p.cluster) p.cluster.session.moment)
happens p w t x here is =
    by_counted (λ c m o. history c ≡ history_after (history p.cluster) (accept (requested t x) (history p.cluster) p.cluster.session.moment)) (step_in p (works w (action.issue delivered)))
    (ap (λ (a : Acted). history (after_request a.request p.cluster)) (issues_act (client p.cluster) w t x p.manager here is))

record Between (h : History) (k : Kind) (s : Snapshot) (ds : List Delta) (a b : ℕ) : Type 0 where
  first : List Delta
  middle : List Delta
  last : List Delta
  is : ds ≡ first ++ (middle ++ last)
  from : (all_applied s first).members ≡ list h (whole k) a
  to : (all_applied s (first ++ middle)).members ≡ list h (whole k) b

module _ (window workers : ℕ) (initial : InitialSync) (before after : List Step) (j : WorkKey) (t' : Turn) (once : BeganOnce (run (opened window workers initial) before) after)
    (rest : IsAtRest (run (run (opened window workers initial) before) after)) (z : IsLastTurn (run (opened window workers initial) before) after j t') where
  abbrev u : ControlPlane
  u = opened window workers initial

  abbrev p : ControlPlane
  p = run u before

  abbrev q : ControlPlane
  q = at_take p after j t' z

  abbrev since : List Step
  since = since_take p after j t' z

  abbrev h : History
  h = history (run p after).cluster

  between : (x y : List Step) (k : Kind) (b : ℕ) → since ≡ x ++ y → present (history (run q x).cluster) ≤ b → b ≤ present h
      → Between h k (shown k (run q x)) (all_deltas k (run q x) y) (present (history (run q x).cluster)) b
  between x y k b e low far =
      let s = shown k (run q x) in
      let ds = all_deltas k (run q x) y in
      let t = reaches window workers initial before after j t' once rest z x y k e in
      let none = none_replaced window workers initial before after j t' once rest z x y k e in
      let none_y = (none_split x y (subst NoRestart e z.none)).1 in
      let end : shown k (run p after) ≡ all_applied s ds = ap (shown k) (sym (at_end window workers initial before after j t' once rest z x y e)) ∙ shown_run k (run q x) y none_y in
      by s ds (present (history (run q x).cluster)) t none low end (nat_lt (all_applied s ds).revision b) refl
    where
      by : (s : Snapshot) (ds : List Delta) (a : ℕ) (t : Through h k s ds a) → NoReplace ds → a ≤ b → shown k (run p after) ≡ all_applied s ds → (c : Bool) → nat_lt (all_applied s ds).revision b ≡ c → Between h k s ds a b
      by s ds a t none low end true c =
          let up_to_date = rest.followers k in
          let last = (shown k (run p after)).revision in
          let under : (all_applied s ds).revision < b = ltb-true (all_applied s ds).revision b c in
          let below : last ≤ b = omega (arith, ap (λ (m : Snapshot). m.revision) end, under) in
          let past : list h (whole k) last ≡ list h (whole k) b = still_told h k last b below far up_to_date.told in
          let now : list h (whole k) last ≡ list h (whole k) (present h) = still_told h k last (present h) (omega (arith, below, far)) (omega arith) up_to_date.told in
          record {
            first = t.before;
            middle = t.after;
            last = [];
            is = t.is ∙ ap (λ l. t.before ++ l) (sym (append-nil t.after));
            from = t.reaches;
            to = ap (λ l. (all_applied s l).members) (sym t.is) ∙ ap (λ (m : Snapshot). m.members) (sym end) ∙ up_to_date.shows ∙ sym now ∙ past;
          }
      by s ds a t none low end false c =
          let m = all_applied s t.before in
          let none_after : NoReplace t.after = none_later t.before t.after (subst NoReplace t.is none) in
          let high : b ≤ (all_applied m t.after).revision =
          subst (λ (x : Snapshot). b ≤ x.revision) (ap (all_applied s) t.is ∙ applied_both s t.before t.after) (ltb-false (all_applied s ds).revision b c) in
          let n = through h k b t.after m none_after t.on t.led t.passed (omega (arith, t.low, low)) high in
          record {
            first = t.before;
            middle = n.before;
            last = n.after;
            is = t.is ∙ ap (λ l. t.before ++ l) n.is;
            from = t.reaches;
            to = ap (λ (x : Snapshot). x.members) (applied_both s t.before n.before) ∙ n.reaches;
          }

  -- what a command wrote
  pub wrote : (x y : List Step) (s : Step) (w : Write) → since ≡ x ++ s ∷ y → (let g = history (run q x).cluster in history (step (run q x) s).plane.cluster ≡ g ++ write w ∷ []
      → (ss : List Shift) × (ts : List Shift) × Lead w.key (state g (present g) w.key) ss w.put × Lead w.key w.put ts (state h (present h) w.key)
      × AllByRecursion (OwedNothing j (ShownIn q since)) ss × AllByRecursion (OwedNothing j (ShownIn q since)) ts)
  wrote x y s w e adds =
      let qx = run q x in
      let k = w.key.kind in
      let g = history qx.cluster in
      let g2 = g ++ write w ∷ [] in
      let on : since ≡ (x ++ s ∷ []) ++ y = e ∙ sym (append_assoc x (s ∷ []) y) in
      let b : Begins g h = begins_at window workers initial before after j t' z x (s ∷ y) e in
      let b2 : Begins g2 h =
      subst (λ a. Begins a h) (ap (λ (a : ControlPlane). history a.cluster) (run_both q x (s ∷ [])) ∙ adds) (begins_at window workers initial before after j t' z (x ++ s ∷ []) y on) in
      let one_more : present g2 ≡ present g + 1 = more g w in
      let far : present g + 1 ≤ present h = omega (arith, one_more, present_grows g2 b2.0, ap present b2.1) in
      let bt = between x (s ∷ y) k (present g + 1) e (omega arith) far in
      let ms = members k qx in
      let mid = apply_deltas ms bt.first in
      let ss = all_shifts mid bt.middle in
      let none = subst NoReplace bt.is (none_replaced window workers initial before after j t' once rest z x (s ∷ y) k e) in
      let none_mid = none_before bt.middle bt.last (none_later bt.first (bt.middle ++ bt.last) none) in
      let none_x = (none_split (z.before ++ works z.worker action.take ∷ x) (s ∷ y) (subst NoRestart (after_is window workers initial before after j t' once rest z x (s ∷ y) e) once.none)).0 in
      let none_y = (none_split x (s ∷ y) (subst NoRestart e z.none)).1 in
      let led = lead_deltas w.key bt.middle mid none_mid (ascending_deltas bt.first ms (ascending_at window workers initial before after j t' once rest z x k none_x)) in
      let was : found w.key mid ≡ state g (present g) w.key =
      ap (found w.key) (sym (applied_members (shown k qx) bt.first) ∙ bt.from) ∙ found_in h (present g) w.key ∙ ap (λ a. state a (present g) w.key) b.1 ∙ state_stands g b.0 (present g) w.key (omega arith) in
      let is : found w.key (apply_deltas mid bt.middle) ≡ w.put =
      ap (found w.key) (sym (apply_both window workers initial before after j t' once rest z ms bt.first bt.middle) ∙ sym (applied_members (shown k qx) (bt.first ++ bt.middle)) ∙ bt.to)
      ∙ found_in h (present g + 1) w.key
      ∙ ap (λ a. state a (present g + 1) w.key) b2.1
      ∙ state_stands g2 b2.0 (present g + 1) w.key (omega (arith, one_more))
      ∙ set g w w.key
      ∙ ap (λ c. cond c w.put (state g (present g) w.key)) (ap is_eq (tied_itself name_cmp_total w.key)) in
      let st = settled window workers initial before [] after j t' once rest z in
      let all = all_from (OwedNothing j (ShownIn q since)) (all_published k qx (s ∷ y)) (λ n i. unowed q since j x (s ∷ y) k n e i (st.unowed x (s ∷ y) e k n i)) in
      let next = apply_deltas mid bt.middle in
      let ts = all_shifts next bt.last in
      let parts : shifts (all_published k qx (s ∷ y)) ≡ all_shifts ms bt.first ++ (ss ++ ts) =
      changes_run k qx (s ∷ y) none_y ∙ ap (all_shifts ms) bt.is ∙ all_shifts_both ms bt.first (bt.middle ++ bt.last) ∙ ap (λ l. all_shifts ms bt.first ++ l) (all_shifts_both mid bt.middle bt.last) in
      let owed = all_later (OwedNothing j (ShownIn q since)) (all_shifts ms bt.first) (ss ++ ts) (subst (AllByRecursion (OwedNothing j (ShownIn q since))) parts all) in
      let none_last = none_later bt.middle bt.last (none_later bt.first (bt.middle ++ bt.last) none) in
      let up = ascending_deltas bt.first ms (ascending_at window workers initial before after j t' once rest z x k none_x) in
      let on_led = lead_deltas w.key bt.last next none_last (ascending_deltas bt.middle mid up) in
      let join = apply_both window workers initial before after j t' once rest z in
      let ends : apply_deltas next bt.last ≡ members k (run p after) =
      sym (join mid bt.middle bt.last) ∙ sym (join ms bt.first (bt.middle ++ bt.last)) ∙ ap (apply_deltas ms) (sym bt.is) ∙ sym (members_run k qx (s ∷ y) none_y)
      ∙ ap (members k) (at_end window workers initial before after j t' once rest z x (s ∷ y) e) in
      let is_now : found w.key (apply_deltas next bt.last) ≡ state h (present h) w.key = ap (found w.key) (ends ∙ (rest.followers k).shows) ∙ found_in h (present h) w.key in (
        ss,
        ts,
        subst (λ o. Lead w.key o ss w.put) was (subst (Lead w.key (found w.key mid) ss) is led),
        subst (λ o. Lead w.key o ts (state h (present h) w.key)) is (subst (Lead w.key (found w.key next) ts) is_now on_led),
        all_earlier (OwedNothing j (ShownIn q since)) ss ts owed,
        all_later (OwedNothing j (ShownIn q since)) ss ts owed,
      )
    where
      more : (g : History) (w : Write) → present (g ++ write w ∷ []) ≡ present g + 1
      more g w = let long : length (writes (g ++ write w ∷ [])) ≡ length (writes g) + 1 = ap length (writes-append g (write w ∷ [])) ∙ length-append (writes g) (w ∷ []) in omega (arith, long)

  one_wrote : (i : Issue) → IssuedSince q z.during z.worker j i → is_accepted i.answer ≡ true → WroteUnowed h q since z.worker j i
  one_wrote i s acc =
      let x = s.before in
      let fin = works z.worker action.finish ∷ z.after in
      let qx = run q x in
      let c = qx.cluster in
      let o = accept (requested s.turn i.command) (history c) c.session.moment in
      let answer : i.answer ≡ learnt s.delivery o = ap (λ (n : Issue). n.answer) s.answer in
      let came : s.delivery ≡ delivered = delivered_is s.delivery o i.answer answer acc in
      let issue_step = works z.worker (action.issue delivered) in
      let y = s.after ++ fin in
      let e : since ≡ x ++ issue_step ∷ y =
      ap (λ l. l ++ fin) (s.is ∙ ap (λ d. x ++ works z.worker (action.issue d) ∷ s.after) came) ∙ append_assoc x (issue_step ∷ s.after) fin in
      record {
        before = x;
        after = y;
        turn = s.turn;
        is = e;
        hand = s.hand;
        next = s.next;
        answer = answer ∙ ap (λ d. learnt d o) came;
        leads = λ w wrote_it. wrote x y issue_step w e (happens qx z.worker s.turn i.command s.hand s.next ∙ ap (with_write (history c)) wrote_it);
      }

pub writes_unowed : LastWritesAreUnowed
writes_unowed window workers initial before after j t once rest z =
    all_two (IssuedSince (at_take (run (opened window workers initial) before) after j t z) z.during z.worker j) (λ (i : Issue). is_accepted i.answer ≡ true)
    (WroteUnowed (history (run (run (opened window workers initial) before) after).cluster) (at_take (run (opened window workers initial) before) after j t z) (since_take (run (opened window workers initial) before) after j t z) z.worker j)
    (one_wrote window workers initial before after j t once rest z) t.issues z.since.issued (all_true t.issues z.accepted)
