-- What a pass knows once it has taken the board, and once it has given it back.
use Rattle.std.proofs.Common.{◌≡◌, ◌≢◌, ◌⊎◌, inl, inr, ⊎_elim, ℕ, List, [], ◌∷◌, ◌++◌, append-nil, append_assoc, refl, sym, ap, ◌∙◌, subst, true}
use Rattle.std.specs.Prelude.{Option, Some, None, IfSome, is_some}
use Rattle.std.specs.Cmp.{IsTotalOrder}
use Rattle.std.specs.FinSet.{IsAntisymmetric}
use Rattle.std.specs.declared.cmp.Ordering.{Ordering}
use Rattle.baton.specs.Marks.{StartsWith, entries, made_by, marked, CanHappen}
use Rattle.baton.specs.Passes.{Met, Longer, Taken, given}
use Rattle.baton.proofs.Entries.{happens}
use Rattle.baton.specs.declared.views.Known.{Known}
use Rattle.baton.specs.declared.views.PassView as views
use Rattle.keyed_queues.specs.Queues.{got_from, handed, front}
use Rattle.keyed_board.specs.Boards.{KeyBoard, taken}
use Rattle.keyed_board.specs.Said.{Parts, said}
use Rattle.keyed_board.specs.Steps.{Step}
use Rattle.shared_keyed_board.specs.Calls.{Sight, IsCall, IsLater, HasLooked, HasSeenAll, HaveMet, CallsCanHappen, having_seen}
use Rattle.shared_keyed_board.specs.Entries.{step_told, told, steps_told, latest, IsBegun, Follows}
use Rattle.shared_keyed_board.specs.Histories.{History, board, hand, in_hand, in_hand_after, IsAllowed, MayFollow}
use Rattle.shared_keyed_board.specs.Passes.{sight_of}
use Rattle.shared_keyed_board.specs.declared.entries.BoardEntry.{BoardEntry}
use Rattle.shared_keyed_board.proofs.Standing.{hands_apart, in_hand_snoc}
use Rattle.shared_keyed_board.proofs.Told.{told_later, told_more, steps_more, made_told, told_happened, told_board}

-- ---- the key in hand

module _ {N : Type 0} where
  -- a step leaves the hand as it says
  pub hand_marked : (made : List (Step N)) (name : ℕ) (e : Step N) → in_hand (made ++ entries (marked name (Some e))) ≡ in_hand_after (in_hand made) e
  hand_marked made name e = in_hand_snoc made e

  -- no step leaves it as it was
  pub hand_kept : (made : List (Step N)) (name : ℕ) → in_hand (made ++ entries (marked {E = Step N} name None)) ≡ in_hand made
  hand_kept made name = ap in_hand (append-nil made)

-- a pass is as late as it is
pub later_first : {N : Type 0} (v : Sight N) → IsLater v v
later_first v = record { later = ([], sym (append-nil v.seen)); name = refl; made = refl }

module _ {N : Type 0} (R : N → N → Ordering) where
  -- ---- a whole call

  pub calls : (v w x : Sight N) (change : KeyBoard R → Option (Step N)) (Says : KeyBoard R → Type 0) → HasLooked R v w → Says (board R w.seen) → x ≡ having_seen w w.seen (change (board R w.seen)) → IsCall R v change Says x
  calls v w x change Says t says is = record {
    history = w.seen;
    later = t.later;
    made = t.made;
    happened = t.happened;
    says = says;
    knows = is ∙ (λ i. having_seen (t.same i) w.seen (change (board R w.seen)));
  }

  -- what a pass has seen after a call
  pub calls_happen : CallsCanHappen R
  calls_happen v w h change can made allowed is =
      let may : IfSome change (λ e. MayFollow R h v.name e) = subst (λ (m : List (Step N)). IfSome change (λ e. IsAllowed (in_hand m) (board R h) e)) (sym made) allowed in
      subst (λ (g : History N). CanHappen (MayFollow R) g) (sym (ap (λ z. z.seen) is)) (happens (MayFollow R) h v.name change can may)

  -- a look that makes no step
  pub looks : (v w x : Sight N) (Says : KeyBoard R → Type 0) → HasLooked R v w → Says (board R w.seen) → x ≡ w → IsCall R v (λ b. None) Says x
  looks v w x Says t says is = record {
    history = w.seen;
    later = t.later;
    made = t.made;
    happened = t.happened;
    says = says;
    knows = is ∙ t.same ∙ (λ i. record { name = v.name; seen = sym (append-nil w.seen) i; made = sym (append-nil v.made) i });
  }

  -- a call of which less is said
  pub calls_less : (v x : Sight N) (change other : KeyBoard R → Option (Step N)) (Says Said : KeyBoard R → Type 0) → ((b : KeyBoard R) → Says b → change b ≡ other b) → ((b : KeyBoard R) → Says b → Said b) → IsCall R v change Says x → IsCall R v other Said x
  calls_less v x change other Says Said same less a = record {
    history = a.history;
    later = a.later;
    made = a.made;
    happened = a.happened;
    says = less (board R a.history) a.says;
    knows = a.knows ∙ ap (having_seen v a.history) (same (board R a.history) a.says);
  }

  -- a call after others that made no step
  pub calls_on : (v w x : Sight N) (change : KeyBoard R → Option (Step N)) (Says : KeyBoard R → Type 0) → IsLater v w → IsCall R w change Says x → IsCall R v change Says x
  calls_on v w x change Says a b = record {
    history = b.history;
    later = (a.later.0 ++ b.later.0, b.later.1 ∙ ap (λ h. h ++ b.later.0) a.later.1 ∙ append_assoc v.seen a.later.0 b.later.0);
    made = ap (λ n. made_by n b.history) (sym a.name) ∙ b.made ∙ a.made;
    happened = b.happened;
    says = b.says;
    knows = b.knows
        ∙ (λ i. record { name = a.name i; seen = b.history ++ marked (a.name i) (change (board R b.history)); made = a.made i ++ entries (marked (a.name i) (change (board R b.history))) });
  }

  -- after a call that made no step, the pass has seen more
  pub later_on : (v w x : Sight N) (Says : KeyBoard R → Type 0) → IsLater v w → IsCall R w (λ b. None) Says x → IsLater v x
  later_on v w x Says a b = record {
    later = (
      a.later.0 ++ b.later.0,
      ap (λ s. s.seen) b.knows ∙ append-nil b.history ∙ b.later.1 ∙ ap (λ h. h ++ b.later.0) a.later.1 ∙ append_assoc v.seen a.later.0 b.later.0,
    );
    name = ap (λ s. s.name) b.knows ∙ a.name;
    made = ap (λ s. s.made) b.knows ∙ append-nil w.made ∙ a.made;
  }

  -- ---- the key in hand, after a call

  -- the key in hand is that of the history
  pub hand_is : (v w : Sight N) → HasLooked R v w → hand w.seen w.name ≡ in_hand v.made
  hand_is v w t = ap (λ s. hand w.seen s.name) t.same ∙ ap in_hand t.made

  pub key_after : (v w x : Sight N) (e : Step N) → HasLooked R v w → x ≡ having_seen w w.seen (Some e) → in_hand x.made ≡ in_hand_after (in_hand v.made) e
  key_after v w x e t is = ap (λ s. in_hand s.made) is ∙ hand_marked w.made w.name e ∙ ap (λ s. in_hand_after (in_hand s.made) e) t.same

  pub key_same : (v w x : Sight N) → HasLooked R v w → x ≡ having_seen w w.seen None → in_hand x.made ≡ in_hand v.made
  key_same v w x t is = ap (λ s. in_hand s.made) is ∙ hand_kept w.made w.name ∙ ap (λ s. in_hand s.made) t.same

  pub key_looked : (v w x : Sight N) → HasLooked R v w → x ≡ w → in_hand x.made ≡ in_hand v.made
  key_looked v w x t is = ap (λ s. in_hand s.made) is ∙ ap (λ s. in_hand s.made) t.same

  -- ---- a take

  -- where no key waits, none is taken
  pub taken_none : (b : KeyBoard R) → handed b.work ≡ None → taken b ≡ b
  taken_none b e = by b.work.queue e
    where
      by : (ks : List N) → front ks ≡ None → record b { work = got_from ks b.work } ≡ b
      by [] e = refl
      by (k ∷ ks) e = let e' : Some k ≡ None = e in absurd (cc)

module _ {K N : Type 0} (R : N → N → Ordering) (say : K → N) where
  seen_then : (v w : views.PassView (Parts K) (BoardEntry K)) (x : Parts K) (t : Taken (IsBegun R say) latest (Follows R say) v x w) → w.own.seen ≡ t.history
  seen_then v w x t = ap (λ z. z.own.seen) t.knows

  some_opening : {X : Type 0} (o : Option X) → is_some o ≡ true → (x : X) × (o ≡ Some x)
  some_opening None e = absurd (cc)
  some_opening (Some x) e = (x, refl)

  module _ (v w : views.PassView (Parts K) (BoardEntry K)) (x : Parts K) (t : Taken (IsBegun R say) latest (Follows R say) v x w) where
    -- the pass has learned all that happened
    pub looked : HasLooked R (sight_of say v.own) (sight_of say w.own)
    looked =
        let seen : w.own.seen ≡ t.history = seen_then v w x t in
        record {
          later = subst (λ (h : List (ℕ × BoardEntry K)). StartsWith (told say h) (told say v.own.seen)) (sym seen) (told_later say t.history v.own.seen t.later);
          made = made_told say v.own.name w.own.seen ∙ ap (λ h. steps_told say (made_by v.own.name h)) seen ∙ ap (steps_told say) t.made;
          happened = subst (λ (h : List (ℕ × BoardEntry K)). CanHappen (MayFollow R) (told say h)) (sym seen) (told_happened R say t.history t.happened);
          same = ap (λ z. sight_of say z.own) t.knows ∙ (λ i. record { name = v.own.name; seen = told say (sym seen i); made = steps_told say v.own.made });
        }

    -- the board is the one that the history gives
    pub board_of : is_some v.own.opening ≡ true → said R say x ≡ board R (told say w.own.seen)
    board_of named =
        let o = some_opening v.own.opening named in
        ap (said R say) (t.state o.0 o.1).1 ∙ told_board R say o.0 t.history (t.state o.0 o.1).0 t.happened ∙ ap (λ h. board R (told say h)) (sym (seen_then v w x t))

    pub latest_of : (opening : Parts K) → w.own.opening ≡ Some opening → x ≡ latest opening (entries w.own.seen)
    latest_of opening is = (t.state opening (sym (ap (λ z. z.own.opening) t.knows) ∙ is)).1 ∙ ap (λ h. latest opening (entries h)) (sym (seen_then v w x t))

    pub holds_of : w.own.holds ≡ true
    holds_of = ap (λ z. z.own.holds) t.knows

    pub made_of : made_by w.own.name w.own.seen ≡ w.own.made
    made_of = (λ i. made_by (ap (λ z. z.own.name) t.knows i) (seen_then v w x t i)) ∙ t.made ∙ sym (ap (λ z. z.own.made) t.knows)

    pub happened_of : CanHappen (Follows R say) w.own.seen
    happened_of = subst (λ (h : List (ℕ × BoardEntry K)). CanHappen (Follows R say) h) (sym (seen_then v w x t)) t.happened

  -- ---- a give

  -- a board that is given back without an entry leaves what the pass has seen and made
  pub given_nothing : (v : views.PassView (Parts K) (BoardEntry K)) → sight_of say (given None v).own ≡ sight_of say v.own
  given_nothing v = λ i. record { name = v.own.name; seen = told say (append-nil v.own.seen i); made = steps_told say (append-nil v.own.made i) }

  -- an entry adds the step that it tells
  pub given_entry : (v : views.PassView (Parts K) (BoardEntry K)) (e : BoardEntry K) → sight_of say (given (Some e) v).own ≡ having_seen (sight_of say v.own) (sight_of say v.own).seen (step_told say e)
  given_entry v e = λ i. record { name = v.own.name; seen = told_more say v.own.seen v.own.name e i; made = steps_more say v.own.made e v.own.name i }

  -- two passes that met hold no key both
  pub meet_apart : IsTotalOrder R → IsAntisymmetric R → (v w : Known (Parts K) (BoardEntry K)) → Met (IsBegun R say) latest (Follows R say) v w
      → (k : N) → in_hand (sight_of say v).made ≡ Some k → in_hand (sight_of say w).made ≢ Some k
  meet_apart total tells v w met k a b =
      ⊎_elim (λ (x : Longer (IsBegun R say) latest (Follows R say) v w). met.0 (apart v.seen v.name w.name v.made w.made x.1 x.2 x.3 a b))
      (λ (x : Longer (IsBegun R say) latest (Follows R say) w v). met.0 (apart w.seen v.name w.name v.made w.made x.2 x.1 x.3 a b)) met.1
    where
      apart : (h : List (ℕ × BoardEntry K)) (i j : ℕ) (l m : List (BoardEntry K)) → made_by i h ≡ l → made_by j h ≡ m → CanHappen (Follows R say) h → in_hand (steps_told say l) ≡ Some k → in_hand (steps_told say m) ≡ Some k → i ≡ j
      apart h i j l m li mj can a b =
          (hands_apart R total tells (told say h) (told_happened R say h can)).apart i j k (ap in_hand (made_told say i h ∙ ap (steps_told say) li) ∙ a) (ap in_hand (made_told say j h ∙ ap (steps_told say) mj) ∙ b)

  -- who has seen more has seen all, told
  seen_all : (v w : Known (Parts K) (BoardEntry K)) → Longer (IsBegun R say) latest (Follows R say) v w → HasSeenAll R (sight_of say v) (sight_of say w)
  seen_all v w x = record {
    later = told_later say v.seen w.seen x.0;
    mine = made_told say v.name v.seen ∙ ap (steps_told say) x.1;
    theirs = made_told say w.name v.seen ∙ ap (steps_told say) x.2;
    happened = told_happened R say v.seen x.3;
  }

  -- two passes that met, told
  pub meet_told : (v w : Known (Parts K) (BoardEntry K)) → Met (IsBegun R say) latest (Follows R say) v w → HaveMet R (sight_of say v) (sight_of say w)
  meet_told v w met = (
    met.0,
    ⊎_elim (λ (x : Longer (IsBegun R say) latest (Follows R say) v w). inl (seen_all v w x)) (λ (x : Longer (IsBegun R say) latest (Follows R say) w v). inr (seen_all w v x)) met.1,
  )
