-- Changes that are handled and keys that are added, while others work at the board too.
use Rattle.std.proofs.Common.{◌≡◌, ◌++◌, ℕ, List, [], ◌∷◌, take, drop, refl, sym, ap, ◌∙◌, subst, append_assoc, append-nil}
use Rattle.std.proofs.lemmas.Grind.{flat_map-append}
use Rattle.std.proofs.lemmas.List.{take-append-drop, append_cancel_right}
use Rattle.baton.specs.declared.views.Known.{Known}
use Rattle.spec_client_go.specs.Shifts.{Shift}
use Rattle.spec_client_go.specs.WorkQueues.{WorkKey}
use Rattle.spec_server.specs.Snapshots.{Snapshot}
use Rattle.control_desk.specs.Steps.{Step}
use Rattle.control_desk.specs.declared.states.WorkState.{WorkState}
use Rattle.object_keys.specs.declared.per_kind.PerKind.{PerKind}
use Rattle.manager.specs.Handled.{HasWaited, Handles, AddsPieces, joined}
use Rattle.manager.specs.Told.{AreHandled, AreAddedIn, AreAdded, Given, IsHandled, AreAllHandled}
use Rattle.manager.specs.declared.origins.Origin.{Origin}
use Rattle.manager.proofs.Calls.{waited_on}

pub not_waited : (v : Known WorkState Step) → HasWaited v v
not_waited v = (([], sym (append-nil v.seen)), refl)

-- ---- changes

pub waits_handled : (origin : Origin) (maps : PerKind Snapshot) (ss : List Shift) (u v w : Known WorkState Step) → HasWaited u v → AreHandled origin maps ss v w → AreHandled origin maps ss u w
waits_handled origin maps [] u v w wait h = waited_on u v w wait h
waits_handled origin maps (s ∷ ss) u v w wait (b, a, first, call, rest) = (b, a, waited_on u v b wait first, call, rest)

pub handled_waits : (origin : Origin) (maps : PerKind Snapshot) (ss : List Shift) (u v w : Known WorkState Step) → AreHandled origin maps ss u v → HasWaited v w → AreHandled origin maps ss u w
handled_waits origin maps [] u v w h wait = waited_on u v w h wait
handled_waits origin maps (s ∷ ss) u v w (b, a, first, call, rest) wait = (b, a, first, call, handled_waits origin maps ss a v w rest wait)

pub handled_both : (origin : Origin) (maps : PerKind Snapshot) (ss more : List Shift) (u v w : Known WorkState Step) → AreHandled origin maps ss u v → AreHandled origin maps more v w
    → AreHandled origin maps (ss ++ more) u w
handled_both origin maps [] more u v w wait h = waits_handled origin maps more u v w wait h
handled_both origin maps (s ∷ ss) more u v w (b, a, first, call, rest) h = (b, a, first, call, handled_both origin maps ss more a v w rest h)

pub now_handled : (origin : Origin) (maps : PerKind Snapshot) (ss : List Shift) (v w : Known WorkState Step) → Handles origin maps ss v w → AreHandled origin maps ss v w
now_handled origin maps [] v w same = subst (λ x. HasWaited v x) (sym same) (not_waited v)
now_handled origin maps (s ∷ ss) v w (x, call, rest) = (v, x, not_waited v, call, now_handled origin maps ss x w rest)

-- ---- keys

added_waits : (origin : Origin) (ps : List (List WorkKey)) (u v w : Known WorkState Step) → AreAddedIn origin ps u v → HasWaited v w → AreAddedIn origin ps u w
added_waits origin [] u v w h wait = waited_on u v w h wait
added_waits origin (p ∷ ps) u v w (b, a, first, piece, call, rest) wait = (b, a, first, piece, call, added_waits origin ps a v w rest wait)

waits_added : (origin : Origin) (ps : List (List WorkKey)) (u v w : Known WorkState Step) → HasWaited u v → AreAddedIn origin ps v w → AreAddedIn origin ps u w
waits_added origin [] u v w wait h = waited_on u v w wait h
waits_added origin (p ∷ ps) u v w wait (b, a, first, piece, call, rest) = (b, a, waited_on u v b wait first, piece, call, rest)

added_in_both : (origin : Origin) (ps qs : List (List WorkKey)) (u v w : Known WorkState Step) → AreAddedIn origin ps u v → AreAddedIn origin qs v w → AreAddedIn origin (ps ++ qs) u w
added_in_both origin [] qs u v w wait h = waits_added origin qs u v w wait h
added_in_both origin (p ∷ ps) qs u v w (b, a, first, piece, call, rest) h = (b, a, first, piece, call, added_in_both origin ps qs a v w rest h)

now_added : (origin : Origin) (ps : List (List WorkKey)) (v w : Known WorkState Step) → AddsPieces origin ps v w → AreAddedIn origin ps v w
now_added origin [] v w same = subst (λ x. HasWaited v x) (sym same) (not_waited v)
now_added origin (p ∷ ps) v w (x, piece, call, rest) = (v, x, not_waited v, piece, call, now_added origin ps x w rest)

pub none_added : (origin : Origin) (v w : Known WorkState Step) → HasWaited v w → AreAdded origin [] v w
none_added origin v w wait = record { pieces = []; whole = refl; added = wait }

pub keys_added : (origin : Origin) (ps : List (List WorkKey)) (v w : Known WorkState Step) → AddsPieces origin ps v w → AreAdded origin (joined ps) v w
keys_added origin ps v w adds = record { pieces = ps; whole = refl; added = now_added origin ps v w adds }

pub then_waits : (origin : Origin) (ks : List WorkKey) (u v w : Known WorkState Step) → AreAdded origin ks u v → HasWaited v w → AreAdded origin ks u w
then_waits origin ks u v w h wait = record { pieces = h.pieces; whole = h.whole; added = added_waits origin h.pieces u v w h.added wait }

pub added_both : (origin : Origin) (ks js : List WorkKey) (u v w : Known WorkState Step) → AreAdded origin ks u v → AreAdded origin js v w → AreAdded origin (ks ++ js) u w
added_both origin ks js u v w h g = record {
  pieces = h.pieces ++ g.pieces;
  whole = flat_map-append (λ p. p) h.pieces g.pieces ∙ ap (λ l. l ++ joined g.pieces) h.whole ∙ ap (λ l. ks ++ l) g.whole;
  added = added_in_both origin h.pieces g.pieces u v w h.added g.added;
}

-- ---- parts of what is to be done

pub take_none : {X : Type 0} (n : ℕ) (xs : List X) → n ≡ 0 → take n xs ≡ []
take_none n xs none = ap (λ k. take k xs) none

pub drop_none : {X : Type 0} (n : ℕ) (xs : List X) → n ≡ 0 → drop n xs ≡ xs
drop_none n xs none = ap (λ k. drop k xs) none

-- where nothing is left, all is taken
pub take_whole : {X : Type 0} (n : ℕ) (xs : List X) → drop n xs ≡ [] → take n xs ≡ xs
take_whole n xs none = sym (append-nil (take n xs)) ∙ ap (λ l. take n xs ++ l) (sym none) ∙ take-append-drop n xs

-- those that were taken, and then these, are those before what is left
pub taken_more : {X : Type 0} (xs more : List X) (n m : ℕ) → drop n xs ≡ more ++ drop m xs → take n xs ++ more ≡ take m xs
taken_more xs more n m whole =
    append_cancel_right (take n xs ++ more) (take m xs) (drop m xs)
    (append_assoc (take n xs) more (drop m xs) ∙ ap (λ l. take n xs ++ l) (sym whole) ∙ take-append-drop n xs ∙ sym (take-append-drop m xs))

pub first_is_none : {X : Type 0} (xs ys : List X) → [] ≡ xs ++ ys → xs ≡ []
first_is_none [] ys none = refl
first_is_none (x ∷ xs) ys none = cc

-- ---- publishes

waits_publish : (origin : Origin) (ss : List Shift) (u v w : Known WorkState Step) → HasWaited u v → IsHandled origin ss v w → IsHandled origin ss u w
waits_publish origin ss u v w wait h = record {
  maps = h.maps;
  seen = h.seen;
  between = h.between;
  changed = waits_handled origin h.maps ss u v h.between wait h.changed;
  again = h.again;
}

-- one more publish is handled
pub one_more_handled : (gs : List Given) (g : Given) (u v w : Known WorkState Step) → AreAllHandled gs u v → IsHandled g.origin g.changes v w → AreAllHandled (gs ++ g ∷ []) u w
one_more_handled [] g u v w wait h = (w, waits_publish g.origin g.changes u v w wait h, not_waited w)
one_more_handled (f ∷ gs) g u v w (x, first, rest) h = (x, first, one_more_handled gs g x v w rest h)
