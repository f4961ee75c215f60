-- What a follower's steps tell the board.
use Rattle.std.proofs.Common.{◌≡◌, ◌++◌, ℕ, Bool, true, false, List, [], ◌∷◌, Option, Some, None, Result, Ok, Err, OnErr, cond, refl, sym, ap, ◌∙◌, subst, append_assoc, append-nil}
use Rattle.std.specs.declared.cmp.Ordering.{Ordering}
use Rattle.spec_client_go.specs.Shifts.{Shift}
use Rattle.spec_server.specs.Snapshots.{Snapshot}
use Rattle.keyed_board.specs.Boards.{KeyBoard}
use Rattle.keyed_board.specs.Steps as boards
use Rattle.list_and_watch.specs.Followers.{Follower}
use Rattle.list_and_watch.specs.Given.{IsGiven}
use Rattle.list_and_watch.specs.Gone.{IsTold, Does, AreDone, Follows}
use Rattle.list_and_watch.specs.Told.{Told, Step, exchange, cut, publish, give, keep, ask, tell, clock, wait, after_step, after_steps, told_nothing}
use Rattle.list_and_watch.specs.declared.causes.Cause.{Cause}
use Rattle.list_and_watch.specs.declared.onward.Onward.{Onward}
use Rattle.list_and_watch.proofs.Joined.{sink_told}
use Rattle.informer.specs.declared.listers.Lister.{Lister}
use Rattle.object_keys.specs.declared.per_kind.PerKind.{PerKind}
use Rattle.api_client.specs.Exchanges.{Exchange}
use Rattle.spec_api.specs.declared.kinds.Kind.{Kind}
use Rattle.shared_keyed_board.specs.Calls.{Sight, IsCall, IsLater, Nothing, once_ok}
use Rattle.controller_runtime.specs.Handled.{Takes, is_other}
use Rattle.controller_runtime.specs.Told.{Refuses, Given, IsAdded, AreAdded, given_of, revision_of, given_at, revision_at, given_in, IsToldAll}

-- a call that failed
pub refused_call : {N X Y : Type 0} {R : N → N → Ordering} → (r : Result X Y) (change : Option (boards.Step N)) (v w : Sight N) → IsCall R v (λ b. once_ok r change) Nothing w → OnErr r (IsLater v w)
refused_call (Ok x) change v w c = tt
refused_call (Err e) change v w c = record {
  later = (c.later.0, ap (λ k. k.seen) c.knows ∙ append-nil c.history ∙ c.later.1);
  name = ap (λ k. k.name) c.knows;
  made = ap (λ k. k.made) c.knows ∙ append-nil v.made;
}

pub not_later : {N : Type 0} → (v : Sight N) → IsLater v v
not_later v = record { later = ([], sym (append-nil v.seen)); name = refl; made = refl }

later_on : {N : Type 0} → (u v w : Sight N) → IsLater u v → IsLater v w → IsLater u w
later_on u v w one two = record {
  later = (one.later.0 ++ two.later.0, two.later.1 ∙ ap (λ s. s ++ two.later.0) one.later.1 ∙ append_assoc u.seen one.later.0 two.later.0);
  name = two.name ∙ one.name;
  made = two.made ∙ one.made;
}

module _ {K N : Type 0} (R : N → N → Ordering) (says : K → N) (owes : PerKind Snapshot → Shift → List K → Type 0) where
  added_waits : (ns : List Given) (u v w : Sight N) → AreAdded R says owes ns u v → IsLater v w → AreAdded R says owes ns u w
  added_waits [] u v w h awaited = later_on u v w h awaited
  added_waits (n ∷ ns) u v w (b, a, first, now, rest) awaited = (b, a, first, now, added_waits ns a v w rest awaited)

  one_added : (ns : List Given) (n : Given) (u v w : Sight N) → AreAdded R says owes ns u v → IsAdded R says owes n.cause n.changes v w → AreAdded R says owes (ns ++ n ∷ []) u w
  one_added [] n u v w h now = (v, w, h, now, not_later w)
  one_added (m ∷ ns) n u v w (b, a, first, here, rest) now = (b, a, first, here, one_added ns n a v w rest now)

  module _ {T : Type 0} (revision : T → ℕ) (pass : T → Sight N) (listers : T → PerKind Lister) where
    abbrev takes : T → List Shift → Snapshot → Cause → T → Type 0
    takes before changes objects cause after = Takes R says owes cause (revision before) changes objects (listers after) (pass before) (pass after) (revision after)

    abbrev refuses : T → List Shift → Snapshot → Cause → T → Type 0
    refuses before changes objects cause after = Refuses (revision before) changes objects (pass before) (pass after) (revision after)

    abbrev answers : T → Onward → T → Type 0
    answers before onward after = after ≡ before

    abbrev hears : T → T → Type 0
    hears before after = after ≡ before

    record AsFar (start : Sight N) (ns : List Given) (r : ℕ) (a : T) : Type 0 where
      told : AreAdded R says owes ns start (pass a)
      at : revision a ≡ r

    more : (start : Sight N) (ns ms : List Given) (r : ℕ) (a : T) → ms ≡ [] → AsFar start ns r a → AsFar start (ns ++ ms) r a
    more start ns ms r a none h = subst (λ l. AsFar start l r a) (sym (append-nil ns) ∙ ap (λ l. ns ++ l) (sym none)) h

    same_told : (start : Sight N) (ns : List Given) (r : ℕ) (b a : T) → a ≡ b → AsFar start ns r b → AsFar start (ns ++ []) r a
    same_told start ns r b a same h = more start ns [] r a refl (subst (λ x. AsFar start ns r x) (sym same) h)

    taken_if : (t : Bool) (start : Sight N) (ns : List Given) (r : ℕ) (changes : List Shift) (objects : Snapshot) (c : Cause) (b a : T) → is_other (revision b) objects changes ≡ t → AsFar start ns r b
        → Takes R says owes c (revision b) changes objects (listers a) (pass b) (pass a) (revision a)
        → AsFar start (ns ++ given_of r objects c (Some changes)) (revision_of r objects (Some changes)) a
    taken_if true start ns r changes objects c b a other h taken =
        let g : Given = record { cause = c; changes = changes } in
        let at_r : is_other r objects changes ≡ true = ap (λ x. is_other x objects changes) (sym h.at) ∙ other in
        let given : given_of r objects c (Some changes) ≡ [] = ap (λ t. cond t [] (g ∷ [])) at_r in
        let after : revision_of r objects (Some changes) ≡ r = ap (λ t. cond t r objects.revision) at_r in
        let still = taken.other other in
        more start ns (given_of r objects c (Some changes)) (revision_of r objects (Some changes)) a given
        (record { told = subst (λ x. AreAdded R says owes ns start x) (sym still.0) h.told; at = still.1 ∙ h.at ∙ sym after })
    taken_if false start ns r changes objects c b a mine h taken =
        let g : Given = record { cause = c; changes = changes } in
        let at_r : is_other r objects changes ≡ false = ap (λ x. is_other x objects changes) (sym h.at) ∙ mine in
        let given : given_of r objects c (Some changes) ≡ g ∷ [] = ap (λ t. cond t [] (g ∷ [])) at_r in
        let after : revision_of r objects (Some changes) ≡ objects.revision = ap (λ t. cond t r objects.revision) at_r in
        let done = taken.same mine in
        record {
          told = subst (λ l. AreAdded R says owes (ns ++ l) start (pass a)) (sym given) (one_added ns g start (pass b) (pass a) h.told (listers a, done.0));
          at = done.1 ∙ sym after;
        }

    given_told : (start : Sight N) (ns : List Given) (r : ℕ) (objects : Snapshot) (owed : Option (List Shift)) (i : Cause) (b a : T) → AsFar start ns r b → IsGiven takes owed objects i b a
        → AsFar start (ns ++ given_of r objects i owed) (revision_of r objects owed) a
    given_told start ns r objects None i b a h same = same_told start ns r b a same h
    given_told start ns r objects (Some changes) i b a h taken = taken_if (is_other (revision b) objects changes) start ns r changes objects i b a refl h taken

    kept_told : (start : Sight N) (ns : List Given) (r : ℕ) (objects : Snapshot) (owed : Option (List Shift)) (i : Cause) (b a : T) → AsFar start ns r b → IsGiven refuses owed objects i b a
        → AsFar start (ns ++ []) r a
    kept_told start ns r objects None i b a h same = same_told start ns r b a same h
    kept_told start ns r objects (Some changes) i b a h kept = more start ns [] r a refl (record { told = added_waits ns start (pass b) (pass a) h.told kept.1; at = kept.2 ∙ h.at })

    step_told : (start : Sight N) (ns : List Given) (r : ℕ) (s : Step) (t : Told) (b a : T) → AsFar start ns r b → IsTold takes refuses answers hears s t b a
        → AsFar start (ns ++ given_at r s t) (revision_at r s t) a
    step_told start ns r (exchange e memory) t b a h same = same_told start ns r b a same h
    step_told start ns r cut t b a h same = same_told start ns r b a same h
    step_told start ns r publish t b a h same = same_told start ns r b a same h
    step_told start ns r give t b a h given = given_told start ns r t.follower.informer.published t.owed t.cause b a h given
    step_told start ns r keep t b a h kept = kept_told start ns r t.follower.informer.published t.owed t.cause b a h kept
    step_told start ns r (ask onward) t b a h same = same_told start ns r b a same h
    step_told start ns r tell t b a h same = same_told start ns r b a same h
    step_told start ns r (clock n) t b a h same = same_told start ns r b a same h
    step_told start ns r (wait n onward) t b a h same = same_told start ns r b a same h

    steps_told : (start : Sight N) (ns : List Given) (r : ℕ) (ss : List Step) (t : Told) (b a : T) → AsFar start ns r b → AreDone (IsTold takes refuses answers hears) ss t b a
        → AreAdded R says owes (ns ++ given_in r ss t) start (pass a)
    steps_told start ns r [] t b a h same = (same_told start ns r b a same h).told
    steps_told start ns r (s ∷ ss) t b a h (x, now, rest) =
        subst (λ l. AreAdded R says owes l start (pass a)) (append_assoc ns (given_at r s t) (given_in (revision_at r s t) ss (after_step s t)))
        (steps_told start (ns ++ given_at r s t) (revision_at r s t) ss (after_step s t) x a (step_told start ns r s t b x h now) rest)

    pub board_told : {A C : Type 0} (exchanges : A → Exchange → A → Type 0) (shows : C → ℕ → C → Type 0) (waits : C → ℕ → Onward → C → Type 0) (kind : Kind) (stops : Type 0) (f g : Follower) (b a : T) (p q : A) (x y : C)
        → Follows (Does takes refuses answers hears exchanges shows waits kind) stops f (b, p, x) g (a, q, y) → IsToldAll R says owes f (revision b) (pass b) g (pass a)
    board_told exchanges shows waits kind stops f g b a p q x y so = record {
      steps = so.steps;
      leads = so.leads;
      told = steps_told (pass b) [] (revision b) so.steps (told_nothing f) b a (record { told = not_later (pass b); at = refl })
          (sink_told takes refuses answers hears exchanges kind shows waits so.steps (told_nothing f) (b, p, x) (a, q, y) so.done);
    }
