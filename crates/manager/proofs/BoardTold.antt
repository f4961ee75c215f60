-- What a follower's steps tell the board.
use Rattle.std.proofs.Common.{◌≡◌, ◌⊎◌, inl, inr, ◌++◌, ℕ, true, false, List, [], ◌∷◌, take, drop, Option, Some, None, IfSome, cond, refl, sym, ap, ◌∙◌, subst, append_assoc, append-nil}
use Rattle.std.proofs.lemmas.List.{take-append-drop}
use Rattle.baton.specs.declared.views.Known.{Known}
use Rattle.spec_client_go.specs.Shifts.{Shift}
use Rattle.spec_client_go.specs.WorkQueues.{WorkKey}
use Rattle.spec_server.specs.Snapshots.{Snapshot}
use Rattle.control_desk.specs.Steps as boards
use Rattle.control_desk.specs.declared.states.WorkState.{WorkState}
use Rattle.informer.specs.declared.listers.Lister.{Lister}
use Rattle.object_keys.specs.declared.per_kind.PerKind.{PerKind}
use Rattle.api_client.specs.Exchanges.{Exchange}
use Rattle.spec_api.specs.declared.kinds.Kind.{Kind}
use Rattle.list_and_watch.specs.Exchanged.{Dealings, idle, closed, noted, after_exchange, dealings_after}
use Rattle.list_and_watch.specs.Followers.{Follower, after_cut}
use Rattle.list_and_watch.specs.Given.{IsGiven}
use Rattle.list_and_watch.specs.Gone.{IsTold, Does, AreDone, Follows}
use Rattle.list_and_watch.specs.Told.{Told, Step, exchange, cut, publish, give, keep, ask, tell, clock, wait, waited, cause_given, after_step, after_steps, told_nothing, owed_in}
use Rattle.list_and_watch.specs.declared.causes.Cause.{Cause}
use Rattle.list_and_watch.specs.declared.causes.Cause.TheVariants.{Changes}
use Rattle.list_and_watch.specs.declared.onward.Onward.{Onward}
use Rattle.list_and_watch.proofs.Joined.{sink_told}
use Rattle.list_and_watch.proofs.Published.{exchange_publishes}
use Rattle.manager.specs.Handled.{HasWaited, Handles, HandlesBy, origin_of, StopsAt, StopsAdding, StopsBy, at_change, at_key, Stops, unlooked, looked, Progress, Takes, Refuses, is_other, joined}
use Rattle.manager.specs.Looked.{AreLookedAt}
use Rattle.manager.specs.Relisted.{keys_again}
use Rattle.manager.specs.Told.{AreSeen, AreHandled, AreAdded, Given, IsHandled, IsHandledSome, nothing, some, AreAllHandled, origin_in, given_of, revision_of, given_at, revision_at, given_in, IsToldAll}
use Rattle.manager.specs.declared.origins.Origin.{Origin}
use Rattle.manager.proofs.Calls.{waited_on}
use Rattle.manager.proofs.Handled.{not_waited, waits_handled, handled_waits, handled_both, now_handled, none_added, keys_added, then_waits, added_both, take_none, drop_none, take_whole, taken_more, first_is_none, one_more_handled}

abbrev At : Type 0
At = Known WorkState boards.Step

seen_by : (before : Option (PerKind Snapshot)) (ls : PerKind Lister) (maps : PerKind Snapshot) → IfSome before AreSeen → AreLookedAt before ls maps → AreSeen maps
seen_by None ls maps so known = (ls, known)
seen_by (Some m) ls maps so same = subst AreSeen (sym same) so

same_maps : (before : Option (PerKind Snapshot)) (ls : PerKind Lister) (maps m : PerKind Snapshot) → before ≡ Some m → AreLookedAt before ls maps → maps ≡ m
same_maps before ls maps m is at = subst (λ o. AreLookedAt o ls maps) is at

-- ---- how far a publish is handled

-- nothing of it is
record Quiet (p : Progress) (v w : At) : Type 0 where
  waited : HasWaited v w
  handled : p.handled ≡ 0
  added : p.added ≡ 0

data Part (origin : Origin) (changes : List Shift) (p : Progress) (v w : At) : Type 0 where
  quiet : Quiet p v w → Part origin changes p v w
  in_changes : (maps : PerKind Snapshot) → p.looks ≡ Some maps → AreSeen maps → AreHandled origin maps (take p.handled changes) v w → p.added ≡ 0 → Part origin changes p v w
  in_keys : (maps : PerKind Snapshot) → p.looks ≡ Some maps → AreSeen maps → drop p.handled changes ≡ [] → (u : At) → AreHandled origin maps changes v u
      → AreAdded origin (take p.added (keys_again origin.cause maps)) u w → Part origin changes p v w

part_waits : (origin : Origin) (changes : List Shift) (p : Progress) (u v w : At) → Part origin changes p u v → HasWaited v w → Part origin changes p u w
part_waits origin changes p u v w (quiet q) awaited = quiet (record { waited = waited_on u v w q.waited awaited; handled = q.handled; added = q.added })
part_waits origin changes p u v w (in_changes maps is seen h none) awaited = in_changes maps is seen (handled_waits origin maps (take p.handled changes) u v w h awaited) none
part_waits origin changes p u v w (in_keys maps is seen all x h added) awaited = in_keys maps is seen all x h (then_waits origin (take p.added (keys_again origin.cause maps)) x v w added awaited)

-- the rest of it is handled too
finishes : (origin : Origin) (changes : List Shift) (p : Progress) (ls : PerKind Lister) (maps : PerKind Snapshot) (u v w : At) → IfSome p.looks AreSeen → AreLookedAt p.looks ls maps
    → HandlesBy origin maps (drop p.handled changes) p.added v w → Part origin changes p u v → IsHandled origin changes u w
finishes origin changes p ls maps u v w seen at (x, handles, adds) (quiet q) = record {
  maps = maps;
  seen = seen_by p.looks ls maps seen at;
  between = x;
  changed = subst (λ ss. AreHandled origin maps ss u x) (drop_none p.handled changes q.handled) (waits_handled origin maps (drop p.handled changes) u v x q.waited (now_handled origin maps (drop p.handled changes) v x handles));
  again = subst (λ ks. AreAdded origin ks x w) (adds.whole ∙ drop_none p.added (keys_again origin.cause maps) q.added) (keys_added origin adds.pieces x w adds.adds);
}
finishes origin changes p ls maps u v w seen at by (in_changes m is so h none) =
    let now = subst (λ y. HandlesBy origin y (drop p.handled changes) p.added v w) (same_maps p.looks ls maps m is at) by in
    record {
      maps = m;
      seen = so;
      between = now.0;
      changed =
          subst (λ ss. AreHandled origin m ss u now.0) (take-append-drop p.handled changes)
          (handled_both origin m (take p.handled changes) (drop p.handled changes) u v now.0 h (now_handled origin m (drop p.handled changes) v now.0 now.1));
      again = subst (λ ks. AreAdded origin ks now.0 w) (now.2.whole ∙ drop_none p.added (keys_again origin.cause m) none) (keys_added origin now.2.pieces now.0 w now.2.adds);
    }
finishes origin changes p ls maps u v w seen at by (in_keys m is so all y h added) =
    let now = subst (λ z. HandlesBy origin z (drop p.handled changes) p.added v w) (same_maps p.looks ls maps m is at) by in
    let still : now.0 ≡ v = subst (λ ss. Handles origin m ss v now.0) all now.1 in
    let more : AreAdded origin (drop p.added (keys_again origin.cause m)) v w =
    subst (λ z. AreAdded origin (drop p.added (keys_again origin.cause m)) z w) still (subst (λ ks. AreAdded origin ks now.0 w) now.2.whole (keys_added origin now.2.pieces now.0 w now.2.adds)) in
    record {
      maps = m;
      seen = so;
      between = y;
      changed = h;
      again =
          subst (λ ks. AreAdded origin ks y w) (take-append-drop p.added (keys_again origin.cause m))
          (added_both origin (take p.added (keys_again origin.cause m)) (drop p.added (keys_again origin.cause m)) y v w added more);
    }

-- some more of the changes are
handled_on : (origin : Origin) (changes : List Shift) (m : PerKind Snapshot) (n k : ℕ) (u v w : At) → StopsAt origin m (drop n changes) (drop k changes) v w → AreHandled origin m (take n changes) u v
    → AreHandled origin m (take k changes) u w
handled_on origin changes m n k u v w stops h =
    subst (λ ss. AreHandled origin m ss u w) (taken_more changes stops.handled n k stops.whole)
    (handled_both origin m (take n changes) stops.handled u v w h
    (handled_waits origin m stops.handled v stops.between w (now_handled origin m stops.handled v stops.between stops.handles) stops.waited))

-- some more of the keys are added
added_on : (origin : Origin) (keys : List WorkKey) (n k : ℕ) (u v w : At) → StopsAdding origin (drop n keys) (drop k keys) v w → AreAdded origin (take n keys) u v → AreAdded origin (take k keys) u w
added_on origin keys n k u v w stops h =
    subst (λ ks. AreAdded origin ks u w) (taken_more keys (joined stops.pieces) n k stops.whole)
    (added_both origin (take n keys) (joined stops.pieces) u v w h (then_waits origin (joined stops.pieces) v stops.between w (keys_added origin stops.pieces v stops.between stops.adds) stops.waited))

nothing_handled : (origin : Origin) (changes : List Shift) (m : PerKind Snapshot) (p : Progress) (u v : At) → Quiet p u v → AreHandled origin m (take p.handled changes) u v
nothing_handled origin changes m p u v q = subst (λ ss. AreHandled origin m ss u v) (sym (take_none p.handled changes q.handled)) q.waited

nothing_added : (origin : Origin) (keys : List WorkKey) (n : ℕ) (v : At) → n ≡ 0 → AreAdded origin (take n keys) v v
nothing_added origin keys n v none = subst (λ ks. AreAdded origin ks v v) (sym (take_none n keys none)) (none_added origin v v (not_waited v))

-- after some of the changes
stops_in_changes : (origin : Origin) (changes : List Shift) (p q : Progress) (m : PerKind Snapshot) (u v w : At) → q.looks ≡ Some m → AreSeen m
    → StopsBy origin m changes p.handled p.added v w q.handled q.added → AreHandled origin m (take p.handled changes) u v → p.added ≡ 0 → Part origin changes q u w
stops_in_changes origin changes p q m u v w is seen (at_change stops same) h none = in_changes m is seen (handled_on origin changes m p.handled q.handled u v w stops h) (same ∙ none)
stops_in_changes origin changes p q m u v w is seen (at_key x handles all stops) h none =
    let changed : AreHandled origin m changes u x =
    subst (λ ss. AreHandled origin m ss u x) (take-append-drop p.handled changes)
    (handled_both origin m (take p.handled changes) (drop p.handled changes) u v x h (now_handled origin m (drop p.handled changes) v x handles)) in
    in_keys m is seen all x changed (added_on origin (keys_again origin.cause m) p.added q.added x x w stops (nothing_added origin (keys_again origin.cause m) p.added x none))

-- after all of them
stops_in_keys : (origin : Origin) (changes : List Shift) (p q : Progress) (m : PerKind Snapshot) (u y v w : At) → q.looks ≡ Some m → AreSeen m
    → StopsBy origin m changes p.handled p.added v w q.handled q.added → drop p.handled changes ≡ [] → AreHandled origin m changes u y → AreAdded origin (take p.added (keys_again origin.cause m)) y v
    → Part origin changes q u w
stops_in_keys origin changes p q m u y v w is seen (at_change stops same) all h added =
    let whole : [] ≡ stops.handled ++ drop q.handled changes = sym all ∙ stops.whole in
    let none : stops.handled ≡ [] = first_is_none stops.handled (drop q.handled changes) whole in
    let left : drop q.handled changes ≡ [] = ap (λ l. l ++ drop q.handled changes) (sym none) ∙ sym whole in
    let still : stops.between ≡ v = subst (λ ss. Handles origin m ss v stops.between) none stops.handles in
    let awaited : HasWaited v w = subst (λ z. HasWaited z w) still stops.waited in
    in_keys m is seen left y h (subst (λ n. AreAdded origin (take n (keys_again origin.cause m)) y w) (sym same) (then_waits origin (take p.added (keys_again origin.cause m)) y v w added awaited))
stops_in_keys origin changes p q m u y v w is seen (at_key x handles left stops) all h added =
    let still : x ≡ v = subst (λ ss. Handles origin m ss v x) all handles in
    let now : StopsAdding origin (drop p.added (keys_again origin.cause m)) (drop q.added (keys_again origin.cause m)) v w =
    subst (λ z. StopsAdding origin (drop p.added (keys_again origin.cause m)) (drop q.added (keys_again origin.cause m)) z w) still stops in
    in_keys m is seen left y h (added_on origin (keys_again origin.cause m) p.added q.added y v w now added)

-- by the maps that were looked at
abbrev LookedBy : Origin → List Shift → Progress → Progress → At → At → PerKind Snapshot → Type 0
LookedBy origin changes p q v w m = (q.looks ≡ Some m) × StopsBy origin m changes p.handled p.added v w q.handled q.added

stops_by : (origin : Origin) (changes : List Shift) (p q : Progress) (ls : PerKind Lister) (maps : PerKind Snapshot) (u v w : At) → IfSome p.looks AreSeen → AreLookedAt p.looks ls maps
    → LookedBy origin changes p q v w maps → Part origin changes p u v → Part origin changes q u w
stops_by origin changes p q ls maps u v w seen at by (quiet so) =
    stops_in_changes origin changes p q maps u v w by.0 (seen_by p.looks ls maps seen at) by.1 (nothing_handled origin changes maps p u v so) so.added
stops_by origin changes p q ls maps u v w seen at by (in_changes m is so h none) =
    let now = subst (LookedBy origin changes p q v w) (same_maps p.looks ls maps m is at) by in
    stops_in_changes origin changes p q m u v w now.0 so now.1 h none
stops_by origin changes p q ls maps u v w seen at by (in_keys m is so all y h added) =
    let now = subst (LookedBy origin changes p q v w) (same_maps p.looks ls maps m is at) by in
    stops_in_keys origin changes p q m u y v w now.0 so now.1 all h added

stopped : (origin : Origin) (changes : List Shift) (p q : Progress) (ls : PerKind Lister) (u v w : At) → IfSome p.looks AreSeen → q.revision ≡ p.revision → q.kind ≡ p.kind
    → Stops origin p changes ls v w q → Part origin changes p u v → Part origin changes q u w
stopped origin changes p q ls u v w seen same kind (unlooked awaited handled added looks) part =
    let is : q ≡ p = λ i. record { kind = kind i; handled = handled i; added = added i; revision = same i; looks = looks i } in
    subst (λ (x : Progress). Part origin changes x u w) (sym is) (part_waits origin changes p u v w part awaited)
stopped origin changes p q ls u v w seen same kind (looked maps at is by) part = stops_by origin changes p q ls maps u v w seen at (is, by) part

seen_after : (origin : Origin) (changes : List Shift) (p q : Progress) (ls : PerKind Lister) (v w : At) → IfSome p.looks AreSeen → Stops origin p changes ls v w q → IfSome q.looks AreSeen
seen_after origin changes p q ls v w seen (unlooked awaited handled added looks) = subst (λ o. IfSome o AreSeen) (sym looks) seen
seen_after origin changes p q ls v w seen (looked maps at is by) = subst (λ o. IfSome o AreSeen) (sym is) (seen_by p.looks ls maps seen at)

-- ---- how far the board is told

record AsFar (kind : Kind) (start : At) (gs : List Given) (r : ℕ) (t : Told) (p : Progress) (k : At) : Type 0 where
  last : At
  told : AreAllHandled gs start last
  part : Part (origin_in kind t) (owed_in t.owed) p last k
  none : t.owed ≡ None → Quiet p last k
  same : Quiet p last k ⊎ (is_other p.revision t.follower.informer.published (owed_in t.owed) ≡ false)
  seen : IfSome p.looks AreSeen
  at : p.revision ≡ r
  of_kind : p.kind ≡ kind

abbrev state : Follower → Option (List Shift) → Cause → Told
state f owed cause = record { follower = f; owed = owed; cause = cause; dealings = idle }

-- however it stands with the server
undealt : (kind : Kind) (start : At) (gs : List Given) (r : ℕ) (t : Told) (p : Progress) (k : At) → AsFar kind start gs r t p k → AsFar kind start gs r (state t.follower t.owed t.cause) p k
undealt kind start gs r t p k h = record { last = h.last; told = h.told; part = h.part; none = h.none; same = h.same; seen = h.seen; at = h.at; of_kind = h.of_kind }

dealt : (kind : Kind) (start : At) (gs : List Given) (r : ℕ) (f : Follower) (owed : Option (List Shift)) (c : Cause) (d : Dealings) (p : Progress) (k : At) → AsFar kind start gs r (state f owed c) p k
    → AsFar kind start gs r (record { follower = f; owed = owed; cause = c; dealings = d }) p k
dealt kind start gs r f owed c d p k h = record { last = h.last; told = h.told; part = h.part; none = h.none; same = h.same; seen = h.seen; at = h.at; of_kind = h.of_kind }

-- nothing is handled of what is given next
begun : (kind : Kind) (start last : At) (gs : List Given) (r : ℕ) (t : Told) (p : Progress) (k : At) → AreAllHandled gs start last → Quiet p last k → IfSome p.looks AreSeen → p.revision ≡ r → p.kind ≡ kind → AsFar kind start gs r t p k
begun kind start last gs r t p k told so seen at of_kind = record { last = last; told = told; part = quiet so; none = λ e. so; same = inl so; seen = seen; at = at; of_kind = of_kind }

-- the follower has taken something in
moved : (kind : Kind) (start : At) (gs : List Given) (r : ℕ) (f g : Follower) (owed : Option (List Shift)) (c : Cause) (p : Progress) (k : At)
    → g.informer.published ≡ f.informer.published → AsFar kind start gs r (state f owed c) p k → AsFar kind start gs r (state g owed c) p k
moved kind start gs r f g owed c p k is h = record {
  last = h.last;
  told = h.told;
  part = subst (λ m. Part (origin_of kind m c) (owed_in owed) p h.last k) (sym is) h.part;
  none = h.none;
  same = subst (λ m. Quiet p h.last k ⊎ (is_other p.revision m (owed_in owed) ≡ false)) (sym is) h.same;
  seen = h.seen;
  at = h.at;
  of_kind = h.of_kind;
}

published_more : (kind : Kind) (start : At) (gs : List Given) (r : ℕ) (f : Follower) (owed : Option (List Shift)) (c : Cause) (p : Progress) (k : At)
    → AsFar kind start gs r (state f owed c) p k → AsFar kind start gs r (after_step publish (state f owed c)) p k
published_more kind start gs r f None c p k h = begun kind start h.last gs r (after_step publish (state f None c)) p k h.told (h.none refl) h.seen h.at h.of_kind
published_more kind start gs r f (Some changes) c p k h = h

-- ---- what is given

more_told : (kind : Kind) (start : At) (gs more : List Given) (r : ℕ) (t : Told) (p : Progress) (k : At) → more ≡ [] → AsFar kind start gs r t p k → AsFar kind start (gs ++ more) r t p k
more_told kind start gs more r t p k none h = subst (λ l. AsFar kind start l r t p k) (sym (append-nil gs) ∙ ap (λ l. gs ++ l) (sym none)) h

taken_by : (kind : Kind) (start : At) (gs : List Given) (r : ℕ) (f : Follower) (changes : List Shift) (c : Cause) (p q : Progress) (ls : PerKind Lister) (v w : At)
    → AsFar kind start gs r (state f (Some changes) c) p v → Takes c p f.informer.published changes ls v w q
    → AsFar kind start (gs ++ given_of kind r f.informer.published c (Some changes)) (revision_of r f.informer.published (Some changes)) (state f None Changes) q w
taken_by kind start gs r f changes c p q ls v w h (inl (other, knows, still)) =
    let m = f.informer.published in
    let so : Quiet p h.last v = elim h.same as (λ x. Quiet p h.last v) [ inl e ↦ e | inr e ↦ (let both : true ≡ false = sym other ∙ e in cc) ] in
    let at_r : is_other r m changes ≡ true = ap (λ x. is_other x m changes) (sym h.at) ∙ other in
    let g : Given = record { origin = origin_of kind m c; changes = changes } in
    let given : given_of kind r m c (Some changes) ≡ [] = ap (λ b. cond b [] (g ∷ [])) at_r in
    let after : revision_of r m (Some changes) ≡ r = ap (λ b. cond b r m.revision) at_r in
    let now : AsFar kind start gs r (state f None Changes) p v = begun kind start h.last gs r (state f None Changes) p v h.told so h.seen h.at h.of_kind in
    subst (λ x. AsFar kind start (gs ++ given_of kind r m c (Some changes)) x (state f None Changes) q w) (sym after)
    (more_told kind start gs (given_of kind r m c (Some changes)) r (state f None Changes) q w given
    (subst (λ x. AsFar kind start gs r (state f None Changes) x w) (sym still) (subst (λ x. AsFar kind start gs r (state f None Changes) p x) (sym knows) now)))
taken_by kind start gs r f changes c p q ls v w h (inr (mine, (maps, at, by), done)) =
    let m = f.informer.published in
    let here : HandlesBy (origin_of kind m c) maps (drop p.handled changes) p.added v w = subst (λ j. HandlesBy (origin_of j m c) maps (drop p.handled changes) p.added v w) h.of_kind by in
    let g : Given = record { origin = origin_of kind m c; changes = changes } in
    let at_r : is_other r m changes ≡ false = ap (λ x. is_other x m changes) (sym h.at) ∙ mine in
    let given : given_of kind r m c (Some changes) ≡ g ∷ [] = ap (λ b. cond b [] (g ∷ [])) at_r in
    let after : revision_of r m (Some changes) ≡ m.revision = ap (λ b. cond b r m.revision) at_r in
    let told : AreAllHandled (gs ++ given_of kind r m c (Some changes)) start w =
    subst (λ l. AreAllHandled (gs ++ l) start w) (sym given) (one_more_handled gs g start h.last w h.told (finishes (origin_of kind m c) changes p ls maps h.last v w h.seen at here h.part)) in
    begun kind start w (gs ++ given_of kind r m c (Some changes)) (revision_of r m (Some changes)) (state f None Changes) q w told
    (record { waited = not_waited w; handled = ap (λ (x : Progress). x.handled) done; added = ap (λ (x : Progress). x.added) done })
    (subst (λ (x : Progress). IfSome x.looks AreSeen) (sym done) tt)
    (ap (λ (x : Progress). x.revision) done ∙ sym after) (ap (λ (x : Progress). x.kind) done ∙ h.of_kind)

refused_by : (kind : Kind) (start : At) (gs : List Given) (r : ℕ) (f : Follower) (changes : List Shift) (c : Cause) (p q : Progress) (ls : PerKind Lister) (v w : At)
    → AsFar kind start gs r (state f (Some changes) c) p v → Refuses c p f.informer.published changes ls v w q → AsFar kind start gs r (state f (Some changes) c) q w
refused_by kind start gs r f changes c p q ls v w h (mine, stops, revision, same_kind) =
    let m = f.informer.published in
    let here : Stops (origin_of kind m c) p changes ls v w q = subst (λ j. Stops (origin_of j m c) p changes ls v w q) h.of_kind stops in
    record {
      last = h.last;
      told = h.told;
      part = stopped (origin_of kind m c) changes p q ls h.last v w h.seen revision same_kind here h.part;
      none = λ e. cc;
      same = inr (ap (λ x. is_other x f.informer.published changes) revision ∙ mine);
      seen = seen_after (origin_of kind m c) changes p q ls v w h.seen here;
      at = revision ∙ h.at;
      of_kind = same_kind ∙ h.of_kind;
    }

-- what is owed at the end is handled as far as it is
ends_at : (origin : Origin) (changes : List Shift) (p : Progress) (v w : At) → Part origin changes p v w → IsHandledSome origin changes v w
ends_at origin changes p v w (quiet so) = nothing so.waited
ends_at origin changes p v w (in_changes maps is seen h none) =
    some p.handled p.added (record { maps = maps; seen = seen; between = w; changed = h; again = nothing_added origin (keys_again origin.cause maps) p.added w none; order = inl none })
ends_at origin changes p v w (in_keys maps is seen all u h added) =
    some p.handled p.added
    (record { maps = maps; seen = seen; between = u; changed = subst (λ ss. AreHandled origin maps ss v u) (sym (take_whole p.handled changes all)) h; again = added; order = inr all })

-- ---- step by step

module _ {T : Type 0} (progress : T → Progress) (pass : T → At) (listers : T → PerKind Lister) where
  abbrev takes : T → List Shift → Snapshot → Cause → T → Type 0
  takes before shifts objects cause after = Takes cause (progress before) objects shifts (listers after) (pass before) (pass after) (progress after)

  abbrev refuses : T → List Shift → Snapshot → Cause → T → Type 0
  refuses before shifts objects cause after = Refuses cause (progress before) objects shifts (listers after) (pass before) (pass after) (progress after)

  abbrev answers : T → Onward → T → Type 0
  answers before onward after = after ≡ before

  abbrev hears : T → T → Type 0
  hears before after = after ≡ before

  same_told : (kind : Kind) (start : At) (gs : List Given) (r : ℕ) (t : Told) (b a : T) → a ≡ b → AsFar kind start gs r t (progress b) (pass b) → AsFar kind start (gs ++ []) r t (progress a) (pass a)
  same_told kind start gs r t b a same h = more_told kind start gs [] r t (progress a) (pass a) refl (subst (λ x. AsFar kind start gs r t (progress x) (pass x)) (sym same) h)

  given_told : (kind : Kind) (start : At) (gs : List Given) (r : ℕ) (f : Follower) (owed : Option (List Shift)) (c : Cause) (b a : T) → AsFar kind start gs r (state f owed c) (progress b) (pass b)
      → IsGiven takes owed f.informer.published c b a
      → AsFar kind start (gs ++ given_of kind r f.informer.published c owed) (revision_of r f.informer.published owed) (state f None (cause_given owed c)) (progress a) (pass a)
  given_told kind start gs r f None c b a h same = same_told kind start gs r (state f None c) b a same h
  given_told kind start gs r f (Some changes) c b a h taken = taken_by kind start gs r f changes c (progress b) (progress a) (listers a) (pass b) (pass a) h taken

  kept_told : (kind : Kind) (start : At) (gs : List Given) (r : ℕ) (f : Follower) (owed : Option (List Shift)) (c : Cause) (b a : T) → AsFar kind start gs r (state f owed c) (progress b) (pass b)
      → IsGiven refuses owed f.informer.published c b a → AsFar kind start (gs ++ []) r (state f owed c) (progress a) (pass a)
  kept_told kind start gs r f None c b a h same = same_told kind start gs r (state f None c) b a same h
  kept_told kind start gs r f (Some changes) c b a h kept =
      more_told kind start gs [] r (state f (Some changes) c) (progress a) (pass a) refl
      (refused_by kind start gs r f changes c (progress b) (progress a) (listers a) (pass b) (pass a) h kept)

  -- the sink is left as it was, and the follower has moved
  quiet_told : (kind : Kind) (start : At) (gs : List Given) (r : ℕ) (t : Told) (g : Follower) (d : Dealings) (b a : T) → g.informer.published ≡ t.follower.informer.published → a ≡ b
      → AsFar kind start gs r t (progress b) (pass b) → AsFar kind start (gs ++ []) r (record { follower = g; owed = t.owed; cause = t.cause; dealings = d }) (progress a) (pass a)
  quiet_told kind start gs r t g d b a is same h =
      same_told kind start gs r (record { follower = g; owed = t.owed; cause = t.cause; dealings = d }) b a same
      (dealt kind start gs r g t.owed t.cause d (progress b) (pass b)
      (moved kind start gs r t.follower g t.owed t.cause (progress b) (pass b) is (undealt kind start gs r t (progress b) (pass b) h)))

  step_told : (kind : Kind) (start : At) (gs : List Given) (r : ℕ) (s : Step) (t : Told) (b a : T) → AsFar kind start gs r t (progress b) (pass b)
      → IsTold takes refuses answers hears s t b a → AsFar kind start (gs ++ given_at kind r s t) (revision_at r s t) (after_step s t) (progress a) (pass a)
  step_told kind start gs r (exchange e memory) t b a h same =
      quiet_told kind start gs r t (after_exchange e memory t.follower) (dealings_after e memory t.follower t.dealings) b a (exchange_publishes e memory t.follower) same h
  step_told kind start gs r cut t b a h same = quiet_told kind start gs r t (after_cut t.follower) (closed t.dealings) b a refl same h
  step_told kind start gs r publish t b a h same =
      let now = published_more kind start gs r t.follower t.owed t.cause (progress b) (pass b) (undealt kind start gs r t (progress b) (pass b) h) in
      let n = after_step publish t in
      same_told kind start gs r n b a same (dealt kind start gs r n.follower n.owed n.cause t.dealings (progress b) (pass b) now)
  step_told kind start gs r give t b a h given =
      let m = t.follower.informer.published in
      dealt kind start (gs ++ given_of kind r m t.cause t.owed) (revision_of r m t.owed) t.follower None (cause_given t.owed t.cause) t.dealings (progress a) (pass a)
      (given_told kind start gs r t.follower t.owed t.cause b a (undealt kind start gs r t (progress b) (pass b) h) given)
  step_told kind start gs r keep t b a h kept =
      dealt kind start (gs ++ []) r t.follower t.owed t.cause t.dealings (progress a) (pass a)
      (kept_told kind start gs r t.follower t.owed t.cause b a (undealt kind start gs r t (progress b) (pass b) h) kept)
  step_told kind start gs r (ask onward) t b a h same = same_told kind start gs r t b a same h
  step_told kind start gs r tell t b a h same = quiet_told kind start gs r t t.follower (noted t.dealings) b a refl same h
  step_told kind start gs r (clock n) t b a h same = same_told kind start gs r t b a same h
  step_told kind start gs r (wait n onward) t b a h same = quiet_told kind start gs r t t.follower (waited n t.dealings) b a refl same h

  steps_told : (kind : Kind) (start : At) (gs : List Given) (r : ℕ) (ss : List Step) (t : Told) (b a : T) → AsFar kind start gs r t (progress b) (pass b)
      → AreDone (IsTold takes refuses answers hears) ss t b a
      → (between : At) × AreAllHandled (gs ++ given_in kind r ss t) start between × IsHandledSome (origin_in kind (after_steps ss t)) (owed_in (after_steps ss t).owed) between (pass a)
  steps_told kind start gs r [] t b a h same =
      let far = same_told kind start gs r t b a same h in
      (far.last, far.told, ends_at (origin_in kind t) (owed_in t.owed) (progress a) far.last (pass a) far.part)
  steps_told kind start gs r (s ∷ ss) t b a h (x, now, rest) =
      let after = steps_told kind start (gs ++ given_at kind r s t) (revision_at r s t) ss (after_step s t) x a (step_told kind start gs r s t b x h now) rest in
      (after.0, subst (λ l. AreAllHandled l start after.0) (append_assoc gs (given_at kind r s t) (given_in kind (revision_at r s t) ss (after_step s t))) after.1, after.2)

  -- a follower whose sink has handled nothing of what it is to be given
  pub board_told : {A C : Type 0} (exchanges : A → Exchange → A → Type 0) (shows : C → ℕ → C → Type 0) (waits : C → ℕ → Onward → C → Type 0) (asked : Kind) (stops : Type 0) (f g : Follower) (b a : T) (p q : A) (x y : C)
      → (progress b).looks ≡ None → (progress b).handled ≡ 0 → (progress b).added ≡ 0
      → Follows (Does takes refuses answers hears exchanges shows waits asked) stops f (b, p, x) g (a, q, y) → IsToldAll (progress b).kind f (progress b).revision (pass b) g (pass a)
  board_told exchanges shows waits asked stops f g b a p q x y looks handled added so =
      let start = pass b in
      let kind = (progress b).kind in
      let begins : AsFar kind start [] (progress b).revision (told_nothing f) (progress b) start =
      begun kind start start [] (progress b).revision (told_nothing f) (progress b) start (not_waited start) (record { waited = not_waited start; handled = handled; added = added })
      (subst (λ o. IfSome o AreSeen) (sym looks) tt) refl refl in
      let ends = steps_told kind start [] (progress b).revision so.steps (told_nothing f) b a begins
      (sink_told takes refuses answers hears exchanges asked shows waits so.steps (told_nothing f) (b, p, x) (a, q, y) so.done) in
      record { steps = so.steps; between = ends.0; leads = so.leads; told = ends.1; owed = ends.2 }
