-- The first command of the collector owes its key.
use Rattle.std.proofs.Common.{◌≡◌, ◌⊎◌, inl, inr, ◌≤◌, ◌<◌, ◌&&◌, ◌||◌, ◌++◌, ℕ, suc, List, [], ◌∷◌, map, filter_map, flat_map, decimal, Bool, true, false, not, cond, codes, bytes_eq, IfSome, Option, Some, None, option_map, Ok, Err, refl, sym, ap, ◌∙◌, subst, arith}
use mathlib.Core.Bool.{true≢false}
use Rattle.std.specs.List.{AllByRecursion, list_all, list_any, cons_option}
use Rattle.serde_json.specs.Data.{Data, Items, no_items, item}
use Rattle.serde_json.specs.Events.{items_len}
use Rattle.spec_api.specs.declared.kinds.Kind.{Kind}
use Rattle.spec_api.specs.declared.kinds.Kind.TheVariants as kind
use Rattle.spec_api.specs.declared.policies.Policy.{Policy}
use Rattle.spec_api.specs.declared.policies.Policy.TheVariants.{Foreground}
use Rattle.spec_api.specs.declared.refusals.Mismatch.TheVariants as mismatch
use Rattle.spec_api.specs.Checks.{finalizers, has_text, text_is}
use Rattle.spec_api.specs.DeleteOptions.{Options}
use Rattle.spec_api.specs.Deletion.{Fate, fate, decided, kept_code, orphan, foreground}
use Rattle.spec_api.specs.History.{History, Entries, Write, present, state, found, entries_at}
use Rattle.spec_api.specs.Keys.{Key}
use Rattle.spec_api.specs.Metadata.{Owner, owner, owners, owners_in, uid, version, is_being_deleted, differs}
use Rattle.spec_api.specs.ObjectRequests.{Request, update_object, delete_object}
use Rattle.spec_api.specs.Reached.{IsReached}
use Rattle.spec_api.specs.Refusals.{Refusal}
use Rattle.spec_api.specs.SelectorValues.{is_some_and}
use Rattle.spec_api.specs.Verbs.{Outcome, refused, accept, write_of, object_in, by_decision}
use Rattle.spec_client_go.specs.declared.controller.Controller.{Controller}
use Rattle.spec_client_go.specs.declared.controller.Controller.TheVariants.{ReplicaSet as SetController, Deployment as DeploymentController, Collector}
use Rattle.spec_client_go.specs.Commands.{Command, update, delete, seen, answered, version_named, request_of}
use Rattle.spec_client_go.specs.Hands.{Hand, Read, live}
use Rattle.spec_client_go.specs.Informers.{Looks, of_owner}
use Rattle.spec_client_go.specs.OwedKeys.{keys_of, one_of, of_both, itself, dependents_left, items_to_look}
use Rattle.spec_client_go.specs.OwnerReferences.{is_text, is_owned_by, owner_key, owner_keys, namespace_of}
use Rattle.spec_client_go.specs.WorkQueues.{WorkKey}
use Rattle.spec_laws.proofs.AskedEdits.{keeping_parsed, without_parsed}
use Rattle.spec_laws.proofs.Cases.{of_update}
use Rattle.spec_laws.proofs.Guards.{there}
use Rattle.spec_laws.proofs.Reaching.{past}
use Rattle.spec_laws.proofs.VerbLaws.{found-state, same}
use Rattle.spec_laws.proofs.Versions.{tells}
use Rattle.spec_reconcile.specs.GarbageCollection as garbage_collection
use Rattle.spec_reconcile.specs.GarbageCollection.{plan_for, finish, collect, orphaned, is_blocked, remove, remove_after, own_policy, is_between}
use Rattle.spec_reconcile.specs.MetadataEdits.{references, only, without_finalizer, keeping_owners, blocking_nobody}
use Rattle.spec_reconcile.specs.Standings.{is_to, standing, standings, is_solid, waits_for_dependents, with_owner, with_owner_if, dependents}
use Rattle.spec_sim.specs.ControlPlanes.{ControlPlane, Step, change_of}
use Rattle.spec_sim.specs.Managers.{answer_of}
use Rattle.spec_sim.specs.Turns.{Turn, hand, looks, shown, plan_by, is_accepted}
use Rattle.sim_worker_laws.specs.OwedLaws.{IsAmong}
use Rattle.sim_worker_laws.specs.IssuedLaws.{IsSeen}
use Rattle.sim_rest_laws.specs.OwedObjectLaws.{LooksAfter}
use Rattle.sim_rest_laws.specs.StillLaws.{IsLookOf, ShownIn}
use Rattle.sim_rest_laws.specs.WholeLaws.{ReferencesAreTrue, AreServerLists}
use Rattle.sim_rest_laws.proofs.OwedObjects.{in_left, in_right, owed_item}
use Rattle.sim_rest_command_laws.specs.CommandLaws.{Unowed, WasUnowed, EachChangeOwes, IsCut, CollectorsFirstCommandsOwe}
use Rattle.sim_rest_command_laws.proofs.Leads.{still, before, is_newer, own_coming, own_writes}
use Rattle.sim_rest_command_laws.proofs.Deletes.{delete_writes}
use Rattle.sim_rest_command_laws.proofs.Listed.{Listed, shown_listed, passed, joined, live_found}
use Rattle.sim_rest_command_laws.proofs.Updates.{held, is_there, fewer_done, references_are, finalizers_are}

-- ---- fewer items

abbrev pub Fails : (Data → Bool) → Items → Type 0
Fails test no_items = ⊥
Fails test (item d ds) = (test d ≡ false) ⊎ Fails test ds

at_most : (test : Data → Bool) (ds : Items) → items_len (only test ds) ≤ items_len ds
at_most test no_items = omega arith
at_most test (item d ds) = by (test d) (at_most test ds)
  where
    by : (b : Bool) → items_len (only test ds) ≤ items_len ds → items_len (cond b (item d (only test ds)) (only test ds)) ≤ suc (items_len ds)
    by true le = omega (arith, le)
    by false le = omega (arith, le)

pub fewer : (test : Data → Bool) (ds : Items) → Fails test ds → items_len (only test ds) < items_len ds
fewer test no_items f = absurd f
fewer test (item d ds) (inl is) = subst (λ b. items_len (cond b (item d (only test ds)) (only test ds)) < suc (items_len ds)) (sym is) (let le = at_most test ds in omega (arith, le))
fewer test (item d ds) (inr f) = by (test d) (fewer test ds f)
  where
    by : (b : Bool) → items_len (only test ds) < items_len ds → items_len (cond b (item d (only test ds)) (only test ds)) < suc (items_len ds)
    by true lt = omega (arith, lt)
    by false lt = omega (arith, lt)

fails_text : (t : List ℕ) (ds : Items) → has_text ds t ≡ true → Fails (λ f. not (text_is (bytes_eq t) f)) ds
fails_text t no_items e = absurd (true≢false (sym e))
fails_text t (item d ds) e = by (text_is (bytes_eq t) d) refl (fails_text t ds) e
  where
    by : (b : Bool) → text_is (bytes_eq t) d ≡ b → (has_text ds t ≡ true → Fails (λ f. not (text_is (bytes_eq t) f)) ds) → (b || has_text ds t) ≡ true → (not (text_is (bytes_eq t) d) ≡ false) ⊎ Fails (λ f. not (text_is (bytes_eq t) f)) ds
    by true is later e = inl (ap not is)
    by false is later e = inr (later e)

fails_owned : (u : List ℕ) (d : Data) (ds : Items) → uid d ≡ Some u → list_any (λ (o : Owner). is_text u o.uid) (owners_in ds) ≡ true → Fails (λ r. not (is_to d (owner r))) ds
fails_owned u d no_items has e = absurd (true≢false (sym e))
fails_owned u d (item r ds) has e = by (is_text u (owner r).uid) refl (fails_owned u d ds has) e
  where
    to : is_to d (owner r) ≡ is_text u (owner r).uid
    to = ap (λ v. is_some_and (λ w. is_text w (owner r).uid) v) has

    by : (b : Bool) → is_text u (owner r).uid ≡ b → (list_any (λ (o : Owner). is_text u o.uid) (owners_in ds) ≡ true → Fails (λ r. not (is_to d (owner r))) ds) → (b || list_any (λ (o : Owner). is_text u o.uid) (owners_in ds)) ≡ true → (not (is_to d (owner r)) ≡ false) ⊎ Fails (λ r. not (is_to d (owner r))) ds
    by true is later e = inl (ap not (to ∙ is))
    by false is later e = inr (later e)

fails_solid : (reads : List Read) (ns : List ℕ) (ds : Items) → list_all is_solid (map (standing reads ns) (owners_in ds)) ≡ false → Fails (λ r. is_solid (standing reads ns (owner r))) ds
fails_solid reads ns no_items e = absurd (true≢false e)
fails_solid reads ns (item r ds) e = by (is_solid (standing reads ns (owner r))) refl (fails_solid reads ns ds) e
  where
    by : (b : Bool) → is_solid (standing reads ns (owner r)) ≡ b → (list_all is_solid (map (standing reads ns) (owners_in ds)) ≡ false → Fails (λ r. is_solid (standing reads ns (owner r))) ds) → (b && list_all is_solid (map (standing reads ns) (owners_in ds))) ≡ false → (is_solid (standing reads ns (owner r)) ≡ false) ⊎ Fails (λ r. is_solid (standing reads ns (owner r))) ds
    by false is later e = inl is
    by true is later e = inr (later e)

-- ---- the first command

data Begins (k : Key) (d : Data) (reads : List Read) (ms : Entries) : Command → List Command → Type 0 where
  strips : (m : Key × Data) (rest : List Command) → IsAmong m ms → Begins k d reads ms (update m.0 (keeping_owners (λ o. not (is_to d o)) m.1)) rest
  finishes : (t : List ℕ) (rest : List Command) → has_text (finalizers d) t ≡ true → Begins k d reads ms (update k (without_finalizer t d)) rest
  keeps : (rest : List Command) → list_all is_solid (standings reads d) ≡ false → Begins k d reads ms (update k (keeping_owners (λ o. is_solid (standing reads (namespace_of d) o)) d)) rest
  cuts : (p : Option Policy) → is_being_deleted d ≡ false → Begins k d reads ms (update k (blocking_nobody d)) (delete k (uid d) (Some answered) p ∷ [])
  removes : (p : Policy) (rest : List Command) → is_being_deleted d ≡ false → Begins k d reads ms (delete k (uid d) (option_map seen (version d)) (Some p)) rest

module _ (k : Key) (d : Data) (reads : List Read) (ms : Entries) where
  abbrev First : List Command → Type 0
  First cs = (x : Command) (rest : List Command) → cs ≡ x ∷ rest → Begins k d reads ms x rest

  of_cons : (c : Command) (cs : List Command) → Begins k d reads ms c cs → First (c ∷ cs)
  of_cons c cs b x rest e =
      let one : c ≡ x = cc in
      let others : cs ≡ rest = cc in
      subst (λ y. Begins k d reads ms y rest) one (subst (λ ys. Begins k d reads ms c ys) others b)

  of_none : First []
  of_none x rest e = cc

  of_orphaned : (es : Entries) → ((m : Key × Data) → IsAmong m es → IsAmong m ms) → has_text (finalizers d) orphan ≡ true → First (orphaned d es ++ update k (without_finalizer orphan d) ∷ [])
  of_orphaned [] among has = of_cons (update k (without_finalizer orphan d)) [] (finishes orphan [] has)
  of_orphaned (m ∷ es) among has =
      let rest = orphaned d es ++ update k (without_finalizer orphan d) ∷ [] in
      of_cons (update m.0 (keeping_owners (λ o. not (is_to d o)) m.1)) rest (strips m rest (among m (inl refl)))

  of_free : (a b : Bool) → has_text (finalizers d) foreground ≡ a → First (cond (a && b) (update k (without_finalizer foreground d) ∷ []) [])
  of_free true true has = of_cons (update k (without_finalizer foreground d)) [] (finishes foreground [] has)
  of_free true false has = of_none
  of_free false b has = of_none

  of_finish : (b : Bool) → has_text (finalizers d) orphan ≡ b
      → First (cond b (orphaned d ms ++ update k (without_finalizer orphan d) ∷ []) (cond (has_text (finalizers d) foreground && not (is_blocked d ms)) (update k (without_finalizer foreground d) ∷ []) []))
  of_finish true has = of_orphaned ms (λ m i. i) has
  of_finish false has = of_free (has_text (finalizers d) foreground) (not (is_blocked d ms)) refl

  of_remove : (p : Policy) → is_being_deleted d ≡ false → First (remove k d p)
  of_remove p live_one = of_cons (delete k (uid d) (option_map seen (version d)) (Some p)) [] (removes p [] live_one)

  of_after : (b : Bool) → is_being_deleted d ≡ false → First (cond b (update k (blocking_nobody d) ∷ delete k (uid d) (Some answered) (Some Foreground) ∷ []) (remove k d Foreground))
  of_after true live_one = of_cons (update k (blocking_nobody d)) (delete k (uid d) (Some answered) (Some Foreground) ∷ []) (cuts (Some Foreground) live_one)
  of_after false live_one = of_remove Foreground live_one

  of_collect : (a b c : Bool) → is_being_deleted d ≡ false → list_all is_solid (standings reads d) ≡ a
      → First (cond a [] (cond b (update k (keeping_owners (λ o. is_solid (standing reads (namespace_of d) o)) d) ∷ []) (cond c (remove_after k d ms) (remove k d (own_policy d)))))
  of_collect true b c live_one all = of_none
  of_collect false true c live_one all = of_cons (update k (keeping_owners (λ o. is_solid (standing reads (namespace_of d) o)) d)) [] (keeps [] all)
  of_collect false false true live_one all = of_after (list_any (λ m. waits_for_dependents m.1) ms) live_one
  of_collect false false false live_one all = of_remove (own_policy d) live_one

  of_plan : (b : Bool) → is_being_deleted d ≡ b → First (cond b (finish k d ms) (collect reads k d ms))
  of_plan true is = of_finish (has_text (finalizers d) orphan) refl
  of_plan false is = of_collect (list_all is_solid (standings reads d)) (list_any is_solid (standings reads d)) (is_between (standings reads d) ms) is refl

-- of an object that was read
record Planned (g : Hand) (x : Command) (rest : List Command) : Type 0 where
  pub object : Data
  pub read : live g.reads g.key ≡ Some object
  pub begins : Begins g.key object g.reads (dependents g.looks object) x rest

planned_of : (g : Hand) (x : Command) (rest : List Command) (o : Option Data) → live g.reads g.key ≡ o → plan_for g o ≡ x ∷ rest → Planned g x rest
planned_of g x rest None is e = cc
planned_of g x rest (Some d) is e = record { object = d; read = is; begins = of_plan g.key d g.reads (dependents g.looks d) (is_being_deleted d) refl x rest e }

collectors_plan : (c : Controller) (g : Hand) → c ≡ Collector → plan_by c g ≡ garbage_collection.plan g
unfolding plan_by
collectors_plan SetController g e = cc
collectors_plan DeploymentController g e = cc
collectors_plan Collector g e = refl

planned : (c : Controller) (g : Hand) (x : Command) (rest : List Command) → c ≡ Collector → plan_by c g ≡ x ∷ rest → Planned g x rest
planned c g x rest is e = planned_of g x rest (live g.reads g.key) refl (sym (collectors_plan c g is) ∙ e)

-- ---- what is written of an object as it was looked at

-- a change of it owes the key of an owner that it names
owner_owed : (j : WorkKey) (x : Key) (e : Data) → j.controller ≡ Collector → IsAmong j.key (owner_keys e) → EachChangeOwes j x e
owner_owed j x e of_collector among s l same old =
    let c = change_of s in
    let in_old : IsAmong j.key (flat_map owner_keys (one_of c.old)) = subst (λ (v : Option Data). IsAmong j.key (flat_map owner_keys (one_of v))) (sym old) (in_left j.key (owner_keys e) [] among) in
    let items : IsAmong j.key (items_to_look l c) =
    in_right j.key (itself c) (of_both owner_keys c ++ dependents_left l c)
    (in_left j.key (of_both owner_keys c) (dependents_left l c) (in_left j.key (flat_map owner_keys (one_of c.old)) (flat_map owner_keys (one_of c.new)) in_old)) in
    subst (λ (w : Controller). IsAmong (record { controller = w; key = j.key }) (keys_of c l)) (sym of_collector) (owed_item c l j.key items)

-- the key of the owner with a uid is among those of the owners
named_key : (u : List ℕ) (d : Data) (ns : List ℕ) (x : Key) (os : List Owner) → uid d ≡ Some u → list_any (λ (o : Owner). is_text u o.uid) os ≡ true
    → AllByRecursion (λ (o : Owner). is_to d o ≡ true → owner_key ns o ≡ Some x) os → IsAmong x (filter_map (owner_key ns) os)
named_key u d ns x [] has e all = absurd (true≢false (sym e))
named_key u d ns x (o ∷ os) has e all = by (is_text u o.uid) refl (named_key u d ns x os has) e
  where
    to : is_to d o ≡ is_text u o.uid
    to = ap (λ v. is_some_and (λ w. is_text w o.uid) v) has

    later_in : (k : Option Key) → IsAmong x (filter_map (owner_key ns) os) → IsAmong x (cons_option k (filter_map (owner_key ns) os))
    later_in None i = i
    later_in (Some k) i = inr i

    by : (b : Bool) → is_text u o.uid ≡ b
        → (list_any (λ (o : Owner). is_text u o.uid) os ≡ true → AllByRecursion (λ (o : Owner). is_to d o ≡ true → owner_key ns o ≡ Some x) os → IsAmong x (filter_map (owner_key ns) os))
        → (b || list_any (λ (o : Owner). is_text u o.uid) os) ≡ true → IsAmong x (cons_option (owner_key ns o) (filter_map (owner_key ns) os))
    by true is later e = subst (λ k. IsAmong x (cons_option k (filter_map (owner_key ns) os))) (sym (all.0 (to ∙ is))) (inl refl)
    by false is later e = later_in (owner_key ns o) (later e all.1)

-- what an accepted request wrote of it owes the key
pub done_owes : (j : WorkKey) (Shown : Looks → Type 0) (h g : History) (r : Request) (moment : List ℕ) (x : Key) (e : Data) (w : Write) → IsReached g → EachChangeOwes j x e → state g (present g) x ≡ Some e
    → write_of (accept r g moment) ≡ Some w → w.key ≡ x → WasUnowed j Shown h g (accept r g moment) → ⊥
done_owes j Shown h g r moment x e w reached owes at wrote key unowed =
    let u : Unowed j Shown x (state g (present g) x) w.put = subst (λ (k : Key). Unowed j Shown k (state g (present g) k) w.put) key (unowed w wrote).0 in
    let put : w.put ≡ Some e = still j Shown x e w.put owes (subst (λ (o : Option Data). Unowed j Shown x o w.put) at u) in is_newer g r moment w (present g) x e reached at wrote put

-- ---- a delete at the version that was looked at

refused_not : (f : Refusal) → is_accepted (answer_of (refused f)) ≡ true → ⊥
refused_not f e = true≢false (sym e)

module _ (h g more : History) (moment : List ℕ) (x : Key) (d : Data) (s : ℕ) (begins : h ≡ g ++ more) (reached : IsReached h) (at : state h s x ≡ Some d) (o : Options) (names : o.version ≡ version d) where
  abbrev Finds : Outcome → Type 0
  Finds u = is_accepted (answer_of u) ≡ true → state g (present g) x ≡ Some d

  decides : (existing : Data) (f : Fate) (a b : Bool) → (b ≡ false → state g (present g) x ≡ Some d)
      → Finds (by_decision x (kept_code o.policy) existing (present g) (cond a (Err mismatch.Uid) (cond b (Err mismatch.ResourceVersion) (Ok f))))
  decides existing f true b is e = absurd (true≢false (sym e))
  decides existing f false true is e = absurd (true≢false (sym e))
  decides existing f false false is e = is refl

  finds : Finds (accept (delete_object x o) g moment)
  finds =
      there Finds (λ f e. absurd (refused_not f e)) x (λ old. by_decision x (kept_code o.policy) old (present g) (decided x.kind o moment old)) (found x (entries_at g (present g)))
      (λ existing is.
      decides existing (fate x.kind o.policy moment existing) (differs o.uid (uid existing)) (differs o.version (version existing))
      (λ equal.
      let two = tells h s x d reached at in
      let one : version existing ≡ version d =
      same (decimal two.0) (version existing) (ap (λ v. differs v (version existing)) (sym two.1 ∙ sym names) ∙ equal) ∙ sym two.1 in
      sym (found-state g x) ∙ is ∙ ap (λ z. Some z) (is_there h g more moment x d d s begins reached at existing is one)))

update_key : (k : Key) (e : Data) (g : History) (moment : List ℕ) → IfSome (write_of (accept (update_object k e) g moment)) (λ w. w.key ≡ k)
update_key k e g moment =
    of_update (λ u. IfSome (write_of u) (λ w. w.key ≡ k)) (λ f. tt) (λ d. tt) k (object_in k.kind e) (entries_at g (present g)) (present g) (λ o existing is at equal valid fits low. refl)
    (λ o existing is at equal free low. refl)

-- ---- the dependents that were looked at

module _ (h g more : History) (moment : List ℕ) (answer : Option (List ℕ)) (j : WorkKey) (t : Turn) (x : Command) (rest : List Command) (d0 : Data) (q : ControlPlane) (since : List Step) (begins : h ≡ g ++ more) (reached : IsReached h)
    (refs_true : ReferencesAreTrue h) (servers : AreServerLists h (ShownIn q since)) (key : t.work_key ≡ j) (of_collector : j.controller ≡ Collector) (end : state h (present h) j.key ≡ Some d0)
    (seen_all : AllByRecursion (IsSeen (IsLookOf (ShownIn q since))) t.sights) (ok : is_accepted (answer_of (accept (request_of answer x) g moment)) ≡ true)
    (unowed : WasUnowed j (ShownIn q since) h g (accept (request_of answer x) g moment)) where
  abbrev Shown : Looks → Type 0
  Shown = ShownIn q since

  reached_g : IsReached g
  reached_g = past g more (subst IsReached begins reached)

  after : LooksAfter j.controller j.key.kind
  after = subst (λ (c : Controller). LooksAfter c j.key.kind) (sym of_collector) tt

  -- what is written under the key of the turn
  own : (w : Write) → write_of (accept (request_of answer x) g moment) ≡ Some w → w.key ≡ j.key → ⊥
  own w wrote is = own_writes h g more moment j (request_of answer x) d0 q since w begins reached after end unowed wrote is

  module _ (d : Data) (there_now : state h (present h) j.key ≡ Some d) where
    abbrev IsDependent : List ℕ → Key × Data → Type 0
    IsDependent u e = Listed h Shown d j.key refs_true servers there_now e × (is_owned_by u e.1 ≡ true)

    of_kinds : (u : List ℕ) → AllByRecursion (IsDependent u) (with_owner (looks t.sights) u)
    of_kinds u =
        let l = looks t.sights in
        joined (IsDependent u) (of_owner u l.config_maps) (of_owner u l.pods ++ (of_owner u l.replica_sets ++ of_owner u l.deployments)) (one kind.ConfigMap u)
        (joined (IsDependent u) (of_owner u l.pods) (of_owner u l.replica_sets ++ of_owner u l.deployments) (one kind.Pod u)
        (joined (IsDependent u) (of_owner u l.replica_sets) (of_owner u l.deployments) (one kind.ReplicaSet u) (one kind.Deployment u)))
      where
        one : (k : Kind) (u : List ℕ) → AllByRecursion (IsDependent u) (of_owner u (shown k t.sights))
        one k u = passed (Listed h Shown d j.key refs_true servers there_now) (λ m. is_owned_by u m.1) (shown k t.sights) (shown_listed h Shown d j.key refs_true servers there_now k t.sights seen_all)

    one_of_all : (P : Key × Data → Type 0) (m : Key × Data) (es : Entries) → AllByRecursion P es → IsAmong m es → P m
    one_of_all P m [] a i = absurd i
    one_of_all P m (e ∷ es) a (inl is) = subst P is a.0
    one_of_all P m (e ∷ es) a (inr i) = one_of_all P m es a.1 i

    dependent : (m : Key × Data) (v : Option (List ℕ)) → uid d ≡ v → IsAmong m (with_owner_if (looks t.sights) v) → (u : List ℕ) × (uid d ≡ Some u) × IsDependent u m
    dependent m None is i = absurd i
    dependent m (Some u) is i = (u, is, one_of_all (IsDependent u) m (with_owner (looks t.sights) u) (of_kinds u) i)

    -- ---- by cases
    stripped : (m : Key × Data) → IsAmong m (dependents (looks t.sights) d) → x ≡ update m.0 (keeping_owners (λ o. not (is_to d o)) m.1) → ⊥
    stripped m among is =
        let z = dependent m (uid d) refl among in
        let u = z.0 in
        let s = z.2.0.0.0 in
        let at : state h s m.0 ≡ Some m.1 = z.2.0.0.1 in
        let items = only (λ r. not (is_to d (owner r))) (references m.1) in
        let less : items_len items < items_len (references m.1) = fewer (λ r. not (is_to d (owner r))) (references m.1) (fails_owned u d (references m.1) z.1 z.2.1) in
        let accepted_it : is_accepted (answer_of (accept (update_object m.0 (keeping_owners (λ o. not (is_to d o)) m.1)) g moment)) ≡ true =
        subst (λ (c : Command). is_accepted (answer_of (accept (request_of answer c) g moment)) ≡ true) is ok in
        let done =
        fewer_done h g more moment m.0 m.1 s begins reached at (codes "ownerReferences") references_are items (keeping_parsed (λ o. not (is_to d o)) m.1 (held h s m.0 m.1 reached at).1.parsed) less accepted_it in
        let owes : EachChangeOwes j m.0 m.1 = owner_owed j m.0 m.1 of_collector (named_key u d (namespace_of m.1) j.key (owners m.1) z.1 z.2.1 z.2.0.1) in
        done_owes j Shown h g (update_object m.0 (keeping_owners (λ o. not (is_to d o)) m.1)) moment m.0 m.1 done.1.0 reached_g owes done.0 done.1.1 done.1.2
        (subst (λ (c : Command). WasUnowed j Shown h g (accept (request_of answer c) g moment)) is unowed)

    finished : (f : List ℕ) → has_text (finalizers d) f ≡ true → x ≡ update j.key (without_finalizer f d) → ⊥
    finished f has is =
        let items = only (λ v. not (text_is (bytes_eq f) v)) (finalizers d) in
        let done =
        fewer_done h g more moment j.key d (present h) begins reached there_now (codes "finalizers") finalizers_are items (without_parsed f d (held h (present h) j.key d reached there_now).1.parsed)
        (fewer (λ v. not (text_is (bytes_eq f) v)) (finalizers d) (fails_text f (finalizers d) has))
        (subst (λ (c : Command). is_accepted (answer_of (accept (request_of answer c) g moment)) ≡ true) is ok) in
        own done.1.0 (ap (λ (c : Command). write_of (accept (request_of answer c) g moment)) is ∙ done.1.1) done.1.2

    kept : list_all is_solid (standings t.reads d) ≡ false → x ≡ update j.key (keeping_owners (λ o. is_solid (standing t.reads (namespace_of d) o)) d) → ⊥
    kept some is =
        let items = only (λ r. is_solid (standing t.reads (namespace_of d) (owner r))) (references d) in
        let done =
        fewer_done h g more moment j.key d (present h) begins reached there_now (codes "ownerReferences") references_are items
        (keeping_parsed (λ o. is_solid (standing t.reads (namespace_of d) o)) d (held h (present h) j.key d reached there_now).1.parsed)
        (fewer (λ r. is_solid (standing t.reads (namespace_of d) (owner r))) (references d) (fails_solid t.reads (namespace_of d) (references d) some))
        (subst (λ (c : Command). is_accepted (answer_of (accept (request_of answer c) g moment)) ≡ true) is ok) in
        own done.1.0 (ap (λ (c : Command). write_of (accept (request_of answer c) g moment)) is ∙ done.1.1) done.1.2

    removed_it : (p : Policy) → is_being_deleted d ≡ false → x ≡ delete j.key (uid d) (option_map seen (version d)) (Some p) → ⊥
    removed_it p live_one is =
        let o : Options = record { uid = uid d; version = version_named answer (option_map seen (version d)); policy = Some p } in
        let names : o.version ≡ version d = named (version d) answer in
        let accepted_it : is_accepted (answer_of (accept (delete_object j.key o) g moment)) ≡ true = subst (λ (c : Command). is_accepted (answer_of (accept (request_of answer c) g moment)) ≡ true) is ok in
        let at_g = finds h g more moment j.key d (present h) begins reached there_now o names accepted_it in
        let z = delete_writes j.key o g moment d at_g live_one accepted_it in
        own z.0 (ap (λ (c : Command). write_of (accept (request_of answer c) g moment)) is ∙ z.1) z.2
      where
        named : (v b : Option (List ℕ)) → version_named b (option_map seen v) ≡ v
        named None b = refl
        named (Some v) b = refl

    cut : (p : Option Policy) → is_being_deleted d ≡ false → x ≡ update j.key (blocking_nobody d) → rest ≡ delete j.key (uid d) (Some answered) p ∷ []
        → (write_of (accept (request_of answer x) g moment) ≡ None) × IsCut j.key d x rest
    cut p live_one is then_delete = (by (write_of (accept (request_of answer x) g moment)) refl, (blocking_nobody d, p, is, then_delete, live_one))
      where
        by : (o : Option Write) → write_of (accept (request_of answer x) g moment) ≡ o → write_of (accept (request_of answer x) g moment) ≡ None
        by None e = e
        by (Some w) e =
            let of_key : IfSome (Some w) (λ (v : Write). v.key ≡ j.key) =
            subst (λ (o : Option Write). IfSome o (λ v. v.key ≡ j.key)) (ap (λ (c : Command). write_of (accept (request_of answer c) g moment)) (sym is) ∙ e) (update_key j.key (blocking_nobody d) g moment) in
            absurd (own w e of_key)

    by_begins : (c : Command) (cs : List Command) → Begins j.key d t.reads (dependents (looks t.sights) d) c cs → x ≡ c → rest ≡ cs → (write_of (accept (request_of answer x) g moment) ≡ None) × IsCut j.key d x rest
    by_begins _ _ (strips m cs among) is others = absurd (stripped m among is)
    by_begins _ _ (finishes f cs has) is others = absurd (finished f has is)
    by_begins _ _ (keeps cs some) is others = absurd (kept some is)
    by_begins _ _ (cuts p live_one) is others = cut p live_one is others
    by_begins _ _ (removes p cs live_one) is others = absurd (removed_it p live_one is)

pub collectors_first : CollectorsFirstCommandsOwe
collectors_first h g more moment answer j t x rest d q since begins reached refs_true servers key of_collector end seen_all reads_lead plan ok unowed =
    let Shown = ShownIn q since in
    let z = planned t.work_key.controller (hand t) x rest (ap (λ (k : WorkKey). k.controller) key ∙ of_collector) plan in
    let same_key : t.work_key.key ≡ j.key = ap (λ (k : WorkKey). k.key) key in
    let after : LooksAfter j.controller j.key.kind = subst (λ (c : Controller). LooksAfter c j.key.kind) (sym of_collector) tt in
    let f = live_found (λ (r : Read). Unowed j Shown r.key r.found (state h (present h) r.key)) t.reads t.work_key.key z.object reads_lead z.read in
    let lead : Unowed j Shown j.key f.read.found (state h (present h) j.key) = subst (λ (k : Key). Unowed j Shown k f.read.found (state h (present h) k)) (f.key ∙ same_key) f.is in
    let is : Some z.object ≡ Some d =
    before j Shown j.key (Some z.object) d (own_coming j h d reached after end) (subst (λ (o : Option Data). Unowed j Shown j.key (Some z.object) o) end (subst (λ (o : Option Data). Unowed j Shown j.key o (state h (present h) j.key)) f.found lead)) in
    let one : z.object ≡ d = some z.object d is in
    let cut = by_begins h g more moment answer j t x rest d q since begins reached refs_true servers key of_collector end seen_all ok unowed z.object (end ∙ sym is) x rest
    (subst (λ (k : Key). Begins k z.object t.reads (dependents (looks t.sights) z.object) x rest) same_key z.begins) refl refl in
    (cut.0, subst (λ (e : Data). IsCut j.key e x rest) one cut.1)
  where
    some : (a b : Data) → Some a ≡ Some b → a ≡ b
    some a b e = cc
