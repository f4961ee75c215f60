-- What published changes put has the key under which it is put.
use Rattle.std.proofs.Common.{◌≡◌, ◌==◌, ◌++◌, inl, inr, List, [], ◌∷◌, map, filter, Bool, true, false, cond, IfSome, Option, Some, None, Ordering, Less, Equal, Greater, refl, sym, subst}
use Rattle.std.specs.BTreeMap.{insert_entry}
use Rattle.std.specs.List.{AllByRecursion}
use Rattle.std.specs.Ordering.{match_ordering}
use Rattle.serde_json.specs.Data.{Data}
use Rattle.spec_api.specs.declared.kinds.Kind.{Kind}
use Rattle.spec_api.specs.History.{Entries, found}
use Rattle.spec_api.specs.Keys.{Key, key_cmp, is_same_key}
use Rattle.spec_api.specs.Kinds.{rank}
use Rattle.spec_api.specs.Objects.{Object}
use Rattle.spec_api.proofs.PutLaws.{same_name}
use Rattle.spec_client_go.specs.OwedKeys.{own_key}
use Rattle.spec_client_go.specs.Reflectors.{Delta, replace, put, remove, mark, name_in, put_in, put_all, apply_delta}
use Rattle.spec_client_go.specs.Shifts.{Shift, overlaid, shift_at, is_change, removal, shifts_of, all_shifts}
use Rattle.spec_client_go.proofs.WorkKeyOrder.{name_tells}
use Rattle.spec_sim.specs.Clusters.{follower, request, compact, moves, restart}
use Rattle.spec_sim.specs.Followers.{Notification, notified, notifications}
use Rattle.spec_sim.specs.Moves as moving
use Rattle.spec_sim.specs.ControlPlanes.{ControlPlane, Step, in_cluster, handle, works, tick, step}
use Rattle.sim_worker_laws.specs.OwedLaws.{IsAmong}
use Rattle.sim_rest_laws.specs.ShiftRunLaws.{published_by, all_published}
use Rattle.sim_rest_laws.specs.StillLaws.{IsOwn}

-- ---- lists

all_both : {A : Type 0} (P : A → Type 0) (xs ys : List A) → AllByRecursion P xs → AllByRecursion P ys → AllByRecursion P (xs ++ ys)
all_both P [] ys a b = b
all_both P (x ∷ xs) ys a b = (a.0, all_both P xs ys a.1 b)

all_among : {A : Type 0} (P : A → Type 0) (xs : List A) (x : A) → AllByRecursion P xs → IsAmong x xs → P x
all_among P [] x a i = absurd i
all_among P (y ∷ ys) x a (inl is) = subst P is a.0
all_among P (y ∷ ys) x a (inr i) = all_among P ys x a.1 i

-- ---- maps

abbrev IsUnderOwn : Key × Data → Type 0
IsUnderOwn m = own_key m.0.kind m.1 ≡ m.0

own_insert : (ms : Entries) (k : Key) (d : Data) → AllByRecursion IsUnderOwn ms → own_key k.kind d ≡ k → AllByRecursion IsUnderOwn (insert_entry key_cmp ms k d)
own_insert [] k d a own = (own, tt)
own_insert (e ∷ es) k d a own = by (key_cmp k e.0) refl (own_insert es k d a.1 own)
  where
    by : (o : Ordering) → key_cmp k e.0 ≡ o → AllByRecursion IsUnderOwn (insert_entry key_cmp es k d)
        → AllByRecursion IsUnderOwn (match_ordering o ((k, d) ∷ e ∷ es) ((e.0, d) ∷ es) (e ∷ insert_entry key_cmp es k d))
    by Less is rest = (own, a)
    by Equal is rest = (subst (λ (x : Key). own_key x.kind d ≡ x) (name_tells k e.0 is) own, a.1)
    by Greater is rest = (a.0, rest)

own_all : (os : List Object) (ms : Entries) → AllByRecursion IsUnderOwn ms → AllByRecursion IsUnderOwn (put_all ms os)
own_all [] ms a = a
own_all (o ∷ os) ms a = own_all os (put_in ms o) (own_insert ms (name_in o) o.value a refl)

own_found : (ms : Entries) (x : Key) → AllByRecursion IsUnderOwn ms → IfSome (found x ms) (λ d. own_key x.kind d ≡ x)
own_found [] x a = tt
own_found (m ∷ ms) x a = by (is_same_key x m.0) refl (own_found ms x a.1)
  where
    by : (c : Bool) → is_same_key x m.0 ≡ c → IfSome (found x ms) (λ d. own_key x.kind d ≡ x) → IfSome (cond c (Some m.1) (found x ms)) (λ d. own_key x.kind d ≡ x)
    by true is rest = subst (λ (k : Key). own_key k.kind m.1 ≡ k) (sym (same_name x m.0 is)) a.0
    by false is rest = rest

-- ---- changes

own_between : (old new es : Entries) → AllByRecursion IsUnderOwn new → AllByRecursion IsOwn (filter is_change (map (λ e. shift_at old new e.0) es))
own_between old new [] a = tt
own_between old new (e ∷ es) a = by (is_change (shift_at old new e.0)) (own_between old new es a)
  where
    by : (c : Bool) → AllByRecursion IsOwn (filter is_change (map (λ e. shift_at old new e.0) es))
        → AllByRecursion IsOwn (cond c (shift_at old new e.0 ∷ filter is_change (map (λ e. shift_at old new e.0) es)) (filter is_change (map (λ e. shift_at old new e.0) es)))
    by true rest = (own_found new e.0 a, rest)
    by false rest = rest

own_removal : (k : Key) (o : Option Data) → AllByRecursion IsOwn (removal k o)
own_removal k None = tt
own_removal k (Some d) = (tt, tt)

own_shifts : (ms : Entries) (d : Delta) → AllByRecursion IsOwn (shifts_of ms d)
own_shifts ms (replace r os) = own_between ms (put_all [] os) (overlaid ms (put_all [] os)) (own_all os [] tt)
own_shifts ms (put o) = (refl, tt)
own_shifts ms (remove r k) = own_removal k (found k ms)
own_shifts ms (mark r) = tt

all_own : (ms : Entries) (ds : List Delta) → AllByRecursion IsOwn (all_shifts ms ds)
all_own ms [] = tt
all_own ms (d ∷ ds) = all_both IsOwn (shifts_of ms d) (all_shifts (apply_delta ms d) ds) (own_shifts ms d) (all_own (apply_delta ms d) ds)

-- ---- what is published

abbrev TellsOwn : Notification → Type 0
TellsOwn n = IsOwn n.shift

own_notified : (b : Bool) (ss : List Shift) → AllByRecursion IsOwn ss → AllByRecursion TellsOwn (notified b ss)
own_notified b [] a = tt
own_notified b (s ∷ ss) a = (a.0, own_notified b ss a.1)

own_notifications : (b : Bool) (ms : Entries) (ds : List Delta) → AllByRecursion TellsOwn (notifications b ms ds)
own_notifications true ms ds = own_notified false (all_shifts ms ds) (all_own ms ds)
own_notifications false ms [] = tt
own_notifications false ms (replace r os ∷ ds) =
    let d = replace r os in
    all_both TellsOwn (notified true (shifts_of ms d)) (notified false (all_shifts (apply_delta ms d) ds)) (own_notified true (shifts_of ms d) (own_shifts ms d))
    (own_notified false (all_shifts (apply_delta ms d) ds) (all_own (apply_delta ms d) ds))
own_notifications false ms (put o ∷ ds) = one ms (put o) ds (own_notifications false (apply_delta ms (put o)) ds)
  where
    one : (ms : Entries) (d : Delta) (ds : List Delta) → AllByRecursion TellsOwn (notifications false (apply_delta ms d) ds)
        → AllByRecursion TellsOwn (notified false (shifts_of ms d) ++ notifications false (apply_delta ms d) ds)
    one ms d ds rest = all_both TellsOwn (notified false (shifts_of ms d)) (notifications false (apply_delta ms d) ds) (own_notified false (shifts_of ms d) (own_shifts ms d)) rest
own_notifications false ms (remove r k ∷ ds) =
    all_both TellsOwn (notified false (removal k (found k ms))) (notifications false (apply_delta ms (remove r k)) ds) (own_notified false (removal k (found k ms)) (own_removal k (found k ms)))
    (own_notifications false (apply_delta ms (remove r k)) ds)
own_notifications false ms (mark r ∷ ds) = own_notifications false ms ds

own_step : (k : Kind) (p : ControlPlane) (s : Step) → AllByRecursion TellsOwn (published_by k p s)
own_step k p (in_cluster (request l)) = tt
own_step k p (in_cluster (compact r)) = tt
own_step k p (in_cluster (moves j moving.list)) = tt
own_step k p (in_cluster (moves j moving.watch)) = tt
own_step k p (in_cluster (moves j moving.stream)) = tt
own_step k p (in_cluster (moves j (moving.send n))) = tt
own_step k p (in_cluster (moves j moving.send_bookmark)) = tt
own_step k p (in_cluster (moves j (moving.deliver n))) = tt
own_step k p (in_cluster (moves j moving.deliver_all)) = tt
own_step k p (in_cluster (moves j moving.cut)) = tt
own_step k p (in_cluster (moves j moving.publish)) = by (rank j == rank k) ((follower k p.cluster).reflector.revision == 0)
  where
    by : (x y : Bool) → (let f = follower k p.cluster in AllByRecursion TellsOwn (cond x (cond y [] (notifications f.has_listed f.informer.published.members f.informer.pending)) []))
    by true true = tt
    by true false = let f = follower k p.cluster in own_notifications f.has_listed f.informer.published.members f.informer.pending
    by false y = tt
own_step k p (in_cluster restart) = tt
own_step k p (handle j) = tt
own_step k p (works w x) = tt
own_step k p (tick n) = tt

own_steps : (k : Kind) (p : ControlPlane) (ss : List Step) → AllByRecursion TellsOwn (all_published k p ss)
own_steps k p [] = tt
own_steps k p (s ∷ ss) = all_both TellsOwn (published_by k p s) (all_published k (step p s).plane ss) (own_step k p s) (own_steps k (step p s).plane ss)

pub published_own : (k : Kind) (p : ControlPlane) (ss : List Step) (n : Notification) → IsAmong n (all_published k p ss) → IsOwn n.shift
published_own k p ss n i = all_among TellsOwn (all_published k p ss) n (own_steps k p ss) i
