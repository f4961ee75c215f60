-- What a list makes of a follower, and what a publish changes.
use Rattle.std.proofs.Common.{◌≡◌, ℕ, List, [], ◌∷◌, length, Option, Some, None, option_map, IsSome, refl, sym, ap, subst, ◌∙◌}
use Rattle.spec_api.specs.History.{Entries}
use Rattle.spec_server.specs.Snapshots.{Snapshot}
use Rattle.spec_client_go.specs.Informers.{Informer, appended, after_publish, all_applied}
use Rattle.spec_client_go.specs.Reflectors.{Reflector, Delta, Listed, list_of, with_list, list_delta}
use Rattle.spec_client_go.specs.Shifts.{all_shifts}
use Rattle.list_and_watch.specs.Followers.{Follower, after_list, published, changes_in}

-- the delta of the list that was read is appended
pub listed_is : (o : Option Listed) (f : Follower) (d : Delta) → Some d ≡ option_map list_delta o → record { reflector = with_list o f.reflector; informer = appended f.informer d } ≡ after_list o f
listed_is None f d is = cc
listed_is (Some l) f d is = let this : d ≡ list_delta l = cc in ap (λ d. record { reflector = with_list (Some l) f.reflector; informer = appended f.informer d }) this

is_listed : (o : Option Listed) (d : Delta) → Some d ≡ option_map list_delta o → IsSome o
is_listed None d is = cc
is_listed (Some l) d is = refl

pub is_listed_as : (body : List ℕ) (f : Follower) (s q : Reflector) (i : Informer) (d : Delta) → record { reflector = s; informer = i } ≡ f → q ≡ s
    → Some d ≡ option_map list_delta (list_of q.kind body) → IsSome (list_of f.reflector.kind body)
is_listed_as body f s q i d is same delta =
    let at_copy : IsSome (list_of q.kind body) = is_listed (list_of q.kind body) d delta in
    let at_first : IsSome (list_of s.kind body) = subst (λ (t : Reflector). IsSome (list_of t.kind body)) same at_copy in
    subst (λ (g : Follower). IsSome (list_of g.reflector.kind body)) is at_first

-- a copy of the reflector takes the list in, and the informer the delta
pub listed_step : (body : List ℕ) (f : Follower) (s q r : Reflector) (i j : Informer) (d : Delta) → record { reflector = s; informer = i } ≡ f → q ≡ s
    → Some d ≡ option_map list_delta (list_of q.kind body) → r ≡ with_list (list_of q.kind body) q → j ≡ appended i d → record { reflector = r; informer = j } ≡ after_list (list_of f.reflector.kind body) f
listed_step body f s q r i j d is same delta after pending =
    let found = delta ∙ ap (λ (t : Reflector). option_map list_delta (list_of t.kind body)) same in
    let turned = after ∙ ap (λ (t : Reflector). with_list (list_of t.kind body) t) same in
    let both : record { reflector = r; informer = j } ≡ after_list (list_of s.kind body) (record { reflector = s; informer = i }) =
    ap (λ t. record { reflector = t; informer = j }) turned ∙ ap (λ t. record { reflector = with_list (list_of s.kind body) s; informer = t }) pending
    ∙ listed_is (list_of s.kind body) (record { reflector = s; informer = i }) d found in
    subst (λ (g : Follower). record { reflector = r; informer = j } ≡ after_list (list_of g.reflector.kind body) g) is both

-- where none waits, a publish changes nothing
none_applied : (m : Snapshot) (ds : List Delta) (i j : Informer) → length ds ≡ 0 → i ≡ record { published = all_applied m ds; pending = [] } → j ≡ record { published = m; pending = ds } → i ≡ j
none_applied m [] i j none after before = after ∙ sym before
none_applied m (d ∷ ds) i j none after before = cc

pub none_waits : (i : Informer) → length i.pending ≡ 0 → after_publish i ≡ i
none_waits i none = none_applied i.published i.pending (after_publish i) i none refl refl

pub none_changes : (ms : Entries) (ds : List Delta) → length ds ≡ 0 → changes_in ms ds ≡ None
none_changes ms [] none = refl
none_changes ms (d ∷ ds) none = cc

-- where some wait, it changes what they change
pub some_change : (ms : Entries) (ds : List Delta) → (length ds ≡ 0 → ⊥) → changes_in ms ds ≡ Some (all_shifts ms ds)
some_change ms [] some = absurd (some refl)
some_change ms (d ∷ ds) some = refl

pub nothing_published : (f : Follower) (s : Reflector) (i : Informer) → record { reflector = s; informer = i } ≡ f → length i.pending ≡ 0 → f ≡ published f
nothing_published f s i is none =
    subst (λ (g : Follower). g ≡ published g) is (ap (λ t. record { reflector = s; informer = t }) (sym (none_waits i none)))
