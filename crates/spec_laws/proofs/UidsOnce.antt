-- The uid of a new object is that of no object that was ever there.
use Rattle.std.proofs.Common.{◌≡◌, ◌≤◌, ◌+◌, ℕ, List, [], ◌∷◌, length, codes, IfSome, Option, Some, None, arith, refl, sym, subst, ap, ◌∙◌}
use Rattle.serde_json.specs.Data.{Data}
use Rattle.spec_api.specs.Checks.{finalizers}
use Rattle.spec_api.specs.Deletion.{left_by, being_deleted}
use Rattle.spec_api.specs.History.{History, Write, writes, found, entries_at, present}
use Rattle.spec_laws.specs.HistoryLaws.{OfStored, KeepsText}
use Rattle.spec_laws.specs.LifecycleLaws.{NoneHas, NewUidsAreUnused}
use Rattle.spec_api.specs.Reached.{IsReached}
use Rattle.spec_api.specs.Metadata.{metadata_of, uid, at_revision}
use Rattle.spec_api.specs.Keys.{Key}
use Rattle.spec_api.specs.Replacements.{in_place, updated, with_status_in}
use Rattle.spec_api.specs.Uids.{uid_text, uid_revision, cluster_word}
use Rattle.spec_api.specs.Verbs.{accept, new_name, object_in, with_write, write_of}
use Rattle.spec_api.specs.ObjectRequests.{Request}
use Rattle.spec_laws.proofs.Cases.{of_accept, of_create}
use Rattle.spec_laws.proofs.EachWrite.{AllPut, put_write, there_put}
use Rattle.spec_laws.proofs.SetMetadata.{uid-created}
use Rattle.spec_laws.proofs.Limited.{limited}
use Rattle.spec_laws.proofs.Compacted.{same_writes}
use Rattle.spec_laws.proofs.Reaching.{by_reached}
use Rattle.spec_api.proofs.Uids.{existing}
use Rattle.spec_laws.proofs.VerbLaws.{kept_is, found-state, kept_in_place, present-write, text-marked, text-restated}

-- an object whose uid is that of a create up to a revision
abbrev IsBorn : ℕ → Data → Type 0
IsBorn n d = (r : ℕ) × (uid d ≡ Some (uid_text cluster_word r)) × (r ≤ n)

abbrev IsBornAt : ℕ → Key → Data → Type 0
IsBornAt n k d = IsBorn n d

abbrev AreBorn : ℕ → List Write → Type 0
AreBorn n ws = AllPut (IsBornAt n) ws

later_one : (n m : ℕ) (o : Option Data) → n ≤ m → IfSome o (IsBorn n) → IfSome o (IsBorn m)
later_one n m None le b = tt
later_one n m (Some d) le b = let low : b.0 ≤ n = b.2 in (b.0, b.1, omega (arith, le, low))

later_all : (n m : ℕ) (ws : List Write) → n ≤ m → AreBorn n ws → AreBorn m ws
later_all n m [] le b = tt
later_all n m (w ∷ ws) le b = (later_one n m w.put le b.0, later_all n m ws le b.1)

-- what is there was born
found_born : (h : History) (k : Key) (d : Data) → AreBorn (present h) (writes h) → found k (entries_at h (present h)) ≡ Some d → IsBorn (present h) d
found_born h k d b at = there_put (IsBornAt (present h)) h (present h) k d b (sym (found-state h k) ∙ at)

-- who keeps the uid stays born
born_kept : (n : ℕ) (was new : Data) → IsBorn n was → KeepsText (codes "uid") was new → IsBorn (n + 1) new
born_kept n was new b keeps = let low : b.0 ≤ n = b.2 in (b.0, kept_is (uid was) (uid new) (uid_text cluster_word b.0) b.1 keeps, omega (arith, low))

born_by : (q : Request) (h : History) (moment : List ℕ) → AreBorn (present h) (writes h) → OfStored (accept q h moment) (λ k d. IsBorn (present h + 1) d)
born_by q h moment b =
    let r = present h + 1 in
    of_accept (λ o. OfStored o (λ k d. IsBorn (present h + 1) d)) (λ f. tt) (λ code body. tt) q h moment
    (λ kind ns d o read valid fits free room. (r, uid-created kind r ns (new_name kind ns o (entries_at h (present h)) (present h)).name moment o, omega arith))
    (λ k o was at valid fits low. born_kept (present h) was (updated k.kind r was (in_place k.kind was o)) (found_born h k was b at) (kept_in_place k.kind r was o).0)
    (λ k o was at free low. tt)
    (λ k o was at fits low.
    let d = with_status_in k.kind was o in
    born_kept (present h) was (at_revision r (metadata_of d) d) (found_born h k was b at) (text-restated (codes "uid") k.kind r was o refl))
    (λ k o was at low.
    let left = left_by o.policy (finalizers was) in
    let d = being_deleted k.kind moment left was in
    born_kept (present h) was (at_revision r (metadata_of d) d) (found_born h k was b at) (text-marked (codes "uid") k.kind r moment left was refl refl refl refl))
    (λ k o was at none low. tt)

born_write : (h : History) (o : Option Write) → IfSome o (λ w. IfSome w.put (IsBorn (present h + 1))) → AreBorn (present h) (writes h) → AreBorn (present (with_write h o)) (writes (with_write h o))
born_write h None v b = b
born_write h (Some w) v b =
    subst (λ n. AreBorn n (writes (with_write h (Some w)))) (sym (present-write h w))
    (put_write (IsBornAt (present h + 1)) h (Some w) v (later_all (present h) (present h + 1) (writes h) (omega arith) b))

born : (h : History) → IsReached h → AreBorn (present h) (writes h)
born h reached = by_reached (λ h. AreBorn (present h) (writes h)) (λ q h moment a t b. born_write h (write_of (accept q h moment)) (born_by q h moment b) b) (same_writes (λ ws. AreBorn (length ws + 1) ws)) h reached tt

pub one_text : (s t : List ℕ) → Some s ≡ Some t → s ≡ t
one_text s t is = cc

-- a uid of an earlier create is another
not_next : (n r : ℕ) (d : Data) → n ≤ 9007199254740991 → r ≤ n → uid d ≡ Some (uid_text cluster_word r) → uid d ≡ Some (uid_text cluster_word (n + 1)) → ⊥
not_next n r d low le is next =
    let one : uid_text cluster_word r ≡ uid_text cluster_word (n + 1) = one_text (uid_text cluster_word r) (uid_text cluster_word (n + 1)) (sym is ∙ next) in
    let same : r ≡ n + 1 = sym (existing cluster_word r (omega (arith, le, low))) ∙ ap uid_revision one ∙ existing cluster_word (n + 1) (omega (arith, low)) in
    absurd (omega (arith, same, le))

one_has_not : (n : ℕ) (o : Option Data) → n ≤ 9007199254740991 → IfSome o (IsBorn n) → IfSome o (λ d. uid d ≡ Some (uid_text cluster_word (n + 1)) → ⊥)
one_has_not n None low b = tt
one_has_not n (Some d) low b = λ next. not_next n b.0 d low b.2 b.1 next

none_has : (n : ℕ) (ws : List Write) → n ≤ 9007199254740991 → AreBorn n ws → NoneHas (uid_text cluster_word (n + 1)) ws
none_has n [] low b = tt
none_has n (w ∷ ws) low b = (one_has_not n w.put low b.0, none_has n ws low b.1)

pub unused : NewUidsAreUnused
unused h kind ns d moment reached =
    of_create (λ u. OfStored u (λ k new. (t : List ℕ) × (uid new ≡ Some t) × NoneHas t (writes h))) (λ f. tt) kind ns (object_in kind d) (entries_at h (present h)) (present h) moment
    (λ o read valid fits free room.
    (uid_text cluster_word (present h + 1), uid-created kind (present h + 1) ns (new_name kind ns o (entries_at h (present h)) (present h)).name moment o, none_has (present h) (writes h) (limited h reached).1 (born h reached)))
