-- What is stored has a name and a namespace as they have to be.
use Rattle.std.proofs.Common.{◌≡◌, ℕ, List, true, Some, sym, ◌∙◌}
use Rattle.serde_json.specs.Data.{Data}
use Rattle.spec_api.specs.History.{History, writes, found, entries_at, present, state}
use Rattle.spec_laws.specs.HistoryLaws.{OfStored}
use Rattle.spec_api.specs.Keys.{Key, is_namespace, is_subdomain}
use Rattle.spec_api.specs.Reading.{reading}
use Rattle.spec_api.specs.Verbs.{Outcome, accept, shown, object_in, write_of}
use Rattle.spec_api.specs.ObjectRequests.{Request, get_object, list_objects, create_object, update_object, update_status, patch_object, delete_object}
use Rattle.spec_laws.proofs.Cases.{of_create, of_delete, of_patch, of_status, of_update}
use Rattle.spec_laws.proofs.Compacted.{same_writes}
use Rattle.spec_laws.proofs.Guards.{there}
use Rattle.spec_laws.proofs.EachWrite.{AllPut, put_write, there_put}
use Rattle.spec_laws.proofs.VerbLaws.{found-state}
use Rattle.spec_api.specs.Reached.{CanBeRead, IsReached}
use Rattle.spec_laws.specs.ParsedLaws.{NamesAreValid}
use Rattle.spec_laws.proofs.Reaching.{by_reached}
use Rattle.spec_laws.proofs.SentObjects.{created_valid}

abbrev pub IsValid : Key → Type 0
IsValid k = (is_namespace k.namespace ≡ true) × (is_subdomain k.name ≡ true)

module _ (h : History) (moment : List ℕ) (all : (k : Key) (d : Data) → state h (present h) k ≡ Some d → IsValid k) where
  abbrev P : Outcome → Type 0
  P o = OfStored o (λ k d. IsValid k)

  there_now : (k : Key) (existing : Data) → found k (entries_at h (present h)) ≡ Some existing → IsValid k
  there_now k existing is = all k existing (sym (found-state h k) ∙ is)

  valid_by : (q : Request) → CanBeRead q → P (accept q h moment)
  valid_by (get_object k) a = there P (λ f. tt) k shown (found k (entries_at h (present h))) (λ d is. tt)
  valid_by (list_objects v) a = tt
  valid_by (create_object kind ns d) a =
      of_create P (λ f. tt) kind ns (object_in kind d) (entries_at h (present h)) (present h) moment
      (λ o read valid fits free room. (a.0, created_valid kind ns o (entries_at h (present h)) (present h) (present h) valid))
  valid_by (update_object k d) a =
      of_update P (λ f. tt) (λ d. tt) k (object_in k.kind d) (entries_at h (present h)) (present h) (λ o existing read is equal valid fits low. there_now k existing is) (λ o existing read is equal free low. tt)
  valid_by (update_status k d) a = of_status P (λ f. tt) (λ d. tt) k (reading k.kind d) (entries_at h (present h)) (present h) (λ o existing read is equal fits low. there_now k existing is)
  valid_by (patch_object k d) a =
      of_patch P (λ f. tt) (λ d. tt) k d (entries_at h (present h)) (present h) (λ o existing read is equal valid fits low. there_now k existing is) (λ o existing read is equal free low. tt)
  valid_by (delete_object k o) a =
      of_delete P (λ f. tt) (λ code body. tt) k o (entries_at h (present h)) (present h) moment (λ existing is same_uid equal low. there_now k existing is) (λ existing is same_uid equal none low. tt)

-- ---- what is written

abbrev pub IsValidAt : Key → Data → Type 0
IsValidAt k d = IsValid k

pub all_valid : (h : History) → IsReached h → AllPut IsValidAt (writes h)
all_valid h reached =
    by_reached (λ h. AllPut IsValidAt (writes h))
    (λ q h moment asked t a. put_write IsValidAt h (write_of (accept q h moment)) (valid_by h moment (λ k d is. there_put IsValidAt h (present h) k d a is) q asked) a)
    (same_writes (AllPut IsValidAt)) h reached tt

pub names_valid : NamesAreValid
names_valid h r k d reached is = there_put IsValidAt h r k d (all_valid h reached) is
