-- What an update in a turn of the ReplicaSet controller replaces: just the pod that was looked at.
use Rattle.std.proofs.Common.{◌≡◌, ◌≤◌, ◌<◌, ◌^◌, ◌==◌, ℕ, List, length, false, codes, decimal, is_some, IfSome, Option, Some, None, Ok, refl, sym, ap, ◌∙◌, subst, arith}
use Rattle.std.proofs.lemmas.Bool.Decides.{nat_tests}
use Rattle.std.proofs.lemmas.Fmt.{decimal_nonempty}
use Rattle.std.specs.Option.{option_and_then}
use Rattle.serde_json.specs.Data.{Data, null, boolean, number, string, array, object, Items, put}
use Rattle.serde_json.specs.Find.{get_member, as_str}
use Rattle.serde_json.proofs.Views.{get_member-put, get_member-put_other}
use Rattle.spec_api.proofs.JsonMembers.{apart}
use Rattle.spec_api.specs.declared.kinds.Kind.TheVariants.{Pod}
use Rattle.spec_api.specs.declared.schemas.Schema.TheVariants.{Root, Metadata as TheMetadata}
use Rattle.spec_api.specs.declared.schemas.Shape.TheVariants.{Object as ObjectOf}
use Rattle.spec_api.specs.History.{History, present, found, entries_at, state}
use Rattle.spec_api.specs.Keys.{Key}
use Rattle.spec_api.specs.Metadata.{metadata_of, version, differs}
use Rattle.spec_api.specs.ObjectRequests.{update_object}
use Rattle.spec_api.specs.Reached.{IsReached}
use Rattle.spec_api.specs.Reading.{reading, filled, tidied, tidied_members, is_body, fits}
use Rattle.spec_api.specs.Values.{members_of, inner_of}
use Rattle.spec_api.specs.Verbs.{accept, object_in, write_of}
use Rattle.spec_laws.proofs.Cases.{of_update}
use Rattle.spec_laws.proofs.Limited.{limited}
use Rattle.spec_laws.proofs.ReadAgain.{opened}
use Rattle.spec_laws.proofs.VerbLaws.{found-state, same}
use Rattle.spec_laws.proofs.Versions.{tells, names_one}
use Rattle.spec_reconcile.specs.MetadataEdits.{with_list}
use Rattle.sim_overshoot_laws.proofs.Strangers.{plain}
use Rattle.sim_rest_command_laws.proofs.UnderNames.{meta_name, metadata_filled, found_tidied}

-- ---- what is read of it

is_text : (x : Option Data) (t : List ℕ) → option_and_then as_str x ≡ Some t → x ≡ Some (string t)
is_text None t e = cc
is_text (Some null) t e = cc
is_text (Some (boolean b)) t e = cc
is_text (Some (number n)) t e = cc
is_text (Some (string s)) t e = let is : s ≡ t = cc in ap (λ z. Some (string z)) is
is_text (Some (array ds)) t e = cc
is_text (Some (object ms)) t e = cc

abbrev refs : List ℕ
refs = codes "ownerReferences"

abbrev version_name : List ℕ
version_name = codes "resourceVersion"

-- what is read of a pod with other references has the version that the pod has
version_read : (items : Items) (e o : Data) (t : List ℕ) → (length t == 0) ≡ false → version e ≡ Some t → reading Pod (with_list refs items e) ≡ Ok o → version o ≡ Some t
version_read items e o t some is read =
    let root = ObjectOf (Root Pod) in
    let meta = put refs (array items) (metadata_of e) in
    let ms = put meta_name (object meta) (members_of e) in
    let parts = opened (is_body (object ms)) (fits root (object ms)) (filled Pod (tidied root (object ms))) o read in
    let there : get_member meta_name (tidied_members (Root Pod) ms) ≡ Some (object (tidied_members TheMetadata meta)) =
    found_tidied (Root Pod) meta_name ms (object meta) (get_member-put meta_name (object meta) (members_of e)) refl in
    let at : get_member version_name meta ≡ Some (string t) = get_member-put_other version_name refs (array items) (metadata_of e) (apart version_name refs refl) ∙ is_text (get_member version_name (metadata_of e)) t is in
    let kept : get_member version_name (tidied_members TheMetadata meta) ≡ Some (string t) = found_tidied TheMetadata version_name meta (string t) at some in
    let of_o : metadata_of o ≡ tidied_members TheMetadata meta =
    ap metadata_of (sym parts.2) ∙ ap inner_of (metadata_filled Pod (tidied root (object ms)) (ap is_some there) ∙ there) in
    ap (λ m. option_and_then as_str (get_member version_name m)) of_o ∙ ap (option_and_then as_str) kept

-- ---- what it replaces

not_zero : (n : ℕ) → 0 < n → (n == 0) ≡ false
not_zero n e = grind (arith, nat_tests)

-- a pod that was looked at is what an update of it replaces, if it is written
pub edits_replace : (h : History) (moment : List ℕ) (q : ℕ) (k : Key) (e : Data) (items : Items) → IsReached h → k.kind ≡ Pod → state h q k ≡ Some e
    → IfSome (write_of (accept (update_object k (with_list (codes "ownerReferences") items e)) h moment)) (λ w. (w.key ≡ k) × (state h (present h) w.key ≡ Some e))
edits_replace h moment q k e items reached pod at =
    let d = with_list refs items e in
    let two = tells h q k e reached at in
    let n = two.0 in
    let small : n < 2 ^ 64 = let few : present h ≤ 9007199254740991 = (limited h reached).1 in let low : n ≤ present h = two.3.1 in omega (arith, few, low) in
    let says : (o : Data) → object_in k.kind d ≡ Ok o → version o ≡ Some (decimal n) =
    λ o read. version_read items e o (decimal n) (not_zero (length (decimal n)) (decimal_nonempty n small)) two.1 (plain (reading Pod d) o (subst (λ j. object_in j d ≡ Ok o) pod read)) in
    let one : (existing : Data) → found k (entries_at h (present h)) ≡ Some existing → version existing ≡ Some (decimal n) → state h (present h) k ≡ Some e =
    λ existing is named. let there = sym (found-state h k) ∙ is in there ∙ ap (λ z. Some z) (sym (names_one h q (present h) k k e existing reached at there (two.1 ∙ sym named)).1) in
    let stored : (o existing : Data) → object_in k.kind d ≡ Ok o → differs (version o) (version existing) ≡ false → version existing ≡ Some (decimal n) =
    λ o existing read equal. same (decimal n) (version existing) (ap (λ v. differs v (version existing)) (sym (says o read)) ∙ equal) in
    of_update (λ u. IfSome (write_of u) (λ w. (w.key ≡ k) × (state h (present h) w.key ≡ Some e))) (λ f. tt) (λ shown. tt) k (object_in k.kind d) (entries_at h (present h)) (present h)
    (λ o existing read is equal valid fits low. (refl, one existing is (stored o existing read equal))) (λ o existing read is equal free low. (refl, one existing is (stored o existing read equal)))
