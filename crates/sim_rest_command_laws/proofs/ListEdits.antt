-- What is read of an object with another list in its metadata.
use Rattle.std.proofs.Common.{◌≡◌, ◌==◌, length, ℕ, suc, List, true, false, true≢false, bytes_eq, codes, is_some, IfSome, Option, Some, None, Ok, Ordering, Less, Equal, Greater, nat_cmp, is_eq, refl, sym, ap, ◌∙◌, subst}
use Rattle.std.proofs.lemmas.Cmp.{nat_list_cmp_total}
use Rattle.std.proofs.lemmas.Map.Text.{is_eq-slice_cmp}
use Rattle.std.specs.Cmp.Lexicographic.{slice_cmp}
use Rattle.std.specs.Ordering.{match_ordering}
use Rattle.std.specs.Option.{option_and_then}
use Rattle.serde_json.specs.Data.{Data, null, boolean, number, string, array, object, Items, no_items, item, Members, no_members, member, put}
use Rattle.serde_json.specs.Events.{items_len}
use Rattle.serde_json.specs.Find.{get_member, as_str}
use Rattle.serde_json.proofs.Views.{get_member-put, get_member-put_other}
use Rattle.spec_api.proofs.JsonMembers.{apart}
use Rattle.spec_api.specs.declared.kinds.Kind.{Kind}
use Rattle.spec_api.specs.declared.kinds.Kind.TheVariants.{ConfigMap, Pod, ReplicaSet, Deployment}
use Rattle.spec_api.specs.declared.schemas.Schema.TheVariants.{Root, Metadata as TheMetadata}
use Rattle.spec_api.specs.declared.schemas.Shape.{Shape}
use Rattle.spec_api.specs.declared.schemas.Shape.TheVariants.{Object as ObjectOf}
use Rattle.spec_api.specs.Metadata.{metadata, metadata_of, version}
use Rattle.spec_api.specs.Reached.{IsBefore}
use Rattle.spec_api.specs.Reading.{reading, filled, fits, is_body, item_of, tidied, tidied_items, tidied_members}
use Rattle.spec_api.specs.Schemas.{property_at}
use Rattle.spec_api.specs.SelectorValues.{items_in}
use Rattle.spec_api.specs.Values.{members_of, inner_of}
use Rattle.spec_laws.proofs.JsonOrder.{IsOrdered}
use Rattle.spec_laws.proofs.ReadAgain.{opened, same_name}
use Rattle.spec_reconcile.specs.MetadataEdits.{with_list}
use Rattle.sim_rest_command_laws.proofs.UnderNames.{Under, under_tidied, found_tidied, meta_name, metadata_filled}

-- ---- a member that was put, in order, is the only one under its name
below_all : (j k : List ℕ) (ms : Members) → slice_cmp nat_cmp j k ≡ Less → IsBefore k ms → IsBefore j ms
below_all j k no_members h b = tt
below_all j k (member l e ms) h b = (nat_list_cmp_total.trans j k l h b.0, below_all j k ms h b.1)

before_none : (q : List ℕ) (P : Data → Type 0) (ms : Members) → IsBefore q ms → Under q P ms
before_none q P no_members b = tt
before_none q P (member l e ms) b = (λ f. absurd (true≢false (sym f ∙ sym (is_eq-slice_cmp q l) ∙ ap is_eq b.0)), before_none q P ms b.1)

put_only : (q : List ℕ) (P : Data → Type 0) (d : Data) (ms : Members) → P d → IsOrdered ms → Under q P (put q d ms)
put_only q P d no_members p o = (λ f. p, tt)
put_only q P d (member l e ms) p o = at (slice_cmp nat_cmp q l) refl (put_only q P d ms p o.1)
  where
    at : (r : Ordering) → slice_cmp nat_cmp q l ≡ r → Under q P (put q d ms) → Under q P (match_ordering r (member q d (member l e ms)) (member l d ms) (member l e (put q d ms)))
    at Less is later = (λ f. p, before_none q P (member l e ms) (is, below_all q l ms is o.0))
    at Equal is later = (λ f. p, before_none q P ms (subst (λ n. IsBefore n ms) (sym (same_name q l is)) o.0))
    at Greater is later = (λ f. absurd (true≢false (sym f ∙ sym (is_eq-slice_cmp q l) ∙ ap is_eq is)), later)

found_under : (q : List ℕ) (P : Data → Type 0) (ms : Members) → Under q P ms → IfSome (get_member q ms) P
found_under q P no_members u = tt
found_under q P (member l e ms) u = by (slice_cmp nat_cmp q l) (is_eq-slice_cmp q l) (found_under q P ms u.1)
  where
    by : (r : Ordering) → is_eq r ≡ bytes_eq q l → IfSome (get_member q ms) P → IfSome (match_ordering r (get_member q ms) (Some e) (get_member q ms)) P
    by Less is later = later
    by Equal is later = u.0 (sym is)
    by Greater is later = later

pub tidied_count : (s : Shape) (ds : Items) → items_len (tidied_items s ds) ≡ items_len ds
tidied_count s no_items = refl
tidied_count s (item d ds) = ap suc (tidied_count s ds)

meta_tidied : (k : Kind) (ms meta : Members) → get_member (codes "metadata") ms ≡ Some (object meta) → get_member (codes "metadata") (tidied_members (Root k) ms) ≡ Some (object (tidied_members TheMetadata meta))
meta_tidied ConfigMap ms meta at = found_tidied (Root ConfigMap) meta_name ms (object meta) at refl
meta_tidied Pod ms meta at = found_tidied (Root Pod) meta_name ms (object meta) at refl
meta_tidied ReplicaSet ms meta at = found_tidied (Root ReplicaSet) meta_name ms (object meta) at refl
meta_tidied Deployment ms meta at = found_tidied (Root Deployment) meta_name ms (object meta) at refl

-- what is read of an object with this metadata
pub meta_read : (k : Kind) (meta : Members) (d o : Data) → reading k (object (put (codes "metadata") (object meta) (members_of d))) ≡ Ok o → metadata_of o ≡ tidied_members TheMetadata meta
meta_read k meta d o read =
    let root = ObjectOf (Root k) in
    let ms = put meta_name (object meta) (members_of d) in
    let parts = opened (is_body (object ms)) (fits root (object ms)) (filled k (tidied root (object ms))) o read in
    let there = meta_tidied k ms meta (get_member-put meta_name (object meta) (members_of d)) in
    ap metadata_of (sym parts.2) ∙ ap inner_of (metadata_filled k (tidied root (object ms)) (ap is_some there) ∙ there)

is_text : (x : Option Data) (t : List ℕ) → option_and_then as_str x ≡ Some t → x ≡ Some (string t)
is_text None t e = cc
is_text (Some null) t e = cc
is_text (Some (boolean b)) t e = cc
is_text (Some (number n)) t e = cc
is_text (Some (string s)) t e = let is : s ≡ t = cc in ap (λ z. Some (string z)) is
is_text (Some (array ds)) t e = cc
is_text (Some (object ms)) t e = cc

-- ---- an object with another list in its metadata
module _ (k : Kind) (q : List ℕ) (items : Items) (e o : Data) (read : reading k (with_list q items e) ≡ Ok o) where
  abbrev meta : Members
  meta = put q (array items) (metadata_of e)

  of_o : metadata_of o ≡ tidied_members TheMetadata meta
  of_o = meta_read k meta e o read

  -- its version is read
  pub version_read : (t : List ℕ) → bytes_eq (codes "resourceVersion") q ≡ false → (length t == 0) ≡ false → version e ≡ Some t → version o ≡ Some t
  version_read t other some is =
      let name = codes "resourceVersion" in
      let at : get_member name meta ≡ Some (string t) = get_member-put_other name q (array items) (metadata_of e) (apart name q other) ∙ is_text (get_member name (metadata_of e)) t is in
      ap (λ m. option_and_then as_str (get_member name m)) of_o ∙ ap (option_and_then as_str) (found_tidied TheMetadata name meta (string t) at some)

  -- and of the list, if it is there, as many as it has
  pub count_read : IsOrdered (metadata_of e) → IfSome (metadata q o) (λ v. items_len (items_in (Some v)) ≡ items_len items)
  count_read ordered =
      subst (λ m. IfSome (get_member q m) (λ v. items_len (items_in (Some v)) ≡ items_len items)) (sym of_o)
      (found_under q (λ v. items_len (items_in (Some v)) ≡ items_len items) (tidied_members TheMetadata meta)
      (under_tidied q TheMetadata (λ v. v ≡ array items) (λ v. items_len (items_in (Some v)) ≡ items_len items)
      (λ d is. ap (λ v. items_len (items_in (Some (tidied (property_at TheMetadata q).shape v)))) is ∙ tidied_count (item_of (property_at TheMetadata q).shape) items) meta
      (put_only q (λ v. v ≡ array items) (array items) (metadata_of e) refl ordered)))
