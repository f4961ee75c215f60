-- Objects at one version that are the same but for it.
use Rattle.std.proofs.Common.{◌≡◌, ℕ, List, [], ◌∷◌, IfSome, Option, Some, None, codes, Ordering, Less, Equal, Greater, nat_cmp, is_eq, cond, refl, sym, subst, ap, ap₂, ◌∙◌}
use Rattle.std.proofs.lemmas.Slice.Eq.{bytes_eq-Decides}
use Rattle.std.specs.Cmp.Lexicographic.{slice_cmp}
use Rattle.std.specs.Ordering.{match_ordering}
use Rattle.serde_json.specs.Data.{Data, null, boolean, number, string, array, object, Members, no_members, member, put}
use Rattle.serde_json.specs.Find.{get, get_member}
use Rattle.serde_json.specs.Written.{compact_text}
use Rattle.spec_api.specs.Metadata.{metadata, metadata_of, with_metadata}
use Rattle.spec_laws.specs.ReplacementLaws.{without_version, IsReadBack, SameButForTheVersion, UpdatesAreAtTheVersion}
use Rattle.spec_api.specs.Replacements.{as_stored, keeping, unchanged_metadata, unchanged_members, status_in}
use Rattle.spec_api.specs.Values.{data_of, members_of, inner_of, without}
use Rattle.serde_json.proofs.Views.{get_member-put}
use Rattle.spec_api.proofs.JsonMembers.{metadata_of-with}
use Rattle.spec_laws.proofs.JsonOrder.{IsOrdered, put_back}
use Rattle.spec_api.specs.Reached.{IsParsed}
use Rattle.spec_laws.proofs.Parsed.{inside, parsed_data}
use Rattle.spec_laws.proofs.ParsedObjects.{meta}
use Rattle.spec_laws.proofs.TextLengths.{put_same, put_twice}
use Rattle.spec_laws.proofs.VerbLaws.{metadata_of-status}

none_at : (o : Ordering) (k l : List ℕ) (e : Data) (ms : Members) → match_ordering o (get_member k ms) (Some e) (get_member k ms) ≡ None → (get_member k ms ≡ None → without k ms ≡ ms)
    → cond (is_eq o) ms (member l e (without k ms)) ≡ member l e ms
none_at Less k l e ms h later = ap (member l e) (later h)
none_at Equal k l e ms h later = cc
none_at Greater k l e ms h later = ap (member l e) (later h)

-- what is not there is not taken out
without_none : (k : List ℕ) (ms : Members) → get_member k ms ≡ None → without k ms ≡ ms
without_none k no_members h = refl
without_none k (member l e ms) h = none_at (slice_cmp nat_cmp k l) k l e ms h (without_none k ms)

-- members with what was found at a name put back
abbrev restored : List ℕ → Option Data → Members → Members
restored k None ms = ms
restored k (Some v) ms = put k v ms

restores : (k : List ℕ) (o : Option Data) (ms : Members) → IsOrdered ms → get_member k ms ≡ o → restored k o (without k ms) ≡ ms
restores k None ms a h = without_none k ms h
restores k (Some v) ms a h = put_back k v ms a h

own_metadata : (d : Data) (meta : Members) → IsOrdered (members_of d) → get (codes "metadata") d ≡ Some (object meta) → with_metadata (metadata_of d) d ≡ d
own_metadata null meta a h = cc
own_metadata (boolean b) meta a h = cc
own_metadata (number n) meta a h = cc
own_metadata (string s) meta a h = cc
own_metadata (array ds) meta a h = cc
own_metadata (object ms) meta a h =
    ap object (ap (λ o. put (codes "metadata") (object (inner_of o)) ms) h ∙ put_same (codes "metadata") (object meta) ms a h)

parsed : (d : Data) → IsReadBack d → IsParsed d
parsed d h = subst (λ o. IfSome o IsParsed) h.0 (parsed_data (compact_text d))

-- the version put back into an object without it
abbrev with_version : Option Data → Data → Data
with_version o d = with_metadata (restored (codes "resourceVersion") o (metadata_of d)) d

version_back : (d : Data) → IsReadBack d → with_version (metadata (codes "resourceVersion") d) (without_version d) ≡ d
version_back d h =
    let k = codes "resourceVersion" in
    let o = metadata k d in
    let left = without k (metadata_of d) in
    let whole : restored k o (metadata_of (without_version d)) ≡ metadata_of d = ap (restored k o) (metadata_of-with left d) ∙ restores k o (metadata_of d) (meta d (parsed d h)).0 refl in
    ap (λ m. with_metadata m (without_version d)) whole
    ∙ ap object (put_twice (codes "metadata") (object left) (object (metadata_of d)) (members_of d))
    ∙ own_metadata d h.1 (inside d (parsed d h)).0 h.2

one_object : (d e : Data) → Some d ≡ Some e → d ≡ e
one_object d e h = cc

pub same_objects : SameButForTheVersion
same_objects stored d h g version =
    let texts = bytes_eq-Decides (compact_text stored) (compact_text d) in (
      λ says. ap without_version (one_object stored d (sym h.0 ∙ ap data_of (texts.0 says) ∙ g.0)),
      λ same. texts.1 (ap compact_text (sym (version_back stored h) ∙ ap₂ with_version version same ∙ version_back d g)),
    )

-- ---- updates

first_kept : List (List ℕ)
first_kept = codes "namespace" ∷ codes "uid" ∷ codes "creationTimestamp" ∷ codes "deletionTimestamp" ∷ codes "generation" ∷ []

last_kept : (was ms : Members) (v : Data) → get_member (codes "resourceVersion") was ≡ Some v → get_member (codes "resourceVersion") (keeping unchanged_metadata was ms) ≡ Some v
unfolding first_kept
last_kept was ms v h =
    let k = codes "resourceVersion" in
    let before = keeping first_kept was ms in
    ap (λ o. get_member k (as_stored k o before)) h ∙ get_member-put k v before

pub at_the_version : UpdatesAreAtTheVersion
at_the_version k stored o v h =
    let rv = codes "resourceVersion" in
    let said = keeping unchanged_metadata (metadata_of stored) (metadata_of o) in (
      ap (get_member rv) (metadata_of-with said (object (keeping (unchanged_members k) (members_of stored) (members_of o)))) ∙ last_kept (metadata_of stored) (metadata_of o) v h,
      ap (get_member rv) (metadata_of-status (status_in k (get (codes "status") o)) stored) ∙ h,
    )
