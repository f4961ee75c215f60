-- What is stored by an update to an object for which no owner waits any more.
use Rattle.std.proofs.Common.{◌≡◌, ◌+◌, ℕ, List, [], ◌∷◌, false, bytes_eq, codes, Option, Some, None, Ok, inr, refl, sym, ap, subst, ◌∙◌}
use Rattle.std.specs.Prelude.{option_and_then, unwrap_or}
use Rattle.serde_json.specs.Data.{Data, null, boolean, number, string, array, object, Items, no_items, item, Members, put}
use Rattle.serde_json.specs.Find.{get_member, as_array}
use Rattle.serde_json.proofs.Views.{get_member-put_other}
use Rattle.spec_api.proofs.VerbSteps.{with_defaults}
use Rattle.spec_api.proofs.JsonMembers.{apart, get_member-without_other, metadata_of-with}
use Rattle.spec_api.specs.declared.kinds.Kind.{Kind}
use Rattle.spec_api.specs.Defaults.{defaulted}
use Rattle.spec_api.specs.History.{entries_at, present}
use Rattle.spec_api.specs.Metadata.{Owner, owners, owners_in, metadata, metadata_of, with_metadata}
use Rattle.spec_api.specs.Reading.{reading}
use Rattle.spec_api.specs.Replacements.{as_stored, keeping, unchanged_metadata, unchanged_members, in_place, updated}
use Rattle.spec_api.specs.SelectorValues.{items_in}
use Rattle.spec_api.specs.Values.{members_of}
use Rattle.spec_api.specs.Verbs.{object_in}
use Rattle.spec_laws.specs.HistoryLaws.{OfStored}
use Rattle.spec_laws.specs.IdentityLaws.{Each}
use Rattle.spec_laws.specs.ParsedLaws.{AreEdited, none, set}
use Rattle.spec_laws.proofs.Cases.{of_update}
use Rattle.spec_laws.proofs.EditedReferences.{read_again}
use Rattle.spec_laws.proofs.Removals.{member-updated}
use Rattle.spec_laws.proofs.VerbLaws.{one_object, metadata_of-defaulted}
use Rattle.spec_reconcile.specs.MetadataEdits.{references, unblocked, all_unblocked, blocking_nobody}
use Rattle.spec_laws.specs.CollectorLaws.{EachAlike, CutsKeepOwners}
use Rattle.spec_laws.proofs.LikeOwners.{nobody_keeps}

abbrev refs : List ℕ
refs = codes "ownerReferences"

abbrev owners_from : Option Data → List Owner
owners_from o = owners_in (unwrap_or (option_and_then as_array o) no_items)

-- ---- it is read as it is

edited : (rs : Items) → AreEdited rs (all_unblocked rs)
edited no_items = none
edited (item r rs) = set (codes "blockOwnerDeletion") false r rs (all_unblocked rs) (inr refl) (edited rs)

these : (k : Kind) (d r : Data) (rs : Items) → metadata refs d ≡ Some (array (item r rs)) → references d ≡ item r rs
these k d r rs at = ap items_in at

reads_from : (k : Kind) (d : Data) (o : Option Data) → metadata refs d ≡ o → reading k d ≡ Ok d → (owners_from o ≡ [] → ⊥) → reading k (blocking_nobody d) ≡ Ok (blocking_nobody d)
reads_from k d None at read some = absurd (some refl)
reads_from k d (Some null) at read some = absurd (some refl)
reads_from k d (Some (boolean b)) at read some = absurd (some refl)
reads_from k d (Some (number n)) at read some = absurd (some refl)
reads_from k d (Some (string s)) at read some = absurd (some refl)
reads_from k d (Some (array no_items)) at read some = absurd (some refl)
reads_from k d (Some (array (item r rs))) at read some =
    subst (λ xs. (let e = with_metadata (put refs (array (all_unblocked xs)) (metadata_of d)) d in reading k e ≡ Ok e)) (sym (these k d r rs at))
    (read_again k d (unblocked r) (item r rs) (all_unblocked rs) read at (edited (item r rs)))
reads_from k d (Some (object ms)) at read some = absurd (some refl)

pub cut_reads : (k : Kind) (d : Data) → reading k d ≡ Ok d → (owners d ≡ [] → ⊥) → reading k (blocking_nobody d) ≡ Ok (blocking_nobody d)
cut_reads k d read some = reads_from k d (metadata refs d) refl read some

-- ---- what an update leaves to the body

held_other : (q : List ℕ) (o : Option Data) (ms : Members) → bytes_eq refs q ≡ false → get_member refs (as_stored q o ms) ≡ get_member refs ms
held_other q None ms other = get_member-without_other refs q ms other
held_other q (Some e) ms other = get_member-put_other refs q e ms (apart refs q other)

kept_other : (qs : List (List ℕ)) (existing ms : Members) → Each (λ q. bytes_eq refs q ≡ false) qs → get_member refs (keeping qs existing ms) ≡ get_member refs ms
kept_other [] existing ms e = refl
kept_other (q ∷ qs) existing ms e = kept_other qs existing (as_stored q (get_member q existing) ms) e.1 ∙ held_other q (get_member q existing) ms e.0

said_owners : (k : Kind) (r : ℕ) (existing o : Data) → metadata refs (updated k r existing (in_place k existing o)) ≡ metadata refs o
said_owners k r existing o =
    let meta = keeping unchanged_metadata (metadata_of existing) (metadata_of o) in
    member-updated refs k r existing (in_place k existing o) refl refl
    ∙ ap (get_member refs) (metadata_of-with meta (object (keeping (unchanged_members k) (members_of existing) (members_of o))))
    ∙ kept_other unchanged_metadata (metadata_of existing) (metadata_of o) (refl, (refl, (refl, (refl, (refl, (refl, tt))))))

pub cuts_keep : CutsKeepOwners
cuts_keep k d h moment read some =
    let b = blocking_nobody d in
    of_update (λ u. OfStored u (λ n new. EachAlike (owners new) (owners d))) (λ f. tt) (λ shown. tt) k (object_in k.kind b) (entries_at h (present h)) (present h)
    (λ o existing is at equal valid fits low.
    let one : o ≡ defaulted k.kind b = one_object (object_in k.kind b) o (defaulted k.kind b) is (ap (with_defaults k.kind) (cut_reads k.kind d read some)) in
    let same : metadata refs (updated k.kind (present h + 1) existing (in_place k.kind existing o)) ≡ metadata refs b =
    said_owners k.kind (present h + 1) existing o ∙ ap (metadata refs) one ∙ ap (get_member refs) (metadata_of-defaulted k.kind b) in
    subst (λ os. EachAlike os (owners d)) (sym (ap owners_from same)) (nobody_keeps d))
    (λ o existing is at equal free low. tt)
