-- Replacements, from what their steps are told.
use Rattle.std.proofs.Common.{◌≡◌, Bool, true, false, Option, Some, None, codes, refl, sym, ap, ◌∙◌, if◌then◌else◌}
use Rattle.serde_json.specs.Data.{Data, object}
use Rattle.serde_json.proofs.Views.{get_member-put_other}
use Rattle.spec_api.proofs.JsonMembers.{apart, get_member-without_other}
use Rattle.spec_api.specs.declared.refusals.Mismatch.{Mismatch}
use Rattle.spec_api.specs.declared.refusals.Mismatch.TheVariants as why
use Rattle.spec_api.specs.Metadata.{metadata_of, uid, version, differs}
use Rattle.spec_api.specs.Keys.{Key}
use Rattle.spec_api.specs.Refusals.{conflict}
use Rattle.spec_api.specs.Replacements.{as_stored}
use Rattle.spec_api.specs.Values.{members_of, inner_of}
use Rattle.spec_api.specs.Verbs.{Outcome, refused, refuse_if, if_same}
use Rattle.json_values.proofs.PutAndTaken.{get-members_of}
use Rattle.verb_parts.specs.Naming.{mismatch}

-- what is another is refused
abbrev or_conflict : Key → Option Mismatch → Outcome → Outcome
or_conflict k None next = next
or_conflict k (Some w) next = refused (conflict k w)

by_tests : (a b : Bool) (k : Key) (next : Outcome)
    → refuse_if a (conflict k why.Uid) (refuse_if b (conflict k why.Modified) next) ≡ or_conflict k (if a then Some why.Uid else (if b then Some why.Modified else None)) next
by_tests true b k next = refl
by_tests false true k next = refl
by_tests false false k next = refl

found_so : (k : Key) (o existing : Data) (next : Outcome) (found other : Option Mismatch) → found ≡ mismatch o existing → found ≡ other → if_same k o existing next ≡ or_conflict k other next
found_so k o existing next found other is so =
    by_tests (differs (uid o) (uid existing)) (differs (version o) (version existing)) k next ∙ ap (λ m. or_conflict k m next) (sym is ∙ so)

-- the stored object is another
pub if_same-other : (k : Key) (o existing : Data) (next : Outcome) (found : Option Mismatch) (w : Mismatch) → found ≡ mismatch o existing → found ≡ Some w
    → if_same k o existing next ≡ refused (conflict k w)
if_same-other k o existing next found w is so = found_so k o existing next found (Some w) is so

-- it is the one that is named
pub if_same-same : (k : Key) (o existing : Data) (next : Outcome) (found : Option Mismatch) → found ≡ mismatch o existing → found ≡ None → if_same k o existing next ≡ next
if_same-same k o existing next found is so = found_so k o existing next found None is so

-- the metadata stays where the status is preserved
pub metadata_of-as_stored : (found : Option Data) (d : Data) → metadata_of (object (as_stored (codes "status") found (members_of d))) ≡ metadata_of d
metadata_of-as_stored None d =
    ap inner_of (get_member-without_other (codes "metadata") (codes "status") (members_of d) refl ∙ sym (get-members_of (codes "metadata") d))
metadata_of-as_stored (Some e) d =
    ap inner_of (get_member-put_other (codes "metadata") (codes "status") e (members_of d) (apart (codes "metadata") (codes "status") refl) ∙ sym (get-members_of (codes "metadata") d))
