-- What is answered where an object is removed is read back.
use Rattle.std.proofs.Common.{◌≡◌, ◌≤◌, ℕ, List, [], true, Option, Some, None, option_and_then, IfSome, codes, unwrap_or, Ok, refl, subst, arith}
use Rattle.std.specs.Str.{IsUtf8}
use Rattle.json.proofs.Printed.Utf8.{are_ascii, IsUtf8-are_ascii}
use Rattle.serde_json.specs.Data.{Data, null, boolean, number, string, array, object, Members}
use Rattle.serde_json.specs.Find.{as_str, get_member}
use Rattle.spec_api.specs.declared.kinds.Kind.{Kind}
use Rattle.spec_api.specs.declared.kinds.Kind.TheVariants.{ConfigMap, Pod, ReplicaSet, Deployment}
use Rattle.spec_api.specs.declared.schemas.Schema.TheVariants.{Metadata}
use Rattle.spec_api.specs.Deletion.{gone, removal_of}
use Rattle.spec_api.specs.Keys.{Key}
use Rattle.spec_api.specs.Metadata.{metadata_of, at_revision, uid}
use Rattle.spec_api.specs.Reading.{reading}
use Rattle.spec_api.specs.Refusals.{success_body}
use Rattle.spec_api.specs.Reached.{IsParsed, AreInOrder}
use Rattle.spec_api.specs.Replacements.{in_place, updated, is_new_generation, next_generation, generation, with_next_generation}
use Rattle.spec_api.proofs.JsonMembers.{text_in}
use Rattle.spec_api.proofs.NoFloatsRead.{has_float-is_body}
use Rattle.spec_laws.proofs.NeatMembers.{Neat}
use Rattle.spec_laws.proofs.Parsed.{Both, found_in}
use Rattle.spec_laws.proofs.ParsedObjects.{meta as meta_of, at, placed, counted}
use Rattle.spec_laws.proofs.ReadBack.{read_back}
use Rattle.spec_laws.proofs.SentChanges.{read_body, nests}
use Rattle.spec_laws.proofs.SentObjects.{IsStored, filled_decimal, neat_generation, whole_stored}
use Rattle.spec_laws.proofs.WholeObjects.{AreWhole, neat_metadata, reads_whole, whole_at, whole_in_place}
use Rattle.serde_json.specs.Data.{no_members, member}
use Rattle.spec_api.specs.Values.{members_of}
use Rattle.spec_laws.specs.AnswerLaws.{IsReadBack}

-- ---- an object

-- one that reads as itself
pub object_back : (k : Kind) (d : Data) → reading k d ≡ Ok d → IsParsed d → IsReadBack d
object_back k d reads parsed =
    let body = read_body k d d reads in
    let low = nests d body in
    read_back d parsed (has_float-is_body d body) (omega (arith, low))

-- one that is stored
pub stored_back : (k : Key) (r : ℕ) (d : Data) → IsStored k r d → IsReadBack d
stored_back k r d was = object_back k.kind d was.kept.reads was.parsed

-- one at a revision
pub at_back : (k : Kind) (r : ℕ) (meta : Members) (d : Data) → r ≤ 9007199254740991 → AreWhole k (members_of d) → Neat 98 Metadata meta → IsParsed d → Both meta → IsReadBack (at_revision r meta d)
at_back k r meta d low whole neat parsed both =
    let new = at_revision r meta d in
    object_back k new (reads_whole k (members_of new) (whole_at k r meta d (filled_decimal r low) neat whole)) (at r meta d (omega (arith, low)) both parsed)

-- one that an update has removed
pub updated_back : (k : Key) (r s : ℕ) (existing o : Data) → r ≤ 9007199254740991 → IsStored k s existing → AreWhole k.kind (members_of o) → IsParsed o → IsReadBack (updated k.kind r existing (in_place k.kind existing o))
updated_back k r s existing o low was w p =
    let d = in_place k.kind existing o in
    let is_new = is_new_generation k.kind existing d in
    let made : AreWhole k.kind (members_of d) = whole_in_place k.kind existing o (whole_stored k s existing was) w in
    let whole : IsParsed d = placed k.kind existing o was.parsed p in
    at_back k.kind r (with_next_generation is_new existing (metadata_of d)) d low made
    (neat_generation is_new (next_generation (generation existing)) (metadata_of d) (neat_metadata k.kind d made)) whole
    (counted is_new existing (metadata_of d) was.parsed (meta_of d whole))

-- ---- a delete

-- a text among members is in UTF-8
text_bytes : (o : Option Data) → IfSome o IsParsed → IfSome (option_and_then as_str o) IsUtf8
text_bytes None p = tt
text_bytes (Some null) p = tt
text_bytes (Some (boolean b)) p = tt
text_bytes (Some (number n)) p = tt
text_bytes (Some (string t)) p = p
text_bytes (Some (array ds)) p = tt
text_bytes (Some (object ms)) p = tt

text_utf8 : (q : List ℕ) (d : Data) → IsParsed d → IfSome (text_in q (metadata_of d)) IsUtf8
text_utf8 q d p = text_bytes (get_member q (metadata_of d)) (found_in q (metadata_of d) (meta_of d p))

name_utf8 : (k : Key) (s : ℕ) (existing : Data) → IsStored k s existing → IsUtf8 k.name
name_utf8 k s existing was = subst (λ o. IfSome o IsUtf8) was.kept.name (text_utf8 (codes "name") existing was.parsed)

uid_utf8 : (o : Option (List ℕ)) → IfSome o IsUtf8 → IsUtf8 (unwrap_or o [])
uid_utf8 None h = IsUtf8-are_ascii [] refl
uid_utf8 (Some t) h = h

ascii : (t : List ℕ) → are_ascii t ≡ true → IsUtf8 t
ascii t h = IsUtf8-are_ascii t h

-- the details that name an object, and those of an object whose kind is of a group
named_parsed : (resource named u : List ℕ) → are_ascii resource ≡ true → IsUtf8 named → IsUtf8 u
    → AreInOrder (member (codes "kind") (string resource) (member (codes "name") (string named) (member (codes "uid") (string u) no_members)))
named_parsed resource named u r n v =
    ((refl, (refl, tt)), ascii resource r, ((refl, tt), n, (tt, v, tt, ascii (codes "uid") refl), ascii (codes "name") refl), ascii (codes "kind") refl)

of_group_parsed : (resource named u : List ℕ) → are_ascii resource ≡ true → IsUtf8 named → IsUtf8 u
    → AreInOrder (member (codes "group") (string (codes "apps")) (member (codes "kind") (string resource) (member (codes "name") (string named) (member (codes "uid") (string u) no_members))))
of_group_parsed resource named u r n v =
    ((refl, (refl, (refl, tt))), ascii (codes "apps") refl, named_parsed resource named u r n v, ascii (codes "group") refl)

-- a Status with such details
with_details : (ms : Members) → AreInOrder ms
    → IsParsed
    (object
    (member (codes "apiVersion") (string (codes "v1"))
    (member (codes "details") (object ms)
    (member (codes "kind") (string (codes "Status")) (member (codes "metadata") (object no_members) (member (codes "status") (string (codes "Success")) no_members))))))
with_details ms p = (
  (refl, (refl, (refl, (refl, tt)))),
  ascii (codes "v1") refl,
  ((refl, (refl, (refl, tt))), p, ((refl, (refl, tt)), ascii (codes "Status") refl, ((refl, tt), tt, (tt, ascii (codes "Success") refl, tt, ascii (codes "status") refl), ascii (codes "metadata") refl), ascii (codes "kind") refl), ascii (codes "details") refl),
  ascii (codes "apiVersion") refl,
)

-- a Status of a removed object
status_back : (kind : Kind) (ns named u : List ℕ) → IsUtf8 named → IsUtf8 u → IsReadBack (success_body (Some (record { kind = kind; namespace = ns; name = named }, u)))
status_back ConfigMap ns named u n v = read_back (success_body (Some (record { kind = ConfigMap; namespace = ns; name = named }, u))) (with_details (member (codes "kind") (string (codes "configmaps")) (member (codes "name") (string named) (member (codes "uid") (string u) no_members))) (named_parsed (codes "configmaps") named u refl n v)) refl (omega arith)
status_back Pod ns named u n v = read_back (success_body (Some (record { kind = Pod; namespace = ns; name = named }, u))) (with_details (member (codes "kind") (string (codes "pods")) (member (codes "name") (string named) (member (codes "uid") (string u) no_members))) (named_parsed (codes "pods") named u refl n v)) refl (omega arith)
status_back ReplicaSet ns named u n v = read_back (success_body (Some (record { kind = ReplicaSet; namespace = ns; name = named }, u))) (with_details (member (codes "group") (string (codes "apps")) (member (codes "kind") (string (codes "replicasets")) (member (codes "name") (string named) (member (codes "uid") (string u) no_members)))) (of_group_parsed (codes "replicasets") named u refl n v)) refl (omega arith)
status_back Deployment ns named u n v = read_back (success_body (Some (record { kind = Deployment; namespace = ns; name = named }, u))) (with_details (member (codes "group") (string (codes "apps")) (member (codes "kind") (string (codes "deployments")) (member (codes "name") (string named) (member (codes "uid") (string u) no_members)))) (of_group_parsed (codes "deployments") named u refl n v)) refl (omega arith)

gone_back : (k : Key) (s : ℕ) (existing : Data) → IsStored k s existing → IsReadBack (gone k existing)
gone_back k s existing was =
    status_back k.kind k.namespace k.name (unwrap_or (uid existing) []) (name_utf8 k s existing was) (uid_utf8 (uid existing) (text_utf8 (codes "uid") existing was.parsed))

-- what a delete answers where it removes an object
pub removal_back : (kind : Kind) (k : Key) (r s : ℕ) (existing : Data) → r ≤ 9007199254740991 → IsStored k s existing → IsReadBack (removal_of kind k r existing)
removal_back ConfigMap k r s existing low was = gone_back k s existing was
removal_back ReplicaSet k r s existing low was = gone_back k s existing was
removal_back Deployment k r s existing low was = gone_back k s existing was
removal_back Pod k r s existing low was =
    let whole : AreWhole k.kind (members_of existing) = whole_stored k s existing was in
    at_back k.kind r (metadata_of existing) existing low whole (neat_metadata k.kind existing whole) was.parsed (meta_of existing was.parsed)
