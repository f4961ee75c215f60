-- What is stored is as a parser gives it, and stays so by edits.
use Rattle.std.proofs.Common.{ℕ, ◌+◌, [], ◌∷◌, List, codes, IfSome, Option, Some, None, option_and_then, unwrap_or, refl}
use Rattle.serde_json.specs.Data.{Data, string, array, object, no_members, member, put}
use Rattle.serde_json.specs.Find.{get}
use Rattle.json.proofs.Printed.Utf8.{IsUtf8-are_ascii}
use Rattle.spec_api.specs.History.{History, Write, writes}
use Rattle.spec_api.specs.Checks.{in_spec}
use Rattle.spec_api.specs.Metadata.{metadata_of}
use Rattle.spec_api.specs.Reading.{empty}
use Rattle.spec_api.specs.Replacements.{as_stored, keeping}
use Rattle.spec_api.specs.Keys.{Key}
use Rattle.spec_api.specs.Values.{members_of, inner_of, without}
use Rattle.spec_laws.proofs.EachWrite.{AllPut, there_put, listed_put}
use Rattle.spec_api.specs.Reached.{IsParsed, IsReached}
use Rattle.spec_laws.specs.ParsedLaws.{StoredAreParsed, ListedAreParsed, MetadataEditsStayParsed, MembersStayParsed, InnerEditsStayParsed, MadePodsAreParsed, copied}
use Rattle.spec_laws.proofs.SentObjects.{IsStored}
use Rattle.spec_laws.proofs.Stored.{AreStored, all_stored}
use Rattle.spec_laws.proofs.ParsedObjects.{meta, with_meta, held_put, keeps}
use Rattle.spec_laws.proofs.Parsed.{Both, joined, inside, Both-put, Both-set, Both-without, found, inner}

-- ---- what is written

abbrev pub IsParsedAt : Key → Data → Type 0
IsParsedAt k d = IsParsed d

one_parsed : (k : Key) (r : ℕ) (o : Option Data) → IfSome o (IsStored k r) → IfSome o IsParsed
one_parsed k r None a = tt
one_parsed k r (Some d) a = a.parsed

each_parsed : (r : ℕ) (ws : List Write) → AreStored r ws → AllPut IsParsedAt ws
each_parsed r [] a = tt
each_parsed r (w ∷ ws) a = (one_parsed w.key r w.put a.0, each_parsed (r + 1) ws a.1)

pub all_put : (h : History) → IsReached h → AllPut IsParsedAt (writes h)
all_put h reached = each_parsed 2 (writes h) (all_stored h reached)

pub stored_parsed : StoredAreParsed
stored_parsed h r k d reached is = there_put IsParsedAt h r k d (all_put h reached) is

pub listed_parsed : ListedAreParsed
listed_parsed h v r reached = listed_put IsParsedAt h v r (all_put h reached)

-- ---- edits

pub metadata_edits : MetadataEditsStayParsed
metadata_edits d e q u p f =
    (with_meta (put q e (metadata_of d)) d (Both-put q u e (metadata_of d) f (meta d p)) p, with_meta (without q (metadata_of d)) d (Both-without q (metadata_of d) (meta d p)) p)

pub members_stay : MembersStayParsed
members_stay d e q u p f = joined (put q e (members_of d)) (Both-put q u e (members_of d) f (inside d p))

pub inner_edits : InnerEditsStayParsed
inner_edits d e p q s u parsed f =
    let ms = put q e (inner_of (get p d)) in
    let b = Both-put q u e (inner_of (get p d)) f (inner (get p d) (found p d parsed)) in
    joined (put p (object ms) (members_of d)) (Both-put p s (object ms) (members_of d) (joined ms b) (inside d parsed))

in_template : (o : Option Data) → IfSome o IsParsed → IsParsed (unwrap_or o empty)
in_template None h = tt
in_template (Some d) h = h

in_parsed : (q : List ℕ) (o : Option Data) → IfSome o IsParsed → IfSome (option_and_then (get q) o) IsParsed
in_parsed q None h = tt
in_parsed q (Some d) h = found q d h

made_template : (d : Data) → IsParsed d → IsParsed (unwrap_or (in_spec (codes "template") d) empty)
made_template d p = in_template (in_spec (codes "template") d) (in_parsed (codes "template") (get (codes "spec") d) (found (codes "spec") d p))

pub pods_made : MadePodsAreParsed
pods_made d refs named u p f =
    let t = unwrap_or (in_spec (codes "template") d) empty in
    let tp : IsParsed t = made_template d p in
    let from = inner_of (get (codes "metadata") t) in
    let fb : Both from = inner (get (codes "metadata") t) (found (codes "metadata") t tp) in
    let ms = keeping (copied) from no_members in
    let named_too = put (codes "generateName") (string named) ms in
    let all = put (codes "ownerReferences") (array refs) named_too in
    let b : Both all = Both-set (codes "ownerReferences") refl (array refs) named_too f (Both-set (codes "generateName") refl (string named) ms u (keeps copied from no_members refl fb (tt, tt))) in
    let root = member (codes "metadata") (object all) no_members in
    joined (as_stored (codes "spec") (get (codes "spec") t) root) (held_put (codes "spec") (get (codes "spec") t) root refl (found (codes "spec") t tp) ((tt, tt), (joined all b, tt, IsUtf8-are_ascii (codes "metadata") refl)))
