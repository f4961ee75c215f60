-- What controllers make of objects as a parser gives them is so again.
use Rattle.std.proofs.Common.{◌≡◌, ◌<◌, ◌^◌, ℕ, List, [], ◌∷◌, ◌++◌, Bool, true, false, cond, nat_lt, Option, Some, None, IfSome, unwrap_or, option_and_then, codes, decimal, pos, negsuc, refl, arith}
use Rattle.std.proofs.lemmas.Fmt.{IsAscii-decimal}
use Rattle.std.proofs.lemmas.Str.{IsUtf8-from_ascii, IsUtf8-append}
use Rattle.std.proofs.lemmas.Bool.{ltb-true}
use Rattle.std.specs.Str.{IsUtf8}
use Rattle.json.proofs.Printed.Utf8.{are_ascii, IsUtf8-are_ascii}
use Rattle.serde_json.specs.Data.{Data, null, boolean, number, unsigned, negative, float, string, array, object, Items, no_items, item, Members, no_members, put}
use Rattle.serde_json.specs.Find.{get, as_str, as_number, as_u64}
use Rattle.spec_api.specs.Checks.{finalizers, in_spec, in_status}
use Rattle.spec_api.specs.Keys.{Key, is_subdomain}
use Rattle.spec_api.specs.Kinds.{api_version, kind_text}
use Rattle.spec_api.specs.Metadata.{Owner, owner, uid, metadata, metadata_of}
use Rattle.spec_api.specs.Reached.{IsParsed, AreParsed}
use Rattle.spec_api.specs.Replacements.{generation, keeping}
use Rattle.spec_api.specs.SelectorValues.{items_in}
use Rattle.spec_api.specs.Values.{inner_of, members_of}
use Rattle.spec_laws.proofs.NameBytes.{name_text}
use Rattle.spec_laws.proofs.Parsed.{Both, joined, inside, Both-set, found_in, inner, version_ascii, kind_ascii}
use Rattle.spec_laws.proofs.Parsed as parsed
use Rattle.spec_laws.proofs.ParsedObjects.{meta, with_meta, keeps}
use Rattle.spec_reconcile.specs.Counts.{count, not_below_0, replicas}
use Rattle.spec_reconcile.specs.MetadataEdits.{with_list, only, without_finalizer, references, keeping_owners, all_unblocked, blocking_nobody, controller_reference, with_last, with_controller}
use Rattle.spec_reconcile.specs.NewPods.{template, copied, new_metadata, new_pod}
use Rattle.spec_reconcile.specs.Statuses.{status, with_status}

-- ---- members

pub in_meta : (q : List ℕ) (d : Data) → IsParsed d → IfSome (metadata q d) IsParsed
in_meta q d p = found_in q (metadata_of d) (meta d p)

pub in_parsed : (q : List ℕ) (o : Option Data) → IfSome o IsParsed → IfSome (option_and_then (get q) o) IsParsed
in_parsed q None h = tt
in_parsed q (Some d) h = parsed.found q d h

pub in_spec_parsed : (q : List ℕ) (d : Data) → IsParsed d → IfSome (in_spec q d) IsParsed
in_spec_parsed q d p = in_parsed q (get (codes "spec") d) (parsed.found (codes "spec") d p)

pub in_status_parsed : (q : List ℕ) (d : Data) → IsParsed d → IfSome (in_status q d) IsParsed
in_status_parsed q d p = in_parsed q (get (codes "status") d) (parsed.found (codes "status") d p)

pub ascii : (t : List ℕ) → are_ascii t ≡ true → IsUtf8 t
ascii t e = IsUtf8-are_ascii t e

pub text_utf8 : (o : Option Data) → IfSome o IsParsed → IsUtf8 (unwrap_or (option_and_then as_str o) [])
text_utf8 None h = ascii [] refl
text_utf8 (Some null) h = ascii [] refl
text_utf8 (Some (boolean b)) h = ascii [] refl
text_utf8 (Some (number n)) h = ascii [] refl
text_utf8 (Some (string t)) h = h
text_utf8 (Some (array ds)) h = ascii [] refl
text_utf8 (Some (object ms)) h = ascii [] refl

pub decimal_utf8 : (n : ℕ) → n < 2 ^ 64 → IsUtf8 (decimal n)
decimal_utf8 n low = IsUtf8-from_ascii (decimal n) (IsAscii-decimal n low)

-- ---- lists

items_parsed : (o : Option Data) → IfSome o IsParsed → AreParsed (items_in o)
items_parsed None h = tt
items_parsed (Some null) h = tt
items_parsed (Some (boolean b)) h = tt
items_parsed (Some (number n)) h = tt
items_parsed (Some (string t)) h = tt
items_parsed (Some (array ds)) h = h
items_parsed (Some (object ms)) h = tt

only_parsed : (test : Data → Bool) (rs : Items) → AreParsed rs → AreParsed (only test rs)
only_parsed test no_items p = tt
only_parsed test (item d ds) p = by (test d) (only_parsed test ds p.1)
  where
    by : (b : Bool) → AreParsed (only test ds) → AreParsed (cond b (item d (only test ds)) (only test ds))
    by true rest = (p.0, rest)
    by false rest = rest

last_parsed : (e : Data) (rs : Items) → IsParsed e → AreParsed rs → AreParsed (with_last e rs)
last_parsed e no_items h p = (h, tt)
last_parsed e (item d ds) h p = (p.0, last_parsed e ds h p.1)

list_parsed : (q : List ℕ) (rs : Items) (d : Data) → are_ascii q ≡ true → AreParsed rs → IsParsed d → IsParsed (with_list q rs d)
list_parsed q rs d e h p = with_meta (put q (array rs) (metadata_of d)) d (Both-set q e (array rs) (metadata_of d) h (meta d p)) p

-- ---- owner references and finalizers

references_parsed : (d : Data) → IsParsed d → AreParsed (references d)
references_parsed d p = items_parsed (metadata (codes "ownerReferences") d) (in_meta (codes "ownerReferences") d p)

pub keeping_parsed : (test : Owner → Bool) (d : Data) → IsParsed d → IsParsed (keeping_owners test d)
keeping_parsed test d p =
    list_parsed (codes "ownerReferences") (only (λ r. test (owner r)) (references d)) d refl (only_parsed (λ r. test (owner r)) (references d) (references_parsed d p)) p

pub without_parsed : (t : List ℕ) (d : Data) → IsParsed d → IsParsed (without_finalizer t d)
without_parsed t d p = list_parsed (codes "finalizers") _ d refl (only_parsed _ (finalizers d) (items_parsed (metadata (codes "finalizers") d) (in_meta (codes "finalizers") d p))) p

unblocked_parsed : (rs : Items) → AreParsed rs → AreParsed (all_unblocked rs)
unblocked_parsed no_items p = tt
unblocked_parsed (item r rs) p =
    (joined (put (codes "blockOwnerDeletion") (boolean false) (members_of r)) (Both-set (codes "blockOwnerDeletion") refl (boolean false) (members_of r) tt (inside r p.0)), unblocked_parsed rs p.1)

pub nobody_parsed : (d : Data) → IsParsed d → IsParsed (blocking_nobody d)
nobody_parsed d p = list_parsed (codes "ownerReferences") (all_unblocked (references d)) d refl (unblocked_parsed (references d) (references_parsed d p)) p

pub reference_parsed : (k : Key) (d : Data) → is_subdomain k.name ≡ true → IsParsed d → IsParsed (controller_reference k d)
reference_parsed k d valid p =
    let u = unwrap_or (uid d) [] in
    let a = put (codes "apiVersion") (string (api_version k.kind)) no_members in
    let b = put (codes "blockOwnerDeletion") (boolean true) a in
    let c = put (codes "controller") (boolean true) b in
    let e = put (codes "kind") (string (kind_text k.kind)) c in
    let f = put (codes "name") (string k.name) e in
    let from_a : Both a = Both-set (codes "apiVersion") refl (string (api_version k.kind)) no_members (ascii (api_version k.kind) (version_ascii k.kind)) (tt, tt) in
    let from_b : Both b = Both-set (codes "blockOwnerDeletion") refl (boolean true) a tt from_a in
    let from_c : Both c = Both-set (codes "controller") refl (boolean true) b tt from_b in
    let from_e : Both e = Both-set (codes "kind") refl (string (kind_text k.kind)) c (ascii (kind_text k.kind) (kind_ascii k.kind)) from_c in
    let from_f : Both f = Both-set (codes "name") refl (string k.name) e (name_text k.name valid) from_e in
    joined (put (codes "uid") (string u) f) (Both-set (codes "uid") refl (string u) f (text_utf8 (metadata (codes "uid") d) (in_meta (codes "uid") d p)) from_f)

pub controlled_parsed : (k : Key) (set d : Data) → is_subdomain k.name ≡ true → IsParsed set → IsParsed d → IsParsed (with_controller k set d)
controlled_parsed k set d valid sp p =
    list_parsed (codes "ownerReferences") (with_last (controller_reference k set) (references d)) d refl
    (last_parsed (controller_reference k set) (references d) (reference_parsed k set valid sp) (references_parsed d p)) p

-- ---- pods

pub template_parsed : (d : Data) → IsParsed d → IsParsed (template d)
template_parsed d p = let o = in_spec (codes "template") d in joined (inner_of o) (inner o (in_spec_parsed (codes "template") d p))

pub pod_parsed : (k : Key) (set : Data) → is_subdomain k.name ≡ true → IsParsed set → IsParsed (new_pod k set)
pod_parsed k set valid p =
    let t = template set in
    let tp : IsParsed t = template_parsed set p in
    let ms = keeping copied (metadata_of t) no_members in
    let named = string (k.name ++ codes "-") in
    let named_too = put (codes "generateName") named ms in
    let refs = array (item (controller_reference k set) no_items) in
    let kept : Both ms = keeps copied (metadata_of t) no_members refl (meta t tp) (tt, tt) in
    let from_name : Both named_too = Both-set (codes "generateName") refl named ms (IsUtf8-append k.name (codes "-") (name_text k.name valid) (ascii (codes "-") refl)) kept in
    let all : Both (new_metadata k set) = Both-set (codes "ownerReferences") refl refs named_too (reference_parsed k set valid p, tt) from_name in
    let root = put (codes "metadata") (object (new_metadata k set)) no_members in
    let root_both : Both root = Both-set (codes "metadata") refl (object (new_metadata k set)) no_members (joined (new_metadata k set) all) (tt, tt) in
    joined (keeping (codes "spec" ∷ []) (members_of t) root) (keeps (codes "spec" ∷ []) (members_of t) root refl (inside t tp) root_both)

-- ---- numbers

generation_in : (o : Option Data) → IfSome o IsParsed → unwrap_or (option_and_then as_u64 (option_and_then as_number o)) 0 < 2 ^ 64
generation_in None h = omega arith
generation_in (Some null) h = omega arith
generation_in (Some (boolean b)) h = omega arith
generation_in (Some (number (unsigned n))) h = h
generation_in (Some (number (negative z))) h = omega arith
generation_in (Some (number (float x))) h = omega arith
generation_in (Some (string t)) h = omega arith
generation_in (Some (array ds)) h = omega arith
generation_in (Some (object ms)) h = omega arith

pub generation_low : (d : Data) → IsParsed d → generation d < 2 ^ 64
generation_low d p = generation_in (metadata (codes "generation") d) (in_meta (codes "generation") d p)

pub count_low : (o : Option Data) → IfSome o IsParsed → count o < 2 ^ 63
count_low None h = omega arith
count_low (Some null) h = omega arith
count_low (Some (boolean b)) h = omega arith
count_low (Some (number (unsigned n))) h = by (nat_lt n (2 ^ 63)) refl
  where
    by : (b : Bool) → nat_lt n (2 ^ 63) ≡ b → not_below_0 (unwrap_or (cond b (Some (pos n)) None) (pos 0)) < 2 ^ 63
    by true e = ltb-true n (2 ^ 63) e
    by false e = omega arith
count_low (Some (number (negative (pos n)))) h = absurd h
count_low (Some (number (negative (negsuc n)))) h = omega arith
count_low (Some (number (float x))) h = omega arith
count_low (Some (string t)) h = omega arith
count_low (Some (array ds)) h = omega arith
count_low (Some (object ms)) h = omega arith

pub replicas_low : (d : Data) → IsParsed d → replicas d < 2 ^ 63
replicas_low d p = count_low (in_spec (codes "replicas") d) (in_spec_parsed (codes "replicas") d p)

-- ---- the status

pub status_both : (d : Data) → IsParsed d → Both (status d)
status_both d p = inner (get (codes "status") d) (parsed.found (codes "status") d p)

pub status_parsed : (ms : Members) (d : Data) → Both ms → IsParsed d → IsParsed (with_status ms d)
status_parsed ms d b p = joined (put (codes "status") (object ms) (members_of d)) (Both-set (codes "status") refl (object ms) (members_of d) (joined ms b) (inside d p))
