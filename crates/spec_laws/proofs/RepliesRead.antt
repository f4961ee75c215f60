-- What a list is answered is read as the list, and what is sent of an object as the object.
use Rattle.std.proofs.Common.{◌≡◌, ◌≤◌, ◌<◌, ◌+◌, ◌^◌, ℕ, List, [], ◌∷◌, map, Bool, true, false, cond, Option, IfSome, None, Some, codes, decimal, is_eq, refl, sym, subst, ap, ◌∙◌, arith}
use Rattle.std.specs.List.{AllByRecursion}
use Rattle.std.specs.Ordering.{nat_cmp}
use Rattle.std.specs.Str.{IsUtf8}
use Rattle.std.proofs.lemmas.Fmt.{IsAscii-decimal}
use Rattle.std.proofs.lemmas.Str.{IsUtf8-append, IsUtf8-from_ascii, is_utf8-from_IsUtf8}
use Rattle.json.proofs.Printed.Utf8.{IsUtf8-are_ascii}
use Rattle.std.specs.Cmp.Lexicographic.{slice_cmp}
use Rattle.serde_json.specs.Data as json
use Rattle.serde_json.specs.Data.{Data, null, boolean, number, string, array, object, no_members, member}
use Rattle.serde_json.specs.Read.{read}
use Rattle.serde_json.specs.View.{items_of}
use Rattle.serde_json.specs.Written.{compact_text, has_float, items_have_float, members_have_float}
use Rattle.spec_api.proofs.Truths.{left_false, right_false}
use Rattle.spec_api.specs.declared.kinds.Kind.{Kind}
use Rattle.spec_api.specs.History.{History, Write, View, Entries, writes, present, list}
use Rattle.spec_api.specs.Kinds.{api_version, kind_text}
use Rattle.spec_api.specs.Keys.{Key}
use Rattle.spec_api.specs.Reached.{IsParsed, AreParsed, IsReached}
use Rattle.spec_api.specs.Values.{members_of, without}
use Rattle.spec_api.specs.Verbs.{as_item, list_body}
use Rattle.spec_api.proofs.PageLists.{all_after}
use Rattle.spec_laws.specs.ReplyLaws.{list_reply, RepliesAreRead, ObjectsAreReadBack}
use Rattle.spec_laws.specs.SentLaws.{whole}
use Rattle.spec_api.proofs.NoFloatsRead.{has_float-is_body}
use Rattle.spec_laws.proofs.Parsed.{joined, inside, Both-without, version_ascii, kind_ascii}
use Rattle.spec_laws.proofs.Limited.{limited}
use Rattle.spec_laws.proofs.WrittenTexts.{text_written}
use Rattle.spec_laws.proofs.ParsedEdits.{listed_parsed}
use Rattle.spec_laws.proofs.ReadBack.{read_back}
use Rattle.spec_laws.proofs.SentChanges.{read_body, nests}
use Rattle.spec_laws.proofs.SentLists.{Lists, all_listed, lists_nest, lists_read}
use Rattle.spec_laws.proofs.SentObjects.{IsStored}
use Rattle.spec_laws.proofs.Stored.{AreStored, all_stored}

-- what is answered is the list
reply_is : (size : ℕ) (h : History) (k : Kind) → list_reply size h k ≡ list_body k (present h) (list h (whole k) (present h))
reply_is size h k = ap (λ ms. list_body k (present h) ms) (all_after (list h (whole k) (present h)))

-- ---- no number in it is a float

floats_without : (b : Bool) (l : List ℕ) (e : Data) (ms left : json.Members) → members_have_float (member l e ms) ≡ false → members_have_float left ≡ false → members_have_float (cond b ms (member l e left)) ≡ false
floats_without true l e ms left h later = right_false (has_float e) (members_have_float ms) h
floats_without false l e ms left h later = rw (left_false (has_float e) (members_have_float ms) h, later) refl

no_floats_without : (q : List ℕ) (ms : json.Members) → members_have_float ms ≡ false → members_have_float (without q ms) ≡ false
no_floats_without q no_members h = refl
no_floats_without q (member l e ms) h =
    floats_without (is_eq (slice_cmp nat_cmp q l)) l e ms (without q ms) h (no_floats_without q ms (right_false (has_float e) (members_have_float ms) h))

no_floats_in : (d : Data) → has_float d ≡ false → members_have_float (members_of d) ≡ false
no_floats_in null h = refl
no_floats_in (boolean b) h = refl
no_floats_in (number n) h = refl
no_floats_in (string t) h = refl
no_floats_in (array ds) h = refl
no_floats_in (object ms) h = h

no_floats_item : (d : Data) → has_float d ≡ false → has_float (as_item d) ≡ false
no_floats_item d h = no_floats_without (codes "kind") (without (codes "apiVersion") (members_of d)) (no_floats_without (codes "apiVersion") (members_of d) (no_floats_in d h))

no_floats_items : (k : Kind) (ms : Entries) → AllByRecursion (Lists k) ms → items_have_float (items_of (map (λ m. as_item m.1) ms)) ≡ false
no_floats_items k [] a = refl
no_floats_items k (m ∷ ms) a =
    let reads = a.0.1.1.kept.reads in
    let whole = has_float-is_body m.1 (read_body m.0.kind m.1 m.1 reads) in
    rw (no_floats_item m.1 whole, no_floats_items k ms a.1) refl

no_floats : (h : History) (k : Kind) (r : ℕ) → IsReached h → has_float (list_body k r (list h (whole k) r)) ≡ false
no_floats h k r reached = rw (no_floats_items k (list h (whole k) r) (all_listed h k r reached)) refl

-- ---- it is as a parser gives it

item_parsed : (d : Data) → IsParsed d → IsParsed (as_item d)
item_parsed d p =
    joined (without (codes "kind") (without (codes "apiVersion") (members_of d)))
    (Both-without (codes "kind") (without (codes "apiVersion") (members_of d)) (Both-without (codes "apiVersion") (members_of d) (inside d p)))

items_parsed : (ms : Entries) → AllByRecursion (λ (m : Key × Data). IsParsed m.1) ms → AreParsed (items_of (map (λ m. as_item m.1) ms))
items_parsed [] a = tt
items_parsed (m ∷ ms) a = (item_parsed m.1 a.0, items_parsed ms a.1)

list_parsed : (h : History) (v : View) (k : Kind) (r : ℕ) → r < 2 ^ 64 → IsReached h → IsParsed (list_body k r (list h v r))
list_parsed h v k r low reached =
    let items = items_parsed (list h v r) (listed_parsed h v r reached) in (
      (refl, (refl, (refl, tt))),
      IsUtf8-are_ascii (api_version k) (version_ascii k),
      ((refl, (refl, tt)), items, ((refl, tt), IsUtf8-append (kind_text k) (codes "List") (IsUtf8-are_ascii (kind_text k) (kind_ascii k)) (IsUtf8-are_ascii (codes "List") refl), (tt, (tt, IsUtf8-from_ascii (decimal r) (IsAscii-decimal r low), tt, IsUtf8-are_ascii (codes "resourceVersion") refl), tt, IsUtf8-are_ascii (codes "metadata") refl), IsUtf8-are_ascii (codes "kind") refl), IsUtf8-are_ascii (codes "items") refl),
      IsUtf8-are_ascii (codes "apiVersion") refl,
    )

-- ---- it is read back

reads_back : (h : History) (k : Kind) (r : ℕ) → r < 2 ^ 64 → IsReached h → (let d : Data = list_body k r (list h (whole k) r) in read (compact_text d) ≡ Some d)
reads_back h k r low reached = read_back (list_body k r (list h (whole k) r)) (list_parsed h (whole k) k r low reached) (no_floats h k r reached) (lists_nest h k r reached)

pub replies_read : RepliesAreRead
replies_read h size k reached =
    let few : present h ≤ 9007199254740991 = (limited h reached).1 in
    let low : present h < 2 ^ 64 = omega (arith, few) in
    let d = list_body k (present h) (list h (whole k) (present h)) in
    let says : read (compact_text (list_reply size h k)) ≡ Some d = ap (λ z. read (compact_text z)) (reply_is size h k) ∙ reads_back h k (present h) low reached in
    let text : IsUtf8 (compact_text (list_reply size h k)) = subst (λ z. IsUtf8 (compact_text z)) (sym (reply_is size h k)) (text_written d (list_parsed h (whole k) k (present h) low reached)) in
    lists_read h k (present h) (compact_text (list_reply size h k)) reached (record { reached = omega arith; utf8 = is_utf8-from_IsUtf8 (compact_text (list_reply size h k)) text; says = says })

-- ---- objects are read back

abbrev ReadsBack : Data → Type 0
ReadsBack d = read (compact_text d) ≡ Some d

object_back : (k : Key) (r : ℕ) (d : Data) → IsStored k r d → ReadsBack d
object_back k r d stored =
    let body = read_body k.kind d d stored.kept.reads in
    let low = nests d body in
    read_back d stored.parsed (has_float-is_body d body) (omega (arith, low))

some_back : (k : Key) (r : ℕ) (o : Option Data) → IfSome o (IsStored k r) → IfSome o ReadsBack
some_back k r None stored = tt
some_back k r (Some d) stored = object_back k r d stored

all_back : (r : ℕ) (ws : List Write) → AreStored r ws → AllByRecursion (λ w. IfSome w.put ReadsBack) ws
all_back r [] stored = tt
all_back r (w ∷ ws) stored = (some_back w.key r w.put stored.0, all_back (r + 1) ws stored.1)

pub objects_back : ObjectsAreReadBack
objects_back h reached = all_back 2 (writes h) (all_stored h reached)
