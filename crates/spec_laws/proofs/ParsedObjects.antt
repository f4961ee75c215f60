-- What is made of objects as a parser gives them, new, in the place of another or with deletionTimestamp set, is so too.
use Rattle.std.proofs.Common.{◌≡◌, ◌<◌, ◌+◌, ◌/◌, ◌%◌, ◌^◌, ℕ, zero, suc, List, [], ◌∷◌, Bool, true, false, cond, codes, decimal, IfSome, Option, Some, None, option_and_then, unwrap_or, refl, arith}
use Rattle.std.specs.Prelude.{nat_lt}
use Rattle.std.proofs.lemmas.Bool.{ltb-true}
use Rattle.serde_json.specs.Data.{Num, unsigned, negative, float, Data, null, boolean, number, string, array, object, Items, no_items, item, Members, put}
use Rattle.serde_json.specs.Find.{get, get_member, as_array, as_number, as_u64}
use Rattle.std.specs.List.{list_all}
use Rattle.std.specs.Str.{IsUtf8}
use Rattle.std.proofs.lemmas.Fmt.{IsAscii-decimal}
use Rattle.std.proofs.lemmas.Str.{IsUtf8-from_ascii, IsUtf8-append, IsUtf8-nil}
use Rattle.std.proofs.lemmas.Bool.Decides.{nat_tests}
use Rattle.std.specs.Char.{digit_char}
use Rattle.spec_laws.proofs.TextsRead.{one_byte}
use Rattle.json.proofs.Printed.Utf8.{are_ascii, IsUtf8-are_ascii}
use Rattle.spec_api.proofs.Truths.{both_true}
use Rattle.spec_api.specs.declared.kinds.Kind.{Kind}
use Rattle.spec_api.specs.declared.kinds.Kind.TheVariants.{ConfigMap, Pod, ReplicaSet, Deployment}
use Rattle.spec_api.specs.declared.policies.Policy.{Policy}
use Rattle.spec_api.specs.declared.policies.Policy.TheVariants.{Orphan, Foreground, Background}
use Rattle.spec_api.specs.Checks.{finalizers}
use Rattle.spec_api.specs.Defaults.{unsigned_value}
use Rattle.spec_api.specs.Deletion.{left_by, with_deletion, others_then, of_policy, are_of, is_of_policy}
use Rattle.spec_api.specs.Kinds.{has_generation}
use Rattle.spec_api.specs.Metadata.{metadata, metadata_of, with_metadata, at_revision, is_being_deleted}
use Rattle.spec_api.specs.NewObjects.{new_metadata, first_status, with_status}
use Rattle.spec_api.specs.Replacements.{as_stored, keeping, unchanged_metadata, unchanged_members, in_place, status_in, with_status_in, with_next_generation, next_generation, generation}
use Rattle.spec_api.specs.Uids.{hex, uid_text, cluster_word}
use Rattle.spec_api.specs.Values.{members_of, without}
use Rattle.spec_api.specs.Reached.{IsInRange, IsParsed, AreParsed}
use Rattle.spec_laws.proofs.Parsed.{Both, joined, inside, Both-set, Both-without, found as found_at, found_in, inner}

-- ---- objects with other members

pub meta : (d : Data) → IsParsed d → Both (metadata_of d)
meta d p = inner (get (codes "metadata") d) (found_at (codes "metadata") d p)

pub with_meta : (ms : Members) (d : Data) → Both ms → IsParsed d → IsParsed (with_metadata ms d)
with_meta ms d b p = joined (put (codes "metadata") (object ms) (members_of d)) (Both-set (codes "metadata") refl (object ms) (members_of d) (joined ms b) (inside d p))

pub at : (r : ℕ) (ms : Members) (d : Data) → r < 2 ^ 64 → Both ms → IsParsed d → IsParsed (at_revision r ms d)
at r ms d low b p = with_meta (put (codes "resourceVersion") (string (decimal r)) ms) d (Both-set (codes "resourceVersion") refl (string (decimal r)) ms (IsUtf8-from_ascii (decimal r) (IsAscii-decimal r low)) b) p

both_if : (b : Bool) (x y : Members) → Both x → Both y → Both (cond b x y)
both_if true x y p q = p
both_if false x y p q = q

-- ---- new objects

digit_low : (d : ℕ) → d < 16 → digit_char d < 128
digit_low d h = grind (arith, nat_tests)

hex_text : (n x : ℕ) → IsUtf8 (hex n x)
hex_text zero x = IsUtf8-nil
hex_text (suc n) x = IsUtf8-append (hex n (x / 16)) (digit_char (x % 16) ∷ []) (hex_text n (x / 16)) (one_byte (digit_char (x % 16)) (digit_low (x % 16) (omega arith)))

after_dash : (t : List ℕ) → IsUtf8 t → IsUtf8 (45 ∷ t)
after_dash t u = IsUtf8-append (45 ∷ []) t (IsUtf8-are_ascii (45 ∷ []) refl) u

uid_is_text : (r : ℕ) → IsUtf8 (uid_text cluster_word r)
uid_is_text r =
    IsUtf8-append (hex 8 (cluster_word / 2 ^ 16)) _ (hex_text 8 (cluster_word / 2 ^ 16))
    (after_dash _ (IsUtf8-append (hex 4 cluster_word) _ (hex_text 4 cluster_word)
    (after_dash _ (IsUtf8-append (codes "8000") _ (IsUtf8-are_ascii (codes "8000") refl)
    (after_dash _ (IsUtf8-append (hex 4 ((2 ^ 63 + r) / 2 ^ 48)) _ (hex_text 4 ((2 ^ 63 + r) / 2 ^ 48)) (after_dash _ (hex_text 12 (r % 2 ^ 48)))))))))

first : (k : Kind) → IfSome (first_status k) IsParsed
first ConfigMap = tt
first Pod = (tt, IsUtf8-are_ascii (codes "Pending") refl, tt, IsUtf8-are_ascii (codes "phase") refl)
first ReplicaSet = (tt, omega arith, tt, IsUtf8-are_ascii (codes "replicas") refl)
first Deployment = tt

status_put : (s : Option Data) (ms : Members) → IfSome s IsParsed → Both ms → Both (with_status s ms)
status_put None ms h b = b
status_put (Some d) ms h b = Both-set (codes "status") refl d ms h b

pub new_meta : (k : Kind) (r : ℕ) (ns named moment : List ℕ) (ms : Members) → IsUtf8 ns → IsUtf8 named → IsUtf8 moment → Both ms → Both (new_metadata k r ns named moment ms)
new_meta k r ns named moment ms space called now b =
    let left = without (codes "deletionTimestamp") ms in
    let c : Both left = Both-without (codes "deletionTimestamp") ms b in
    Both-set (codes "uid") refl (string (uid_text cluster_word r)) _ (uid_is_text r)
    (Both-set (codes "creationTimestamp") refl (string moment) _ now
    (Both-set (codes "namespace") refl (string ns) _ space
    (Both-set (codes "name") refl (string named) _ called (both_if (has_generation k) (put (codes "generation") (unsigned_value 1) left) left (Both-set (codes "generation") refl (unsigned_value 1) left (omega arith) c) c))))

pub new_members : (k : Kind) (o : Data) → IsParsed o → IsParsed (object (with_status (first_status k) (members_of o)))
new_members k o p = joined (with_status (first_status k) (members_of o)) (status_put (first_status k) (members_of o) (first k) (inside o p))

-- ---- in the place of another

pub held_put : (k : List ℕ) (o : Option Data) (ms : Members) → are_ascii k ≡ true → IfSome o IsParsed → Both ms → Both (as_stored k o ms)
held_put k None ms u h b = Both-without k ms b
held_put k (Some d) ms u h b = Both-set k u d ms h b

pub keeps : (ks : List (List ℕ)) (existing ms : Members) → list_all are_ascii ks ≡ true → Both existing → Both ms → Both (keeping ks existing ms)
keeps [] existing ms u h b = b
keeps (k ∷ ks) existing ms u h b =
    let all = both_true (are_ascii k) (list_all are_ascii ks) u in
    keeps ks existing (as_stored k (get_member k existing) ms) all.1 h (held_put k (get_member k existing) ms all.0 (found_in k existing h) b)

kept_ascii : (k : Kind) → list_all are_ascii (unchanged_members k) ≡ true
kept_ascii ConfigMap = refl
kept_ascii Pod = refl
kept_ascii ReplicaSet = refl
kept_ascii Deployment = refl

pub placed : (k : Kind) (existing o : Data) → IsParsed existing → IsParsed o → IsParsed (in_place k existing o)
placed k existing o h p =
    let ms = keeping (unchanged_members k) (members_of existing) (members_of o) in
    with_meta (keeping unchanged_metadata (metadata_of existing) (metadata_of o)) (object ms) (keeps unchanged_metadata (metadata_of existing) (metadata_of o) refl (meta existing h) (meta o p))
    (joined ms (keeps (unchanged_members k) (members_of existing) (members_of o) (kept_ascii k) (inside existing h) (inside o p)))

-- ---- generations

abbrev IsWord : ℕ → Type 0
IsWord n = n < 2 ^ 64

word_of : (n : Num) → IsInRange n → IsWord (unwrap_or (as_u64 n) 0)
word_of (unsigned n) h = h
word_of (negative z) h = omega arith
word_of (float x) h = omega arith

word_in : (d : Data) → IsParsed d → IsWord (unwrap_or (option_and_then as_u64 (as_number d)) 0)
word_in null h = omega arith
word_in (boolean b) h = omega arith
word_in (number n) h = word_of n h
word_in (string t) h = omega arith
word_in (array ds) h = omega arith
word_in (object ms) h = omega arith

word_said : (o : Option Data) → IfSome o IsParsed → IsWord (unwrap_or (option_and_then as_u64 (option_and_then as_number o)) 0)
word_said None h = omega arith
word_said (Some d) h = word_in d h

word_next : (b : Bool) (n : ℕ) → nat_lt n 9007199254740991 ≡ b → IsWord n → IsWord (cond b (n + 1) n)
word_next true n is h = let low = ltb-true n 9007199254740991 is in omega (arith, low)
word_next false n is h = h

counts : (existing : Data) → IsParsed existing → IsWord (next_generation (generation existing))
counts existing h =
    word_next (nat_lt (generation existing) 9007199254740991) (generation existing) refl
    (word_said (metadata (codes "generation") existing) (found_in (codes "generation") (metadata_of existing) (meta existing h)))

pub counted : (b : Bool) (existing : Data) (ms : Members) → IsParsed existing → Both ms → Both (with_next_generation b existing ms)
counted b existing ms h m =
    both_if b (put (codes "generation") (unsigned_value (next_generation (generation existing))) ms) ms (Both-set (codes "generation") refl (unsigned_value (next_generation (generation existing))) ms (counts existing h) m) m

-- ---- statuses

status_said : (k : Kind) (o : Option Data) → IfSome o IsParsed → IfSome (status_in k o) IsParsed
status_said k None h = first k
status_said k (Some d) h = h

pub restated : (k : Kind) (existing o : Data) → IsParsed existing → IsParsed o → IsParsed (with_status_in k existing o)
restated k existing o h p =
    let s = status_in k (get (codes "status") o) in
    joined (with_status s (members_of existing)) (status_put s (members_of existing) (status_said k (get (codes "status") o) (found_at (codes "status") o p)) (inside existing h))

-- ---- marks

items_of_some : (o : Option Data) → IfSome o IsParsed → AreParsed (unwrap_or (option_and_then as_array o) no_items)
items_of_some None h = tt
items_of_some (Some null) h = tt
items_of_some (Some (boolean b)) h = tt
items_of_some (Some (number n)) h = tt
items_of_some (Some (string s)) h = tt
items_of_some (Some (array ds)) h = h
items_of_some (Some (object ms)) h = tt

items_if : (b : Bool) (x y : Items) → AreParsed x → AreParsed y → AreParsed (cond b x y)
items_if true x y p q = p
items_if false x y p q = q

others : (last ds : Items) → AreParsed last → AreParsed ds → AreParsed (others_then last ds)
others last no_items l h = l
others last (item d ds) l h = items_if (is_of_policy d) (others_then last ds) (item d (others_then last ds)) (others last ds l h.1) (h.0, others last ds l h.1)

policy_items : (p : Policy) → AreParsed (of_policy p)
policy_items Orphan = (IsUtf8-are_ascii (codes "orphan") refl, tt)
policy_items Foreground = (IsUtf8-are_ascii (codes "foregroundDeletion") refl, tt)
policy_items Background = tt

left_items : (o : Option Policy) (ds : Items) → AreParsed ds → AreParsed (left_by o ds)
left_items None ds h = h
left_items (Some p) ds h = items_if (are_of p ds) ds (others_then (of_policy p) ds) h (others (of_policy p) ds (policy_items p) h)

-- the metadata of a mark
pub marked_meta : (k : Kind) (moment : List ℕ) (o : Option Policy) (existing : Data) → IsUtf8 moment → IsParsed existing
    → Both (put (codes "finalizers") (array (left_by o (finalizers existing))) (with_deletion k moment existing))
marked_meta k moment o existing now h =
    let left = left_by o (finalizers existing) in
    let ds : AreParsed left = left_items o (finalizers existing) (items_of_some (metadata (codes "finalizers") existing) (found_in (codes "finalizers") (metadata_of existing) (meta existing h))) in
    let rising = with_next_generation (has_generation k) existing (metadata_of existing) in
    let deleted : Both (with_deletion k moment existing) =
    both_if (is_being_deleted existing) (metadata_of existing) (put (codes "deletionTimestamp") (string moment) rising) (meta existing h)
    (Both-set (codes "deletionTimestamp") refl (string moment) rising now (counted (has_generation k) existing (metadata_of existing) h (meta existing h))) in
    Both-set (codes "finalizers") refl (array left) (with_deletion k moment existing) ds deleted
