-- The bytes of a target are visible ones of ASCII.
use Rattle.std.proofs.Common.{◌≡◌, ◌<◌, ℕ, List, [], ◌∷◌, ◌++◌, length, slice_index, ◌-◌, Bool, true, false, cond, ◌&&◌, nat_lt, nat_le, Option, Some, None, All, IsUtf8, codes, refl, arith}
use Rattle.std.proofs.lemmas.Bool.Decides.{nat_tests}
use Rattle.std.proofs.lemmas.List.Elements.{All-nil, All-cons, All-head, All-tail}
use Rattle.std.proofs.lemmas.Str.{IsUtf8-from_ascii}
use Rattle.std.proofs.lemmas.Str.Ascii.{IsAscii-from_all}
use Rattle.std.specs.List.{list_all}
use Rattle.form_urlencoded.specs.Form.{byte_serialize, is_nonempty, separator, append_pair, extend_pairs}
use Rattle.form_urlencoded.proofs.FormLemmas.{IsSerializedByte, All-byte_serialize}
use Rattle.spec_api.proofs.KindOrder.{each_kind}
use Rattle.spec_api.proofs.Truths.{and_true, both_true, left_true, right_true}
use Rattle.spec_api.specs.declared.kinds.Group.{Group}
use Rattle.spec_api.specs.declared.kinds.Group.TheVariants.{Core, Apps}
use Rattle.spec_api.specs.declared.kinds.Kind.{Kind}
use Rattle.spec_api.specs.Keys.{is_letter_or_digit, is_label, is_namespace}
use Rattle.spec_api.specs.Kinds.{group, plural}
use Rattle.spec_api.specs.Targets.{collection, collection_text, names_namespace, prefix}
use Rattle.request_encoding.specs.Texts.{is_visible}
use Rattle.request_encoding.proofs.Segments.{is_domain_byte}
use Rattle.request_encoding.specs.Targets.{Parameters, query_text}

-- a visible byte of ASCII
abbrev is_plain : ℕ → Bool
is_plain b = nat_lt 32 b && nat_lt b 127

abbrev pub are_plain : List ℕ → Bool
are_plain t = list_all is_plain t

joined : (s t : List ℕ) → are_plain s ≡ true → are_plain t ≡ true → are_plain (s ++ t) ≡ true
joined [] t h k = k
joined (b ∷ s) t h k =
    let parts = both_true (is_plain b) (are_plain s) h in and_true (is_plain b) (are_plain (s ++ t)) parts.0 (joined s t parts.1 k)

-- ---- queries

plain_serialized : (b : ℕ) → IsSerializedByte b → is_plain b ≡ true
plain_serialized b h = grind (arith, nat_tests, h.allowed)

serialized : (t : List ℕ) → All IsSerializedByte t → are_plain t ≡ true
serialized [] h = refl
serialized (b ∷ t) h =
    and_true (is_plain b) (are_plain t) (plain_serialized b (All-head IsSerializedByte b t h)) (serialized t (All-tail IsSerializedByte b t h))

text_plain : (t : List ℕ) → are_plain (byte_serialize t) ≡ true
text_plain t = serialized (byte_serialize t) (All-byte_serialize t)

separated : (b : Bool) → are_plain (cond b (38 ∷ []) []) ≡ true
separated true = refl
separated false = refl

form_plain : (form : List ℕ) (ps : Parameters) → are_plain form ≡ true → are_plain (extend_pairs form ps) ≡ true
form_plain form [] h = h
form_plain form ((n, v) ∷ ps) h =
    form_plain (append_pair form n v) ps
    (joined (form ++ separator form) (byte_serialize n ++ (61 ∷ []) ++ byte_serialize v) (joined form (separator form) h (separated (is_nonempty form)))
    (joined (byte_serialize n ++ 61 ∷ []) (byte_serialize v) (joined (byte_serialize n) (61 ∷ []) (text_plain n) refl) (text_plain v)))

query_plain : (ps : Parameters) → are_plain (query_text ps) ≡ true
query_plain [] = refl
query_plain (p ∷ ps) = form_plain [] (p ∷ ps) refl

-- ---- paths

plain_domain : (b : ℕ) → is_domain_byte b ≡ true → is_plain b ≡ true
plain_domain b h = grind (arith, nat_tests)

domain_plain : (t : List ℕ) → list_all is_domain_byte t ≡ true → are_plain t ≡ true
domain_plain [] h = refl
domain_plain (b ∷ t) h =
    let parts = both_true (is_domain_byte b) (list_all is_domain_byte t) h in
    and_true (is_plain b) (are_plain t) (plain_domain b parts.0) (domain_plain t parts.1)

namespace_plain : (t : List ℕ) → is_namespace t ≡ true → are_plain t ≡ true
namespace_plain t h =
    let long = nat_lt 0 (length t) in
    let names = list_all is_domain_byte t in
    let begins = is_letter_or_digit (slice_index t 0) in
    let ends = is_letter_or_digit (slice_index t (length t - 1)) in
    domain_plain t (right_true long names (left_true (long && names) begins (left_true (long && names && begins) ends (left_true (is_label t) (nat_le (length t) 63) h))))

prefix_plain : (g : Group) → are_plain (prefix g) ≡ true
prefix_plain Core = refl
prefix_plain Apps = refl

plural_plain : (k : Kind) → are_plain (47 ∷ plural k) ≡ true
plural_plain k = each_kind (λ j. are_plain (47 ∷ plural j)) refl k

path_plain : (k : Kind) (ns : Option (List ℕ)) → names_namespace (collection k ns) ≡ true → are_plain (collection_text k ns) ≡ true
path_plain k None named = joined (prefix (group k)) (47 ∷ plural k) (prefix_plain (group k)) (plural_plain k)
path_plain k (Some ns) named =
    joined (prefix (group k)) (codes "/namespaces/" ++ (ns ++ (47 ∷ plural k))) (prefix_plain (group k))
    (joined (codes "/namespaces/") (ns ++ (47 ∷ plural k)) refl (joined ns (47 ∷ plural k) (namespace_plain ns named) (plural_plain k)))

-- ---- targets

pub target_plain : (k : Kind) (ns : Option (List ℕ)) (ps : Parameters) → names_namespace (collection k ns) ≡ true → are_plain (collection_text k ns ++ query_text ps) ≡ true
target_plain k ns ps named = joined (collection_text k ns) (query_text ps) (path_plain k ns named) (query_plain ps)

small : (b : ℕ) → is_plain b ≡ true → b < 128
small b h = grind (arith, nat_tests)

all_small : (t : List ℕ) → are_plain t ≡ true → All (λ b. b < 128) t
all_small [] h = All-nil (λ b. b < 128)
all_small (b ∷ t) h =
    let parts = both_true (is_plain b) (are_plain t) h in All-cons (λ c. c < 128) b t (small b parts.0) (all_small t parts.1)

pub plain_utf8 : (t : List ℕ) → are_plain t ≡ true → IsUtf8 t
plain_utf8 t h = IsUtf8-from_ascii t (IsAscii-from_all t (all_small t h))

visible : (b : ℕ) → is_plain b ≡ true → is_visible b ≡ true
visible b h = grind (arith, nat_tests)

pub plain_visible : (t : List ℕ) → are_plain t ≡ true → list_all is_visible t ≡ true
plain_visible [] h = refl
plain_visible (b ∷ t) h =
    let parts = both_true (is_plain b) (are_plain t) h in and_true (is_visible b) (list_all is_visible t) (visible b parts.0) (plain_visible t parts.1)
