-- The text of a page token is read back.
use Rattle.std.proofs.Common.{◌≡◌, ◌≤◌, ◌<◌, ◌+◌, ◌/◌, ◌^◌, ℕ, zero, suc, List, [], ◌∷◌, ◌++◌, Bool, true, false, cond, Option, Some, option_and_then, Ok, inl, inr, codes, decimal, refl, sym, ap, ◌∙◌, subst, arith, append-nil}
use Rattle.std.specs.Prelude.{nat_lt}
use Rattle.std.specs.List.{AllByRecursion}
use Rattle.std.specs.Str.{IsUtf8}
use Rattle.std.proofs.lemmas.Bool.Decides.{nat_tests}
use Rattle.std.proofs.lemmas.Fmt.{IsAscii-decimal, decimal_injective}
use Rattle.std.proofs.lemmas.Str.{IsUtf8-append, IsUtf8-from_ascii}
use lib.Utf8.{scalar, scalars, scalar_cases, encode, encodes, next}
use Rattle.base64.specs.Engines.{url_safe_no_pad}
use Rattle.base64.specs.GeneralPurpose.{IsBytes, decode_of}
use Rattle.base64.proofs.EngineFacts.{decode_of-encode_of}
use Rattle.json.specs.Token as token
use Rattle.json.specs.Lex.{tokens}
use Rattle.json.specs.Print.{quoted}
use Rattle.json.specs.Json as json
use Rattle.json.specs.Tree as tree
use Rattle.json.specs.Tree.{json_tokens, HasNumbers}
use Rattle.json.proofs.Printed.Trees.{value-json_tokens, ArePrintable-json_tokens}
use Rattle.json.proofs.Printed.Tokens.{tokens-print}
use Rattle.json.proofs.Printed.Utf8.{IsUtf8-are_ascii, IsUtf8-quoted}
use Rattle.serde_json.specs.Data.{Data}
use Rattle.serde_json.specs.Read.{read, of_json, max_depth}
use Rattle.serde_json.specs.Written.{compact_text, outline}
use Rattle.serde_json.proofs.Texts.{print-outline}
use Rattle.serde_json.proofs.OnLiterals.{serde_json_on_literals}
use Rattle.spec_api.proofs.Truths.{both_true}
use Rattle.spec_api.specs.Revisions.{greatest_revision}
use Rattle.spec_api.specs.PageTokens.{Token, token_data, token_text, IsToken}

-- ---- bytes of characters

abbrev AreBytes : List ℕ → Type 0
AreBytes bs = AllByRecursion (λ b. b < 256) bs

at_width : (c : ℕ) (x y z : Bool) → nat_lt c 128 ≡ x → nat_lt c 2048 ≡ y → nat_lt c 65536 ≡ z → c < 1114112
    → AreBytes (cond x (c ∷ []) (cond y ((192 + c / 64) ∷ next c ∷ []) (cond z ((224 + c / 4096) ∷ next (c / 64) ∷ next c ∷ []) ((240 + c / 262144) ∷ next (c / 4096) ∷ next (c / 64) ∷ next c ∷ []))))
at_width c true y z a b d h = (grind (arith, nat_tests), tt)
at_width c false true z a b d h = let l : c < 2048 = grind (arith, nat_tests) in (omega (arith, l), (omega arith, tt))
at_width c false false true a b d h = let l : c < 65536 = grind (arith, nat_tests) in (omega (arith, l), (omega arith, (omega arith, tt)))
at_width c false false false a b d h = (omega (arith, h), (omega arith, (omega arith, (omega arith, tt))))

below_all : (c : ℕ) → scalar c ≡ true → c < 1114112
below_all c s = elim (scalar_cases c s) [ inl l ↦ omega (arith, l) | inr r ↦ r.1 ]

bytes_of_char : (c : ℕ) → scalar c ≡ true → AreBytes (encode c)
unfolding encode
bytes_of_char c s = at_width c (nat_lt c 128) (nat_lt c 2048) (nat_lt c 65536) refl refl refl (below_all c s)

bytes-append : (xs ys : List ℕ) → AreBytes xs → AreBytes ys → AreBytes (xs ++ ys)
bytes-append [] ys a b = b
bytes-append (x ∷ xs) ys a b = (a.0, bytes-append xs ys a.1 b)

bytes_of_chars : (cs : List ℕ) → scalars cs ≡ true → AreBytes (encodes cs)
bytes_of_chars [] s = tt
bytes_of_chars (c ∷ cs) s = let p = both_true (scalar c) (scalars cs) s in bytes-append (encode c) (encodes cs) (bytes_of_char c p.0) (bytes_of_chars cs p.1)

bytes_at : (bs : List ℕ) → AreBytes bs → IsBytes bs
bytes_at [] a i = omega arith
bytes_at (b ∷ bs) a zero = a.0
bytes_at (b ∷ bs) a (suc i) = bytes_at bs a.1 i

pub IsBytes-utf8 : (bs : List ℕ) → IsUtf8 bs → IsBytes bs
IsBytes-utf8 bs u = bytes_at bs (subst AreBytes u.1.1 (bytes_of_chars u.0 u.1.0))

-- ---- the text of a token's data is UTF-8

abbrev ending : ℕ → List ℕ
ending r = codes ",\"rv\":" ++ (quoted (decimal r) ++ 125 ∷ [])

abbrev whole_text : Token → List ℕ
whole_text t = codes "{\"name\":" ++ (quoted t.name ++ (codes ",\"namespace\":" ++ (quoted t.namespace ++ ending t.revision)))

text_is : (t : Token) → compact_text (token_data t) ≡ whole_text t
unfolding serde_json_on_literals
text_is t = refl

small : (r : ℕ) → r ≤ greatest_revision → r < 2 ^ 64
small r h = omega (arith, h)

pub IsUtf8-token : (t : Token) → t.revision ≤ greatest_revision → IsUtf8 t.name → IsUtf8 t.namespace → IsUtf8 (compact_text (token_data t))
IsUtf8-token t h a b =
    let digits = IsUtf8-quoted (decimal t.revision) (IsUtf8-from_ascii (decimal t.revision) (IsAscii-decimal t.revision (small t.revision h))) in
    let end = IsUtf8-append (codes ",\"rv\":") (quoted (decimal t.revision) ++ 125 ∷ []) (IsUtf8-are_ascii _ refl) (IsUtf8-append (quoted (decimal t.revision)) (125 ∷ []) digits (IsUtf8-are_ascii _ refl)) in
    let middle = IsUtf8-append (codes ",\"namespace\":") (quoted t.namespace ++ ending t.revision) (IsUtf8-are_ascii _ refl) (IsUtf8-append (quoted t.namespace) (ending t.revision) (IsUtf8-quoted t.namespace b) end) in
    let rest = quoted t.name ++ (codes ",\"namespace\":" ++ (quoted t.namespace ++ ending t.revision)) in
    subst IsUtf8 (sym (text_is t)) (IsUtf8-append (codes "{\"name\":") rest (IsUtf8-are_ascii _ refl) (IsUtf8-append (quoted t.name) (codes ",\"namespace\":" ++ (quoted t.namespace ++ ending t.revision)) (IsUtf8-quoted t.name a) middle))

-- ---- and is read back

abbrev whole : Option (json.Json × List token.Token) → Option Data
whole o = option_and_then of_json (option_and_then (λ p. json.if_last p.0 p.1) o)

read_tokens : (j : json.Json) (text : List ℕ) → tokens text ≡ json_tokens j → tree.depth j ≤ max_depth → read text ≡ of_json j
read_tokens j text same shallow = ap whole (ap (json.value max_depth) (same ∙ sym (append-nil (json_tokens j))) ∙ value-json_tokens j max_depth [] shallow)

numbered : (t : Token) → HasNumbers (outline (token_data t))
numbered t = (tt, (tt, (tt, tt)))

shallow : (t : Token) → tree.depth (outline (token_data t)) ≤ max_depth
shallow t = omega arith

converts : (t : Token) → of_json (outline (token_data t)) ≡ Some (token_data t)
unfolding serde_json_on_literals
converts t = refl

pub data_read_back : (t : Token) → read (compact_text (token_data t)) ≡ Some (token_data t)
data_read_back t =
    let j = outline (token_data t) in
    let all : tokens (compact_text (token_data t)) ≡ json_tokens j = ap tokens (sym (print-outline (token_data t))) ∙ tokens-print (json_tokens j) (ArePrintable-json_tokens j (numbered t)) in
    read_tokens j (compact_text (token_data t)) all (shallow t) ∙ converts t

pub token_decodes : (t : Token) → t.revision ≤ greatest_revision → IsUtf8 t.name → IsUtf8 t.namespace → decode_of url_safe_no_pad (token_text t) ≡ Ok (compact_text (token_data t))
token_decodes t h a b =
    decode_of-encode_of url_safe_no_pad (compact_text (token_data t)) refl (IsBytes-utf8 (compact_text (token_data t)) (IsUtf8-token t h a b))

-- ---- a text is one token's at most

same_parts : (s t : Token) → token_data s ≡ token_data t → (s.name ≡ t.name) × (s.namespace ≡ t.namespace) × (decimal s.revision ≡ decimal t.revision)
same_parts s t h = (cc, cc, cc)

same_token : (s t : Token) → s.name ≡ t.name → s.namespace ≡ t.namespace → s.revision ≡ t.revision → s ≡ t
same_token s t a b d = ap (λ n. record { name = n; namespace = s.namespace; revision = s.revision }) a ∙ ap (λ n. record { name = t.name; namespace = n; revision = s.revision }) b ∙ ap (λ n. record { name = t.name; namespace = t.namespace; revision = n }) d

pub one_token : (text : List ℕ) (s t : Token) → IsToken text s → IsToken text t → s ≡ t
one_token text s t a b =
    let decoded = sym (token_decodes s a.revision a.name a.namespace) ∙ ap (decode_of url_safe_no_pad) (sym a.written ∙ b.written) ∙ token_decodes t b.revision b.name b.namespace in
    let texts : compact_text (token_data s) ≡ compact_text (token_data t) = cc decoded in
    let read_back = sym (data_read_back s) ∙ ap read texts ∙ data_read_back t in
    let same : token_data s ≡ token_data t = cc read_back in
    let parts = same_parts s t same in
    same_token s t parts.0 parts.1 (decimal_injective s.revision t.revision (small s.revision a.revision) (small t.revision b.revision) parts.2)
