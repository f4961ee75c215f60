-- How many lines end in a head, and in a part of one.
use Rattle.std.proofs.Common.{◌≡◌, ◌≢◌, ◌≤◌, ◌<◌, ◌==◌, ℕ, suc, ◌+◌, List, [], ◌∷◌, ◌++◌, length, Bool, true, false, not, cond, ◌||◌, IsTrue, refl, sym, ap, ◌∙◌, subst, arith, append_assoc, append-nil, flat_map}
use Rattle.std.specs.Prelude.{All}
use Rattle.std.proofs.lemmas.Bool.{ne_eqb}
use Rattle.std.proofs.lemmas.List.Elements.{All-head, All-tail}
use Rattle.httparse.specs.Grammar.{AllPass, is_token_byte, is_uri_byte, is_value_byte, LineEnd, crlf, lf, print_end, print_blank, print_version, Field, IsField, print_field, RequestHead, IsRequestHead, EndsInTarget}
use Rattle.httparse.proofs.PieceLemmas.{print_field-append}
use Rattle.spec_http.proofs.Fields.{started}
use Rattle.http_request_head.specs.FieldLines.{line_ends}

false-true : false ≡ true → ⊥
false-true e = cc

token_is_text : (b : ℕ) → is_token_byte b ≡ true → (b ≢ 10) × (b ≢ 13)
unfolding is_token_byte
token_is_text b token = (λ e. false-true (subst (λ (v : ℕ). is_token_byte v ≡ true) e token), λ e. false-true (subst (λ (v : ℕ). is_token_byte v ≡ true) e token))

uri_is_text : (b : ℕ) → is_uri_byte b ≡ true → b ≢ 10
uri_is_text b uri e = false-true (subst (λ (v : ℕ). is_uri_byte v ≡ true) e uri)

value_is_text : (b : ℕ) → is_value_byte b ≡ true → b ≢ 10
value_is_text b value e = false-true (subst (λ (v : ℕ). is_value_byte v ≡ true) e value)

-- ---- lines of texts

one_more : (t : Bool) (n m k : ℕ) → n ≡ m + k → cond t (suc n) n ≡ cond t (suc m) m + k
one_more true n m k e = omega (arith, e)
one_more false n m k e = e

pub ends_append : (a b : List ℕ) → line_ends true (a ++ b) ≡ line_ends true a + line_ends true b
ends_append [] b = omega arith
ends_append (x ∷ a) b = one_more (x == 10) (line_ends true (a ++ b)) (line_ends true a) (line_ends true b) (ends_append a b)

no_fewer : (t : Bool) (n m : ℕ) (begun : Bool) (n' m' : ℕ) → m ≤ n → m' ≤ n' → cond t (cond begun (suc m) m) m' ≤ cond t (cond begun (suc n) n) n'
no_fewer true n m true n' m' less less' = omega (arith, less)
no_fewer true n m false n' m' less less' = less
no_fewer false n m begun n' m' less less' = less'

pub ends_more : (begun : Bool) (a b : List ℕ) → line_ends begun a ≤ line_ends begun (a ++ b)
ends_more begun [] b = omega arith
ends_more begun (x ∷ a) b =
    no_fewer (x == 10) (line_ends begun (a ++ b)) (line_ends begun a) begun (line_ends (begun || not (x == 13)) (a ++ b)) (line_ends (begun || not (x == 13)) a) (ends_more begun a b) (ends_more (begun || not (x == 13)) a b)

-- a text that ends no line
over_text : (test : ℕ → Bool) (t x : List ℕ) → ((b : ℕ) → test b ≡ true → b ≢ 10) → AllPass test t → line_ends true (t ++ x) ≡ line_ends true x
over_text test [] x is_text pass = refl
over_text test (b ∷ t) x is_text pass =
    let other : (b == 10) ≡ false = ne_eqb b 10 (is_text b (All-head (λ v. IsTrue (test v)) b t pass)) in
    rw other (over_text test t x is_text (All-tail (λ v. IsTrue (test v)) b t pass))

over_end : (e : LineEnd) (x : List ℕ) → line_ends true (print_end e ++ x) ≡ suc (line_ends true x)
over_end crlf x = refl
over_end lf x = refl

blank_line : (e : LineEnd) (x : List ℕ) → line_ends false (print_end e ++ x) ≡ line_ends false x
blank_line crlf x = refl
blank_line lf x = refl

over_blank : (es : List LineEnd) (x : List ℕ) → line_ends false (print_blank es ++ x) ≡ line_ends false x
over_blank [] x = refl
over_blank (e ∷ es) x = ap (line_ends false) (append_assoc (print_end e) (print_blank es) x) ∙ blank_line e (print_blank es ++ x) ∙ over_blank es x

-- a text begins a head's lines
begins : (t x : List ℕ) → 0 < length t → AllPass is_token_byte t → line_ends false (t ++ x) ≡ line_ends true (t ++ x)
begins [] x some pass = absurd (omega (arith, some))
begins (b ∷ t) x some pass =
    let text = token_is_text b (All-head (λ v. IsTrue (is_token_byte v)) b t pass) in
    let no_lf : (b == 10) ≡ false = ne_eqb b 10 text.0 in
    let no_cr : (b == 13) ≡ false = ne_eqb b 13 text.1 in
    rw (no_lf, no_cr) refl

over_version : (minor : ℕ) (x : List ℕ) → minor ≤ 1 → line_ends true (print_version minor ++ x) ≡ line_ends true x
over_version minor x small =
    let other : (48 + minor == 10) ≡ false = ne_eqb (48 + minor) 10 (λ e. absurd (omega (arith, e))) in
    rw other refl

-- before a head's fields one line ends
pub started_ends : (h : RequestHead) (x : List ℕ) → IsRequestHead h → line_ends false (started h x) ≡ suc (line_ends true x)
started_ends h x ok =
    let version = print_version h.minor ++ (print_end h.line_end ++ x) in
    let target = h.target ++ 32 ∷ version in
    over_blank h.blank (h.method ++ 32 ∷ target) ∙ begins h.method (32 ∷ target) ok.method.0 ok.method.1
    ∙ over_text is_token_byte h.method (32 ∷ target) (λ b token. (token_is_text b token).0) ok.method.1
    ∙ over_text is_uri_byte h.target (32 ∷ version) uri_is_text ok.target.1
    ∙ over_version h.minor (print_end h.line_end ++ x) ok.minor ∙ over_end h.line_end x

-- with each field a line ends
over_field : (f : Field) (x : List ℕ) → IsField f → line_ends true (print_field f ++ x) ≡ suc (line_ends true x)
over_field f x ok =
    let value = f.raw ++ (print_end f.end ++ x) in
    ap (line_ends true) (print_field-append f x) ∙ over_text is_token_byte f.name (58 ∷ value) (λ b token. (token_is_text b token).0) ok.name.1
    ∙ over_text is_value_byte f.raw (print_end f.end ++ x) value_is_text ok.raw ∙ over_end f.end x

pub over_fields : (fs : List Field) (x : List ℕ) → All IsField fs → line_ends true (flat_map print_field fs ++ x) ≡ length fs + line_ends true x
over_fields [] x ok = omega arith
over_fields (f ∷ fs) x ok =
    let rest = over_fields fs x (All-tail IsField f fs ok) in
    let first = over_field f (flat_map print_field fs ++ x) (All-head IsField f fs ok) in
    let all : line_ends true (flat_map print_field (f ∷ fs) ++ x) ≡ line_ends true (print_field f ++ (flat_map print_field fs ++ x)) = ap (line_ends true) (append_assoc (print_field f) (flat_map print_field fs) x) in
    omega (arith, rest, first, all)

-- where a target is still being read no line has ended
pub in_target : (bytes : List ℕ) → EndsInTarget bytes → line_ends false bytes ≡ 0
in_target bytes (blank, method, target, is_method, is_target, e) =
    let text : bytes ≡ print_blank blank ++ (method ++ 32 ∷ target) = e ∙ append_assoc (print_blank blank) method (32 ∷ target) in
    let last : line_ends true target ≡ 0 = ap (line_ends true) (sym (append-nil target)) ∙ over_text is_uri_byte target [] uri_is_text is_target in
    ap (line_ends false) text ∙ over_blank blank (method ++ 32 ∷ target) ∙ begins method (32 ∷ target) is_method.0 is_method.1
    ∙ over_text is_token_byte method (32 ∷ target) (λ b token. (token_is_text b token).0) is_method.1 ∙ last
