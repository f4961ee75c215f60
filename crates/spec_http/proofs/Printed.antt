-- The heads that a server writes, in the words of the grammar.
use Rattle.std.proofs.Common.{◌≡◌, ◌+◌, ◌<◌, ℕ, suc, List, [], ◌∷◌, ◌++◌, length, Bool, true, false, cond, Some, codes, refl, arith, append_assoc, ◌==◌, nat_lt, ◌&&◌}
use Rattle.std.specs.List.{list_all}
use Rattle.std.proofs.lemmas.Bool.{ltb-true}
use Rattle.std.proofs.lemmas.List.{length-append}
use Rattle.std.proofs.lemmas.List.Sums.{AllPass-from_list_all}
use Rattle.httparse.specs.Grammar.{crlf, AllPass, is_value_byte, is_token_byte, Field, IsField, ResponseHead, print_response, trim_ows}
use Rattle.spec_http.specs.Heads.{values_of}
use Rattle.spec_http.specs.Replies.{line, phrases, phrase_in, phrase}
use Rattle.chunked.specs.Bodies as bodies
use Rattle.spec_http.proofs.OnLiterals.{http_on_literals}
use Rattle.spec_http.specs.Answers.{fields_of, transfer_codings}

abbrev pub field : List ℕ → List ℕ → Field
field name raw = record { name = name; raw = raw; end = crlf }

-- a head with these digits, this phrase and a field that says where the body ends
abbrev pub head_with : List ℕ → List ℕ → Field → ResponseHead
head_with digits reason framing = record {
  blank = [];
  minor = 1;
  digits = digits;
  reason = Some reason;
  line_end = crlf;
  fields = field (codes "Content-Type") (codes " application/json") ∷ framing ∷ field (codes "Connection") (codes " close") ∷ [];
  last = crlf;
}

abbrev pub length_field : List ℕ → Field
length_field size = field (codes "Content-Length") (32 ∷ size)

-- the text of such a head
abbrev pub text_with : List ℕ → List ℕ → List ℕ → List ℕ
text_with digits reason framing =
    line (codes "HTTP/1.1 " ++ (digits ++ (32 ∷ reason)))
    ++ (line (codes "Content-Type: application/json") ++ (line framing ++ (line (codes "Connection: close") ++ bodies.crlf)))

regroup : (v d p e t l n c : List ℕ) → v ++ (((d ++ p) ++ e) ++ (t ++ (l ++ (((n ++ e) ++ c) ++ e)))) ≡ ((v ++ (d ++ p)) ++ e) ++ (t ++ (((l ++ n) ++ e) ++ (c ++ e)))
regroup v d p e t l n c = simp append_assoc

pub printed : (d p n : List ℕ) → print_response (head_with d p (length_field n)) ≡ text_with d p (codes "Content-Length: " ++ n)
unfolding http_on_literals
printed d p n = regroup (codes "HTTP/1.1 ") d (32 ∷ p) bodies.crlf (codes "Content-Type: application/json\r\n") (codes "Content-Length: ") n (codes "Connection: close\r\n")

total : (v d p e t l n c : List ℕ) → length (v ++ (((d ++ p) ++ e) ++ (t ++ (l ++ (((n ++ e) ++ c) ++ e)))))
    ≡ length v + (((length d + length p) + length e) + (length t + (length l + (((length n + length e) + length c) + length e))))
total v d p e t l n c = simp length-append

pub sizes : (d p n : List ℕ) → length (print_response (head_with d p (length_field n))) ≡ 9 + (((length d + suc (length p)) + 2) + (32 + (16 + (((length n + 2) + 19) + 2))))
unfolding http_on_literals
sizes d p n = total (codes "HTTP/1.1 ") d (32 ∷ p) bodies.crlf (codes "Content-Type: application/json\r\n") (codes "Content-Length: ") n (codes "Connection: close\r\n")

pub no_codings : (d p n : List ℕ) → transfer_codings (head_with d p (length_field n)) ≡ []
unfolding http_on_literals
no_codings d p n = refl

pub lengths : (d p n : List ℕ) → values_of (codes "content-length") (fields_of (head_with d p (length_field n))) ≡ trim_ows (32 ∷ n) ∷ []
unfolding http_on_literals
lengths d p n = refl

-- ---- phrases

each : (a b : Bool) → a && b ≡ true → (a ≡ true) × (b ≡ true)
each true b e = (refl, e)
each false b e = absurd (cc)

chosen : (P : List ℕ → Type 0) (found : Bool) (x y : List ℕ) → P x → P y → P (cond found x y)
chosen P true x y here there = here
chosen P false x y here there = there

phrases_pass : (ps : List (ℕ × List ℕ)) (code : ℕ) → list_all (λ p. list_all is_value_byte p.1) ps ≡ true → list_all is_value_byte (phrase_in ps code) ≡ true
phrases_pass [] code all = refl
phrases_pass (p ∷ ps) code all =
    let parts = each (list_all is_value_byte p.1) (list_all (λ q. list_all is_value_byte q.1) ps) all in
    chosen (λ t. list_all is_value_byte t ≡ true) (code == p.0) p.1 (phrase_in ps code) parts.0 (phrases_pass ps code parts.1)

phrases_short : (ps : List (ℕ × List ℕ)) (code : ℕ) → list_all (λ p. nat_lt (length p.1) 23) ps ≡ true → length (phrase_in ps code) < 23
phrases_short [] code all = omega arith
phrases_short (p ∷ ps) code all =
    let parts = each (nat_lt (length p.1) 23) (list_all (λ q. nat_lt (length q.1) 23) ps) all in
    chosen (λ t. length t < 23) (code == p.0) p.1 (phrase_in ps code) (ltb-true (length p.1) 23 parts.0) (phrases_short ps code parts.1)

pub phrase_passes : (code : ℕ) → AllPass is_value_byte (phrase code)
unfolding http_on_literals
phrase_passes code = AllPass-from_list_all is_value_byte (phrase code) (phrases_pass phrases code refl)

pub phrase_short : (code : ℕ) → length (phrase code) < 23
unfolding http_on_literals
phrase_short code = phrases_short phrases code refl

-- ---- fields

pub field_from : (name raw : List ℕ) → nat_lt 0 (length name) ≡ true → list_all is_token_byte name ≡ true → AllPass is_value_byte raw → IsField (field name raw)
field_from name raw some token pass = record { name = (ltb-true 0 (length name) some, AllPass-from_list_all is_token_byte name token); raw = pass }

-- ---- heads of requests

pub grown : (t a b c d e : List ℕ) → ((((t ++ a) ++ b) ++ c) ++ d) ++ e ≡ t ++ (a ++ (b ++ (c ++ (d ++ e))))
grown t a b c d e = simp append_assoc
