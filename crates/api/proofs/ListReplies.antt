-- A reply with a list, its head first.
use Rattle.std.proofs.Common.{◌≡◌, ◌<◌, nat_lt, ℕ, List, [], ◌∷◌, ◌++◌, length, Bool, true, false, codes, decimal, refl, sym, arith, length-append}
use Rattle.std.proofs.lemmas.Bool.{lt-ltb}
use Rattle.chunked.specs.Bodies.{crlf}
use Rattle.spec_http.specs.Replies.{line, phrase, head_text, response_text}
use Rattle.api.specs.ListReplies.{head_unless, reply_left}

-- what is left is the head, unless it is made, and the body
pub head_then_body : (begun : Bool) (body : List ℕ) → reply_left begun body ≡ head_unless begun (length body) ++ body
head_then_body true body = refl
head_then_body false body = refl

line_some : (t r b : List ℕ) → 0 < length (((t ++ 13 ∷ 10 ∷ []) ++ r) ++ b)
line_some t r b = omega (arith, length-append ((t ++ 13 ∷ 10 ∷ []) ++ r) b, length-append (t ++ 13 ∷ 10 ∷ []) r, length-append t (13 ∷ 10 ∷ []))

abbrev after_line : List ℕ → List ℕ
after_line framing = line (codes "Content-Type: application/json") ++ (line framing ++ (line (codes "Connection: close") ++ crlf))

positive : (n : ℕ) → 0 < n → true ≡ nat_lt 0 n
positive n some = sym (lt-ltb 0 n some)

-- a reply has a head
pub reply_some : (body : List ℕ) → true ≡ nat_lt 0 (length (response_text 200 body))
reply_some body =
    let framing = codes "Content-Length: " ++ decimal (length body) in
    let some : 0 < length (response_text 200 body) = line_some (codes "HTTP/1.1 " ++ (decimal 200 ++ (32 ∷ phrase 200))) (after_line framing) body in
    positive (length (response_text 200 body)) some
