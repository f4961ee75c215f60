-- The head of a reply, part by part.
use Rattle.std.proofs.Common.{◌≡◌, ℕ, List, ◌++◌, codes, decimal, sym, ◌∙◌, append_assoc}
use Rattle.chunked.specs.Bodies.{crlf}
use Rattle.spec_http.proofs.OnLiterals.{http_on_literals}
use Rattle.spec_http.specs.Replies.{phrase, head_text}
use Rattle.http_response.specs.Heads.{flat_head}

-- the first line up to the code, up to the blank after it, and up to its end
abbrev pub numbered : ℕ → List ℕ
numbered code = codes "HTTP/1.1 " ++ decimal code

abbrev pub blanked : ℕ → List ℕ
blanked code = numbered code ++ codes " "

abbrev pub status : ℕ → List ℕ
status code = codes "HTTP/1.1 " ++ (decimal code ++ (codes " " ++ phrase code))

-- what follows up to the length, and what follows it
abbrev pub length_field : ℕ → List ℕ
length_field n = codes "\r\nContent-Type: application/json\r\nContent-Length: " ++ decimal n

abbrev pub close : List ℕ
close = codes "\r\nConnection: close\r\n\r\n"

abbrev pub head : ℕ → ℕ → List ℕ
head code n = head_text code (codes "Content-Length: " ++ decimal n)

regroup : (a b c d : List ℕ) → a ++ (b ++ (c ++ d)) ≡ ((a ++ b) ++ c) ++ d
regroup a b c d = simp append_assoc

group : (a b c d : List ℕ) → a ++ (b ++ (c ++ d)) ≡ (a ++ b) ++ (c ++ d)
group a b c d = simp append_assoc

pub status_parts : (code : ℕ) → status code ≡ blanked code ++ phrase code
status_parts code = regroup (codes "HTTP/1.1 ") (decimal code) (codes " ") (phrase code)

pub status_ends : (code : ℕ) → status code ≡ numbered code ++ (codes " " ++ phrase code)
status_ends code = group (codes "HTTP/1.1 ") (decimal code) (codes " ") (phrase code)

lines : (s end t l d c : List ℕ) → (s ++ end) ++ ((t ++ end) ++ (((l ++ d) ++ end) ++ ((c ++ end) ++ end))) ≡ (s ++ ((end ++ (t ++ (end ++ l))) ++ d)) ++ (end ++ (c ++ (end ++ end)))
lines s end t l d c = simp append_assoc

pub head_parts : (code n : ℕ) → head code n ≡ (status code ++ length_field n) ++ close
unfolding http_on_literals
head_parts code n = lines (status code) crlf (codes "Content-Type: application/json") (codes "Content-Length: ") (decimal n) (codes "Connection: close")

pub head_ends : (code n : ℕ) → head code n ≡ status code ++ (length_field n ++ close)
head_ends code n = head_parts code n ∙ append_assoc (status code) (length_field n) close

flatten : (a d s p l n c : List ℕ) → a ++ (d ++ (s ++ (p ++ (l ++ (n ++ c))))) ≡ ((a ++ (d ++ (s ++ p))) ++ (l ++ n)) ++ c
flatten a d s p l n c = simp append_assoc

pub flat_is_head : (code n : ℕ) → flat_head code n ≡ head code n
flat_is_head code n =
    flatten (codes "HTTP/1.1 ") (decimal code) (codes " ") (phrase code) (codes "\r\nContent-Type: application/json\r\nContent-Length: ") (decimal n) close
    ∙ sym (head_parts code n)
