-- What a client writes for a request (RFC 9112, Message Format).
use Rattle.std.specs.Prelude.{ℕ, List, ◌∷◌, ◌++◌, length, codes, decimal}
use Rattle.chunked.specs.Bodies.{crlf}
use Rattle.spec_http.specs.Replies.{line}

-- the head of a request of a method for a target of a host, with a body of this media type and length; the connection serves this request only
-- (RFC 9112, Tear-down)
abbrev pub request_head : List ℕ → List ℕ → List ℕ → List ℕ → ℕ → List ℕ
request_head method target host media_type body_length =
    line (method ++ (32 ∷ (target ++ codes " HTTP/1.1")))
    ++ (line (codes "Host: " ++ host)
    ++ (line (codes "Content-Type: " ++ media_type) ++ (line (codes "Content-Length: " ++ decimal body_length) ++ (line (codes "Connection: close") ++ crlf))))

-- a request: its head, and then its body
abbrev pub request_text : List ℕ → List ℕ → List ℕ → List ℕ → List ℕ → List ℕ
request_text method target host media_type body = request_head method target host media_type (length body) ++ body
