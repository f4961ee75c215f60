-- The head of a reply, part by part.
use Rattle.std.specs.Prelude.{ℕ, List, ◌++◌, codes, decimal}
use Rattle.spec_http.specs.Replies.{phrase}

-- with a body of this length
abbrev pub flat_head : ℕ → ℕ → List ℕ
flat_head code n =
    codes "HTTP/1.1 " ++ (decimal code ++ (codes " " ++ (phrase code ++ (codes "\r\nContent-Type: application/json\r\nContent-Length: " ++ (decimal n ++ codes "\r\nConnection: close\r\n\r\n")))))
