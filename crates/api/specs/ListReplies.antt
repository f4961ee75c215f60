-- A reply with a list, of which a beginning is made.
use Rattle.std.specs.Prelude.{ℕ, List, [], ◌++◌, Bool, true, false, length, codes, decimal, if◌then◌else◌}
use Rattle.spec_http.specs.Replies.{head_text, response_text}

-- its head with a body of this length, unless it is made
abbrev pub head_unless : Bool → ℕ → List ℕ
head_unless begun n = if begun then [] else head_text 200 (codes "Content-Length: " ++ decimal n)

-- what is left of it: once its head is made, the body
abbrev pub reply_left : Bool → List ℕ → List ℕ
reply_left begun body = if begun then body else response_text 200 body
