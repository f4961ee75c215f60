-- The lines that are written of a reply that came over a connection, in the form of a replay.
use Rattle.std.specs.Prelude.{ℕ, ◌-◌, ◌==◌, ◌&&◌, ◌||◌, List, ◌∷◌, [], ◌++◌, Bool, length, get_or, count_by, codes, decimal, if◌then◌else◌}

-- a code, a space, a text and the end of the line
abbrev pub line_text : ℕ → List ℕ → List ℕ
line_text code text = decimal code ++ (32 ∷ (text ++ 10 ∷ []))

-- a body of whole lines is a watch's: each frame ends its line, and no other body does
abbrev pub is_of_lines : List ℕ → Bool
is_of_lines body = length body == 0 || get_or body (length body - 1) 0 == 10

-- how many frames a watch gave, and these
abbrev pub watch_text : List ℕ → List ℕ
watch_text body = codes "200 watch " ++ (decimal (count_by (λ byte. byte == 10) body) ++ (10 ∷ body))

-- of a watch its frames; of anything else its code and its body
abbrev pub reply_text : ℕ → List ℕ → List ℕ
reply_text code body = if code == 200 && is_of_lines body then watch_text body else line_text code body
