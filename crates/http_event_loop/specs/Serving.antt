-- What a server says first.
use Rattle.std.specs.Prelude.{ℕ, List, ◌++◌, codes}
use Rattle.std.specs.Fmt.{decimal}

-- the line that says where the server listens
abbrev pub listening : ℕ → List ℕ
listening port = codes "listening 127.0.0.1:" ++ decimal port ++ codes "\n"
