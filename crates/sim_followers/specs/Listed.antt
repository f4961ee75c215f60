-- How many objects a list has that is taken in.
use Rattle.std.specs.Prelude.{ℕ, length}
use Rattle.spec_client_go.specs.Reflectors.{Delta, replace, put, remove, mark}

abbrev pub listed_count : Delta → ℕ
listed_count (replace r os) = length os
listed_count (put o) = 0
listed_count (remove r k) = 0
listed_count (mark r) = 0
