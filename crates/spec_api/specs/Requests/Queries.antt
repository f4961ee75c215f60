-- What the query of a target says (URL Standard, application/x-www-form-urlencoded parsing).
use Rattle.std.specs.Prelude.{ℕ, List, [], ◌∷◌, Bool, ◌==◌, Option, Some, None, unwrap_or, if◌then◌else◌}
use Rattle.std.specs.List.{list_any, after_first}
use Rattle.std.specs.Str.{bytes_eq}
use Rattle.std.specs.Str.Lossy.{utf8_lossy}
use Rattle.form_urlencoded.specs.Form.{raw_pairs, decode}

-- what stands after the first `?` of a target (RFC 3986, Query)
abbrev pub query_of : List ℕ → List ℕ
query_of target = after_first (λ b. b == 63) target

-- names and values, not yet decoded
abbrev pub Pairs : Type 0
Pairs = List (List ℕ × List ℕ)

abbrev pub pairs_of : List ℕ → Pairs
pairs_of target = raw_pairs (query_of target)

-- a decoded name or value, as a text
abbrev pub decoded_text : List ℕ → List ℕ
decoded_text bytes = utf8_lossy (decode bytes)

-- the value of a parameter: of those with its name the first counts
abbrev pub parameter : List ℕ → Pairs → Option (List ℕ)
parameter name [] = None
parameter name ((n, v) ∷ pairs) = if bytes_eq (decoded_text n) name then Some (decoded_text v) else parameter name pairs

-- whether a parameter has one of these names
abbrev pub has_any : List (List ℕ) → Pairs → Bool
has_any names pairs = list_any (λ p. list_any (bytes_eq (decoded_text p.0)) names) pairs

-- a text that is absent counts as empty
abbrev pub or_empty : Option (List ℕ) → List ℕ
or_empty text = unwrap_or text []
