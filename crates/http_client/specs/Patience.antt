-- How long a server asks to be left alone (RFC 9110, Retry-After).
use Rattle.std.specs.Prelude.{◌≡◌, ℕ, List, [], ◌∷◌, min, Option, Some, None, codes, if◌then◌else◌}
use Rattle.std.specs.Str.Parse.{digits_value}
use Rattle.httparse.specs.Grammar.{ResponseHead, ReadsResponse}
use Rattle.spec_http.specs.Heads.{Field, values_of, is_number}
use Rattle.spec_http.specs.Answers.{IsWithinLimits, fields_of}

-- so many seconds, by digits alone; an hour where it is more. A date is not understood, and counts as nothing
abbrev pub seconds_in : List ℕ → Option ℕ
seconds_in t = if is_number t then Some (min (digits_value 10 t) 3600) else None

abbrev pub first_seconds : List (List ℕ) → Option ℕ
first_seconds [] = None
first_seconds (v ∷ vs) = seconds_in v

-- how many seconds the fields of a head ask for, if they do; the first such field counts
abbrev pub retry_after : List Field → Option ℕ
retry_after fields = first_seconds (values_of (codes "retry-after") fields)

-- the bytes begin with a head within the limits, and this is what it asks for
abbrev pub AsksPatience : List ℕ → Option ℕ → Type 0
AsksPatience bytes wait = (h : ResponseHead) × (rest : List ℕ) × ReadsResponse bytes h rest × IsWithinLimits h × (wait ≡ retry_after (fields_of h))
