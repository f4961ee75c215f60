-- Fields, and what they state of a body's length, in the words of connections.
use Rattle.std.specs.Prelude.{◌≡◌, ◌≤◌, ◌<◌, ℕ, Option, Some, None}
use Rattle.spec_api.specs.Targets.{longest_body}
use Rattle.spec_http.specs.Heads as words
use Rattle.http_request_head.specs.declared.field.HeaderField.{HeaderField}
use Rattle.http_request_head.specs.declared.body_length.BodyLength.{BodyLength}
use Rattle.http_request_head.specs.declared.body_length.BodyLength.TheVariants as kind

-- the name and the value
abbrev pub field_seen : HeaderField → words.Field
field_seen f = (f.name.now, f.value.now)

-- what a head states of its body's length
abbrev pub IsLength : Option (Option ℕ) → BodyLength → Type 0
IsLength stated kind.Missing = stated ≡ Some None
IsLength stated kind.Bad = stated ≡ None
IsLength stated (kind.Stated n) = (stated ≡ Some (Some n)) × (n ≤ longest_body)
IsLength stated kind.TooLong = (n : ℕ) × (stated ≡ Some (Some n)) × (longest_body < n)
