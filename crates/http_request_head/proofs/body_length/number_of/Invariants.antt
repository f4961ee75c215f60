use Rattle.std.proofs.Common.{◌≡◌, ◌≤◌, ◌+◌, ◌*◌, drop, IsTrue}
use Rattle.std.specs.Char.{is_ascii_digit}
use Rattle.std.specs.List.{list_all}
use Rattle.std.specs.Str.Parse.{digits_value, digits_value_after}
use Rattle.http_request_head.proofs.body_length.number_of.Given as goal

-- the number so far, and the digits that are left, make the number
abbrev pub invariant-loop-byte : goal.invariant-loop-byte
invariant-loop-byte l =
    (digits_value_after 10 l.number (drop l.byte-index l.text) ≡ digits_value 10 l.text)
    × (l.number ≤ l.limit * 10 + 9) × IsTrue (list_all is_ascii_digit (drop l.byte-index l.text))
