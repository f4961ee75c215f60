use Rattle.std.proofs.Common.{◌≡◌, ◌+◌, ◌==◌, drop}
use Rattle.std.specs.List.{position_or_len}
use Rattle.http_request_head.proofs.media_type.before_semicolon.Given as goal

-- there is no semicolon so far
abbrev pub invariant-loop-byte : goal.invariant-loop-byte
invariant-loop-byte l =
    (l.length ≡ l.byte-index) × (position_or_len (λ b. b == 59) l.text ≡ l.length + position_or_len (λ b. b == 59) (drop l.byte-index l.text))
