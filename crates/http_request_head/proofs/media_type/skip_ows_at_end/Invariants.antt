use Rattle.std.proofs.Common.{◌≡◌, ◌+◌, length, reverse}
use Rattle.httparse.specs.Grammar.{skip_ows}
use Rattle.http_request_head.proofs.media_type.skip_ows_at_end.Given as goal

-- white space alone was left out
abbrev pub invariant-loop : goal.invariant-loop
invariant-loop l = (skip_ows (reverse l.rest) ≡ skip_ows (reverse l.text)) × (length l.rest + l.counter ≡ length l.text)
