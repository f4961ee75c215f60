use Rattle.std.proofs.Common.{◌≡◌, ◌+◌, length}
use Rattle.httparse.specs.Grammar.{skip_ows}
use Rattle.http_request_head.proofs.media_type.skip_ows.Given as goal

-- white space alone was left out
abbrev pub invariant-loop : goal.invariant-loop
invariant-loop l = (skip_ows l.rest ≡ skip_ows l.text) × (length l.rest + l.counter ≡ length l.text)
