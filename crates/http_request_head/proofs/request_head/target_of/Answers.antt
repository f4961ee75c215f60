use Rattle.std.proofs.Common.{sym, subst, ◌∙◌}
use Rattle.std.specs.Str.{IsUtf8}
use Rattle.http_request_head.proofs.request_head.target_of.Goals as goal

pub unreachable-requires : goal.unreachable-requires
unreachable-requires c = absurd (c.in-Err.ensures.cases.0 (subst IsUtf8 (sym (c.of.ensures ∙ c.requires.head.1.path)) c.requires.head.1.reads.0.target_text))
