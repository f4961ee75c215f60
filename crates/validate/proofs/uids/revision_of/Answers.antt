use Rattle.std.proofs.Common.{◌%◌, ◌^◌, sym, ap, ◌∙◌, arith}
use Rattle.std.specs.Str.{bytes_eq}
use Rattle.spec_api.specs.Uids.{uid_text}
use Rattle.validate.proofs.Printed.{is_printed, is_other, is_unread}
use Rattle.validate.proofs.uids.revision_of.Goals as goal

pub returns-then-is_uid_at : goal.returns-then-is_uid_at
returns-then-is_uid_at c = is_printed c.args.text.now (c.as_u64_pair-revision.result.1 % 2 ^ 62) (omega arith) (sym c.is_uid_at.ensures ∙ c.if-is_uid_at.true)

pub returns-else-is_uid_at : goal.returns-else-is_uid_at
returns-else-is_uid_at c =
    is_other c.args.text.now c.in-Ok.uid c.in-Ok.ensures.bytes
    (ap (λ n. bytes_eq c.args.text.now (uid_text 0 (n % 2 ^ 62))) (sym c.as_u64_pair-revision.ensures.low) ∙ sym c.is_uid_at.ensures ∙ c.if-is_uid_at.false)

pub returns-in-Err : goal.returns-in-Err
returns-in-Err c = is_unread c.args.text.now (λ p. let f = c.in-Err.ensures.ok.1 p in cc)
