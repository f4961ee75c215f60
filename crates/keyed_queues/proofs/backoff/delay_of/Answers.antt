use Rattle.std.proofs.Common.{arith}
use Rattle.keyed_queues.proofs.Powers.{doubled, capped}
use Rattle.keyed_queues.proofs.backoff.delay_of.Goals as goal

pub returns-then-failures-lt18 : goal.returns-then-failures-lt18
returns-then-failures-lt18 c = doubled c.args.failures c.pow.result (omega (arith, c.if-failures-lt18.true)) c.pow.ensures

pub returns-else-failures-lt18 : goal.returns-else-failures-lt18
returns-else-failures-lt18 c = capped c.args.failures (omega (arith, c.if-failures-lt18.false))
