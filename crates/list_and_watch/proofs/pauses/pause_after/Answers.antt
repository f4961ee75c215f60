use Rattle.std.proofs.Common.{arith}
use Rattle.list_and_watch.proofs.Longest.{longest}
use Rattle.list_and_watch.proofs.pauses.pause_after.Goals as goal

pub returns-else-failures-lt-MOST_FAILURES : goal.returns-else-failures-lt-MOST_FAILURES
returns-else-failures-lt-MOST_FAILURES c = longest c.args.failures (omega (arith, c.if-failures-lt-MOST_FAILURES.false))
