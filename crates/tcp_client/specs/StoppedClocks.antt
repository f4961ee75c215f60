-- How long a clock went on that a stop interrupts.
use Rattle.metadata_values.specs.declared.stopwatch.Stopwatch.{Stopwatch}
use Rattle.tcp_client.specs.declared.stoppable_clock.StoppableClock.{StoppableClock}
use Rattle.tcp_client.specs.Clocks.{stopwatch_of}

abbrev pub stopwatch_at : {R : Type 0} → StoppableClock R → Stopwatch
stopwatch_at c = stopwatch_of c.clock
