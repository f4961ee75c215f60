-- How long a stream is read.
use Rattle.std.specs.Prelude.{ℕ, ◌-◌, ◌/◌, ◌^◌, min}
use Rattle.metadata_values.specs.Stopwatches.{passed_in}
use Rattle.tcp_client.specs.declared.patient.Patient.{Patient}
use Rattle.tcp_client.specs.Clocks.{stopwatch_of}

-- how many calls in a row may give nothing
abbrev pub calls_of : {R S : Type 0} → Patient R S → ℕ
calls_of p = p.most

-- for how many milliseconds as a whole
abbrev pub time_of : {R S : Type 0} → Patient R S → ℕ
time_of p = p.time

-- how many milliseconds had passed at the last look at the clock
abbrev pub passed_at : {R S : Type 0} → Patient R S → ℕ
passed_at p = min (passed_in (stopwatch_of p.clock) / 1_000_000) (2 ^ 64 - 1)
