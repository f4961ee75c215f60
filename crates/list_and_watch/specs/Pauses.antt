-- How long is waited after a try that failed (client-go, tools/cache, NewReflectorWithOptions).
use Rattle.std.specs.Prelude.{ℕ, ◌+◌, ◌-◌, ◌*◌, ◌^◌, min, nat_lt, if◌then◌else◌}
use Rattle.list_and_watch.specs.declared.pauses.Pauses.{Pauses}

-- 0.8 s, then twice as long each time, and at most 30 s, in milliseconds
abbrev pub pause_after : ℕ → ℕ
pause_after n = min (800 * 2 ^ n) 30000

-- failures count for 2 minutes
abbrev pub failures_at : ℕ → Pauses → ℕ
failures_at now p = if nat_lt 120000 (now - p.last) then 0 else p.failures

-- one more failed try; six make the longest pause
abbrev pub failed : ℕ → Pauses → Pauses
failed now p = record { failures = min (failures_at now p + 1) 6; last = now }
