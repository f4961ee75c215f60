-- What alarms say.
use Rattle.keyed_queues.specs.declared.alarm.Alarm.{Alarm}
use Rattle.spec_client_go.specs.KeyDelays.{KeyAlarm}

abbrev pub alarm_said : {K N : Type 0} → (K → N) → Alarm K → KeyAlarm N
alarm_said say a = record { at = a.at; key = say a.key }
