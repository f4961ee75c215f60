-- Keys of any type that come due, by the names that the keys say and the order of names.
pub use Rattle.spec_client_go.specs.KeyDelays.{KeyDelays, delayed, KeyAlarm, alarm_cmp, alarm_of, alarms, due, first_moment, next_moment, still_delayed, alarm_set, AreAlarms}
