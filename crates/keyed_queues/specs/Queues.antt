-- Work queues of keys of any type, by the names that the keys say and the order of names: which wait, and which are in workers' hands.
pub use Rattle.spec_client_go.specs.KeyQueues.{KeyQueue, idle, added, front, handed, got_from, got, done, shut, added_all}
