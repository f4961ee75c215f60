-- What is told of a call.
use Rattle.std.specs.Prelude.{◌≡◌, ◌⊎◌, ◌∷◌, ◌++◌, [], ℕ, Option, None, Result, Ok, Err, is_some}
use Rattle.spec_api.specs.History.{History, Entry, View, compaction, present, list}
use Rattle.spec_api.specs.Refusals.{Refusal, no_memory}
use Rattle.spec_api.specs.Verbs.{Outcome, write_of}
use Rattle.spec_api.specs.Versions.{Listed, compacts}
use Rattle.server.specs.Replies.{Replies}
use Rattle.object_keys.specs.Faults.{refusal_of}
use Rattle.object_keys.specs.declared.fault.Fault.{Fault}
use Rattle.http_watch.specs.Given.{there_from}
use Rattle.desk.specs.declared.served.ServedReply.{ServedReply}

-- what a result changes: an error nothing
abbrev pub once_ok : {X Y : Type 0} → Result X Y → Option Entry → Option Entry
once_ok (Ok x) change = change
once_ok (Err e) change = None

-- the result is the outcome, with whether it writes something; or out of memory
abbrev pub Answers : Outcome → Result ServedReply Fault → Type 0
Answers o (Ok s) = Replies o (Ok s.reply) × (s.wrote ≡ is_some (write_of o))
Answers o (Err e) = Replies o (Err e)

-- a compaction is done where its revision is not above the present one, and else refused
abbrev pub Compacts : History → ℕ → Result (Unit {0}) Fault → Type 0
Compacts h r (Ok u) = compacts h r ≡ Ok (h ++ compaction r ∷ [])
Compacts h r (Err e) = compacts h r ≡ Err (refusal_of e)

-- what is there at the present revision, which may not be older than the one that is named, if one is; or out of memory
abbrev pub IsThere : History → View → Option ℕ → Result Listed Refusal → Type 0
IsThere h v least l = (l ≡ there_from (present h) (list h v (present h)) least) ⊎ (l ≡ Err no_memory)
