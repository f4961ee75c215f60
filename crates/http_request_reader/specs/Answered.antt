-- What is asked, apart from running out of memory.
use Rattle.std.specs.Prelude.{◌≡◌, Result, Ok, Err}
use Rattle.object_keys.specs.declared.fault.Fault.{Fault}
use Rattle.object_keys.specs.declared.fault.Fault.TheVariants as fault
use Rattle.request_decoding.specs.declared.meaning.Asked.{Asked}
use Rattle.http_request_head.specs.declared.fault.ReadFault.{ReadFault}
use Rattle.http_request_head.specs.declared.fault.ReadFault.TheVariants as read
use Rattle.http_request_reader.specs.declared.received.Received.{Received}
use Rattle.http_request_reader.specs.declared.received.Received.TheVariants as received

-- the result is this refusal, or out of memory
abbrev pub Refuses : Fault → Result Received ReadFault → Type 0
Refuses e (Ok r) = (r ≡ received.Refused e) × (e ≡ fault.NoMemory → ⊥)
Refuses e (Err f) = (e ≡ fault.NoMemory) × (f ≡ read.Want)

-- the result is what is asked, or why it is refused, or out of memory
abbrev pub Answers : Result Asked Fault → Result Received ReadFault → Type 0
Answers (Ok a) result = result ≡ Ok (received.Asked a)
Answers (Err e) result = Refuses e result
