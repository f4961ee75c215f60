-- What is asked for where it is said what is wanted.
use Rattle.std.proofs.Common.{◌≡◌, ◌⊎◌, inl, inr, sym, subst, IfOk, IfErr}
use Rattle.std.specs.Prelude.{Option, Result, Ok, Err, option_map}
use Rattle.spec_api.specs.ObjectRequests as words
use Rattle.keyed_board.specs.declared.failure.Failure.{Failure}
use Rattle.keyed_board.specs.declared.failure.Failure.TheVariants.{Refused, NoReply, NoMemory, NoVersion, Other}
use Rattle.keyed_board.specs.declared.outcome.Outcome.{Outcome}
use Rattle.request_parts.specs.Requests.{request_of}
use Rattle.request_parts.specs.declared.request.Request.{Request}
use Rattle.reconciler.specs.Asked.{asked_by, AsksFor, AsksUnlessMemoryEnds}
use Rattle.reconciler.specs.Guarded.{Refuses}
use Rattle.reconciler.specs.Traces.{Trace, Asks}

-- a failure of what gives the next request is that memory ran out, or what is wanted
pub asks_wanted : (next : Result (Option Request) Failure) (wanted : Result (Option words.Request) Failure) (trace : Trace) (outcome : Outcome)
    → IfOk next (λ n. wanted ≡ Ok (option_map request_of n)) → IfErr next (Refuses wanted) → AsksFor (asked_by next) trace outcome → AsksUnlessMemoryEnds wanted trace outcome
asks_wanted (Ok n) wanted trace outcome is refused a = inl (subst (λ w. AsksFor w trace outcome) (sym is) a)
asks_wanted (Err (Refused code seconds)) wanted trace outcome is refused a = absurd refused
asks_wanted (Err NoReply) wanted trace outcome is refused a = absurd refused
asks_wanted (Err NoMemory) wanted trace outcome is refused a = inr a
asks_wanted (Err NoVersion) wanted trace outcome is refused a = inl (subst (λ w. AsksFor w trace outcome) (sym refused) a)
asks_wanted (Err (Other words)) wanted trace outcome is refused a = absurd refused
