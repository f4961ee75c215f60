-- What may be asked.
use Rattle.std.proofs.Common.{Option, Some, None, Result, Ok, Err}
use Rattle.spec_api.specs.ObjectRequests.{Request}
use Rattle.spec_api.specs.Reached.{CanBeRead}
use Rattle.spec_api.specs.Refusals.{Refusal}
use Rattle.spec_api.specs.Targets.{Asked, request, list, watch}
use Rattle.api.specs.Askable.{CanBeAsked, MayBeAsked, MayBeSaid}

module _ (may : Request → Type 0) where
  pub may_be_asked : ((q : Request) → CanBeRead q → may q) → (a : Asked) → CanBeAsked a → MayBeAsked may a
  may_be_asked each (request q) can = each q can
  may_be_asked each (list v options) can = tt
  may_be_asked each (watch v options) can = tt

  pub any_may_be_said : ((q : Request) → may q) → (said : Option (Result Asked Refusal)) → MayBeSaid may said
  any_may_be_said each None = tt
  any_may_be_said each (Some (Err f)) = tt
  any_may_be_said each (Some (Ok (request q))) = each q
  any_may_be_said each (Some (Ok (list v options))) = tt
  any_may_be_said each (Some (Ok (watch v options))) = tt
