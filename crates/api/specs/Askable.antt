-- What may be asked, by which requests may.
use Rattle.std.specs.Prelude.{Option, Some, None, Result, Ok, Err, ⊤}
use Rattle.spec_api.specs.ObjectRequests.{Request}
use Rattle.spec_api.specs.Reached.{CanBeRead}
use Rattle.spec_api.specs.Refusals.{Refusal}
use Rattle.spec_api.specs.Targets.{Asked, request, list, watch}

module _ (may : Request → Type 0) where
  -- a list or a watch may
  abbrev pub MayBeAsked : Asked → Type 0
  MayBeAsked (request q) = may q
  MayBeAsked (list v options) = ⊤
  MayBeAsked (watch v options) = ⊤

  -- so may what a connection says, if it asks something
  abbrev pub MayBeSaid : Option (Result Asked Refusal) → Type 0
  MayBeSaid None = ⊤
  MayBeSaid (Some (Err f)) = ⊤
  MayBeSaid (Some (Ok a)) = MayBeAsked a

-- what can be read of bytes
abbrev pub CanBeAsked : Asked → Type 0
CanBeAsked a = MayBeAsked CanBeRead a
