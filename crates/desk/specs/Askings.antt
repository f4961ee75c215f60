-- Which requests may be asked of a store that threads share.
use Rattle.spec_api.specs.ObjectRequests.{Request}
use Rattle.spec_api.specs.Reached.{CanBeRead}

-- any request
abbrev pub IsAny : Request → Type 0
IsAny q = Unit {0}

-- one that can be read of bytes
abbrev pub IsReadable : Request → Type 0
IsReadable q = CanBeRead q
