-- A server that is told of.
use Rattle.api_notes.specs.declared.told.Told.{Told}

-- what asks it
abbrev pub api_of : {A N : Type 0} → Told A N → A
api_of s = s.api
