-- A thread that follows a kind.
use Rattle.spec_client_go.specs.Reflectors.{Reflector}
use Rattle.manager.specs.declared.reflecting.Reflecting.{Reflecting}

-- what it asks of the server next, and what it has taken in
abbrev pub reflector_of : {R A : Type 0} → Reflecting R A → Reflector
reflector_of r = r.follower.reflector
