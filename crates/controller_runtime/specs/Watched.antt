-- What is followed of what a controller watches.
use Rattle.std.specs.Prelude.{◌≡◌, List, map}
use Rattle.spec_api.specs.declared.kinds.Kind.{Kind}
use Rattle.request_encoding.specs.Scopes.{Scope}
use Rattle.api_client.specs.Asked.{scope_at}
use Rattle.api_client.specs.declared.asking.Remote.{Remote}
use Rattle.api_notes.specs.Told.{api_of}
use Rattle.api_notes.specs.declared.told.Told.{Told}
use Rattle.controller_watches.specs.Watched.{asked_by}
use Rattle.controller_watches.specs.declared.watches.Watch.{Watch}
use Rattle.controller_runtime.specs.declared.followed.Followed.{Followed}

-- what is asked of a server for a kind that is followed
abbrev pub asked_for : {C I O N : Type 0} → Followed (Told (Remote C I O) N) → Kind × Scope
asked_for f = (f.kind, scope_at (api_of f.api))

-- each watch is followed, one after another, by what it asks for
abbrev pub AreFollowed : {C I O N : Type 0} → List Watch → List (Followed (Told (Remote C I O) N)) → Type 0
AreFollowed ws fs = map asked_for fs ≡ map asked_by ws
