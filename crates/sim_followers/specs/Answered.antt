-- What a server answers who follows it.
use Rattle.std.specs.Prelude.{◌≡◌, Some, None}
use Rattle.spec_api.specs.declared.kinds.Kind.{Kind}
use Rattle.spec_api.specs.History.{unfiltered}
use Rattle.spec_api.specs.Verbs.{Outcome, answered, refused}
use Rattle.spec_api.specs.Texts.Values.{compact_text}
use Rattle.spec_api.specs.declared.versions.At.TheVariants.{Present}
use Rattle.spec_client_go.specs.Reflectors.{list_of}
use Rattle.spec_server.specs.Servers.{Server, list_served}
use Rattle.spec_sim.specs.Moves.{answers_by, listed_of}

-- a body that is read as the present list of the kind
abbrev pub IsListBody : Kind → Server → Outcome → Type 0
IsListBody k s (answered a) = list_of k (compact_text a.body) ≡ Some (listed_of k (answers_by k s))
IsListBody k s (refused f) = ⊥

-- who asks for all objects of a kind is answered by the present list
pub record AnswersLists (k : Kind) (s : Server) : Type 0 where
  pub lists : IsListBody k s (list_served s (unfiltered k None) (record { at = Present; limit = 0; after = None }))
