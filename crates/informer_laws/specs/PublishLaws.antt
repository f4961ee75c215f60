-- Laws of what is published.
use Rattle.std.specs.Prelude.{◌≡◌, ◌++◌, ℕ, List, ◌∷◌, flat_map, Some}
use Rattle.spec_api.specs.History.{History, list}
use Rattle.spec_api.specs.Streams.{Line, text_of_lines}
use Rattle.spec_server.specs.Snapshots.{Snapshot}
use Rattle.spec_client_go.specs.Informers.{after_publish}
use Rattle.spec_client_go.specs.Reflectors.{Reflector, Listed, list_of, list_delta, with_list, all_fed}
use Rattle.spec_laws.specs.SentLaws.{whole, IsListText}
use Rattle.reflector.specs.Laws.{IsServed}

-- whoever asked a server: the deltas of its list at a, and of whatever part of a watch from a has come, in whatever pieces, are
-- published as the list at the revision that is published, which is the reflector's, whatever was published before
abbrev pub InformersShowLists : Type 0
InformersShowLists =
    (h : History) (a b : ℕ) (ls : List Line) (s : Reflector) (before : Snapshot) (body : List ℕ) (pieces : List (List ℕ)) (more : List ℕ)
    → IsListText h s.kind a body → IsServed h s.kind a b ls → flat_map (λ p. p) pieces ++ more ≡ text_of_lines s.kind ls
    → (l : Listed) × (list_of s.kind body ≡ Some l)
    × (let f = all_fed (with_list (Some l) s) pieces in
    (after_publish (record { published = before; pending = list_delta l ∷ f.deltas })).published ≡ record { members = list h (whole s.kind) f.after.revision; revision = f.after.revision })
