-- Laws of what followers publish.
use Rattle.std.specs.Prelude.{◌≡◌, ◌≤◌, ◌⊎◌, ℕ, List, [], ◌∷◌, ◌++◌, flat_map}
use Rattle.spec_api.specs.declared.kinds.Kind.{Kind}
use Rattle.spec_api.specs.History.{History, list}
use Rattle.spec_api.specs.Reached.{IsReached}
use Rattle.spec_api.specs.Streams.{Line, text_of_lines}
use Rattle.spec_client_go.specs.Reflectors.{list_of}
use Rattle.spec_laws.specs.SentLaws.{whole, IsListText}
use Rattle.reflector.specs.Laws.{IsAt, IsAtStart, IsServed, IsServedInitial}
use Rattle.list_and_watch.specs.Followers.{Follower, after_list, after_bytes, after_cut, published}

-- of a kind, it has published the server's list at a revision, from which it watches, and nothing waits
pub record Shows (h : History) (k : Kind) (r : ℕ) (f : Follower) : Type 0 where
  pub kind : f.reflector.kind ≡ k
  pub at : IsAt f.reflector r
  pub published : f.informer.published ≡ record { members = list h (whole k) r; revision = r }
  pub pending : f.informer.pending ≡ []

-- pieces of a watch taken in, with a publish after each
abbrev pub after_pieces : Follower → List (List ℕ) → Follower
after_pieces f [] = f
after_pieces f (p ∷ ps) = after_pieces (published (after_bytes p f)) ps

-- whoever asked a server: who takes in its list at a and publishes shows it, whatever it had before
abbrev pub ListsAreShown : Type 0
ListsAreShown =
    (h : History) (k : Kind) (a : ℕ) (f : Follower) (body : List ℕ) → IsReached h → f.reflector.kind ≡ k → IsListText h k a body → Shows h k a (published (after_list (list_of f.reflector.kind body) f))

-- whoever asked a server: who shows its list at a, and takes in whatever part of a watch from a, in whatever pieces, has published
-- the list at the revision named, also within a frame; and where the watch is cut then, it shows that list
abbrev pub PiecesAreShown : Type 0
PiecesAreShown =
    (h : History) (k : Kind) (a b : ℕ) (ls : List Line) (f : Follower) (pieces : List (List ℕ)) (more : List ℕ) → Shows h k a f → IsServed h k a b ls
    → flat_map (λ p. p) pieces ++ more ≡ text_of_lines k ls
    → (let g = after_pieces f pieces in (a ≤ g.reflector.revision) × (g.reflector.revision ≤ b)
    × (g.informer.published ≡ record { members = list h (whole k) g.reflector.revision; revision = g.reflector.revision })
    × Shows h k g.reflector.revision (after_cut g))

-- of a kind, it asks for a stream of initial events, has published what its reflector was given, and nothing waits
pub record Starts (k : Kind) (f : Follower) : Type 0 where
  pub kind : f.reflector.kind ≡ k
  pub at : IsAtStart f.reflector
  pub named : f.informer.published.revision ≡ f.reflector.revision
  pub pending : f.informer.pending ≡ []

-- whoever asked a server: who asks for a stream of initial events, and takes in whatever part of the one from a, in whatever pieces, has published
-- what it had, and where the stream is cut then, it asks for one anew; or it has published the list at the revision named, and where it is cut
-- then, it shows that list
abbrev pub InitialStreamsAreShown : Type 0
InitialStreamsAreShown =
    (h : History) (k : Kind) (a b : ℕ) (ls : List Line) (f : Follower) (pieces : List (List ℕ)) (more : List ℕ) → Starts k f → IsServedInitial h k a b ls
    → flat_map (λ p. p) pieces ++ more ≡ text_of_lines k ls
    → (let g = after_pieces f pieces in ((g.informer.published ≡ f.informer.published) × Starts k (after_cut g))
    ⊎ ((a ≤ g.reflector.revision) × (g.reflector.revision ≤ b)
    × (g.informer.published ≡ record { members = list h (whole k) g.reflector.revision; revision = g.reflector.revision })
    × Shows h k g.reflector.revision (after_cut g)))
