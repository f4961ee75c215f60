-- What is always true of a server.
use Rattle.std.specs.Prelude.{◌≡◌, ◌≤◌, ℕ}
use Rattle.std.specs.List.Sorted.{IsStrictlySortedBy}
use Rattle.std.specs.Map.{keys_of}
use Rattle.spec_api.specs.declared.kinds.Kind.{Kind}
use Rattle.spec_api.specs.Keys.{key_cmp}
use Rattle.spec_server.specs.Servers.{Server}
use Rattle.spec_server.specs.Recorded.{Window}
use Rattle.spec_api.specs.Windows.{last_revision}

-- a window of the kind, with no write above this revision
abbrev pub IsUpTo : ℕ → Kind → Window → Type 0
IsUpTo r k w = (w.kind ≡ k) × (last_revision 0 w.kept ≤ r)

-- what is there stands in order, and each window is one of its kind up to the present revision
pub record IsStanding (s : Server) : Type 0 where
  pub in_order : IsStrictlySortedBy key_cmp (keys_of s.snapshot.members)
  pub up_to : (k : Kind) → IsUpTo s.snapshot.revision k (s.windows k)
