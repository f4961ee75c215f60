-- The members of a namespace.
use Rattle.std.specs.Prelude.{ℕ, ◌&&◌, List, filter}
use Rattle.std.specs.Str.{bytes_eq}
use Rattle.std.specs.Ordering.{nat_cmp, is_eq}
use Rattle.spec_api.specs.Kinds.{rank}
use Rattle.spec_api.specs.declared.kinds.Kind.{Kind}
use Rattle.spec_api.specs.History.{Entries}

-- those of a kind in a namespace
abbrev pub of_kind : Kind → List ℕ → Entries → Entries
of_kind k ns ms = filter (λ m. is_eq (nat_cmp (rank k) (rank m.0.kind)) && bytes_eq ns m.0.namespace) ms
