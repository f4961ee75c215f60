-- Watches, one after another.
use Rattle.std.proofs.Common.{◌≡◌, ◌<◌, ◌+◌, ℕ, List, length, take, slice_index_or, true, None, All, subst}
use Rattle.std.proofs.lemmas.List.Elements.{All-more}
use Rattle.spec_api.specs.declared.kinds.Kind.TheVariants.{ConfigMap}
use Rattle.request_encoding.specs.Scopes as words
use Rattle.request_encoding.specs.Seen.{scope_of}
use Rattle.request_encoding.specs.declared.scopes.Scope.{Scope}
use Rattle.controller_watches.specs.Watched.{scope_asked, IsScoped}
use Rattle.controller_watches.specs.declared.watches.Watch.{Watch}

-- what is read where there is no watch
abbrev pub any_watch : Watch
any_watch = record { kind = ConfigMap; namespace = None; selector = None }

-- one more has a scope
pub scoped_more : (ws : List Watch) (i : ℕ) (s : Scope) → i < length ws → scope_of s ≡ scope_asked (slice_index_or ws i any_watch) → All IsScoped (take i ws) → All IsScoped (take (i + 1) ws)
scoped_more ws i s lt is all = All-more IsScoped ws i any_watch lt all (subst (λ t. words.is_scope t ≡ true) is s.understood)
