use Rattle.std.proofs.Common.{All, take}
use Rattle.controller_watches.specs.Watched.{IsScoped}
use Rattle.controller_watches.proofs.watches.check_watches.Given as goal

-- there is a scope for each so far
abbrev pub invariant-loop-watch : goal.invariant-loop-watch
invariant-loop-watch l = All IsScoped (take l.watch-index l.watches)
