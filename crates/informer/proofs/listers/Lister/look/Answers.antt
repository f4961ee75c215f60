use Rattle.std.proofs.Common.{List, sym, ap, subst}
use Rattle.reflector.specs.declared.deltas.Delta.{Delta}
use Rattle.informer.specs.Knowing.{StartsWithAll, latest}
use Rattle.informer.specs.Listers.{known}
use Rattle.informer.proofs.Keeps.{sees}
use Rattle.informer.proofs.listers.Lister.look.Goals as goal

pub enter_as-requires : goal.enter_as-requires
enter_as-requires c = sees _ _

-- the list that is seen is the one that the step names
pub returns-in-Ok-clause-later : goal.returns-in-Ok-clause-later
returns-in-Ok-clause-later c = let s = c.in-Ok.ensures.1 in subst (λ (bs : List (List Delta)). StartsWithAll bs (known c.args.self)) (sym (ap latest s.1)) s.3
