use Rattle.std.proofs.Common.{subst, sym}
use Rattle.informer.specs.Knowing.{StartsWithAll, latest}
use Rattle.informer.specs.Listers.{known}
use Rattle.informer.specs.Looked.{has_seen, as_before}
use Rattle.informer.proofs.listers.copy_of_published.Goals as goal

-- what a look has seen the lister knows then
pub returns-in-Ok-clause-knows : goal.returns-in-Ok-clause-knows
returns-in-Ok-clause-knows c = has_seen (subst (λ v. StartsWithAll (latest v) (known c.args.lister)) (sym c.leave.ensures) c.in-Ok.ensures.later)

pub returns-in-Err-clause-knows : goal.returns-in-Err-clause-knows
returns-in-Err-clause-knows c = as_before c.in-Err.ensures.err
