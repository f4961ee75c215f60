use Rattle.std.proofs.Common.{sym, subst}
use Rattle.object_keys.specs.PerKind.{of_kind}
use Rattle.object_keys.proofs.PerKinds.{of_with_kind}
use Rattle.informer.specs.Looked.{KnowsMore}
use Rattle.informer.proofs.kind_listers.Listers.copy.Goals as goal

pub returns-clause-knows : goal.returns-clause-knows
returns-clause-knows c =
    let old = c.args.self.now.listers in
    subst (λ l. KnowsMore (of_kind c.args.kind old) l) (sym (of_with_kind c.args.kind c.copy.new.self old))
    (subst (λ l. KnowsMore l c.copy.new.self) c.get_mut.ensures.value c.copy.ensures.knows)
