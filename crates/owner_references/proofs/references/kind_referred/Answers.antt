use Rattle.std.proofs.Common.{rules, tests, ◌∙◌}
use Rattle.std.proofs.lemmas.Iterator.{YieldsList-from_slice}
use Rattle.std.proofs.lemmas.Iterator.Search.{find_from_yields_List}
use Rattle.spec_api.specs.Kinds.{kinds}
use Rattle.spec_client_go.specs.OwnerReferences.{refers_to}
use Rattle.meta.specs.Owners.{owner_of}
use Rattle.owner_references.proofs.references.kind_referred.Goals as goal

pub returns : goal.returns
returns c =
    c.copied.ensures
    ∙ find_from_yields_List (λ k. refers_to k (owner_of c.args.owner.now)) _ _ _ c.find.ensures.ran (YieldsList-from_slice kinds cc) (λ x b q k. search (rules, tests))
