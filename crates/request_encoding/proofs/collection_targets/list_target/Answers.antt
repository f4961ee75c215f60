use Rattle.request_encoding.specs.Seen.{scope_of}
use Rattle.request_encoding.proofs.ScopesAsked.{asks_list, text_given, told}
use Rattle.request_encoding.proofs.collection_targets.list_target.Goals as goal

pub returns-clause-asks : goal.returns-clause-asks
returns-clause-asks c =
    let scope = c.args.scope.now in
    told c.target.result _ _ c.target.ensures (asks_list (scope_of scope) c.args.kind scope.understood (text_given scope.selector))
