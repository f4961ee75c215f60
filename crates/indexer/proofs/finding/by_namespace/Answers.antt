use Rattle.std.proofs.Common.{rules, ◌≡◌, ◌∙◌, map}
use Rattle.spec_api.specs.Kinds.{kinds}
use Rattle.reconcile_types.specs.Entries.{entry_of}
use Rattle.reflector.specs.Seen.{members_seen}
use Rattle.indexer.proofs.InOrder.{in_order_seen}
use Rattle.indexer.proofs.Namespaces.{of_kinds, kinds_are_all}
use Rattle.indexer.proofs.finding.by_namespace.Goals as goal

pub returns : goal.returns
returns c =
    let ms = members_seen c.args.objects.now in
    let all : map entry_of c.loop-kind.found.items ≡ of_kinds kinds c.args.namespace.now ms = search (rules, c.loop-kind.invariant) in
    all ∙ kinds_are_all c.args.namespace.now ms (in_order_seen c.args.objects.now c.len.ensures.ordered)
