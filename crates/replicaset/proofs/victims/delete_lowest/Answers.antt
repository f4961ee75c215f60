use Rattle.std.proofs.Common.{◌≡◌, ◌++◌, OnOk, map, take, sym, ap, ◌∙◌, subst}
use Rattle.std.proofs.lemmas.List.{take-map}
use Rattle.spec_api.specs.History.{Entries}
use Rattle.spec_reconcile.specs.PodRanks.{ranked}
use Rattle.spec_reconcile.specs.ReplicaSets.{delete_pod}
use Rattle.replicaset.specs.Ranks.{pods_of}
use Rattle.replicaset.specs.declared.ranks.Ranked.{Ranked}
use Rattle.reconcile_types.specs.Commands.{command_of}
use Rattle.reconcile_types.specs.Entries.{entry_of}
use Rattle.replicaset.proofs.victims.delete_lowest.Goals as goal

pub returns : goal.returns
returns c =
    let pods = pods_of c.args.pods.now in
    let surplus = c.args.surplus in
    let all = c.in_ok-victims.victims.items in
    let victim = λ (r : Ranked). entry_of r.pod in
    let is : map victim c.as_slice.result.now ≡ take surplus (ranked pods) =
    ap (map victim) (c.as_slice.ensures.value ∙ c.truncate.ensures.items) ∙ sym (take-map victim surplus all) ∙ ap (take surplus) c.in_ok-victims.ensures in
    subst (λ (ps : Entries). OnOk c.add_deletes.result (map command_of c.add_deletes.new.commands.items ≡ map command_of c.args.commands.now.items ++ map delete_pod ps)) is c.add_deletes.ensures
