use Rattle.std.proofs.Common.{◌≡◌, IfOk, List, Some, map, option_map, sym, subst, ap, ◌∙◌}
use Rattle.spec_client_go.specs.Commands.{Command}
use Rattle.spec_client_go.specs.Hands.{live}
use Rattle.reconcile_types.specs.Commands.{command_of}
use Rattle.reconcile_types.specs.Hands.{hand_of, reads_of}
use Rattle.spec_reconcile.specs.GarbageCollection.{collect}
use Rattle.spec_reconcile.specs.Standings.{dependents}
use Rattle.collector.proofs.ByCases.{planned}
use Rattle.collector.proofs.planning.commands.Goals as goal

pub returns-else-is_being_deleted : goal.returns-else-is_being_deleted
returns-else-is_being_deleted g c =
    let h = hand_of g.S.Seen.snapshot c.args.hand.now in
    let d = c.in-Some.object.now.value in
    let at : live h.reads h.key ≡ Some d = ap (λ rs. live (reads_of rs) h.key) (sym c.as_slice-reads.ensures.value) ∙ sym c.live.ensures ∙ ap (option_map (λ o. o.now.value)) c.in-Some.is in
    subst (λ (cs : List Command). IfOk c.collect.result (λ v. map command_of v.items ≡ cs))
    (ap (λ rs. collect (reads_of rs) h.key d (dependents h.looks d)) c.as_slice-reads.ensures.value ∙ planned h d at (sym c.is_being_deleted.ensures ∙ c.if-is_being_deleted.false))
    c.collect.ensures
